use Rattle.std.proofs.Common.{◌≡◌, length}
use Rattle.line_text.specs.Words.{words}
use Rattle.job.specs.Numbers.{values_of}
use Rattle.job.proofs.NumberLemmas.{and_then, so_far}
use Rattle.job.proofs.numbers.values.Given as goal

abbrev pub invariant-loop-word : goal.invariant-loop-word
invariant-loop-word g l = and_then (so_far l.in_range l.values.items) (values_of l.frac (words l.rest)) ≡ values_of l.frac (words l.text)

abbrev pub decreases-loop-word : goal.decreases-loop-word
decreases-loop-word g l = length l.rest
