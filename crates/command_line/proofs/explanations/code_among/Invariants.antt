-- The words that are left name the code that all the words name.
use Rattle.std.proofs.Common.{◌≡◌, length, map}
use Rattle.command_line.specs.Explanations.{code_in}
use Rattle.command_line.proofs.explanations.code_among.Given as goal

abbrev pub invariant-loop-words : goal.invariant-loop-words
invariant-loop-words g l = code_in (map g.S.AsStr.text l.words) ≡ code_in (map g.S.AsStr.text l.fn.words)

abbrev pub decreases-loop-words : goal.decreases-loop-words
decreases-loop-words g l = length l.words
