use Rattle.std.proofs.Common.{◌≡◌, length}
use Rattle.line_text.specs.Parts.{without_returns}
use Rattle.line_text.proofs.text.trim_returns.Given as goal

abbrev pub invariant-loop-rest : goal.invariant-loop-rest
invariant-loop-rest l = without_returns l.rest ≡ without_returns l.line

abbrev pub decreases-loop-rest : goal.decreases-loop-rest
decreases-loop-rest l = length l.rest
