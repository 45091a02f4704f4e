-- The arguments that are left name the code that all the arguments name.
use Rattle.std.proofs.Common.{◌≡◌, length, map}
use Rattle.command_line.specs.Explanations.{code_in}
use Rattle.command_line.proofs.explanations.code_in.Given as goal

abbrev pub invariant-loop-arguments : goal.invariant-loop-arguments
invariant-loop-arguments l = code_in (map (λ argument. argument.now) l.arguments) ≡ code_in (map (λ argument. argument.now) l.fn.arguments)

abbrev pub decreases-loop-arguments : goal.decreases-loop-arguments
decreases-loop-arguments l = length l.arguments
