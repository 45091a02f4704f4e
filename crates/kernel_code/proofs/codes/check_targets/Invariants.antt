use Rattle.kernel_code.proofs.CodeLaws.{GoForwardBefore}
use Rattle.kernel_code.proofs.codes.check_targets.Given as goal

abbrev pub invariant-loop-pc : goal.invariant-loop-pc
invariant-loop-pc l = GoForwardBefore l.instructions l.pc
