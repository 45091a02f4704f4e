-- Without these answers the check searches for seconds, in vain, before `grind` closes the goals.
use Rattle.std.proofs.Common.{arith}
use Rattle.energy_program.proofs.scoping.is_program.Goals as goal

pub overflow_mul-inputs : goal.overflow_mul-inputs
overflow_mul-inputs g c = omega arith

pub overflow_add-inputs : goal.overflow_add-inputs
overflow_add-inputs g c = omega arith

pub overflow_add-inputs-2 : goal.overflow_add-inputs-2
overflow_add-inputs-2 g c = omega arith
