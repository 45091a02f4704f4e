-- Without answers the check closes the goals too, after a search of seconds.
use Rattle.std.proofs.Common.{arith}
use Rattle.std.proofs.lemmas.Grind.{common_steps}
use Rattle.gro.proofs.boxes.unsigned_length.Goals as goal

pub overflow_add-result : goal.overflow_add-result
overflow_add-result c = grind (arith, common_steps)

pub overflow_mul-result : goal.overflow_mul-result
overflow_mul-result c = grind (arith, common_steps)

pub overflow_mul-result-in-Some : goal.overflow_mul-result-in-Some
overflow_mul-result-in-Some c = grind (arith, common_steps)

pub overflow_mul-result-in-Some-2 : goal.overflow_mul-result-in-Some-2
overflow_mul-result-in-Some-2 c = grind (arith, common_steps)

pub overflow_sub-part : goal.overflow_sub-part
overflow_sub-part c = grind (arith, common_steps)
