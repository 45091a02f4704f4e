-- Without answers the check closes the goals too, after a search of seconds.
use Rattle.std.proofs.Common.{arith}
use Rattle.std.proofs.lemmas.Grind.{common_steps}
use Rattle.rounds.proofs.work.PairAdd.addition.Goals as goal

pub overflow_add-result : goal.overflow_add-result
overflow_add-result c = grind (arith, common_steps)

pub overflow_add-result-else-part-lt3 : goal.overflow_add-result-else-part-lt3
overflow_add-result-else-part-lt3 c = grind (arith, common_steps)

pub overflow_mul-result : goal.overflow_mul-result
overflow_mul-result c = grind (arith, common_steps)

pub overflow_mul-result-else-part-lt3 : goal.overflow_mul-result-else-part-lt3
overflow_mul-result-else-part-lt3 c = grind (arith, common_steps)
