-- Without answers the check closes the goals too, after a search of seconds.
use Rattle.std.proofs.Common.{arith}
use Rattle.std.proofs.lemmas.Grind.{common_steps}
use Rattle.ring_box.proofs.separations.square.Goals as goal

pub overflow_mul-result : goal.overflow_mul-result
overflow_mul-result c = grind (arith, common_steps)

pub returns : goal.returns
returns c = grind (arith, common_steps)

pub overflow_cast-result : goal.overflow_cast-result
overflow_cast-result c = grind (arith, common_steps)
