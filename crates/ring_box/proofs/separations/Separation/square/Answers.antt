-- Without answers the check closes the goals too, after a search of seconds.
use Rattle.std.proofs.Common.{arith}
use Rattle.std.proofs.lemmas.Nat.{mul-le}
use Rattle.ring_box.proofs.separations.Separation.square.Goals as goal

pub overflow_add-result : goal.overflow_add-result
overflow_add-result c = grind (arith, mul-le)

pub overflow_add-result-2 : goal.overflow_add-result-2
overflow_add-result-2 c = grind (arith, mul-le)

pub returns-clause-bound : goal.returns-clause-bound
returns-clause-bound c = grind (arith, mul-le)
