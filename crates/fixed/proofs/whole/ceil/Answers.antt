-- Without answers the check closes the goals too, after a search of seconds.
use Rattle.std.proofs.Common.{arith, rules}
use Rattle.std.proofs.lemmas.Grind.{common_steps}
use Rattle.fixed.proofs.whole.ceil.Goals as goal

pub returns : goal.returns
returns c = search rules

pub overflow_cast-ceiling : goal.overflow_cast-ceiling
overflow_cast-ceiling c = grind (arith, common_steps)
