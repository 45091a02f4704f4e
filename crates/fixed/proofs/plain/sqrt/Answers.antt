-- Without answers the check closes the goals too, after a search of seconds.
use Rattle.std.proofs.Common.{arith, rules}
use Rattle.std.proofs.lemmas.Grind.{common_steps}
use Rattle.fixed.proofs.plain.sqrt.Goals as goal

pub returns : goal.returns
returns c = search rules

pub overflow_cast-isqrt : goal.overflow_cast-isqrt
overflow_cast-isqrt c = grind (arith, common_steps)
