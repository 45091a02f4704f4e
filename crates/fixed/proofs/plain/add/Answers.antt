-- Without answers the check closes the goals too, after a search of seconds.
use Rattle.std.proofs.Common.{arith}
use Rattle.std.proofs.lemmas.Grind.{common_steps}
use Rattle.fixed.proofs.plain.add.Goals as goal

pub returns : goal.returns
returns c = grind (arith, common_steps)
