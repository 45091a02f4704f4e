-- Without these answers the check searches for seconds, in vain, before `grind` closes the goals.
use Rattle.std.proofs.Common.{arith}
use Rattle.std.proofs.lemmas.Grind.{common_steps}
use Rattle.potential.proofs.tables.numbers.Goals as goal

pub loop-constant-preserved : goal.loop-constant-preserved
loop-constant-preserved g c = grind (arith, common_steps)

pub returns : goal.returns
returns g c = grind (arith, common_steps)
