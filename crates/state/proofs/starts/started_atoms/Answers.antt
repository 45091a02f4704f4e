-- Without these answers the check searches for seconds, in vain, before `grind` closes the goals.
use Rattle.std.proofs.Common.{arith}
use Rattle.std.proofs.lemmas.Grind.{common_steps}
use Rattle.state.proofs.starts.started_atoms.Goals as goal

pub loop-atom-preserved : goal.loop-atom-preserved
loop-atom-preserved g c = grind (arith, common_steps)
