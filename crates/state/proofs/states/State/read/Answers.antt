use Rattle.state.proofs.StateLaws.{reads_once}
use Rattle.state.proofs.states.State.read.Goals as goal

pub returns-clause-once : goal.returns-clause-once
returns-clause-once g c = reads_once
