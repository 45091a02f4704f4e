use Rattle.state.proofs.SomeResult.{reads_always}
use Rattle.state.proofs.laws.reads_state_always.Goals as goal

pub returns : goal.returns
returns c = reads_always
