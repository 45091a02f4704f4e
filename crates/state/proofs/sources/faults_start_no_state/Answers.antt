use Rattle.state.proofs.StateLaws.{faults_start_none}
use Rattle.state.proofs.sources.faults_start_no_state.Goals as goal

pub returns : goal.returns
returns c = faults_start_none
