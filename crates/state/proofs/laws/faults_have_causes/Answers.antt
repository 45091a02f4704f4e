use Rattle.state.proofs.CauseLaws.{faults_have_causes}
use Rattle.state.proofs.laws.faults_have_causes.Goals as goal

pub returns : goal.returns
returns c = faults_have_causes
