use Rattle.state.proofs.CauseLaws.{causes_are_faults}
use Rattle.state.proofs.laws.causes_are_faults.Goals as goal

pub returns : goal.returns
returns c = causes_are_faults
