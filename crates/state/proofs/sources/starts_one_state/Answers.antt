use Rattle.state.proofs.StateLaws.{starts_one}
use Rattle.state.proofs.sources.starts_one_state.Goals as goal

pub returns : goal.returns
returns c = starts_one
