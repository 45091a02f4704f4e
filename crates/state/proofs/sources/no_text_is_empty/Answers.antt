use Rattle.state.proofs.StateLaws.{no_text_empty}
use Rattle.state.proofs.sources.no_text_is_empty.Goals as goal

pub returns : goal.returns
returns c = no_text_empty
