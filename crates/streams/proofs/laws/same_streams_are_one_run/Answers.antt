use Rattle.streams.proofs.OneRunLaws as laws
use Rattle.streams.proofs.laws.same_streams_are_one_run.Goals as goal

pub returns : goal.returns
returns c = laws.same_streams_are_one_run
