use Rattle.gro.proofs.OneResult.{reads_once}
use Rattle.gro.proofs.reading.read_frames.Goals as goal

pub returns-clause-once : goal.returns-clause-once
returns-clause-once g c = reads_once
