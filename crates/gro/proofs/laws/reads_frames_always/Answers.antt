use Rattle.gro.proofs.SomeResult.{reads_always}
use Rattle.gro.proofs.laws.reads_frames_always.Goals as goal

pub returns : goal.returns
returns c = reads_always
