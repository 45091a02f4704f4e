use Rattle.run_laws.proofs.LeadLaws.{frames_recur}
use Rattle.run_laws.proofs.motions.frames_recur.Goals as goal

pub returns : goal.returns
returns c = frames_recur
