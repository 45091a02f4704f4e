use Rattle.run_laws.proofs.AcceptedFrames.{accepted_are_followed, accepted_recur}
use Rattle.run_laws.proofs.motions.accepted_frames_recur.Goals as goal

pub returns-clause-followed : goal.returns-clause-followed
returns-clause-followed c = accepted_are_followed

pub returns-clause-recur : goal.returns-clause-recur
returns-clause-recur c = accepted_recur
