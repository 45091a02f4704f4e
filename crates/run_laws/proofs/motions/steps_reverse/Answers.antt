use Rattle.run_laws.proofs.LeadLaws.{steps_reverse}
use Rattle.run_laws.proofs.motions.steps_reverse.Goals as goal

pub returns : goal.returns
returns c = steps_reverse
