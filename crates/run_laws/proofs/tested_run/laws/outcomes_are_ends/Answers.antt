use Rattle.run_laws.proofs.OutcomeLaws.{outcomes_are_ends}
use Rattle.run_laws.proofs.tested_run.laws.outcomes_are_ends.Goals as goal

pub returns : goal.returns
returns c = outcomes_are_ends
