use Rattle.runs.proofs.RunLaws.{run_wants}
use Rattle.run_laws.proofs.AcceptedRuns.{ways_back_are_accepted}
use Rattle.run_laws.proofs.run_texts.runs_are_accepted.Goals as goal

pub returns-clause-told : goal.returns-clause-told
returns-clause-told g c = run_wants

pub returns-clause-back : goal.returns-clause-back
returns-clause-back g c = ways_back_are_accepted
