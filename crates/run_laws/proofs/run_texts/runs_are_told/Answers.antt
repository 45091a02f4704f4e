use Rattle.run_laws.proofs.ToldRuns.{runs_are_told, told_are_run}
use Rattle.run_laws.proofs.run_texts.runs_are_told.Goals as goal

pub returns-clause-told : goal.returns-clause-told
returns-clause-told c = runs_are_told

pub returns-clause-run : goal.returns-clause-run
returns-clause-run c = told_are_run
