use Rattle.engine.proofs.SpecifiedRuns.{leads_back}
use Rattle.run_laws.specs.Starts.{plain}
use Rattle.run_laws.proofs.RunLaws.{run_back}
use Rattle.run_laws.proofs.run_texts.runs_return.Goals as goal

pub returns-clause-leads_back : goal.returns-clause-leads_back
returns-clause-leads_back c = leads_back

pub returns-clause-returns : goal.returns-clause-returns
returns-clause-returns c = run_back plain
