use Rattle.engine.proofs.SafeRuns.{runs_stay_safe}
use Rattle.run_laws.proofs.run_texts.runs_stay_safe.Goals as goal

pub returns : goal.returns
returns c = runs_stay_safe
