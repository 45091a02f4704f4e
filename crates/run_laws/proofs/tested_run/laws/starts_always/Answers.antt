use Rattle.run_laws.proofs.SomeStart.{starts_always}
use Rattle.run_laws.proofs.tested_run.laws.starts_always.Goals as goal

pub returns : goal.returns
returns c = starts_always
