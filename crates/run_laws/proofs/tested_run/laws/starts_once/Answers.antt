use Rattle.run_laws.proofs.RunLaws.{starts_once}
use Rattle.run_laws.proofs.tested_run.laws.starts_once.Goals as goal

pub returns : goal.returns
returns c = starts_once
