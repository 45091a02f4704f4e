use Rattle.engine.proofs.AdvanceLaws.{steps_add}
use Rattle.run_laws.proofs.engine_steps.steps_add.Goals as goal

pub returns : goal.returns
returns c = steps_add
