use Rattle.engine.proofs.AdvanceLaws.{steps_return}
use Rattle.run_laws.proofs.engine_steps.steps_return.Goals as goal

pub returns : goal.returns
returns c = steps_return
