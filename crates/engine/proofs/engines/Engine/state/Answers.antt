use Rattle.state.proofs.StateFits.{state_fits}
use Rattle.engine.proofs.engines.Engine.state.Goals as goal

pub returns-clause-fits : goal.returns-clause-fits
returns-clause-fits g c = rw (← c.self.view_is) (state_fits c.self.inside.state)

pub returns-clause-typed : goal.returns-clause-typed
returns-clause-typed g c = rw (← c.self.view_is) c.self.invariant.typed
