use Rattle.engine.proofs.EngineLaws.{judged, leaves, step_fits}
use Rattle.state.proofs.StateFits.{state_fits}
use Rattle.state.specs.StateViews.{state_view}
use Rattle.engine.proofs.engines.Engine.fits.Goals as goal

pub returns-clause-each : goal.returns-clause-each
returns-clause-each g c =
    let s = c.self.inside.state in
    rw (← c.self.view_is, c.is_some.ensures)
    (judged c.args.direction s.step c.args.steps c.counter_after.result (step_fits (state_view s) (state_fits s)) c.counter_after.ensures.value)

pub returns-clause-leaves : goal.returns-clause-leaves
returns-clause-leaves g c =
    rw (← c.self.view_is, c.is_some.ensures) (leaves c.args.direction c.self.inside.state.step c.args.steps c.counter_after.result c.counter_after.ensures.value)
