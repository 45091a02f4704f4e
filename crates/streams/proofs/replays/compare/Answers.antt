use Rattle.std.proofs.Common.{◌≡◌, Some, ap, inl, refl, rules, sym, subst, ◌∙◌}
use Rattle.std.proofs.lemmas.Result.{err_from_is_err_and}
use Rattle.engine.specs.Engines.{IsEngineOf}
use Rattle.integrator.specs.States.{counter_after}
use Rattle.runs.proofs.WayLaws.{job_stays}
use Rattle.state.specs.StateText.{StateView}
use Rattle.state.specs.StateViews.{state_view}
use Rattle.streams.proofs.ReplayLaws.{bits_refused, engine_reached, frac_reached}
use Rattle.streams.proofs.WatchedLaws.{run_some, run_whole, taken_fails}
use Rattle.streams.proofs.replays.compare.Goals as goal

-- the state has other fraction bits
pub returns-then-ne-clause-fails : goal.returns-then-ne-clause-fails
returns-then-ne-clause-fails g c =
    let other : c.args.state.frac ≡ c.args.engine.now.job.frac → ⊥ = search rules in (
      (refl, tt, bits_refused c.args.engine.now (state_view c.args.state) c.requires other),
      inl (tt, g.met.W.Watch.told_nothing c.args.watch.now),
    )

-- the state that the engine reached has the job's
pub first_difference-difference-requires-clause-frac : goal.first_difference-difference-requires-clause-frac
first_difference-difference-requires-clause-frac g c =
    let same : c.args.state.frac ≡ c.args.engine.now.job.frac = search rules in
    ap (λ (s : StateView). s.frac) c.state.ensures.value
    ∙ frac_reached _ _ c.args.engine.now c.watched_steps.new.engine c.in-Ok.ensures.went c.requires ∙ sym same

-- the state that the engine reached is the told one
pub returns-in-None-clause-at : goal.returns-in-None-clause-at
returns-in-None-clause-at g c =
    subst (λ (s : StateView). IsEngineOf c.args.engine.now.job s c.watched_steps.new.engine)
    (sym c.state.ensures.value ∙ c.in-None.ensures)
    (engine_reached _ _ c.args.engine.now c.watched_steps.new.engine c.in-Ok.ensures.went c.requires)

-- memory ran out in the run
pub returns-in-Err-clause-fails : goal.returns-in-Err-clause-fails
returns-in-Err-clause-fails g c =
    let counted : counter_after c.way-direction.result.0 c.args.engine.now.state.step c.way-direction.result.1 ≡ Some c.args.state.step = search rules in
    let stopped = c.in-Err.ensures.stopped in
    run_some c.way-direction.result.0 c.args.engine.now.state.step c.args.state.step c.way-direction.result.1 counted (g.O.Out.output c.args.out.now)
    (g.W.Watch.told c.args.watch.now c.watched_steps.new.watch) stopped.0 stopped.1.few stopped.2

-- the whole run was reported
pub returns-in-None-clause-reported : goal.returns-in-None-clause-reported
returns-in-None-clause-reported g c =
    let counted : counter_after c.way-direction.result.0 c.args.engine.now.state.step c.way-direction.result.1 ≡ Some c.args.state.step = search rules in
    run_whole c.way-direction.result.0 c.args.engine.now.state.step c.args.state.step c.way-direction.result.1 counted (g.O.Out.output c.args.out.now)
    (g.W.Watch.told c.args.watch.now c.watched_steps.new.watch) c.in-Ok.ensures.told

pub returns-in_ok-take-in-Some-clause-reported : goal.returns-in_ok-take-in-Some-clause-reported
returns-in_ok-take-in-Some-clause-reported g c =
    let counted : counter_after c.way-direction.result.0 c.args.engine.now.state.step c.way-direction.result.1 ≡ Some c.args.state.step = search rules in
    run_whole c.way-direction.result.0 c.args.engine.now.state.step c.args.state.step c.way-direction.result.1 counted (g.O.Out.output c.args.out.now)
    (g.W.Watch.told c.args.watch.now c.watched_steps.new.watch) c.in-Ok.ensures.told

-- the state isn't taken after the run
pub returns-in_err-take-in-Some-clause-fails : goal.returns-in_err-take-in-Some-clause-fails
returns-in_err-take-in-Some-clause-fails g c =
    let p = err_from_is_err_and c.from_residual.result c.from_residual.ensures.1 in
    let counted : counter_after c.way-direction.result.0 c.args.engine.now.state.step c.way-direction.result.1 ≡ Some c.args.state.step = search rules in
    let run = run_whole c.way-direction.result.0 c.args.engine.now.state.step c.args.state.step c.way-direction.result.1 counted (g.O.Out.output c.args.out.now)
    (g.W.Watch.told c.args.watch.now c.watched_steps.new.watch) c.in-Ok.ensures.told in
    let kept = rw (job_stays _ _ c.args.engine.now c.watched_steps.new.engine c.in-Ok.ensures.went) at c.in_err-take-in-Some.ensures.refused in
    rw (p.1, p.2) (taken_fails c.args.engine.now (state_view c.args.state) c.args.number c.in_err-take-in-Some.field-0.0 _ _ kept run)
