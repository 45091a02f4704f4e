use Rattle.std.proofs.Common.{suc}
use Rattle.std.proofs.lemmas.Result.{IfErr-weaker, err_from_is_err_and, on_ok_weaker}
use Rattle.engine.proofs.EngineLaws.{safe_texts, texts_fit}
use Rattle.runs.specs.Plans.{last_text, steps_made}
use Rattle.runs.specs.Visits.{IsShownOfRun, IsTextOnWay}
use Rattle.runs.proofs.ReadinessLaws.{ready_energy}
use Rattle.runs.proofs.VisitLaws.{energy_unshown, shown_map, shown_on_way, texts_unshown}
use Rattle.runs.proofs.shown_runs.show_run.Goals as goal

-- the energy itself has no accepted code
pub returns-in_err-observer : goal.returns-in_err-observer
returns-in_err-observer g c = λ job state opens.
    let p = err_from_is_err_and c.from_residual.result c.from_residual.ensures.1 in
    let w = c.args.watch.now in
    rw (p.1, p.2)
    (record {
      safe = tt;
      fits = tt;
      shown = tt;
      unshown = energy_unshown (g.S.Show.shows c.args.show.now) job state c.args.plan.now _ opens
          (g.O.Out.output c.args.out.now) (g.W.Watch.told w w) (g.met.W.Watch.told_nothing w) c.in_err-observer.field-0.0 c.in_err-observer.ensures.refused;
    })

pub returns : goal.returns
returns g c = λ job state opens.
    let shows = g.S.Show.shows c.args.show.now in
    let plan = c.args.plan.now in
    let e = c.args.engine.now in
    let done = c.visit.result in
    record {
      safe = on_ok_weaker done (λ _. safe_texts job state e opens) c.visit.ensures.shown;
      fits = on_ok_weaker done (texts_fit job state plan.direction plan.steps e opens) c.visit.ensures.fits;
      shown = on_ok_weaker done
          (shown_map (IsTextOnWay shows plan e) (IsShownOfRun shows job state plan) (shown_on_way shows job state plan e opens) plan
          (suc (last_text plan)) (steps_made plan) _ _ _ _ (λ _ t. t))
          c.visit.ensures.shown;
      unshown = IfErr-weaker done _ _ (texts_unshown shows job state plan e _ _ (g.W.Watch.told c.args.watch.now c.visit.new.watch) opens
          (ready_energy _ _ e c.in_ok-observer.ensures.ready))
          c.visit.ensures.unshown;
    }
