use Rattle.std.proofs.Common.{◌≡◌, ◌+◌, ◌<◌, ap, arith, rules, sym, subst}
use Rattle.std.proofs.lemmas.Result.{err_from_is_err_and}
use Rattle.engine.proofs.AdvanceLaws.{steps_add}
use Rattle.runs.specs.Watching.{reports_at}
use Rattle.runs.proofs.HundredthLaws.{hundredths-zero, no_more_hundredth, one_more_report}
use Rattle.runs.proofs.WayLaws.{fits_further, stopped_later, went_nowhere}
use Rattle.runs.proofs.stretches.advance.Goals as goal

pub loop-made-init : goal.loop-made-init
loop-made-init g c = record {
  within = omega arith;
  went = went_nowhere c.args.stretch.now.direction c.args.engine.now (c.requires 0 (omega arith));
  told = subst (g.W.Watch.told c.args.watch.now c.args.watch.now)
      (sym (ap (reports_at (g.O.Out.output c.args.out.now) c.args.stretch.now.all_steps) (hundredths-zero c.args.stretch.now.all_steps c.args.stretch.now.before)))
      (g.met.W.Watch.told_nothing c.args.watch.now);
}

pub loop-made-preserved-then-more-next : goal.loop-made-preserved-then-more-next
loop-made-preserved-then-more-next g c =
    let made = c.loop-made.made in
    let more = c.min-more.result in
    let same : more ≡ c.until_hundredth-next.result = search rules in
    record {
      within = omega (arith, c.min-more.ensures);
      went = steps_add _ made more _ _ _ c.loop-made.invariant.went c.in_ok-go_on.ensures.went;
      told = subst (g.W.Watch.told c.args.watch.now c.tell.new.self)
          (sym (one_more_report (g.O.Out.output c.args.out.now) c.args.stretch.now.all_steps c.args.stretch.now.before made more (rw same c.until_hundredth-next.ensures)))
          (g.met.W.Watch.told_more _ _ _ _ _ c.loop-made.invariant.told c.tell.ensures);
    }

pub loop-made-preserved : goal.loop-made-preserved
loop-made-preserved g c =
    let made = c.loop-made.made in
    let more = c.min-more.result in
    let few : more < c.until_hundredth-next.result = search rules in
    record {
      within = omega (arith, c.min-more.ensures);
      went = steps_add _ made more _ _ _ c.loop-made.invariant.went c.in_ok-go_on.ensures.went;
      told = subst (g.W.Watch.told c.args.watch.now c.loop-made.watch)
          (sym (ap (reports_at (g.O.Out.output c.args.out.now) c.args.stretch.now.all_steps)
          (no_more_hundredth c.args.stretch.now.all_steps c.args.stretch.now.before made c.until_hundredth-next.result more c.until_hundredth-next.ensures few)))
          c.loop-made.invariant.told;
    }

pub go_on-requires-in-loop-made-clause-fits : goal.go_on-requires-in-loop-made-clause-fits
go_on-requires-in-loop-made-clause-fits g c =
    let made = c.loop-made.made in
    let more = c.min-more.result in
    λ _ _. fits_further c.args.stretch.now.direction made more c.args.engine.now c.loop-made.engine c.loop-made.invariant.went
    (c.requires (made + more) (omega (arith, c.min-more.ensures, c.loop-made.invariant.within)))

-- memory ran out, before the next hundredth
pub returns-in_err-go_on-clause-stopped : goal.returns-in_err-go_on-clause-stopped
returns-in_err-go_on-clause-stopped g c =
    let p = err_from_is_err_and c.from_residual.result c.from_residual.ensures.1 in
    let made = c.loop-made.made in
    let stopped = c.in_err-go_on.ensures.stopped in
    let few : stopped.0 < c.until_hundredth-next.result = omega (arith, stopped.1.few, c.min-more.ensures) in
    rw (p.1, p.2) (
      made + stopped.0,
      stopped_later c.args.stretch.now.direction c.args.stretch.now.before c.args.stretch.now.steps made c.min-more.result stopped.0 _ c.args.engine.now c.loop-made.engine
          c.go_on-in-loop-made.new.engine
          (omega (arith, c.min-more.ensures, c.loop-made.invariant.within)) c.loop-made.invariant.went stopped.1,
      subst (g.W.Watch.told c.args.watch.now c.loop-made.watch)
          (sym (ap (reports_at (g.O.Out.output c.args.out.now) c.args.stretch.now.all_steps)
          (no_more_hundredth c.args.stretch.now.all_steps c.args.stretch.now.before made c.until_hundredth-next.result stopped.0 c.until_hundredth-next.ensures
          few))) c.loop-made.invariant.told,
    )
