use Rattle.std.proofs.Common.{◌≡◌, ℕ, suc, ◌+◌, ◌-◌, arith, add-one, subst, ◌∙◌}
use Rattle.engine.specs.Engines.{Advanced}
use Rattle.runs.specs.Plans.{last_text, steps_to}
use Rattle.runs.specs.Shown.{HasShown}
use Rattle.runs.specs.Visits.{IsTextOnWay}
use Rattle.runs.proofs.ReadinessLaws.{ready_on}
use Rattle.runs.proofs.VisitLaws.{nothing_shown, stopped_leaves, text_failed, text_leaves, text_wrote, up_to_text, way_stopped}
use Rattle.runs.proofs.WayLaws.{fits_further, later_text, went_nowhere, went_up_to}
use Rattle.runs.proofs.visits.show_each.Goals as goal

pub loop-done-init : goal.loop-done-init
loop-done-init g c =
    let plan = c.args.plan.now in
    let e = c.args.engine.now in
    record {
      few = omega arith;
      within = omega arith;
      earlier = λ i none. absurd (omega (arith, none));
      went = went_nowhere plan.direction e (c.requires.fits 0 (omega arith));
      ready = c.requires.ready;
      shown = nothing_shown g.W.Watch.told g.met.W.Watch.told_nothing g.met.W.Watch.told_more (IsTextOnWay (g.S.Show.shows c.args.show.now) plan e)
          plan (g.O.Out.output c.args.out.now) c.args.watch.now;
    }

pub advance_to-requires-clause-fits : goal.advance_to-requires-clause-fits
advance_to-requires-clause-fits g c = λ _ _ k few.
    let plan = c.args.plan.now in
    let i = c.loop-done.invariant in
    let most = later_text plan c.loop-done.number (last_text plan) i.few in
    fits_further plan.direction c.loop-done.before k c.args.engine.now c.loop-done.engine i.went
    (c.requires.fits (c.loop-done.before + k) (omega (arith, few, most, i.within, c.last_text-last.ensures.within)))

-- memory ran out on the way to the next text
pub returns-in-Err-clause-unshown : goal.returns-in-Err-clause-unshown
returns-in-Err-clause-unshown g c =
    let plan = c.args.plan.now in
    let l = c.loop-done in
    let i = l.invariant in
    let stopped = c.in-Err.ensures.stopped in
    way_stopped (g.S.Show.shows c.args.show.now) plan c.args.engine.now l.number l.before stopped.0 c.in-Err.done l.engine
    c.advance_to.new.engine stopped.1 g.W.Watch.told g.met.W.Watch.told_nothing g.met.W.Watch.told_more (g.O.Out.output c.args.out.now)
    (g.O.Out.output l.out) c.args.watch.now l.watch c.advance_to.new.watch i.few (c.requires.fits plan.steps (omega arith)) i.earlier i.shown
    stopped.2

pub returns-in-Err-clause-leaves : goal.returns-in-Err-clause-leaves
returns-in-Err-clause-leaves g c =
    let l = c.loop-done in
    let stopped = c.in-Err.ensures.stopped in
    stopped_leaves (g.S.Show.shows c.args.show.now) c.args.plan.now c.args.engine.now l.number l.before stopped.0 c.in-Err.done l.engine
    c.advance_to.new.engine stopped.1 l.invariant.went

pub returns-in-Err-clause-ready : goal.returns-in-Err-clause-ready
returns-in-Err-clause-ready g c =
    let stopped = c.in-Err.ensures.stopped in
    ready_on _ _ c.args.plan.now.direction stopped.0 c.loop-done.engine c.advance_to.new.engine stopped.1.went c.loop-done.invariant.ready

pub show-requires-clause-ready : goal.show-requires-clause-ready
show-requires-clause-ready g c =
    ready_on _ _ c.args.plan.now.direction _ c.loop-done.engine c.advance_to.new.engine c.in_default.ensures.went c.loop-done.invariant.ready

-- the next text wasn't written
pub returns-in-Err-show-clause-unshown : goal.returns-in-Err-show-clause-unshown
returns-in-Err-show-clause-unshown g c =
    let shows = g.S.Show.shows c.args.show.now in
    let plan = c.args.plan.now in
    let e = c.args.engine.now in
    let l = c.loop-done in
    let i = l.invariant in
    let went = went_up_to plan.direction l.before (steps_to plan l.number) e l.engine c.advance_to.new.engine i.within i.went
    c.in_default.ensures.went in
    let reached = up_to_text g.W.Watch.told g.met.W.Watch.told_nothing g.met.W.Watch.told_more (IsTextOnWay shows plan e) plan l.number
    l.before (g.O.Out.output c.args.out.now) (g.O.Out.output l.out) c.args.watch.now l.watch c.advance_to.new.watch i.within i.earlier i.shown
    c.in_default.ensures.told in
    rw (c.text_fault.ensures, c.steps_to-before.ensures.value)
    (text_failed shows plan e l.number c.advance_to.new.engine went (g.O.Out.output c.args.out.now) (g.O.Out.output l.out)
    (g.O.Out.output c.show.new.out) (g.W.Watch.told c.args.watch.now c.advance_to.new.watch) reached _ c.in-Err-show.fault i.few
    (c.requires.fits plan.steps (omega arith)) c.in-Err-show.ensures.fails)

pub returns-in-Err-show-clause-leaves : goal.returns-in-Err-show-clause-leaves
returns-in-Err-show-clause-leaves g c =
    let plan = c.args.plan.now in
    let l = c.loop-done in
    let i = l.invariant in
    let went = went_up_to plan.direction l.before (steps_to plan l.number) c.args.engine.now l.engine c.advance_to.new.engine i.within i.went
    c.in_default.ensures.went in
    rw (c.text_fault.ensures, c.steps_to-before.ensures.value, c.show.ensures.engine)
    (text_leaves (g.S.Show.shows c.args.show.now) plan c.args.engine.now l.number c.advance_to.new.engine went _ c.in-Err-show.fault i.few)

pub returns-in-Err-show-clause-ready : goal.returns-in-Err-show-clause-ready
returns-in-Err-show-clause-ready g c =
    rw c.show.ensures.engine
    (ready_on _ _ c.args.plan.now.direction _ c.loop-done.engine c.advance_to.new.engine c.in_default.ensures.went c.loop-done.invariant.ready)

-- it was the last
pub returns-then-number-last-clause-went : goal.returns-then-number-last-clause-went
returns-then-number-last-clause-went g c =
    let plan = c.args.plan.now in
    let l = c.loop-done in
    let i = l.invariant in
    let last : l.number ≡ last_text plan = c.if-number-last.true ∙ c.last_text-last.ensures.value in
    rw c.show.ensures.engine (subst (λ (k : ℕ). Advanced plan.direction (steps_to plan k) c.args.engine.now c.advance_to.new.engine) last
    (went_up_to plan.direction l.before (steps_to plan l.number) c.args.engine.now l.engine c.advance_to.new.engine i.within i.went
    c.in_default.ensures.went))

pub returns-then-number-last-clause-shown : goal.returns-then-number-last-clause-shown
returns-then-number-last-clause-shown g c =
    let shows = g.S.Show.shows c.args.show.now in
    let plan = c.args.plan.now in
    let e = c.args.engine.now in
    let l = c.loop-done in
    let i = l.invariant in
    let went = went_up_to plan.direction l.before (steps_to plan l.number) e l.engine c.advance_to.new.engine i.within i.went
    c.in_default.ensures.went in
    let reached = up_to_text g.W.Watch.told g.met.W.Watch.told_nothing g.met.W.Watch.told_more (IsTextOnWay shows plan e) plan l.number
    l.before (g.O.Out.output c.args.out.now) (g.O.Out.output l.out) c.args.watch.now l.watch c.advance_to.new.watch i.within i.earlier i.shown
    c.in_default.ensures.told in
    let last : l.number ≡ last_text plan = c.if-number-last.true ∙ c.last_text-last.ensures.value in
    subst (λ (k : ℕ). HasShown (IsTextOnWay shows plan e) plan (suc k) (steps_to plan k) (g.O.Out.output c.args.out.now)
    (g.O.Out.output c.show.new.out) (g.W.Watch.told c.args.watch.now c.advance_to.new.watch)) last
    (text_wrote shows plan e l.number c.advance_to.new.engine went _ _ _ _ reached c.in_default-show.ensures.wrote)

pub returns-then-number-last-clause-ready : goal.returns-then-number-last-clause-ready
returns-then-number-last-clause-ready g c =
    rw c.show.ensures.engine
    (ready_on _ _ c.args.plan.now.direction _ c.loop-done.engine c.advance_to.new.engine c.in_default.ensures.went c.loop-done.invariant.ready)

pub loop-done-preserved : goal.loop-done-preserved
loop-done-preserved g c =
    let shows = g.S.Show.shows c.args.show.now in
    let plan = c.args.plan.now in
    let e = c.args.engine.now in
    let l = c.loop-done in
    let i = l.invariant in
    let went = went_up_to plan.direction l.before (steps_to plan l.number) e l.engine c.advance_to.new.engine i.within i.went
    c.in_default.ensures.went in
    let reached = up_to_text g.W.Watch.told g.met.W.Watch.told_nothing g.met.W.Watch.told_more (IsTextOnWay shows plan e) plan l.number
    l.before (g.O.Out.output c.args.out.now) (g.O.Out.output l.out) c.args.watch.now l.watch c.advance_to.new.watch i.within i.earlier i.shown
    c.in_default.ensures.told in
    rw (c.steps_to-before.ensures.value, c.show.ensures.engine)
    (record {
      few = omega (arith, i.few);
      within = later_text plan l.number (l.number + 1) (omega arith);
      earlier = λ k few. later_text plan k l.number (omega (arith, few));
      went = went;
      ready = ready_on _ _ plan.direction _ l.engine c.advance_to.new.engine c.in_default.ensures.went i.ready;
      shown = rw add-one (text_wrote shows plan e l.number c.advance_to.new.engine went _ _ _ _ reached c.in_default-show.ensures.wrote);
    })
