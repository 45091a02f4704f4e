use Rattle.std.proofs.Common.{◌≡◌, length, arith, add-one, refl, rules, ◌∙◌}
use Rattle.std.proofs.lemmas.List.{nil_from_length}
use Rattle.std.proofs.lemmas.Result.{err_from_is_err_and}
use Rattle.streams.specs.OnTheWay.{IsAt}
use Rattle.streams.specs.Plans.{replay_plan_view}
use Rattle.streams.specs.Replays.{and_one}
use Rattle.streams.proofs.StreamLaws.{at_job, at_safe, not_nil}
use Rattle.streams.proofs.WatchedLaws.{count_ends, reading_ends, replay_ends, segment_ends, watch_begins, watch_goes}
use Rattle.streams.proofs.replays.replay_each.Goals as goal
use Rattle.streams.proofs.replays.replay_each.Goals.{else-branch, then-branch}

pub loop-text-init : goal.loop-text-init
loop-text-init g c = record {
  few = omega arith;
  fewer = omega arith;
  at = c.requires.at;
  failed = refl;
  way = λ job job_text. watch_begins (replay_plan_view c.args.plan.now) job c.args.text.now.items (g.L.Lines.left c.args.lines.now)
      (g.O.Out.output c.args.out.now) (g.W.Watch.told c.args.watch.now c.args.watch.now)
      (at_safe job c.args.engine.now.job job_text c.args.text.now.items c.args.engine.now c.requires.at)
      (g.met.W.Watch.told_nothing c.args.watch.now);
}

-- the next text wasn't read
pub returns-in_err-next_text : goal.returns-in_err-next_text
returns-in_err-next_text g c = λ job job_text.
    let p = err_from_is_err_and c.from_residual.result c.from_residual.ensures.1 in
    let l = c.loop-text in
    rw (p.1, p.2)
    (reading_ends (replay_plan_view c.args.plan.now) job _ l.number l.differing l.text.items _ _ _ _ (l.invariant.way job job_text) _ _
    c.in_err-next_text.field-0.0 c.in_err-next_text.ensures.untold)

-- all segments were replayed
pub returns-then-is_empty : goal.returns-then-is_empty
returns-then-is_empty g c = λ job job_text.
    let l = c.loop-text in
    let none : length c.next_text.new.text.items ≡ 0 = search rules in
    replay_ends (replay_plan_view c.args.plan.now) job _ l.number l.differing l.text.items _ _ _ _ (l.invariant.way job job_text)
    c.all_the_same.result (c.in_ok-next_text.ensures.takes.last (nil_from_length c.next_text.new.text.items none))
    c.all_the_same.ensures.same c.all_the_same.ensures.differ

-- the segment to the next text wasn't written
pub returns-in_err-replay_next : goal.returns-in_err-replay_next
returns-in_err-replay_next g c = λ job job_text.
    let p = err_from_is_err_and c.from_residual-in_err-replay_next.result c.from_residual-in_err-replay_next.ensures.1 in
    let l = c.loop-text in
    let i = l.invariant in
    let text = c.next_text.new.text.items in
    let some : length text ≡ 0 → ⊥ = search rules in
    let taken = c.in_ok-next_text.ensures.takes in
    rw (p.1, p.2)
    (segment_ends (replay_plan_view c.args.plan.now) job g.W.Watch.told g.met.W.Watch.told_more c.args.engine.now.job job_text l.text.items
    l.engine i.at _ l.number l.differing _ _ _ _ _ text _ _ _ (i.way job job_text) taken.taken _ c.in_err-replay_next.field-0.0
    (at_job c.args.engine.now.job l.text.items l.engine i.at) (not_nil text some) taken.keeps
    (rw c.deref.ensures.value at c.in_err-replay_next.ensures.fails))

-- no more states can be counted
pub returns-then-number : goal.returns-then-number
returns-then-number g c = λ job job_text.
    let l = c.loop-text in
    let i = l.invariant in
    let j = c.args.engine.now.job in
    let plan = replay_plan_view c.args.plan.now in
    let text = c.next_text.new.text.items in
    let at : IsAt j text c.replay_next.new.engine =
    rw (at_job j l.text.items l.engine i.at, c.deref.ensures.value) at c.in_ok-replay_next.ensures.at in
    let next = watch_goes plan job g.W.Watch.told g.met.W.Watch.told_more j job_text l.text.items l.engine i.at _ l.number l.differing
    _ _ _ _ _ text _ _ _ (i.way job job_text) c.in_ok-next_text.ensures.takes.taken c.in_ok-replay_next.field-0
    (at_safe job j job_text text c.replay_next.new.engine at) (rw c.deref.ensures.value at c.in_ok-replay_next.ensures.replayed) in
    count_ends plan job _ _ _ text _ _ _ _ next _ _ (omega (arith, c.if-number.true))

pub loop-text-preserved : goal.loop-text-preserved
loop-text-preserved g c =
    let l = c.loop-text in
    let i = l.invariant in
    let j = c.args.engine.now.job in
    let plan = replay_plan_view c.args.plan.now in
    let text = c.next_text.new.text.items in
    let at : IsAt j text c.replay_next.new.engine =
    rw (at_job j l.text.items l.engine i.at, c.deref.ensures.value) at c.in_ok-replay_next.ensures.at in
    let counted : c.if-branch.differing ≡ and_one c.in_ok-replay_next.field-0 l.differing =
    elim c.if-branch.branch [ then-branch w ↦ search (rules, add-one) | else-branch w ↦ search rules ] in
    record {
      few = omega (arith, i.few, c.if-number.false);
      fewer = elim c.if-branch.branch [ then-branch w ↦ omega (arith, i.fewer, w.differing-is) | else-branch w ↦ omega (arith, i.fewer, w.differing-is) ];
      at = at;
      failed = c.in_ok-replay_next.ensures.replayed.it.appends.failed ∙ i.failed;
      way = λ job job_text.
          rw (counted, add-one) (watch_goes plan job g.W.Watch.told g.met.W.Watch.told_more j job_text l.text.items l.engine i.at _ l.number
          l.differing _ _ _ _ _ text _ _ _ (i.way job job_text) c.in_ok-next_text.ensures.takes.taken c.in_ok-replay_next.field-0
          (at_safe job j job_text text c.replay_next.new.engine at) (rw c.deref.ensures.value at c.in_ok-replay_next.ensures.replayed));
    }
