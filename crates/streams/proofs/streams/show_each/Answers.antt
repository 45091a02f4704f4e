use Rattle.std.proofs.Common.{◌≡◌, suc, ◌+◌, length, arith, add-one, ap, rules, sym, ◌∙◌}
use Rattle.std.proofs.lemmas.List.{nil_from_length}
use Rattle.std.proofs.lemmas.Result.{err_from_is_err_and}
use Rattle.engine.specs.Engines.{EngineView}
use Rattle.runs.proofs.ReadinessLaws.{ready_to}
use Rattle.state.specs.Sources.{with_text}
use Rattle.streams.specs.OnTheWay.{IsAt}
use Rattle.streams.proofs.StreamLaws.{at_job, count_stops, ends, not_nil, reading_stops, shows_next, state_stops, takes, text_stops}
use Rattle.streams.specs.Streams.{shown_by}
use Rattle.streams.proofs.streams.show_each.Goals as goal

-- the text of a state wasn't written
pub returns-in_err-show : goal.returns-in_err-show
returns-in_err-show g c = λ job job_text.
    let p = err_from_is_err_and c.from_residual.result c.from_residual.ensures.1 in
    let l = c.loop-shown in
    let i = l.invariant in
    rw (p.1, p.2) (record {
      written = tt;
      stopped = text_stops (g.S.Show.shows c.args.show.now) job c.args.engine.now.job job_text l.text.items l.engine i.at
          (with_text c.args.text.now.items (g.L.Lines.left c.args.lines.now)) l.shown (g.L.Lines.left l.lines) _ _ _
          c.in_err-show.field-0.0 c.in_err-show.ensures.fails (i.progress job job_text);
    })

-- no more states can be counted
pub returns-then-shown : goal.returns-then-shown
returns-then-shown g c = λ job job_text.
    let l = c.loop-shown in
    let i = l.invariant in
    let shows = g.S.Show.shows c.args.show.now in
    let all = with_text c.args.text.now.items (g.L.Lines.left c.args.lines.now) in
    let next = shows_next _ job _ job_text _ _ i.at all l.shown (g.L.Lines.left l.lines) _ _ _ c.in_ok-show.ensures.wrote
    (i.progress job job_text) in
    record { written = tt; stopped = count_stops (shown_by shows job) job all (suc l.shown) _ _ _ (omega (arith, c.if-shown.true)) next }

-- the next text wasn't read
pub returns-in_err-next_text : goal.returns-in_err-next_text
returns-in_err-next_text g c = λ job job_text.
    let p = err_from_is_err_and c.from_residual-in_err-next_text.result c.from_residual-in_err-next_text.ensures.1 in
    let l = c.loop-shown in
    let i = l.invariant in
    let shows = g.S.Show.shows c.args.show.now in
    let all = with_text c.args.text.now.items (g.L.Lines.left c.args.lines.now) in
    let next = shows_next _ job _ job_text _ _ i.at all l.shown (g.L.Lines.left l.lines) _ _ _ c.in_ok-show.ensures.wrote
    (i.progress job job_text) in
    rw (p.1, p.2) (record {
      written = tt;
      stopped = reading_stops (shown_by shows job) job all (suc l.shown) _ _ _ c.in_err-next_text.field-0.0 c.in_err-next_text.ensures.untold next;
    })

-- all states were shown
pub returns-then-is_empty : goal.returns-then-is_empty
returns-then-is_empty g c = λ job job_text.
    let l = c.loop-shown in
    let i = l.invariant in
    let shows = g.S.Show.shows c.args.show.now in
    let all = with_text c.args.text.now.items (g.L.Lines.left c.args.lines.now) in
    let next = shows_next _ job _ job_text _ _ i.at all l.shown (g.L.Lines.left l.lines) _ _ _ c.in_ok-show.ensures.wrote
    (i.progress job job_text) in
    let none : length c.next_text.new.text.items ≡ 0 = search rules in
    record {
      written = ends shows job all l.shown _ _ _ (c.in_ok-next_text.ensures.takes.last (nil_from_length c.next_text.new.text.items none)) next;
      stopped = tt;
    }

pub loop-shown-preserved : goal.loop-shown-preserved
loop-shown-preserved g c =
    let l = c.loop-shown in
    let i = l.invariant in
    let shows = g.S.Show.shows c.args.show.now in
    let j = c.args.engine.now.job in
    let kept : c.show.new.engine.job ≡ j = ap (λ (e : EngineView). e.job) c.show.ensures.engine ∙ at_job j l.text.items l.engine i.at in
    let at : IsAt j c.next_text.new.text.items c.take_state.new.engine = rw (kept, c.deref.ensures.value) at c.in_ok-take_state.ensures.taken in
    record {
      few = omega (arith, i.few, c.if-shown.false);
      at = at;
      ready = ready_to _ _ l.engine c.take_state.new.engine
          (at_job j c.next_text.new.text.items c.take_state.new.engine at ∙ sym (at_job j l.text.items l.engine i.at)) i.ready;
      failed = c.in_ok-show.ensures.wrote.appends.failed ∙ i.failed;
      progress = λ job job_text.
          let all = with_text c.args.text.now.items (g.L.Lines.left c.args.lines.now) in
          let next = shows_next _ job _ job_text _ _ i.at all l.shown (g.L.Lines.left l.lines) _ _ _ c.in_ok-show.ensures.wrote
          (i.progress job job_text) in
          rw add-one (takes (shown_by shows job) job all (suc l.shown) _ _ _ _ _ c.in_ok-next_text.ensures.takes.taken next);
    }

-- the next text has no engine
pub returns-in_err-take_state : goal.returns-in_err-take_state
returns-in_err-take_state g c = λ job job_text.
    let p = err_from_is_err_and c.from_residual-in_err-take_state.result c.from_residual-in_err-take_state.ensures.1 in
    let l = c.loop-shown in
    let i = l.invariant in
    let shows = g.S.Show.shows c.args.show.now in
    let j = c.args.engine.now.job in
    let text = c.next_text.new.text.items in
    let kept : c.show.new.engine.job ≡ j = ap (λ (e : EngineView). e.job) c.show.ensures.engine ∙ at_job j l.text.items l.engine i.at in
    let refused = rw (kept, c.deref.ensures.value) at c.in_err-take_state.ensures.refused in
    let some : length text ≡ 0 → ⊥ = search rules in
    let taken = c.in_ok-next_text.ensures.takes in
    let all = with_text c.args.text.now.items (g.L.Lines.left c.args.lines.now) in
    let next = shows_next _ job _ job_text _ _ i.at all l.shown (g.L.Lines.left l.lines) _ _ _ c.in_ok-show.ensures.wrote
    (i.progress job job_text) in
    rw (p.1, p.2) (record {
      written = tt;
      stopped = state_stops (shown_by shows job) job j job_text _ (suc l.shown) (l.shown + 1 + 1) text (g.L.Lines.left c.next_text.new.lines) _ _
          c.in_err-take_state.field-0.0 (omega arith) refused (not_nil text some) taken.keeps
          (takes (shown_by shows job) job all (suc l.shown) _ _ _ _ _ taken.taken next);
    })
