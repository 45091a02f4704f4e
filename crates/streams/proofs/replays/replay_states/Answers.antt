use Rattle.std.proofs.lemmas.Result.{err_from_is_err_and}
use Rattle.streams.specs.Plans.{replay_plan_view}
use Rattle.streams.proofs.StreamLaws.{texts_job}
use Rattle.streams.proofs.WatchedLaws.{opening_first, reading_first}
use Rattle.streams.proofs.replays.replay_states.Goals as goal

-- the first text wasn't read
pub returns-in_err-next_text : goal.returns-in_err-next_text
returns-in_err-next_text g c =
    let p = err_from_is_err_and c.from_residual.result c.from_residual.ensures.1 in
    let w = c.args.watch.now in
    rw (p.1, p.2)
    (reading_first (replay_plan_view c.args.plan.now) c.args.job.now (g.L.Lines.left c.args.lines.now) (g.O.Out.output c.args.out.now)
    (g.W.Watch.told w w) (g.met.W.Watch.told_nothing w) _ _ c.in_err-next_text.field-0.0 c.in_err-next_text.ensures.untold)

-- the first state has no engine
pub returns-in_err-engine : goal.returns-in_err-engine
returns-in_err-engine g c =
    let p = err_from_is_err_and c.from_residual-in_err-engine.result c.from_residual-in_err-engine.ensures.1 in
    let w = c.args.watch.now in
    let refused = rw c.deref.ensures.value at c.in_err-engine.ensures.refused in
    rw (p.1, p.2)
    (opening_first (replay_plan_view c.args.plan.now) c.args.job.now (g.L.Lines.left c.args.lines.now) (g.O.Out.output c.args.out.now)
    (g.W.Watch.told w w) (g.met.W.Watch.told_nothing w) _ _ _ c.in_ok-next_text.ensures.takes _ refused)

pub returns : goal.returns
returns g c =
    let job = c.args.job.now in
    rw c.in_ok-next_text.ensures.takes.taken (c.replay_each.ensures job (texts_job job _ _ c.in_ok-engine.ensures.opens))
