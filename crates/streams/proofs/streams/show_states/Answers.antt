use Rattle.std.proofs.lemmas.Result.{err_from_is_err_and}
use Rattle.streams.proofs.StreamLaws.{begins, energy_stops, opening_stops, reading_stops, takes, texts_job}
use Rattle.streams.specs.Streams.{shown_by}
use Rattle.streams.proofs.streams.show_states.Goals as goal

-- the first text wasn't read
pub returns-in_err-next_text : goal.returns-in_err-next_text
returns-in_err-next_text g c =
    let p = err_from_is_err_and c.from_residual.result c.from_residual.ensures.1 in
    let shows = g.S.Show.shows c.args.show.now in
    let left = g.L.Lines.left c.args.lines.now in
    let out = g.O.Out.output c.args.out.now in
    rw (p.1, p.2) (record {
      written = tt;
      stopped = reading_stops (shown_by shows c.args.job.now) c.args.job.now left 0 left out out _ c.in_err-next_text.ensures.untold (begins shows c.args.job.now left out);
    })

-- the first state has no engine
pub returns-in_err-engine : goal.returns-in_err-engine
returns-in_err-engine g c =
    let p = err_from_is_err_and c.from_residual-in_err-engine.result c.from_residual-in_err-engine.ensures.1 in
    let shows = g.S.Show.shows c.args.show.now in
    let job = c.args.job.now in
    let left = g.L.Lines.left c.args.lines.now in
    let out = g.O.Out.output c.args.out.now in
    let taken = c.in_ok-next_text.ensures.takes in
    let refused = rw c.deref.ensures.value at c.in_err-engine.ensures.refused in
    rw (p.1, p.2) (record {
      written = tt;
      stopped = opening_stops (shown_by shows job) job left _ _ out _ refused taken.keeps
          (takes (shown_by shows job) job left 0 _ _ _ out out taken.taken (begins shows job left out));
    })

-- the energy itself has no accepted code
pub returns-in_err-observer : goal.returns-in_err-observer
returns-in_err-observer g c =
    let p = err_from_is_err_and c.from_residual-in_err-observer.result c.from_residual-in_err-observer.ensures.1 in
    let shows = g.S.Show.shows c.args.show.now in
    let job = c.args.job.now in
    let left = g.L.Lines.left c.args.lines.now in
    let out = g.O.Out.output c.args.out.now in
    let opens = rw c.deref.ensures.value at c.in_ok-engine.ensures.opens in
    rw (p.1, p.2) (record {
      written = tt;
      stopped = energy_stops (shown_by shows job) job left _ _ out _ opens _ c.in_err-observer.ensures.refused
          (takes (shown_by shows job) job left 0 _ _ _ out out c.in_ok-next_text.ensures.takes.taken (begins shows job left out));
    })

pub returns : goal.returns
returns g c =
    let job = c.args.job.now in
    rw c.in_ok-next_text.ensures.takes.taken (c.show_each.ensures job (texts_job job _ _ c.in_ok-engine.ensures.opens))
