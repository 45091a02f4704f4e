use Rattle.std.proofs.Common.{rules}
use Rattle.job.specs.Views.{job_value}
use Rattle.cli.proofs.WorkLaws.{tables_reported}
use Rattle.cli.proofs.curve_tables.watched_curve.Goals as goal

pub returns : goal.returns
returns g c =
    let w = c.new-watch in
    let calls = c.write_curve in
    let reported = tables_reported calls.result (job_value c.args.job.now) c.args.plan.now (g.O.Out.output c.args.out.now) (g.O.Out.output calls.new.out)
    c.args.progress w.result.progress w.result.counted w.result.all w.result.done calls.new.watch.done
    (g.E.Out.output c.args.err.now) (g.E.Out.output w.result.err.now) (g.E.Out.output calls.new.watch.err.now) _
    w.ensures.progress w.ensures.counted (rw c.parts_in.ensures at w.ensures.all) w.ensures.done w.ensures.output
    calls.ensures.wrote calls.ensures.passed calls.ensures.stopped (λ n h. h.4) in
    search rules
