use Rattle.std.proofs.Common.{Ok, rules}
use Rattle.job.specs.Views.{job_value}
use Rattle.potential.specs.Progress.{IsPassedBefore, slices_of}
use Rattle.cli.specs.declared.progress.Counted.TheVariants as counted
use Rattle.cli.proofs.WorkLaws.{parts_reported, slices_within}
use Rattle.cli.proofs.verdicts.judged_code.Goals as goal

pub returns-clause-reports : goal.returns-clause-reports
returns-clause-reports g c =
    let w = c.new-watch in
    let j = job_value c.args.job.now in
    let all = slices_of j in
    let calls = c.verdict in
    let reported = parts_reported calls.result c.args.progress w.result.progress counted.Slices w.result.counted all w.result.all
    w.result.done calls.new.watch.done (λ failure n. IsPassedBefore j (Ok c.args.code) failure n) (g.E.Out.output c.args.err.now) (g.E.Out.output w.result.err.now)
    (g.E.Out.output calls.new.watch.err.now) _ w.ensures.progress w.ensures.counted (rw c.slices_in.ensures.value at w.ensures.all)
    w.ensures.done w.ensures.output calls.ensures.passed (slices_within calls.result j (Ok c.args.code) _ calls.ensures.stopped) (λ n h. h.4) in
    search rules
