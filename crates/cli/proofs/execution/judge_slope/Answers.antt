use Rattle.std.proofs.Common.{None}
use Rattle.cli.specs.Actions.{OneText, SlopeVerdict}
use Rattle.cli.proofs.PerformLaws.{file_read}
use Rattle.cli.proofs.WorkLaws.{check_reports}
use Rattle.cli.proofs.execution.judge_slope.Goals as goal

pub returns-clause-performs : goal.returns-clause-performs
returns-clause-performs g c =
    file_read c.verdict_bytes.result (g.F.Files.held c.args.files.now) (g.F.Files.requested c.args.files.now)
    (g.F.Files.requested c.read.new.files) c.args.job.now c.in_ok-job.job.items (λ job. OneText (SlopeVerdict job)) _ _
    c.in_ok-job.ensures.reads.0 c.in_ok-job.ensures.reads.1 (rw c.deref.ensures.value at c.verdict_bytes.ensures.wrote)

pub returns-clause-reports : goal.returns-clause-reports
returns-clause-reports g c =
    check_reports c.verdict_bytes.result (g.F.Files.held c.args.files.now) c.args.job.now None c.in_ok-job.job.items None c.args.progress
    _ _ c.in_ok-job.ensures.reads.1 (λ Holds is. is) (rw c.deref.ensures.value at c.verdict_bytes.ensures.reports)
