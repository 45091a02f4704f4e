use Rattle.command_line.specs.Views.{curve_view}
use Rattle.cli.specs.Actions.{TablesOfJob}
use Rattle.cli.proofs.PerformLaws.{file_read}
use Rattle.cli.proofs.WorkLaws.{curve_reports}
use Rattle.cli.proofs.execution.perform_curve.Goals as goal

pub returns-clause-performs : goal.returns-clause-performs
returns-clause-performs g c =
    file_read c.curve_bytes.result (g.F.Files.held c.args.files.now) (g.F.Files.requested c.args.files.now)
    (g.F.Files.requested c.read.new.files) c.args.curve.job.now c.in_ok-job.job.items
    (λ job. TablesOfJob job (curve_view c.args.curve)) _ _ c.in_ok-job.ensures.reads.0 c.in_ok-job.ensures.reads.1
    (rw c.deref.ensures.value at c.curve_bytes.ensures.wrote)

pub returns-clause-reports : goal.returns-clause-reports
returns-clause-reports g c =
    curve_reports c.curve_bytes.result (g.F.Files.held c.args.files.now) (curve_view c.args.curve) c.in_ok-job.job.items _ _ _ _ c.in_ok-job.ensures.reads.1
    (rw c.deref.ensures.value at c.curve_bytes.ensures.reports)
