use Rattle.std.proofs.Common.{Some, inl, refl}
use Rattle.cli.specs.Actions.{ListingVerdict}
use Rattle.cli.proofs.PerformLaws.{handed_on, text_of_files}
use Rattle.cli.proofs.WorkLaws.{check_reports}
use Rattle.cli.proofs.execution.judge_listing.Goals as goal

pub returns-in_err-job-clause-performs : goal.returns-in_err-job-clause-performs
returns-in_err-job-clause-performs g c =
    handed_on c.from_residual.result _ _ _ c.from_residual.ensures.1 (inl (c.in_err-job.ensures, refl))

pub returns-clause-performs : goal.returns-clause-performs
returns-clause-performs g c =
    let read = c.in_ok-job in
    text_of_files c.verdict_bytes.result (g.F.Files.held c.args.files.now) (g.F.Files.requested c.args.files.now)
    (g.F.Files.requested c.read_two.new.files) c.args.job.now c.args.listing.now read.job.items read.listing.items ListingVerdict _ _
    read.ensures.0 read.ensures.1 read.ensures.2 (rw (c.deref.ensures.value, c.as_slice.ensures.value) at c.verdict_bytes.ensures.wrote)

pub returns-clause-reports : goal.returns-clause-reports
returns-clause-reports g c =
    let read = c.in_ok-job in
    check_reports c.verdict_bytes.result (g.F.Files.held c.args.files.now) c.args.job.now (Some c.args.listing.now) read.job.items
    (Some read.listing.items) c.args.progress _ _ read.ensures.1 (λ Holds is. (read.listing.items, read.ensures.2, is))
    (rw (c.deref.ensures.value, c.as_slice.ensures.value) at c.verdict_bytes.ensures.reports)
