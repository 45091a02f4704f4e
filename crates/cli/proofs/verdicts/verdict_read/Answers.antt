use Rattle.std.proofs.Common.{◌≡◌, subst, sym}
use Rattle.job.specs.Views.{job_value}
use Rattle.potential.specs.Progress.{slices_of}
use Rattle.cli.specs.Actions.{AreSlices, OfJob, RejectsChecked}
use Rattle.cli.specs.Progress.{word_for}
use Rattle.cli.specs.declared.progress.Counted.TheVariants as counted
use Rattle.cli.proofs.WorkLaws.{work_also}
use Rattle.std.proofs.lemmas.Result.{IfErr-weaker}
use Rattle.command_line.specs.Views.{bytes_if}
use Rattle.cli.specs.Refusals.{RefusesUnder, RefusesVerdict}
use Rattle.cli.proofs.FailureLaws.{job_refused}
use Rattle.cli.proofs.StartLaws.{if_err}
use Rattle.cli.proofs.verdicts.verdict_read.Goals as goal

pub returns-clause-reports : goal.returns-clause-reports
returns-clause-reports g c =
    let j = job_value c.in_ok-job.job in
    let listing = bytes_if c.args.listing in
    work_also c.verdict_under-known.result c.args.progress (word_for counted.Slices) (λ all. all ≡ slices_of j) (AreSlices c.args.job.now)
    (λ done. RejectsChecked listing j done) (λ done. OfJob c.args.job.now (λ j. RejectsChecked listing j done)) _ _
    (λ all is. (j, c.in_ok-job.ensures.job, is)) (λ done is. (j, c.in_ok-job.ensures.job, is)) c.verdict_under-known.ensures.reports

-- a job that isn't read is refused
pub returns-in_err-job-clause-refused : goal.returns-in_err-job-clause-refused
returns-in_err-job-clause-refused g c =
    IfErr-weaker c.from_residual.result _ _ (λ e told. subst (RefusesUnder c.args.job.now (RefusesVerdict (bytes_if c.args.listing))) (sym told)
    (job_refused c.args.job.now (RefusesVerdict (bytes_if c.args.listing)) _ c.in_err-job.ensures.fault))
    (if_err c.from_residual.result _ c.from_residual.ensures.1)
