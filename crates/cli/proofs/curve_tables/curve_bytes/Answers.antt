-- the tables of the job are those of its text
use Rattle.std.proofs.Common.{inl, refl}
use Rattle.job.specs.Views.{job_value}
use Rattle.command_line.specs.Views.{curve_view}
use Rattle.cli.specs.Refusals.{RefusesCurve}
use Rattle.cli.proofs.FailureLaws.{job_refused}
use Rattle.cli.proofs.PerformLaws.{handed_on}
use Rattle.cli.proofs.TableLaws.{written_also}
use Rattle.cli.proofs.WorkLaws.{tables_of_job}
use Rattle.cli.proofs.curve_tables.curve_bytes.Goals as goal

-- a job that isn't read is refused
pub returns-in_err-job-clause-wrote : goal.returns-in_err-job-clause-wrote
returns-in_err-job-clause-wrote g c =
    handed_on c.from_residual.result _ _ _ c.from_residual.ensures.1
    (inl (job_refused c.args.job.now (RefusesCurve (curve_view c.args.curve.now)) _ c.in_err-job.ensures.fault, refl))

pub returns-clause-wrote : goal.returns-clause-wrote
returns-clause-wrote g c =
    written_also c.curve_of-wrote.result c.args.job.now (job_value c.in_ok-job.job) (curve_view c.args.curve.now) _ _ c.in_ok-job.ensures.job
    c.curve_of-wrote.ensures.wrote

pub returns-clause-reports : goal.returns-clause-reports
returns-clause-reports g c =
    tables_of_job c.curve_of-wrote.result c.args.curve.now.progress c.args.job.now (job_value c.in_ok-job.job) (curve_view c.args.curve.now)
    _ _ _ _ c.in_ok-job.ensures.job c.curve_of-wrote.ensures.reports
