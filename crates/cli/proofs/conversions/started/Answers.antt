use Rattle.std.proofs.Common.{subst, sym}
use Rattle.std.proofs.lemmas.Result.{IfErr-weaker}
use Rattle.cli.specs.Refusals.{RefusesFrame, RefusesUnder}
use Rattle.cli.proofs.FailureLaws.{job_refused}
use Rattle.cli.proofs.StartLaws.{if_err}
use Rattle.cli.proofs.conversions.started.Goals as goal

-- a job that isn't read is refused
pub returns-in_err-job-clause-refused : goal.returns-in_err-job-clause-refused
returns-in_err-job-clause-refused g c =
    IfErr-weaker c.from_residual.result _ _ (λ e told. subst (RefusesUnder c.args.job.now (RefusesFrame c.args.gro.now c.args.frame)) (sym told)
    (job_refused c.args.job.now (RefusesFrame c.args.gro.now c.args.frame) _ c.in_err-job.ensures.fault))
    (if_err c.from_residual.result _ c.from_residual.ensures.1)
