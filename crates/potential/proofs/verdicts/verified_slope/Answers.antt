use Rattle.std.proofs.Common.{Ok}
use Rattle.std.proofs.lemmas.Result.{IfErr-weaker, IfOk-weaker}
use Rattle.job.specs.Views.{job_value}
use Rattle.potential.specs.Energies.{slope_code_of}
use Rattle.potential.proofs.ReportLaws.{none_passed, passed_of}
use Rattle.potential.proofs.VerdictLaws.{slope_kernel, slope_refused, slope_without_code}
use Rattle.potential.proofs.verdicts.verified_slope.Goals as goal

pub returns-in-Err-clause-refused : goal.returns-in-Err-clause-refused
returns-in-Err-clause-refused g c = rw c.of_energy.ensures (slope_without_code (job_value c.args.job.now) c.in-Err.failure c.in-Err.ensures.exact)

pub returns-in-Ok-clause-refused : goal.returns-in-Ok-clause-refused
returns-in-Ok-clause-refused g c =
    let made = c.in-Ok.ensures.computes in
    IfErr-weaker c.verdict.result _ _ (λ failure h. slope_refused (job_value c.args.job.now) made.energy' failure made.says (rw made.its at h)) c.verdict.ensures.refused

pub returns-in-Ok-clause-kernel : goal.returns-in-Ok-clause-kernel
returns-in-Ok-clause-kernel g c =
    IfOk-weaker c.verdict.result _ _ (λ k h. slope_kernel (job_value c.args.job.now) c.in-Ok.code k c.in-Ok.ensures.computes h) c.verdict.ensures.accepted

pub returns-in-Err-clause-stopped : goal.returns-in-Err-clause-stopped
returns-in-Err-clause-stopped g c =
    rw c.of_energy.ensures
    (0, none_passed (job_value c.args.job.now) _ c.in-Err.failure, g.met.W.Progress.passed_none c.args.watch.now)

pub returns-in-Ok-clause-stopped : goal.returns-in-Ok-clause-stopped
returns-in-Ok-clause-stopped g c =
    let j = job_value c.args.job.now in
    passed_of j (Ok c.in-Ok.code) (slope_code_of j) c.verdict.result _ c.in-Ok.ensures.exact c.verdict.ensures.stopped
