use Rattle.std.proofs.Common.{◌+◌, ◌*◌, ◌≤◌, inl, refl}
use Rattle.std.proofs.lemmas.Result.{IfErr-weaker, on_ok_weaker}
use Rattle.job.specs.Views.{job_value}
use Rattle.potential.specs.Progress.{slices_of}
use Rattle.curves.proofs.writing.write_curve.Goals as goal

pub returns-in-Ok-clause-passed : goal.returns-in-Ok-clause-passed
returns-in-Ok-clause-passed g c =
    on_ok_weaker c.put_curve-wrote.result (λ passed. g.met.W.Progress.passed_more _ _ _ _ _ c.in-Ok.ensures.passed passed) c.put_curve-wrote.ensures.passed

pub returns-in-Ok-clause-stopped : goal.returns-in-Ok-clause-stopped
returns-in-Ok-clause-stopped g c =
    IfErr-weaker c.put_curve-wrote.result _ _
    (λ fault stopped. (
      2 * slices_of (job_value c.args.job.now) + stopped.0,
      stopped.1,
      g.met.W.Progress.passed_more _ _ _ _ _ c.in-Ok.ensures.passed stopped.2,
    ))
    c.put_curve-wrote.ensures.stopped

pub returns-in-Err-Refused-clause-stopped : goal.returns-in-Err-Refused-clause-stopped
returns-in-Err-Refused-clause-stopped g c =
    let stopped = c.in-Err-Refused.ensures.stopped in
    rw c.in-Err-Refused.field-0-is (
      stopped.0,
      (rw c.in-Err-Refused.field-0-is at c.in-Err-Refused.ensures.refused, refl, rw c.in-Err-Refused.field-0-is at stopped.1),
      stopped.2,
    )

pub returns-in-Err-Memory-clause-stopped : goal.returns-in-Err-Memory-clause-stopped
returns-in-Err-Memory-clause-stopped g c =
    let stopped = c.in-Err-Memory.ensures.stopped in
    let few : stopped.0 ≤ 2 * slices_of (job_value c.args.job.now) = rw c.in-Err-Memory.field-0-is at stopped.1 in
    (stopped.0, inl (refl, few), stopped.2)
