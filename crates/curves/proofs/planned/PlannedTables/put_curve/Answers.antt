use Rattle.std.proofs.Common.{inr}
use Rattle.job.specs.Views.{job_value}
use Rattle.curves.proofs.WritingLaws.{cut_of, wrote_of}
use Rattle.curves.proofs.planned.PlannedTables.put_curve.Goals as goal

pub returns-in-Ok-clause-wrote : goal.returns-in-Ok-clause-wrote
returns-in-Ok-clause-wrote g c =
    wrote_of (job_value c.args.self.now.job.now) c.args.self.now.plan.now c.args.self.now.potential.now _ _ c.requires.is c.in-Ok.ensures.tables

pub returns-in-Err-Refused-clause-stopped : goal.returns-in-Err-Refused-clause-stopped
returns-in-Err-Refused-clause-stopped g c =
    let stopped = c.in-Err-Refused.ensures.stopped in (
      stopped.0,
      cut_of (job_value c.args.self.now.job.now) c.args.self.now.plan.now c.args.self.now.potential.now _ _ _ stopped.0 c.requires.is
          (rw c.in-Err-Refused.field-0-is at stopped.1),
      stopped.2,
    )

pub returns-in-Err-Memory-clause-stopped : goal.returns-in-Err-Memory-clause-stopped
returns-in-Err-Memory-clause-stopped g c =
    let stopped = c.in-Err-Memory.ensures.stopped in (
      stopped.0,
      inr (cut_of (job_value c.args.self.now.job.now) c.args.self.now.plan.now c.args.self.now.potential.now _ _ _ stopped.0 c.requires.is
          (rw c.in-Err-Memory.field-0-is at stopped.1)),
      stopped.2,
    )
