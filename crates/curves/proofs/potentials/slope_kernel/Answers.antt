use Rattle.job.specs.Views.{job_value}
use Rattle.potential.specs.EnergyViews.{energy_view}
use Rattle.potential.proofs.ReportLaws.{none_passed, slope_passed}
use Rattle.potential.proofs.VerdictLaws.{slope_refused}
use Rattle.curves.proofs.potentials.slope_kernel.Goals as goal

pub returns-in-Err-new-clause-refused : goal.returns-in-Err-new-clause-refused
returns-in-Err-new-clause-refused g c =
    slope_refused (job_value c.args.job.now) (energy_view c.in-Ok.parts) c.in-Err-new.failure c.in-Ok.ensures.value c.in-Err-new.ensures.refused

pub returns-in-Err-clause-stopped : goal.returns-in-Err-clause-stopped
returns-in-Err-clause-stopped g c =
    rw c.of_energy.ensures
    (0, none_passed (job_value c.args.job.now) _ c.in-Err.failure, g.met.W.Progress.passed_none c.args.watch.now)

pub returns-in-Err-new-clause-stopped : goal.returns-in-Err-new-clause-stopped
returns-in-Err-new-clause-stopped g c =
    let j = job_value c.args.job.now in
    let stopped = c.in-Err-new.ensures.stopped in (
      stopped.0,
      slope_passed j (energy_view c.in-Ok.parts) stopped.0 c.in-Err-new.failure c.in-Ok.ensures.value stopped.1,
      stopped.2,
    )
