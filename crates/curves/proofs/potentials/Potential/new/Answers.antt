use Rattle.std.proofs.Common.{arith, subst}
use Rattle.job.specs.Views.{job_value}
use Rattle.curves.proofs.ReportLaws.{energy_stopped, slope_stopped}
use Rattle.curves.proofs.TableLaws.{no_curve_of_energy}
use Rattle.curves.proofs.potentials.Potential.new.Goals as goal

pub returns-in-Err-with_slope-clause-refused : goal.returns-in-Err-with_slope-clause-refused
returns-in-Err-with_slope-clause-refused g c =
    no_curve_of_energy (job_value c.args.job.now) c.in-Ok.slope.verified c.in-Err-with_slope.failure c.in-Ok.ensures.kernel
    c.in-Err-with_slope.ensures.refused

pub returns-in-Err-clause-stopped : goal.returns-in-Err-clause-stopped
returns-in-Err-clause-stopped g c =
    let stopped = c.in-Err.ensures.stopped in
    (stopped.0, slope_stopped (job_value c.args.job.now) stopped.0 c.in-Err.failure c.in-Err.ensures.refused stopped.1, stopped.2)

pub returns-in-Err-with_slope-clause-stopped : goal.returns-in-Err-with_slope-clause-stopped
returns-in-Err-with_slope-clause-stopped g c =
    let stopped = c.in-Err-with_slope.ensures.stopped in (
      _,
      energy_stopped (job_value c.args.job.now) c.in-Ok.slope.verified stopped.0 c.in-Err-with_slope.failure c.in-Ok.ensures.kernel
          c.in-Err-with_slope.ensures.refused stopped.1,
      g.met.W.Progress.passed_more _ _ _ _ _ c.in-Ok.ensures.passed stopped.2,
    )

pub returns-in-Ok-with_slope-clause-passed : goal.returns-in-Ok-with_slope-clause-passed
returns-in-Ok-with_slope-clause-passed g c =
    subst (g.W.Progress.passed c.args.watch.now c.with_slope.new.watch) (omega arith)
    (g.met.W.Progress.passed_more _ _ _ _ _ c.in-Ok.ensures.passed c.in-Ok-with_slope.ensures.passed)
