use Rattle.energy_program.specs.Programs.{trees_of}
use Rattle.job.specs.Views.{job_value}
use Rattle.curves.proofs.BoundLaws.{HasFirst}
use Rattle.curves.proofs.planned.PlannedTables.body_of.Given as goal

-- the rows so far, all of which are reported
abbrev pub invariant-loop-i : goal.invariant-loop-i
invariant-loop-i g l = record {
  rows : HasFirst (job_value l.self.job.now) (trees_of l.self.potential.now.slope.energy) l.self.plan.now l.pair.a l.pair.b l.i l.body;
  passed : g.W.Progress.passed l.fn.watch l.watch l.i;
}
