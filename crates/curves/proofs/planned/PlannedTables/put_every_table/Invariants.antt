use Rattle.std.specs.Prelude.{◌≡◌}
use Rattle.energy_program.specs.Programs.{trees_of}
use Rattle.job.specs.Views.{job_value}
use Rattle.curves.specs.SoFar.{WroteTables}
use Rattle.curves.specs.Writing.{rows_before}
use Rattle.curves.proofs.planned.PlannedTables.put_every_table.Given as goal

-- the tables of the types so far, all of whose rows are reported; no write failed
abbrev pub invariant-loop-first_type : goal.invariant-loop-first_type
invariant-loop-first_type g l = record {
  tables : WroteTables (job_value l.self.job.now) (trees_of l.self.potential.now.slope.energy) l.self.plan.now l.first_type l.first_type (g.O.Out.output l.fn.out) (g.O.Out.output l.out);
  room : (g.O.Out.output l.out).failed ≡ (g.O.Out.output l.fn.out).failed;
  passed : g.W.Progress.passed l.fn.watch l.watch (rows_before (job_value l.self.job.now) l.self.plan.now l.first_type l.first_type);
}
