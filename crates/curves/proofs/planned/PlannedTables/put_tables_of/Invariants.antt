use Rattle.std.specs.Prelude.{◌≡◌, ◌+◌, ◌-◌, ◌*◌, ◌<◌}
use Rattle.energy_program.specs.Programs.{trees_of}
use Rattle.fallible.specs.Out.{Output}
use Rattle.job.specs.Views.{job_value}
use Rattle.curves.specs.SoFar.{WroteTables}
use Rattle.curves.proofs.planned.PlannedTables.put_tables_of.Given as goal

-- the tables so far of the type, all of whose rows are reported; no write failed
abbrev pub invariant-loop-second_type : goal.invariant-loop-second_type
invariant-loop-second_type g l = record {
  tables : (origin : Output)
      → WroteTables (job_value l.self.job.now) (trees_of l.self.potential.now.slope.energy) l.self.plan.now l.first_type l.first_type origin (g.O.Out.output l.fn.out)
      → WroteTables (job_value l.self.job.now) (trees_of l.self.potential.now.slope.energy) l.self.plan.now l.first_type l.second_type origin (g.O.Out.output l.out);
  room : (g.O.Out.output l.out).failed ≡ (g.O.Out.output l.fn.out).failed;
  passed : g.W.Progress.passed l.fn.watch l.watch ((2 * (l.second_type - l.first_type) - 1) * (l.self.plan.now.points + 1));
  after : l.first_type < l.second_type;
}
