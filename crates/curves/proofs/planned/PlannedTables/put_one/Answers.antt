use Rattle.std.specs.Prelude.{◌+◌}
use Rattle.energy_program.specs.Programs.{trees_of}
use Rattle.job.specs.Views.{job_value}
use Rattle.curves.proofs.ReportLaws.{all_stopped, memory_stopped, whatever_value}
use Rattle.curves.proofs.TableLaws.{table_behind}
use Rattle.curves.proofs.WritingLaws.{no_room_for, put_some}
use Rattle.curves.proofs.planned.PlannedTables.put_one.Goals as goal

pub returns-in_err-body-clause-table : goal.returns-in_err-body-clause-table
returns-in_err-body-clause-table g c = no_room_for c.from_residual.result _ _ c.from_residual.ensures.1

pub returns-in_err-body-clause-stopped : goal.returns-in_err-body-clause-stopped
returns-in_err-body-clause-stopped g c =
    memory_stopped c.from_residual.result (c.args.self.now.plan.now.points + 1) (g.W.Progress.passed c.args.watch.now c.body_text.new.watch)
    c.from_residual.ensures.1 c.in_err-body.ensures.stopped

pub returns-clause-table : goal.returns-clause-table
returns-clause-table g c =
    put_some c.put_table.result _ _ _ _
    (table_behind (job_value c.args.self.now.job.now) (trees_of c.args.self.now.potential.now.slope.energy) c.args.self.now.plan.now c.args.first_type c.args.second_type _ _ _
    c.in_ok-body.ensures.body c.deref.ensures.value)
    c.put_table.ensures

pub returns-clause-passed : goal.returns-clause-passed
returns-clause-passed g c = whatever_value c.put_table.result _ c.in_ok-body.ensures.passed

pub returns-clause-stopped : goal.returns-clause-stopped
returns-clause-stopped g c =
    all_stopped c.put_table.result _ (g.W.Progress.passed c.args.watch.now c.body_text.new.watch) c.in_ok-body.ensures.passed
