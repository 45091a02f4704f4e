use Rattle.std.proofs.Common.{ℕ, ◌+◌, subst, sym, OnOk}
use Rattle.std.proofs.lemmas.List.{length-map}
use Rattle.energy_program.specs.Programs.{trees_of}
use Rattle.job.specs.Views.{job_value, type_value}
use Rattle.curves.proofs.ReportLaws.{all_counted, one_counted}
use Rattle.curves.proofs.WritingLaws.{all_cut, all_written, none_before, one_cut, one_written}
use Rattle.curves.proofs.planned.PlannedTables.put_planned.Goals as goal

pub returns-in-Some-clause-tables : goal.returns-in-Some-clause-tables
returns-in-Some-clause-tables g c =
    one_written (job_value c.args.self.now.job.now) (trees_of c.args.self.now.potential.now.slope.energy) c.args.self.now.plan.now c.put_one.result c.in-Some.first_type
    c.in-Some.second_type _ _ c.in-Some.is (none_before c.put_one.result _ _ _ c.put_one.ensures.table)

pub returns-in-Some-clause-passed : goal.returns-in-Some-clause-passed
returns-in-Some-clause-passed g c =
    subst (λ (n : ℕ). OnOk c.put_one.result (g.W.Progress.passed c.args.watch.now c.put_one.new.watch n))
    (one_counted (job_value c.args.self.now.job.now) c.args.self.now.plan.now.pair _ (c.args.self.now.plan.now.points + 1) c.in-Some.is)
    c.put_one.ensures.passed

pub returns-in-Some-clause-stopped : goal.returns-in-Some-clause-stopped
returns-in-Some-clause-stopped g c =
    one_cut (job_value c.args.self.now.job.now) (trees_of c.args.self.now.potential.now.slope.energy) c.args.self.now.plan.now c.put_one.result c.in-Some.first_type
    c.in-Some.second_type _ _ (g.W.Progress.passed c.args.watch.now c.put_one.new.watch) c.in-Some.is (none_before c.put_one.result _ _ _ c.put_one.ensures.table)
    c.put_one.ensures.stopped

pub returns-in-None-clause-tables : goal.returns-in-None-clause-tables
returns-in-None-clause-tables g c =
    all_written (job_value c.args.self.now.job.now) (trees_of c.args.self.now.potential.now.slope.energy) c.args.self.now.plan.now c.put_every_table.result _ _ _
    c.in-None.is (sym (length-map c.args.self.now.job.now.types.items type_value)) c.put_every_table.ensures.tables

pub returns-in-None-clause-passed : goal.returns-in-None-clause-passed
returns-in-None-clause-passed g c =
    subst (λ (n : ℕ). OnOk c.put_every_table.result (g.W.Progress.passed c.args.watch.now c.put_every_table.new.watch n))
    (all_counted (job_value c.args.self.now.job.now) c.args.self.now.plan.now.pair _ (c.args.self.now.plan.now.points + 1) c.in-None.is
    (sym (length-map c.args.self.now.job.now.types.items type_value)))
    c.put_every_table.ensures.passed

pub returns-in-None-clause-stopped : goal.returns-in-None-clause-stopped
returns-in-None-clause-stopped g c =
    all_cut (job_value c.args.self.now.job.now) (trees_of c.args.self.now.potential.now.slope.energy) c.args.self.now.plan.now c.put_every_table.result _ _
    (g.W.Progress.passed c.args.watch.now c.put_every_table.new.watch) c.in-None.is c.put_every_table.ensures.stopped
