use Rattle.job.specs.Views.{job_value}
use Rattle.curves.proofs.WritingLaws.{no_room, put_same, table_is}
use Rattle.curves.proofs.planned.PlannedTables.put_table.Goals as goal

pub returns-in_err-head : goal.returns-in_err-head
returns-in_err-head g c = no_room c.from_residual.result _ _ c.from_residual.ensures.1

pub returns : goal.returns
returns g c =
    let j = job_value c.args.self.now.job.now in
    put_same c.without_memory.result _ _ _ _
    (table_is j c.args.self.now.plan.now c.args.first_type c.args.second_type c.args.before.now c.in_ok-head.head.items _ c.args.body.now c.in_ok-head.ensures c.deref.ensures.value)
    (c.without_memory.ensures _ _ _ c.write_both.ensures)
