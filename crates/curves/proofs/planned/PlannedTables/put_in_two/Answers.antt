use Rattle.job.specs.Views.{job_value}
use Rattle.curves.specs.Tables.{between_tables, table_text}
use Rattle.curves.proofs.WritingLaws.{both_in_two_is, no_room, put_same, table_is}
use Rattle.curves.proofs.planned.PlannedTables.put_in_two.Goals as goal

pub returns-in_err-head : goal.returns-in_err-head
returns-in_err-head g c = no_room c.from_residual.result _ _ c.from_residual.ensures.1

pub returns-in_err-next_head : goal.returns-in_err-next_head
returns-in_err-next_head g c = no_room c.from_residual-in_err-next_head.result _ _ c.from_residual-in_err-next_head.ensures.1

pub returns : goal.returns
returns g c =
    let j = job_value c.args.self.now.job.now in
    let plan = c.args.self.now.plan.now in
    put_same c.without_memory.result _ _ _ _
    (both_in_two_is _ _ between_tables (table_text j plan c.args.first_type c.args.second_type c.args.one_body.now)
    (table_text j plan c.args.second_type c.args.first_type c.args.other_body.now)
    (table_is j plan c.args.first_type c.args.second_type between_tables c.in_ok-head.head.items _ c.args.one_body.now c.in_ok-head.ensures c.deref.ensures.value)
    (table_is j plan c.args.second_type c.args.first_type between_tables c.in_ok-next_head.next_head.items _ c.args.other_body.now c.in_ok-next_head.ensures c.deref-2.ensures.value))
    (c.without_memory.ensures _ _ _ c.write_two.ensures)
