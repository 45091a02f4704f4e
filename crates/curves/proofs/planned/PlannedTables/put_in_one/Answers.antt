use Rattle.job.specs.Views.{job_value}
use Rattle.curves.specs.Tables.{between_tables, pair_line, table_text}
use Rattle.curves.proofs.WritingLaws.{both_in_one_is, no_room, put_same}
use Rattle.curves.proofs.planned.PlannedTables.put_in_one.Goals as goal

pub returns-in_err-extend_from_slice : goal.returns-in_err-extend_from_slice
returns-in_err-extend_from_slice g c = no_room c.from_residual.result _ _ c.from_residual.ensures.1

pub returns-in_err-put_pair : goal.returns-in_err-put_pair
returns-in_err-put_pair g c = no_room c.from_residual-in_err-put_pair.result _ _ c.from_residual-in_err-put_pair.ensures.1

pub returns : goal.returns
returns g c =
    let j = job_value c.args.self.now.job.now in
    put_same c.put_table.result _ _ _ _
    (both_in_one_is _ _ _ _ between_tables (pair_line j c.args.first_type c.args.second_type) (table_text j c.args.self.now.plan.now c.args.second_type c.args.first_type c.args.body.now)
    c.new-before.ensures.items c.in_ok-extend_from_slice.ensures.items c.in_ok-put_pair.ensures c.deref.ensures.value)
    c.put_table.ensures
