use Rattle.std.proofs.Common.{◌≡◌, ◌∙◌, false, true, refl, sym}
use Rattle.job.specs.Views.{job_value}
use Rattle.line_text.proofs.PartLaws.{bytes_same, same_bytes}
use Rattle.curves.specs.Tables.{AreBothTables}
use Rattle.curves.proofs.TableLaws.{both_in_one}
use Rattle.curves.proofs.WritingLaws.{put_some}
use Rattle.curves.proofs.planned.PlannedTables.put_bodies.Goals as goal

pub returns-then-eq : goal.returns-then-eq
returns-then-eq g c = λ program first second.
    let j = job_value c.args.self.now.job.now in
    let same = same_bytes c.args.one_body.now c.args.other_body.now (sym c.eq.ensures ∙ c.if-eq.true) in
    put_some c.put_in_one.result _ _ _ _
    (_, both_in_one j program c.args.self.now.plan.now c.args.first_type c.args.second_type c.args.one_body.now c.args.other_body.now first second same, refl)
    c.put_in_one.ensures

pub returns-else-eq : goal.returns-else-eq
returns-else-eq g c = λ program first second.
    put_some c.put_in_two.result _ _ _ _ (
      _,
      AreBothTables.two first second
          (λ same. let bad : true ≡ false = sym (bytes_same c.args.one_body.now c.args.other_body.now same) ∙ sym c.eq.ensures ∙ c.if-eq.false in cc),
      refl,
    )
    c.put_in_two.ensures
