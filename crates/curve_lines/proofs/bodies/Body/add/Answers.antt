use Rattle.std.proofs.Common.{refl, subst, sym}
use Rattle.std.proofs.lemmas.Result.{IfOk-weaker}
use Rattle.curve_lines.specs.Bodies.{HasRows}
use Rattle.curve_lines.proofs.BodyLaws.{one_more}
use Rattle.curve_lines.proofs.bodies.Body.add.Goals as goal

pub returns-clause-rows : goal.returns-clause-rows
returns-clause-rows g c = λ rows has.
    IfOk-weaker c.put_row.result _ _
    (λ _ h. one_more _ _ c.args.row.now refl refl h c.in_ok-put_missing_lines.ensures c.with_row-self-inside.ensures
    c.with_row-self-inside-2.ensures rows (subst (λ b. HasRows b rows) (sym c.self.view_is) has))
    c.put_row.ensures
