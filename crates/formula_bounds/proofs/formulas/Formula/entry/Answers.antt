use Rattle.std.proofs.Common.{◌≡◌, ◌∙◌, ap, subst, IfOk}
use Rattle.fixed.specs.Fractions.{bits_of}
use Rattle.formula_bounds.specs.Entries.{Entry}
use Rattle.formula_bounds.proofs.FormulaLaws.{program_is}
use Rattle.formula_bounds.proofs.formulas.Formula.entry.Goals as goal

pub returns : goal.returns
returns g c = λ program e.
    let known = c.deref.ensures.value ∙ c.in_ok-known.ensures program e in
    let nodes = c.deref-2.ensures.value ∙ ap (λ f. f.body) (c.self.view_is ∙ e) in
    subst (λ (y : Entry). IfOk c.walk.result (λ x. x ≡ y))
    (program_is (bits_of c.args.frac) c.args.inputs.now program c.deref.result.now c.deref-2.result.now known nodes)
    c.walk.ensures
