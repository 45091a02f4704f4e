use Rattle.std.proofs.Common.{◌≡◌, ◌∙◌, List, [], ◌∷◌, ap, map, refl, subst, sym, IfOk}
use Rattle.fixed.specs.Fractions.{bits_of}
use Rattle.formula_bounds.specs.Entries.{Entry}
use Rattle.formula_bounds.specs.Nodes.{FormulaView, dividing, top_of, undivided}
use Rattle.formula_bounds.specs.Walks.{several}
use Rattle.formula_bounds.proofs.DefinitionLaws.{entries_are}
use Rattle.formula_bounds.proofs.SeveralLaws.{several_tops}
use Rattle.formula_bounds.proofs.SingleLaws.{single_entry}
use Rattle.formula_bounds.proofs.formulas.Formula.entries_of_walks.Goals as goal

pub returns-clause-plain : goal.returns-clause-plain
returns-clause-plain g c = λ program e.
    let nodes = c.deref.ensures.value ∙ ap (λ (f : FormulaView). f.body) (c.self.view_is ∙ e) in
    let top = top_of c.walk.new.self.plain in
    let all = entries_are (bits_of c.args.frac) c.args.inputs.now program 0 (undivided c.in_ok-walks.walks.plain ∷ [])
    (undivided c.walk.new.self.plain ∷ []) c.deref.result.now (top ∷ []) (c.in_ok-walks.ensures.plain program e) nodes c.in_ok-walk.ensures.plain refl in
    subst (λ (x : Entry). IfOk c.tops.result (λ all. all.0 ≡ x)) (single_entry (bits_of c.args.frac) c.args.inputs.now program 0 top (sym all))
    c.tops.ensures.plain

pub returns-clause-divided : goal.returns-clause-divided
returns-clause-divided g c = λ program e.
    let nodes = c.deref.ensures.value ∙ ap (λ (f : FormulaView). f.body) (c.self.view_is ∙ e) in
    let all = entries_are (bits_of c.args.frac) c.args.inputs.now program c.args.left (dividing c.in_ok-walks.walks)
    (dividing c.walk.new.self) c.deref.result.now (map top_of (dividing c.walk.new.self)) (c.in_ok-walks.ensures.dividing program e) nodes
    c.in_ok-walk.ensures.dividing refl in
    subst (λ (l : List Entry). IfOk c.tops.result (λ t. t.1.items ≡ l))
    (several_tops c.walk.new.self (c.in_ok-walk.ensures.several c.in_ok-walks.ensures.several) ∙ ap several all) c.tops.ensures.divided
