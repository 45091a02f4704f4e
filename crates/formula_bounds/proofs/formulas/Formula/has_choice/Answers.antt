use Rattle.std.proofs.Common.{◌≡◌, ◌∙◌, ◌||◌, false, sym, ap}
use Rattle.std.specs.List.{list_any}
use Rattle.formula_bounds.specs.Nodes.{has_choice, is_choice, items_of}
use Rattle.formula_bounds.proofs.ChoiceLaws.{any_map}
use Rattle.formula_bounds.proofs.formulas.Formula.has_choice.Goals as goal

pub returns-else-has_choice : goal.returns-else-has_choice
returns-else-has_choice g c =
    let body : list_any is_choice c.self.inside.body.items ≡ false =
    ap (list_any is_choice) (sym c.deref.ensures.value) ∙ sym c.has_choice.ensures ∙ c.if-has_choice.false in
    let definitions : c.have_choice.result ≡ list_any (list_any is_choice) (items_of c.self.inside.definitions.items) =
    c.have_choice.ensures ∙ ap (list_any _) c.deref-else-has_choice.ensures.value ∙ sym (any_map (list_any is_choice) _ c.self.inside.definitions.items) in
    definitions ∙ ap (λ b. b || list_any (list_any is_choice) (items_of c.self.inside.definitions.items)) (sym body) ∙ ap has_choice c.self.view_is
