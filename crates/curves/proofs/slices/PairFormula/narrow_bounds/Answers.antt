use Rattle.std.proofs.Common.{◌≡◌, ◌∙◌, false, IfOk, refl, sym, ap, subst}
use Rattle.fixed.specs.Fractions.{bits_of}
use Rattle.formula_bounds.specs.Nodes.{formula_of, has_choice}
use Rattle.curves.specs.Slices.{BoundsView, plain_bounds}
use Rattle.curves.proofs.LeastLaws.{without_choice}
use Rattle.curves.proofs.slices.PairFormula.narrow_bounds.Goals as goal

pub returns-else-has_choice : goal.returns-else-has_choice
returns-else-has_choice g c = λ program e.
    let none : has_choice (formula_of program) ≡ false = ap has_choice (sym e) ∙ sym c.has_choice.ensures ∙ c.if-has_choice.false in
    subst (λ (p : BoundsView). IfOk c.plain_bounds.result (λ b. b ≡ p))
    (without_choice (bits_of c.args.self.now.frac) c.args.inputs.now program 3 (plain_bounds (bits_of c.args.self.now.frac) program c.args.inputs.now) none refl)
    (c.plain_bounds.ensures program e)
