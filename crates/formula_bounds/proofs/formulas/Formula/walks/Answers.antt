use Rattle.std.proofs.Common.{◌≡◌, ◌-◌, ◌<◌, ◌∙◌, [], ◌∷◌, ap, length, rules, subst, sym, arith}
use Rattle.fixed.specs.Fractions.{bits_of}
use Rattle.formula_bounds.specs.Nodes.{AllWalks, FormulaView, IsNotSingle, Walk, dividing, undivided}
use Rattle.formula_bounds.proofs.DefinitionLaws.{first_walk, one_before}
use Rattle.formula_bounds.proofs.SeveralLaws.{map_not_single}
use Rattle.formula_bounds.proofs.formulas.Formula.walks.Goals as goal

pub loop-index-preserved : goal.loop-index-preserved
loop-index-preserved g c = record {
  several = subst IsNotSingle (sym c.define.ensures.divided)
      (map_not_single _ c.walk.new.self.divided (c.in_ok-walk.ensures.several c.loop-index.invariant.several));
  over = λ program e.
      let below : c.loop-index.index - 1 < length c.self.inside.definitions.items = search rules in
      let same = ap (λ (f : FormulaView). f.definitions) (c.self.view_is ∙ e) in
      let now = c.loop-index.invariant.over program e in (
        one_before (bits_of c.args.frac) c.args.inputs.now 0 c.loop-index.index (undivided c.loop-index.walks.plain ∷ [])
            (undivided c.walk.new.self.plain ∷ []) (undivided c.define.new.self.plain ∷ []) c.self.inside.definitions.items program.1 c.index.result.now
            c.deref.result.now c.loop-index-test.true below same c.index.ensures c.deref.ensures.value now.0 c.in_ok-walk.ensures.plain
            (ap (λ (w : Walk). w ∷ []) c.define.ensures.plain),
        one_before (bits_of c.args.frac) c.args.inputs.now c.args.left c.loop-index.index (dividing c.loop-index.walks) (dividing c.walk.new.self)
            (dividing c.define.new.self) c.self.inside.definitions.items program.1 c.index.result.now c.deref.result.now c.loop-index-test.true below same
            c.index.ensures c.deref.ensures.value now.1 c.in_ok-walk.ensures.dividing c.define.ensures.dividing,
      );
}

pub loop-index-init : goal.loop-index-init
loop-index-init g c = record {
  several = subst (λ (a : AllWalks). IsNotSingle a.divided) (sym c.new-walks.ensures) (λ one. absurd (omega (arith, one)));
  over = λ program e.
      let n : c.len-index.result ≡ length c.self.inside.definitions.items = search rules in
      let m : c.len.result ≡ length c.self.inside.definitions.items = search rules in
      let same = ap (λ (f : FormulaView). f.definitions) (c.self.view_is ∙ e) in (
        first_walk (bits_of c.args.frac) c.args.inputs.now c.self.inside.definitions.items program.1 c.in_ok-no_entries.field-0.items 0
            c.len-index.result c.len.result (undivided c.new-walks.result.plain ∷ []) n m same c.in_ok-no_entries.ensures
            (ap (λ (a : AllWalks). undivided a.plain ∷ []) c.new-walks.ensures),
        first_walk (bits_of c.args.frac) c.args.inputs.now c.self.inside.definitions.items program.1 c.in_ok-no_entries.field-0.items c.args.left
            c.len-index.result c.len.result (dividing c.new-walks.result) n m same c.in_ok-no_entries.ensures
            (ap dividing c.new-walks.ensures),
      );
}
