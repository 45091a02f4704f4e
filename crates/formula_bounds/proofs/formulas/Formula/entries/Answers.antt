use Rattle.std.proofs.Common.{◌-◌, ◌<◌, ◌∙◌, ap, length, rules}
use Rattle.fixed.specs.Fractions.{bits_of}
use Rattle.formula_bounds.proofs.FormulaLaws.{one_before}
use Rattle.formula_bounds.proofs.formulas.Formula.entries.Goals as goal

pub loop-index-preserved : goal.loop-index-preserved
loop-index-preserved g c =
    let below : c.loop-index.index - 1 < length c.self.inside.definitions.items = search rules in (
      search rules,
      λ program e.
          one_before (bits_of c.args.frac) c.args.inputs.now c.loop-index.index c.loop-index.known.items c.set_entry.new.known.items c.self.inside.definitions.items
          program.1 c.index.result.now c.deref.result.now c.loop-index-test.true below (ap (λ f. f.definitions) (c.self.view_is ∙ e)) c.index.ensures c.deref.ensures.value
          (c.loop-index.invariant.1 program e) c.in_ok-set_entry.ensures,
    )
