use Rattle.std.proofs.Common.{subst, sym}
use Rattle.std.proofs.lemmas.Result.{IfOk-weaker}
use Rattle.fixed.specs.Fractions.{bits_of}
use Rattle.formula_bounds.specs.Nodes.{AllWalks, IsNotSingle, after_node_of}
use Rattle.formula_bounds.proofs.SeveralLaws.{flat_not_single, some_after}
use Rattle.formula_bounds.proofs.walks.AllWalks.step_dividing.Goals as goal

pub returns-then-not-is_empty-clause-several : goal.returns-then-not-is_empty-clause-several
returns-then-not-is_empty-clause-several g c = λ n.
    let before = subst (λ (a : AllWalks). IsNotSingle a.divided) (sym c.self.view_is) n in
    let after = flat_not_single (after_node_of (bits_of c.args.frac) c.args.inputs.now c.args.node.now)
    (some_after (bits_of c.args.frac) c.args.inputs.now c.args.node.now) c.self.inside.divided.items before in
    IfOk-weaker c.step_all.result _ _ (λ _ e. subst IsNotSingle (sym e) after) c.step_all.ensures
