use Rattle.std.proofs.Common.{◌≡◌, ◌-◌, ◌<◌, ◌≤◌, length, rules, subst, sym, arith}
use Rattle.fixed.specs.Fractions.{bits_of}
use Rattle.formula_bounds.specs.Nodes.{after_node_of}
use Rattle.formula_bounds.proofs.StepListLaws.{element_at, one_more_replaced, replaced_from, some_before}
use Rattle.formula_bounds.proofs.walks.step_all.Goals as goal

pub loop-number-preserved : goal.loop-number-preserved
loop-number-preserved g c =
    let f = after_node_of (bits_of c.args.frac) c.args.inputs.now c.args.node.now in
    let all = c.args.walks.now.items in
    let below : c.loop-number.number - 1 < length c.loop-number.walks.items = search rules in
    let within : c.loop-number.number ≤ length c.args.walks.now.items = search rules in
    let before : c.loop-number.number - 1 ≤ length c.args.walks.now.items = omega (arith, within) in
    let w = element_at c.loop-number.walks.items (c.loop-number.number - 1) below in
    let e : c.step_at.new.walks.items ≡ replaced_from f all (c.loop-number.number - 1) =
    one_more_replaced f all c.loop-number.walks.items c.step_at.new.walks.items c.loop-number.number w.0 c.loop-number-test.true within
    c.loop-number.invariant.replaced w.1 (c.in_ok-step_at.ensures w.0 w.1) in
    record {
      enough = subst (λ l. c.loop-number.number - 1 ≤ length l) (sym e) (some_before f all (c.loop-number.number - 1) before);
      replaced = e;
    }
