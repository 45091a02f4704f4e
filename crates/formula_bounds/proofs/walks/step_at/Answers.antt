use Rattle.fixed.specs.Fractions.{bits_of}
use Rattle.formula_bounds.specs.Nodes.{after_node_of}
use Rattle.formula_bounds.proofs.StepListLaws.{replaced_at}
use Rattle.formula_bounds.proofs.walks.step_at.Goals as goal

pub returns : goal.returns
returns g c = λ w at.
    replaced_at (after_node_of (bits_of c.args.frac) c.args.inputs.now c.args.node.now) c.args.walks.now.items _ _ c.args.number
    c.index_mut.result.now c.step.new.self w c.requires c.index_mut.ensures.value at c.in_ok-other.ensures c.in_ok-insert_after.ensures
