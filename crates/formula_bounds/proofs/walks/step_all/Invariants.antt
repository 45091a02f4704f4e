use Rattle.std.proofs.Common.{◌≡◌, ◌≤◌, length}
use Rattle.fixed.specs.Fractions.{bits_of}
use Rattle.formula_bounds.specs.Nodes.{after_node_of}
use Rattle.formula_bounds.proofs.StepListLaws.{replaced_from}
use Rattle.formula_bounds.proofs.walks.step_all.Given as goal

-- the walks from the index on went on
abbrev pub invariant-loop-number : goal.invariant-loop-number
invariant-loop-number g l = record {
  enough : l.number ≤ length l.walks.items;
  replaced : l.walks.items ≡ replaced_from (after_node_of (bits_of l.frac) l.inputs l.node) l.fn.walks.items l.number;
}
