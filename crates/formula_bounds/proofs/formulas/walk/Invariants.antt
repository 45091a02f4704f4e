use Rattle.std.proofs.Common.{◌≡◌, drop, reverse}
use Rattle.fixed.specs.Fractions.{bits_of}
use Rattle.formula_bounds.specs.Entries.{known_from}
use Rattle.formula_bounds.specs.Nodes.{after_nodes}
use Rattle.formula_bounds.proofs.formulas.walk.Given as goal

-- the stack is that after the nodes from the index on
abbrev pub invariant-loop-index : goal.invariant-loop-index
invariant-loop-index g l =
    reverse l.stack.items ≡ after_nodes (bits_of l.frac) l.inputs (known_from (bits_of l.frac) 0 l.known) (drop l.index l.nodes)
