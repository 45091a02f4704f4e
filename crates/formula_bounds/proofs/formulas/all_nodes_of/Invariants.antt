use Rattle.std.proofs.Common.{◌≡◌, map, take}
use Rattle.energy_program.specs.Tree.{tree_of}
use Rattle.formula_bounds.specs.Nodes.{items_of, nodes_of}
use Rattle.formula_bounds.proofs.formulas.all_nodes_of.Given as goal

-- the definitions so far have their nodes
abbrev pub invariant-loop-definition : goal.invariant-loop-definition
invariant-loop-definition g l = items_of l.all.items ≡ map nodes_of (map tree_of (take l.definition-index l.definitions))
