use Rattle.std.proofs.Common.{◌≡◌, ◌++◌, drop, map, take}
use Rattle.formula_bounds.specs.Nodes.{after_definition}
use Rattle.formula_bounds.proofs.walks.define_all.Given as goal

-- the walks up to the index have the definition
abbrev pub invariant-loop-index : goal.invariant-loop-index
invariant-loop-index g l =
    l.walks.items ≡ map (after_definition l.number) (take l.index l.fn.walks.items) ++ drop l.index l.fn.walks.items
