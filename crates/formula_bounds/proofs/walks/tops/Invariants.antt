use Rattle.std.proofs.Common.{◌≡◌, map, take}
use Rattle.formula_bounds.specs.Nodes.{top_of}
use Rattle.formula_bounds.proofs.walks.tops.Given as goal

-- the entries so far are those of the walks up to the index
abbrev pub invariant-loop-walk : goal.invariant-loop-walk
invariant-loop-walk g l = l.tops.items ≡ map top_of (take l.walk-index l.walks)
