use Rattle.std.proofs.Common.{◌≡◌, map, take}
use Rattle.state.specs.StateViews.{atom_view}
use Rattle.streams.proofs.differences.first_atom.Given as goal

-- the atoms before this one are the same
abbrev pub invariant-loop-at : goal.invariant-loop-at
invariant-loop-at l = take l.at (map atom_view l.fn.run) ≡ take l.at (map atom_view l.fn.stored)
