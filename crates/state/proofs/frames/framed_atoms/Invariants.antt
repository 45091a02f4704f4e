use Rattle.std.proofs.Common.{◌≡◌, map, take}
use Rattle.std.specs.List.{AllByRecursion}
use Rattle.gro.specs.Frames as gro
use Rattle.state.specs.StateFrames.{IsAtomAtRest, framed_atom}
use Rattle.state.specs.StateViews.{atom_view, sides_view}
use Rattle.state.proofs.frames.framed_atoms.Given as goal

abbrev pub invariant-loop-atom : goal.invariant-loop-atom
invariant-loop-atom g l = record {
  value : map gro.atom_view l.framed.items ≡ map (framed_atom (sides_view l.ring)) (map atom_view (take l.atom-index l.atoms));
  rest : AllByRecursion IsAtomAtRest (map gro.atom_view l.framed.items);
}
