use Rattle.std.proofs.Common.{◌≡◌, map, take}
use Rattle.gro.specs.Frames as gro
use Rattle.state.specs.Starts.{started_atom}
use Rattle.state.specs.StateViews.{atom_view}
use Rattle.state.proofs.starts.started_atoms.Given as goal

abbrev pub invariant-loop-atom : goal.invariant-loop-atom
invariant-loop-atom g l = map atom_view l.started.items ≡ map (started_atom l.time_step l.ring) (map gro.atom_view (take l.atom-index l.atoms))
