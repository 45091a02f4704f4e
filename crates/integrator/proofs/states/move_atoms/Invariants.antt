use Rattle.std.proofs.Common.{◌≡◌, ℕ, ◌<◌, ◌≤◌, get_or, map}
use Rattle.state.specs.StateViews.{atom_view}
use Rattle.integrator.specs.Frames.{frames}
use Rattle.integrator.specs.States.{nobody, moved_atom_at}
use Rattle.integrator.proofs.states.move_atoms.Given as goal

-- the atoms so far are moved, and the others not
abbrev pub invariant-loop-k : goal.invariant-loop-k
invariant-loop-k l =
    record {
      moved_atom' : (k : ℕ) → k < l.k → get_or (map atom_view l.atoms) k nobody ≡ moved_atom_at (map atom_view l.fn.atoms) (frames l.previous l.current) k;
      kept : (k : ℕ) → l.k ≤ k → get_or (map atom_view l.atoms) k nobody ≡ get_or (map atom_view l.fn.atoms) k nobody;
    }
