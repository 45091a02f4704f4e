use Rattle.std.proofs.Common.{◌≡◌, ℕ, ◌<◌, ◌≤◌, get_or, slice_index}
use Rattle.ring_box.specs.Places.{no_place}
use Rattle.integrator.specs.Frames.{next_places}
use Rattle.frame_sums.specs.Rounds.{forces_in}
use Rattle.frame_sums.specs.SafeSystems.{safe_dynamics}
use Rattle.frame_sums.proofs.safe_systems.SafeSystem.advance.Given as goal

-- the atoms so far have moved, and the others not
abbrev pub invariant-loop-atom : goal.invariant-loop-atom
invariant-loop-atom g l =
    record {
      moved : (k : ℕ) → k < l.atom → get_or l.before k no_place ≡ next_places (safe_dynamics l.self.system) (slice_index l.self.system.masses.items k) (get_or l.fn.before k no_place) (get_or l.middle k no_place) (forces_in l.sums k);
      kept : (k : ℕ) → l.atom ≤ k → get_or l.before k no_place ≡ get_or l.fn.before k no_place;
    }
