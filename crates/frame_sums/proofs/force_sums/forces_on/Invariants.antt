use Rattle.std.proofs.Common.{◌≡◌, ℕ, ◌<◌, get_or, length}
use Rattle.ring_box.specs.Forces.{no_force}
use Rattle.frame_sums.specs.Rounds.{forces_in}
use Rattle.frame_sums.proofs.force_sums.forces_on.Given as goal

-- the forces on the atoms so far
abbrev pub invariant-loop-atom : goal.invariant-loop-atom
invariant-loop-atom g l = record {
  count : length l.forces.items ≡ l.atom;
  each : (k : ℕ) → k < l.atom → get_or l.forces.items k no_force ≡ forces_in l.sums k;
}
