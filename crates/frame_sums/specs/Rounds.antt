-- The forces of a frame as the sums of a round of workers. If no force leaves 64 bits, the sums over lists of a frame's
-- pairs modulo 2^64 are the exact forces (the law `frame_round` in proofs/TileLaws).
use Rattle.std.specs.Prelude.{◌≡◌, ℕ, ◌+◌, ◌*◌, ℤ, List, [], ◌∷◌, map, Option, option_map, slice_index, length, Some}
use Rattle.ring_box.specs.Forces.{pair_force_of}
use Rattle.ring_box.specs.declared.vectors.Vector.{Vector}
use Rattle.rounds.specs.Tiles.{component}
use Rattle.rounds.specs.declared.work.PairAdd.{PairAdd}
use Rattle.integrator.specs.Forces.{numbers_from}
use Rattle.ring_box.specs.Places.{places_of}
use Rattle.integrator.specs.Frames.{Frame, frame_forces}
use Rattle.integrator.specs.declared.systems.System.{System}
use Rattle.potential.specs.Potentials.{minus, potential_of, slope_at}
use Rattle.frame_sums.specs.SafeSystems.{safe_dynamics}
use Rattle.potential.specs.declared.slope_kernels.SlopeKernel.{SlopeKernel}

-- the force of a pair of atoms, as the round adds it
abbrev pub pair_add : ℕ → ℕ → Vector ℤ → PairAdd
pair_add low high f = record { low = low; high = high; force = f.x ∷ f.y ∷ f.z ∷ [] }

module _ {A : Type 0} (s : System (SlopeKernel A) A) where
  -- the force on the lower atom of a pair; none if the pair doesn't interact
  abbrev pub acting_force : Frame → ℕ × ℕ → Option (Vector ℤ)
  acting_force frame p =
      pair_force_of s.frac s.ring
      (λ r. minus (slope_at (potential_of s.kernel) (slice_index s.types.items p.0) (slice_index s.types.items p.1) r))
      s.core s.cutoff (places_of frame p.0) (places_of frame p.1)

  -- the force of a pair as the round adds it, if the pair interacts
  abbrev pub add_of : Frame → ℕ × ℕ → Option PairAdd
  add_of frame p = option_map (pair_add p.0 p.1) (acting_force frame p)

  -- the forces of the pairs of each list
  abbrev pub plan_of : Frame → List (List (ℕ × ℕ)) → List (List (Option PairAdd))
  plan_of frame lists = map (λ ps. map (add_of frame) ps) lists

-- the force on an atom, from sums with three components per atom
abbrev pub forces_in : List ℤ → ℕ → Vector ℤ
forces_in sums a = record { x = component sums (3 * a); y = component sums (3 * a + 1); z = component sums (3 * a + 2) }

abbrev pub forces_from : List ℤ → ℕ → List (Vector ℤ)
forces_from sums n = map (forces_in sums) (numbers_from 0 n)

-- the sums are the forces on the atoms of the frame
abbrev pub AreForces : {A : Type 0} → System (SlopeKernel A) A → Frame → List ℤ → Type 0
AreForces s frame sums =
    (length sums ≡ 3 * length frame) × (frame_forces (safe_dynamics s) frame ≡ Some (forces_from sums (length frame)))

-- these are the forces on the atoms of the frame
abbrev pub AreForcesOn : {A : Type 0} → System (SlopeKernel A) A → Frame → List (Vector ℤ) → Type 0
AreForcesOn s frame forces = frame_forces (safe_dynamics s) frame ≡ Some forces
