-- The energy of a frame: the exact sum over all interacting pairs, including pairs of atoms with the same position.
use Rattle.std.specs.Prelude.{ℕ, ℤ, pos, ◌+ℤ◌, List, [], ◌∷◌, length, Option, Some, None, option_map}
use Rattle.ring_box.specs.Forces.{acting_distance_of}
use Rattle.ring_box.specs.Places.{places_of}
use Rattle.integrator.specs.Forces.{pairs_of}
use Rattle.integrator.specs.Frames.{Dynamics, Frame}

-- the energy at the distance of an interacting pair, and 0 for any other pair
abbrev pub energy_at : (ℤ → Option ℤ) → Option ℤ → Option ℤ
energy_at value None = Some (pos 0)
energy_at value (Some r) = value r

-- the energy of a pair; `value` is the energy of two atoms at a distance
abbrev pub pair_energy : Dynamics → (ℕ × ℕ → ℤ → Option ℤ) → Frame → ℕ × ℕ → Option ℤ
pair_energy d value frame p =
    energy_at (value p) (acting_distance_of d.frac d.ring d.core d.cutoff (places_of frame p.0) (places_of frame p.1))

abbrev pub plus_energy : Option ℤ → Option ℤ → Option ℤ
plus_energy None rest = None
plus_energy (Some v) rest = option_map (λ z. v +ℤ z) rest

-- the sum over pairs; defined only if every pair has an energy
unfoldable pub energy_sum : (ℕ × ℕ → Option ℤ) → List (ℕ × ℕ) → Option ℤ
energy_sum energy [] = Some (pos 0)
energy_sum energy (p ∷ ps) = plus_energy (energy p) (energy_sum energy ps)

-- the energy of a frame, the sum over all pairs of its atoms
abbrev pub energy_of : Dynamics → (ℕ × ℕ → ℤ → Option ℤ) → Frame → Option ℤ
energy_of d value frame = energy_sum (pair_energy d value frame) (pairs_of (length frame))
