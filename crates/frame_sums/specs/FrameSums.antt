-- The totals of a frame, over all pairs of its atoms: the energy, and the sums over interacting pairs. For some of the
-- sums, what they are over all pairs: the virial, which is a tensor, the square of the least distance, and the number of
-- pairs nearer than the core.
use Rattle.std.specs.Prelude.{◌≡◌, ℕ, ℤ, Bool, length, Option, Some, None, option_map, count_by}
use Rattle.ring_box.specs.Distances.{is_near, square_of}
use Rattle.ring_box.specs.Forces.{acting_distance_of}
use Rattle.ring_box.specs.Places.{places_of}
use Rattle.frame_sums.specs.PairEnergies.{energy_of}
use Rattle.frame_sums.specs.PairSums.{no_sums, sums_between, sums_over, virial_between}
use Rattle.frame_sums.specs.Sums.{least_over, tensors_over}
use Rattle.integrator.specs.Forces.{force_or_none, pairs_of}
use Rattle.integrator.specs.Frames.{Dynamics, Frame, pair_force}
use Rattle.observables.specs.declared.observations.PairSums.{PairSums}
use Rattle.observables.specs.declared.observations.PairTotals.{PairTotals}
use Rattle.ring_box.specs.declared.vectors.Vector.{Vector}

-- ---- all sums

-- sums, if a pair interacts at a distance, otherwise the sums over no pairs
abbrev pub if_acting : PairSums → Option ℤ → PairSums
if_acting sums None = no_sums
if_acting sums (Some r) = sums

-- the sums over a pair of a frame
abbrev pub pair_sums : Dynamics → Frame → ℕ × ℕ → PairSums
pair_sums d frame p =
    if_acting
    (sums_between d.frac d.ring d.core (force_or_none (pair_force d frame) p) (places_of frame p.0) (places_of frame p.1))
    (acting_distance_of d.frac d.ring d.core d.cutoff (places_of frame p.0) (places_of frame p.1))

-- the sums over all pairs of a frame
abbrev pub pair_sums_of : Dynamics → Frame → PairSums
pair_sums_of d frame = sums_over (pair_sums d frame) (pairs_of (length frame))

-- what a pass over the pairs of a frame sums; `value` is the energy of a pair at a distance
pub record ArePairTotals (d : Dynamics) (value : ℕ × ℕ → ℤ → Option ℤ) (frame : Frame) (t : PairTotals) : Type 0 where
  pub energy : energy_of d value frame ≡ Some t.energy
  pub sums : t.sums ≡ pair_sums_of d frame

-- ---- each sum over all pairs

-- the virial of a pair; zero if the pair doesn't interact
abbrev pub pair_virial : Dynamics → Frame → ℕ × ℕ → Vector (Vector ℤ)
pair_virial d frame p = virial_between (force_or_none (pair_force d frame) p) (places_of frame p.0) (places_of frame p.1)

-- the virial of all pairs
abbrev pub virial_of : Dynamics → Frame → Vector (Vector ℤ)
virial_of d frame = tensors_over (pair_virial d frame) (pairs_of (length frame))

-- the square of the distance of a pair, if it interacts
abbrev pub acting_square : Dynamics → Frame → ℕ × ℕ → Option ℕ
acting_square d frame p =
    option_map (λ r. square_of d.ring (places_of frame p.0) (places_of frame p.1))
    (acting_distance_of d.frac d.ring d.core d.cutoff (places_of frame p.0) (places_of frame p.1))

-- the square of the distance of the nearest interacting pair
abbrev pub least_square_of : Dynamics → Frame → Option ℕ
least_square_of d frame = least_over (acting_square d frame) (pairs_of (length frame))

-- the distance of a pair is below the core, so that its energy and its force are those at the core
abbrev pub is_in_core : Dynamics → Frame → ℕ × ℕ → Bool
is_in_core d frame p = is_near d.frac (square_of d.ring (places_of frame p.0) (places_of frame p.1)) d.core

-- the number of pairs nearer than the core
abbrev pub core_pairs_of : Dynamics → Frame → ℕ
core_pairs_of d frame = count_by (is_in_core d frame) (pairs_of (length frame))
