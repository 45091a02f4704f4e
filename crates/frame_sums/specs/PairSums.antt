-- Sums over the interacting pairs of a frame: their virial, a tensor; the square of the distance of the nearest pair; and
-- the number of pairs nearer than the core. Each has a row: for no pairs, for pairs and more pairs, and for one pair.
use Rattle.std.specs.Prelude.{◌≡◌, ℕ, ℤ, pos, ◌+◌, ◌*ℤ◌, length, if◌then◌else◌, List, Some, None}
use Rattle.fixed.specs.declared.frac.Frac.{Frac}
use Rattle.ring_box.specs.Axes.{along, by_axis, component_along}
use Rattle.ring_box.specs.Distances.{is_near, square_of}
use Rattle.ring_box.specs.Places.{difference, places_of}
use Rattle.ring_box.specs.declared.boxes.RingBox.{RingBox}
use Rattle.ring_box.specs.declared.vectors.Place3.{Place3}
use Rattle.ring_box.specs.declared.vectors.Vector.{Vector}
use Rattle.rounds.specs.Tiles.{component}
use Rattle.rounds.specs.declared.work.PairAdd.{PairAdd}
use Rattle.integrator.specs.Forces.{plus}
use Rattle.observables.specs.Bounds.{AreBounded}
use Rattle.observables.specs.declared.observations.PairSums.{PairSums}
use Rattle.frame_sums.specs.Sums.{lesser, total_over}

-- ---- virials

-- The virial of two atoms at p and q, with this force on the one at p: for each two axes a and b, the force along a times
-- the grid units from q to p along b, the shorter way round the periodic box.
abbrev pub virial_between : Vector ℤ → Place3 → Place3 → Vector (Vector ℤ)
virial_between f p q = by_axis (λ a. by_axis (λ b. component_along a f *ℤ difference (along b p) (along b q)))

-- the tensor 0
abbrev pub no_tensor : Vector (Vector ℤ)
no_tensor = by_axis (λ a. by_axis (λ b. pos 0))

-- the sum of two tensors
abbrev pub plus_tensors : Vector (Vector ℤ) → Vector (Vector ℤ) → Vector (Vector ℤ)
plus_tensors s t = by_axis (λ a. plus (component_along a s) (component_along a t))

-- ---- pairs nearer than the core

-- the number of a pair, if its distance has the square s, among the pairs nearer than the core
abbrev pub core_pair_at : Frac → ℤ → ℕ → ℕ
core_pair_at frac core s = if is_near frac s core then 1 else 0

-- ---- all sums

-- the sums over no pairs
abbrev pub no_sums : PairSums
no_sums = record {
  virial = no_tensor;
  nearest = None;
  core_pairs = 0;
}

-- the sums over the pairs of two lists
abbrev pub plus_sums : PairSums → PairSums → PairSums
plus_sums a b = record {
  virial = plus_tensors a.virial b.virial;
  nearest = lesser a.nearest b.nearest;
  core_pairs = a.core_pairs + b.core_pairs;
}

-- the sums over one interacting pair of atoms at p and q, with the force f on the one at p
abbrev pub sums_between : Frac → RingBox → (core : ℤ) → Vector ℤ → Place3 → Place3 → PairSums
sums_between frac ring core f p q = record {
  virial = virial_between f p q;
  nearest = Some (square_of ring p q);
  core_pairs = core_pair_at frac core (square_of ring p q);
}

-- the sums over the pairs of a list, if `f` gives the sums over each pair
abbrev pub sums_over : {X : Type 0} → (X → PairSums) → List X → PairSums
sums_over f xs = total_over no_sums plus_sums f xs

-- ---- of pairs with their forces

-- a force from its three components
abbrev pub force_in : List ℤ → Vector ℤ
force_in f = record { x = component f 0; y = component f 1; z = component f 2 }

module _ (frac : Frac) (ring : RingBox) (core : ℤ) (frame : List Place3) where
  -- the sums over an interacting pair of atoms of the frame
  abbrev pub sums_of : PairAdd → PairSums
  sums_of add = sums_between frac ring core (force_in add.force) (places_of frame add.low) (places_of frame add.high)

  -- the sums over pairs, within their bounds
  pub record AreSumsOfPairs (adds : List PairAdd) (sums : PairSums) : Type 0 where
    pub value : sums ≡ sums_over sums_of adds
    pub bounded : AreBounded (length adds) sums
