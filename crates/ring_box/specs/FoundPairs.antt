-- Batches of interacting pairs, stored contiguously.
use Rattle.std.specs.Prelude.{ℕ, ℤ, pos, Bool, ◌≡◌, ◌+◌, ◌≤◌, ◌<◌, ◌^◌, ◌*ℤ◌, List, length, map, take, slice_get, slice_index_or, neg_ℤ, unsigned_abs, Option, Some, option_map, filter_map, IsTrue}
use Rattle.std.specs.Float.Ieee.{Float}
use Rattle.std.specs.List.{All}
use Rattle.float_filters.specs.Floors.{lane}
use Rattle.float_filters.specs.Near.{IsNear, IsNearInteger, IsNearRoot}
use Rattle.ring_box.specs.Acting.{ActingPair, Reach, acting_from, acting_of, force_of, length_of, limit_of}
use Rattle.ring_box.specs.FloatReaches.{taken_at}
use Rattle.ring_box.specs.FloatSeparations.{squares_of}
use Rattle.ring_box.specs.Forces.{line_force_of}
use Rattle.ring_box.specs.PairForces.{force_in}
use Rattle.ring_box.specs.Places.{places_of}
use Rattle.ring_box.specs.declared.boxes.RingBox.{RingBox}
use Rattle.ring_box.specs.declared.found_pairs.FoundPair.{FoundPair}
use Rattle.ring_box.specs.declared.found_pairs.GridPair.{GridPair}
use Rattle.ring_box.specs.declared.found_pairs.PairLanes.{PairLanes}
use Rattle.float_filters.specs.declared.force_lanes.FourForces.{FourForces}
use Rattle.ring_box.specs.declared.pair_forces.PairForces.{PairForces}
use Rattle.ring_box.specs.declared.pairs.AtomPair.{AtomPair}
use Rattle.ring_box.specs.declared.vectors.Place3.{Place3}
use Rattle.ring_box.specs.declared.vectors.Vector.{Vector}

-- the pair of two atoms with these indices and its geometry; none if they don't interact
abbrev pub found_pair_of : Reach → RingBox → ℕ → ℕ → Place3 → Place3 → Option FoundPair
found_pair_of d b low high p q = option_map (λ (a : ActingPair). record { low = low; high = high; acting = a }) (acting_of d b p q)

-- a pair of atoms of a frame and its geometry; none if they don't interact
abbrev pub found_at : Reach → RingBox → List Place3 → AtomPair → Option FoundPair
found_at d b frame p = found_pair_of d b p.low p.high (places_of frame p.low) (places_of frame p.high)

-- the interacting pairs of a list of pairs of atoms of a frame, in order
abbrev pub found_among : Reach → RingBox → List Place3 → List AtomPair → List FoundPair
found_among d b frame near = filter_map (found_at d b frame) near

-- interacting pairs at this reach, in the order in which they were appended; the first `measured` of them are measured
pub record FoundPairs : Type 0 where
  pub reach : Reach
  pub pairs : List FoundPair
  pub measured : ℕ

-- ---- forces

-- the first derivatives have negatives that fit 64 bits
abbrev pub AreSlopesSmall : ℕ → List ℤ → Type 0
AreSlopesSmall count slopes = (l : ℕ) → l < count → unsigned_abs (slice_index_or slopes l (pos 0)) < 2 ^ 63

-- v is the force on the first atom of the pair with the index l, if there is one, given the derivatives at the pairs'
-- distances
abbrev pub IsForceAt : List FoundPair → List ℤ → ℕ → Vector ℤ → Type 0
IsForceAt pairs slopes l v =
    (f : FoundPair) → slice_get pairs l ≡ Some f → v ≡ force_of f.acting (neg_ℤ (slice_index_or slopes l (pos 0)))

-- the lanes before n hold the forces of the pairs
abbrev pub AreForcesBefore : List FoundPair → List ℤ → ℕ → PairForces → Type 0
AreForcesBefore pairs slopes n forces = (l : ℕ) → l < n → IsForceAt pairs slopes l (force_in forces l)

-- the lanes of pairs hold their forces
abbrev pub AreForcesOf : List FoundPair → List ℤ → PairForces → Type 0
AreForcesOf pairs slopes forces = (l : ℕ) → IsForceAt pairs slopes l (force_in forces l)

-- lane k of four forces
abbrev pub force_of_four : FourForces → ℕ → Vector ℤ
force_of_four v k = record { x = slice_index_or v.x k (pos 0); y = slice_index_or v.y k (pos 0); z = slice_index_or v.z k (pos 0) }

-- v has the forces of four pairs from the index l on
abbrev pub AreFourForces : List FoundPair → List ℤ → ℕ → FourForces → Type 0
AreFourForces pairs slopes l v = (k : ℕ) → k < 4 → IsForceAt pairs slopes (l + k) (force_of_four v k)

-- `to` has the forces of four pairs from lane l on, and before that the forces of `from`
pub record AreFourPut (pairs : List FoundPair) (slopes : List ℤ) (l : ℕ) (from to : PairForces) : Type 0 where
  pub inside : (k : ℕ) → k < 4 → IsForceAt pairs slopes (l + k) (force_in to (l + k))
  pub before : (k : ℕ) → k < l → force_in to k ≡ force_in from k

-- `to` has the forces of the pairs from the index l to before k, and before that the forces of `from`
pub record AreExactPut (pairs : List FoundPair) (slopes : List ℤ) (l k : ℕ) (from to : PairForces) : Type 0 where
  pub inside : (j : ℕ) → l ≤ j → j < k → IsForceAt pairs slopes j (force_in to j)
  pub before : (j : ℕ) → j < l → force_in to j ≡ force_in from j

-- ---- the representation

-- two atoms by their indices, and their separation along each axis
pub record PairInReach : Type 0 where
  pub low : ℕ
  pub high : ℕ
  pub x : ℤ
  pub y : ℤ
  pub z : ℤ

-- the pair whose separation is stored in grid units
abbrev pub scaled : RingBox → GridPair → PairInReach
scaled b p =
    record { low = p.low; high = p.high; x = p.grid.x *ℤ pos b.x; y = p.grid.y *ℤ pos b.y; z = p.grid.z *ℤ pos b.z }

-- the square of a pair's separation
abbrev pub squared : PairInReach → ℕ
squared p = squares_of p.x p.y p.z

-- the geometry of a pair, from its separation
abbrev pub found_from : Reach → PairInReach → FoundPair
found_from d p =
    record { low = p.low; high = p.high; acting = acting_from d p.x p.y p.z (squared p) }

abbrev pub IsBelowLimit : Reach → PairInReach → Type 0
IsBelowLimit d p = squared p < limit_of d.frac d.cutoff

-- the first `count` of 128 lanes hold pairs within reach
pub record AreInReach (d : Reach) (count : ℕ) (pairs : List PairInReach) : Type 0 where
  pub lanes : length pairs ≡ 128
  pub few : count ≤ 128
  pub near : All (IsBelowLimit d) (take count pairs)

-- the floats are near the components of the pair's separation and their sum of squares
pub record IsNearPair (p : PairInReach) (a b c s : Float) : Type 0 where
  pub x : IsNearInteger 1 a p.x
  pub y : IsNearInteger 1 b p.y
  pub z : IsNearInteger 1 c p.z
  pub square : IsNear 5 s (squared p) 1

-- the first `count` of 128 lanes hold floats for the pairs
pub record AreNearPairs (count : ℕ) (pairs : List PairInReach) (x y z squares : List Float) : Type 0 where
  pub near : (l : ℕ) (p : PairInReach) → l < count → IsNearPair (slice_index_or pairs l p) (lane x l) (lane y l) (lane z l) (lane squares l)
  pub x_lanes : length x ≡ 128
  pub y_lanes : length y ≡ 128
  pub z_lanes : length z ≡ 128
  pub square_lanes : length squares ≡ 128

-- the first `count` lanes hold pairs within reach, and floats for them
pub record AreHeld (d : Reach) (count : ℕ) (pairs : List PairInReach) (x y z squares : List Float) : Type 0 where
  pub held : AreInReach d count pairs
  pub floats : AreNearPairs count pairs x y z squares

-- the first `count` lanes hold pairs within reach, and floats for them
abbrev pub AreLanesHeld : Reach → RingBox → ℕ → PairLanes → Type 0
AreLanesHeld d b count lanes = AreHeld d count (map (scaled b) lanes.pairs) lanes.x lanes.y lanes.z lanes.squares

-- the pairs in the first `count` lanes
abbrev pub found_in : Reach → RingBox → ℕ → PairLanes → List FoundPair
found_in d b count lanes = map (found_from d) (take count (map (scaled b) lanes.pairs))

-- the first `count` of `distances` are the distances at which the forces of the pairs are evaluated
abbrev pub AreTaken : Reach → ℕ → List PairInReach → List ℤ → Type 0
AreTaken d count pairs distances =
    (l : ℕ) (p : PairInReach) → l < count → slice_index_or distances l (pos 0) ≡ taken_at d (squared (slice_index_or pairs l p))

-- the first `count` of `lengths` are near the lengths of the pairs' lines
abbrev pub AreNearLengths : ℕ → List PairInReach → List Float → Type 0
AreNearLengths count pairs lengths =
    (l : ℕ) (p : PairInReach) → l < count → IsNearRoot 7 (lane lengths l) (squared (slice_index_or pairs l p)) 1

-- none of the first `count` pairs has both atoms at one position
abbrev pub AreApart : ℕ → List PairInReach → Type 0
AreApart count pairs = (l : ℕ) (p : PairInReach) → l < count → 0 < squared (slice_index_or pairs l p)

-- v is the distance at which the pair's force is evaluated, and the atoms are at different positions if `apart`
pub record IsMeasured (d : Reach) (p : PairInReach) (apart : Bool) (v : ℤ) : Type 0 where
  pub taken : v ≡ taken_at d (squared p)
  pub apart' : IsTrue apart → 0 < squared p

-- of the first `count` pairs, those before the index n are measured
abbrev pub AreMeasuredBefore : Reach → ℕ → List PairInReach → Bool → ℕ → List ℤ → Type 0
AreMeasuredBefore d count pairs apart n distances =
    (l : ℕ) (p : PairInReach) → l < n → l < count → IsMeasured d (slice_index_or pairs l p) apart (slice_index_or distances l (pos 0))

-- of the first `count` pairs, four from the index l on are measured, and `to` has the distances of `from` before them
pub record AreFourMeasured (d : Reach) (count : ℕ) (pairs : List PairInReach) (l : ℕ) (apart : Bool) (from to : List ℤ) : Type 0 where
  pub inside : (k : ℕ) (p : PairInReach) → k < 4 → l + k < count
      → IsMeasured d (slice_index_or pairs (l + k) p) apart (slice_index_or to (l + k) (pos 0))
  pub before : (k : ℕ) → k < l → slice_index_or to k (pos 0) ≡ slice_index_or from k (pos 0)
  pub long : length to ≡ length from

-- the pairs from the index l to before k are measured, and `to` has the distances of `from` before them
pub record AreExactlyMeasured (d : Reach) (pairs : List PairInReach) (l k : ℕ) (apart : Bool) (from to : List ℤ) : Type 0 where
  pub inside : (j : ℕ) (p : PairInReach) → l ≤ j → j < k → IsMeasured d (slice_index_or pairs j p) apart (slice_index_or to j (pos 0))
  pub before : (j : ℕ) → j < l → slice_index_or to j (pos 0) ≡ slice_index_or from j (pos 0)
  pub long : length to ≡ length from

-- the first `measured` lanes hold lengths and distances, and those pairs are apart if `apart` says so
pub record AreMeasured (d : Reach) (count : ℕ) (pairs : List PairInReach) (lengths : List Float) (measured : ℕ) (apart : Bool)
    (distances : List ℤ) : Type 0 where
  pub before : measured ≤ count
  pub lengths' : AreNearLengths measured pairs lengths
  pub taken : AreTaken d measured pairs distances
  pub apart' : IsTrue apart → AreApart measured pairs

-- the force of the size g on the first atom of a pair, along its line
abbrev pub line_force_on : PairInReach → ℤ → Vector ℤ
line_force_on p g = line_force_of g p.x p.y p.z (length_of (squared p))
