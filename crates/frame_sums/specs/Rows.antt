-- Interacting pairs in batches: first the geometry of each pair, then the derivative of its energy, then its force.
use Rattle.std.specs.Prelude.{ℕ, ◌<◌, ◌≤◌, ℤ, ◌≤ℤ◌, ◌<ℤ◌, ◌≡◌, ◌^◌, List, [], ◌∷◌, ◌++◌, length, map, suc, neg_ℤ, pos, take, unsigned_abs, Option, Some, slice_get, slice_index, slice_index_or, flat_map}
use Rattle.kernel_lanes.specs.declared.queries.Query.{Query}
use Rattle.kernel_lanes.specs.Flats.{query_at}
use Rattle.ring_box.specs.Acting.{Reach, force_of}
use Rattle.ring_box.specs.FoundPairs.{found_pair_of}
use Rattle.ring_box.specs.PairForces.{force_in}
use Rattle.ring_box.specs.declared.pair_forces.PairForces.{PairForces}
use Rattle.rounds.specs.Tiles.{acting}
use Rattle.rounds.specs.declared.work.PairAdd.{PairAdd}
use Rattle.ring_box.specs.Places.{places_of}
use Rattle.integrator.specs.Frames.{Frame}
use Rattle.integrator.specs.declared.systems.System.{System}
use Rattle.frame_sums.specs.Rounds.{pair_add}
use Rattle.potential.specs.Potentials.{minus, potential_of, slope_at}
use Rattle.ring_box.specs.declared.found_pairs.FoundPair.{FoundPair}
use Rattle.potential.specs.declared.slope_kernels.SlopeKernel.{SlopeKernel}

-- the forces of pairs as the round adds them: those in the lanes from l on
abbrev pub adds_from : (l : ℕ) → List FoundPair → PairForces → List PairAdd
adds_from l [] forces = []
adds_from l (f ∷ found) forces = pair_add f.low f.high (force_in forces l) ∷ adds_from (suc l) found forces

module _ {A : Type 0} (s : System (SlopeKernel A) A) where
  -- the range of distances at which pairs interact
  abbrev pub reach_of : Reach
  reach_of = record { frac = s.frac; core = s.core; cutoff = s.cutoff }

  -- a pair with its geometry; none if it doesn't interact
  abbrev pub found_of : Frame → ℕ × ℕ → Option FoundPair
  found_of frame p = found_pair_of reach_of s.ring p.0 p.1 (places_of frame p.0) (places_of frame p.1)

  -- the pair is two of `atoms` atoms, the lower first, and its distance is from the core to below the cutoff
  pub record IsFound (atoms : ℕ) (f : FoundPair) : Type 0 where
    pub ordered : f.low < f.high
    pub inside : f.high < atoms
    pub core : s.core ≤ℤ f.acting.distance
    pub cutoff : f.acting.distance <ℤ s.cutoff

  -- the interacting pairs before the number n are those before k, followed by `found`
  pub record AreNextFound (frame : Frame) (pairs : List (ℕ × ℕ)) (k : ℕ) (found : List FoundPair) (n : ℕ) : Type 0 where
    pub onward : k < n
    pub within : n ≤ length pairs
    pub acting : acting (map (found_of frame) (take n pairs)) ≡ acting (map (found_of frame) (take k pairs)) ++ found

  -- the query for a pair: its types and its distance
  abbrev pub query_of : FoundPair → Query
  query_of f = record { a = slice_index s.types.items f.low; b = slice_index s.types.items f.high; r = f.acting.distance }

  -- minus the derivative of the energy for a query
  abbrev pub minus_slope_for : Query → ℤ
  minus_slope_for query = minus (slope_at (potential_of s.kernel) query.a query.b query.r)

  -- v is the derivative for the query, and its negative fits 64 bits
  pub record IsSlope (query : Query) (v : ℤ) : Type 0 where
    pub value : neg_ℤ v ≡ minus_slope_for query
    pub fits : unsigned_abs v < 2 ^ 63

  -- the first elements of `slopes` are the derivatives for the queries
  abbrev pub AreSlopes : List Query → List ℤ → Type 0
  AreSlopes queries slopes = (l : ℕ) → l < length queries → IsSlope (query_at queries l) (slice_index_or slopes l (pos 0))

  -- the force of a pair with this geometry
  abbrev pub add_found : FoundPair → PairAdd
  add_found f = pair_add f.low f.high (force_of f.acting (minus_slope_for (query_of f)))

  -- the lanes of pairs hold their forces
  abbrev pub AreFoundForces : List FoundPair → PairForces → Type 0
  AreFoundForces found forces =
      (l : ℕ) (f : FoundPair) → slice_get found l ≡ Some f → force_in forces l ≡ force_of f.acting (minus_slope_for (query_of f))

  -- the interacting pairs of a list
  abbrev pub found_in : Frame → List (ℕ × ℕ) → List FoundPair
  found_in frame ps = acting (map (found_of frame) ps)

  -- the interacting pairs of lists, one list after another
  abbrev pub pairs_found : Frame → List (List (ℕ × ℕ)) → List FoundPair
  pairs_found frame lists = flat_map (found_in frame) lists
