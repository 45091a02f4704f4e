-- Bounds of the integers in an observation.
use Rattle.std.specs.Prelude.{ℕ, ℤ, ◌*◌, ◌^◌, ◌<◌, ◌≤◌}
use Rattle.std.specs.Option.{ForSome}
use Rattle.ring_box.specs.Forces.{IsWithin}
use Rattle.ring_box.specs.declared.vectors.Vector.{Vector}
use Rattle.observables.specs.declared.observations.PairSums.{PairSums}

-- each component is below the limit
pub record AreBelow (limit : ℕ) (n : Vector ℕ) : Type 0 where
  pub x : n.x < limit
  pub y : n.y < limit
  pub z : n.z < limit

-- each component of each vector is from -limit to limit
pub record AreAllWithin (limit : ℕ) (n : Vector (Vector ℤ)) : Type 0 where
  pub x : IsWithin limit n.x
  pub y : IsWithin limit n.y
  pub z : IsWithin limit n.z

-- The sums over n pairs are within their bounds. Forces are below 2^63, and differences of grid coordinates at most 2^31.
-- No separation in a box has a square of more than 112 bits.
pub record AreBounded (n : ℕ) (s : PairSums) : Type 0 where
  pub virial : AreAllWithin (n * 2 ^ 94) s.virial
  pub nearest : ForSome s.nearest (λ q. q < 2 ^ 112)
  pub core_pairs : s.core_pairs ≤ n

-- n is at least `low` and below `high`
pub record IsBetween (low high n : ℕ) : Type 0 where
  pub least : low ≤ n
  pub below : n < high
