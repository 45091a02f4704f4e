-- The filter of distances: a distance is a length times n / d, rounded down.
use Rattle.std.specs.Prelude.{ℕ, ℤ, List, pos, ◌≡◌, ◌*◌, ◌/◌, ◌^◌, ◌≤◌, ◌<◌, slice_index_or}
use Rattle.std.specs.Float.Ieee.{Float}
use Rattle.fixed.specs.Roots.{root}
use Rattle.float_filters.specs.Near.{IsNearRoot}
use Rattle.float_filters.specs.Floors.{lane}
use Rattle.float_filters.specs.Propositions.{near_root_prop}

-- the limit of squares of lengths, and the factor n / d of lengths, have sizes for which the roundings are bounded
pub record IsScale (limit n d : ℕ) : Type 0 where
  pub small : limit ≤ 2 ^ 112
  pub dividend : 0 < n
  pub dividend_fits : n ≤ 2 ^ 32
  pub divisor : 0 < d
  pub divisor_fits : d ≤ 2 ^ 32

-- the margin of floors is near 2^-49 of n / d times the root of the limit
abbrev pub IsMargin : ℕ → ℕ → ℕ → Float → Type 0
IsMargin limit n d margin = IsNearRoot 11 margin (limit * (n * n)) (d * d * 2 ^ 98)

pub margin_prop : (limit n d : ℕ) (margin : Float) → IsProp (IsMargin limit n d margin)
margin_prop limit n d margin = near_root_prop 11 margin _ _

-- n / d times the root of s, rounded down
abbrev pub distance_of : ℕ → ℕ → ℕ → ℕ
distance_of s n d = root (s * (n * n)) / d

-- z has distances from the core on, for all numbers up to the limit whose roots the lengths may stand for
pub record AreDistances (core limit n d : ℕ) (lengths : List Float) (z : List ℤ) : Type 0 where
  pub value : (k s : ℕ) → k < 4 → s ≤ limit → IsNearRoot 7 (lane lengths k) s 1 → slice_index_or z k (pos 0) ≡ pos (distance_of s n d)
  pub from_core : (k s : ℕ) → k < 4 → s ≤ limit → IsNearRoot 7 (lane lengths k) s 1 → core ≤ distance_of s n d
