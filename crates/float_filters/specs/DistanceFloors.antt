-- Distances, decided in floating point.
use Rattle.std.specs.Prelude.{ℕ, ℤ, List, pos, ◌≡◌, ◌+◌, ◌*◌, ◌^◌, ◌<◌, ◌≤◌, slice_index_or}
use Rattle.std.specs.Float.Ieee.{Float}
use Rattle.std.specs.Float.{NotNan}
use Rattle.float_filters.specs.Near.{IsNearRoot}
use Rattle.float_filters.specs.Floors.{IsInteger, IsSet, lane, positive_part}

-- v is the floor of the root of s / u^2, and at least the core
pub record IsFloorOfRoot (core s u : ℕ) (v : ℤ) : Type 0 where
  pub distance : (n : ℕ) × (v ≡ pos n) × (core ≤ n) × (u * n * (u * n) ≤ s) × (s < u * (n + 1) * (u * (n + 1)))

-- In a lane that is set, t is a number; and t - 3 * 2^51 is the floor of the root of s / u^2 unless it is 0 or negative, for all
-- exact numbers that the products and the margins may stand for.
pub record AreRootFloors (products margins t : List Float) (mask : List ℤ) : Type 0 where
  pub number : (k : ℕ) → k < 4 → IsSet mask k → NotNan (lane t k)
  pub each : (k : ℕ) → k < 4 → IsSet mask k → (s limit u : ℕ) → 0 < u → s ≤ limit → limit ≤ 2 ^ 300
      → IsNearRoot 11 (lane products k) s (u * u) → IsNearRoot 11 (lane margins k) limit (u * u * 2 ^ 98)
      → IsInteger (lane t k) (positive_part (lane t k))
      × ((n : ℕ) → 0 < n → positive_part (lane t k) ≡ n + 3 * 2 ^ 51 → (u * n * (u * n) ≤ s) × (s < u * (n + 1) * (u * (n + 1))))

-- v has the floors of roots of s / u^2, for all exact numbers that the products may stand for: each product is near the root
-- of s / u^2, and the margin near 2^-49 of the root of limit / u^2, for a limit that s doesn't exceed
pub record AreFloorsOfRoots (products : List Float) (margin : Float) (core : ℕ) (v : List ℤ) : Type 0 where
  pub each : (k : ℕ) → k < 4 → (s limit u : ℕ) → 0 < u → s ≤ limit → limit ≤ 2 ^ 300
      → IsNearRoot 11 (lane products k) s (u * u) → IsNearRoot 11 margin limit (u * u * 2 ^ 98)
      → IsFloorOfRoot core s u (slice_index_or v k (pos 0))
