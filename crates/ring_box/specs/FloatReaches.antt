-- The range of distances at which pairs interact, in floating point.
use Rattle.std.specs.Prelude.{ℕ, ℤ, pos, ◌≡◌, ◌^◌, ◌<◌, ◌≤◌, ◌≤ℤ◌}
use Rattle.std.specs.Int.{int_max}
use Rattle.std.specs.Float.Ieee.{Float}
use Rattle.fixed.specs.Roots.{root}
use Rattle.fixed.specs.declared.frac.Frac.{Frac}
use Rattle.fixed.specs.declared.frac.Frac.TheVariants.{F24, F32, F40}
use Rattle.float_filters.specs.Forces.{IsSlack}
use Rattle.float_filters.specs.Limits.{IsAround}
use Rattle.float_filters.specs.Near.{IsNearRoot}
use Rattle.float_filters.specs.declared.distance_filters.DistanceFilter.{DistanceFilter}
use Rattle.ring_box.specs.Acting.{IsReach, Reach, limit_of}
use Rattle.ring_box.specs.Distances.{distance_at, unit_of}
use Rattle.ring_box.specs.declared.float_reaches.FloatReach.{FloatReach}

-- the limit of squares and its root; the limit is at most 2^112
pub record IsNearReach (d : Reach) (near : FloatReach) : Type 0 where
  pub reach : IsReach d
  pub fits : limit_of d.frac d.cutoff ≤ 2 ^ 112
  pub limit : IsAround (limit_of d.frac d.cutoff) near.limit
  pub longest : IsNearRoot 5 near.longest (limit_of d.frac d.cutoff) 1

-- a length times this, over the unit of distance, is the distance; its square is `widening_of`
abbrev pub scale_of : Frac → ℕ
scale_of F24 = 1
scale_of F32 = 1
scale_of F40 = 256

-- the filter of distances within reach; its core is at least the core
pub record IsFilter (d : Reach) (filter : DistanceFilter) : Type 0 where
  pub limit : filter.limit ≡ limit_of d.frac d.cutoff
  pub dividend : filter.dividend ≡ scale_of d.frac
  pub divisor : filter.divisor ≡ unit_of d.frac
  pub core : d.core ≤ℤ pos filter.core

-- the distance at which the force of a pair is evaluated whose separation has the square s
abbrev pub taken_at : Reach → ℕ → ℤ
taken_at d s = int_max (pos (distance_at d.frac s)) d.core

-- the slack of forces for the line of each pair within reach
abbrev pub IsReachSlack : Reach → Float → Type 0
IsReachSlack d slack = (s : ℕ) → s < limit_of d.frac d.cutoff → IsSlack (root s) slack
