-- Limits of squares in floating point.
use Rattle.std.specs.Prelude.{ℕ, ◌+◌, ◌-◌, ◌*◌, ◌^◌}
use Rattle.float_filters.specs.Near.{IsNear}
use Rattle.float_filters.specs.declared.limits.FloatLimit.{FloatLimit}

-- the ends are below the limit and above it, each near a distance of 2^-49 of the limit
pub record IsAround (limit : ℕ) (ends : FloatLimit) : Type 0 where
  pub low : IsNear 4 ends.low (limit * (2 ^ 49 - 1)) (2 ^ 49)
  pub high : IsNear 4 ends.high (limit * (2 ^ 49 + 1)) (2 ^ 49)
