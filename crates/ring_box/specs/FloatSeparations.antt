-- Separations in floating point.
use Rattle.std.specs.Prelude.{ℕ, ℤ, pos, ◌+◌, ◌^◌, ◌≤◌, ◌*ℤ◌, unsigned_abs}
use Rattle.float_filters.specs.Near.{IsNearInteger}
use Rattle.ring_box.specs.Distances.{square}
use Rattle.ring_box.specs.declared.boxes.RingBox.{RingBox}
use Rattle.ring_box.specs.declared.separations.FloatSeparation.{FloatSeparation}
use Rattle.ring_box.specs.declared.separations.GridSeparation.{GridSeparation}

-- the sum of three squares
abbrev pub squares_of : ℤ → ℤ → ℤ → ℕ
squares_of a b c = square a + square b + square c

-- the square of a separation in grid units, in the square of 10^-5 nm over 2^32
abbrev pub grid_square : RingBox → GridSeparation → ℕ
grid_square b g = squares_of (g.x *ℤ pos b.x) (g.y *ℤ pos b.y) (g.z *ℤ pos b.z)

-- integers so small that the sum of their squares is in the range of floats near it
pub record AreShort (a b c : ℤ) : Type 0 where
  pub x : unsigned_abs a ≤ 2 ^ 90
  pub y : unsigned_abs b ≤ 2 ^ 90
  pub z : unsigned_abs c ≤ 2 ^ 90

-- the floats are near the integers a, b and c, with one rounding each
pub record IsNearSeparation (a b c : ℤ) (near : FloatSeparation) : Type 0 where
  pub x : IsNearInteger 1 near.x a
  pub y : IsNearInteger 1 near.y b
  pub z : IsNearInteger 1 near.z c
