-- Ordered exact numbers, and integers that enclose a number.
use Rattle.std.specs.Prelude.{◌≡◌, ℕ, ℤ, pos, ◌+ℤ◌, ◌-ℤ◌, true, false, Some}
use Rattle.derivative.specs.Exact.{AreExact, Numbers, integer, whole}

-- the number x is at most y
abbrev pub AtMost : {V : Type 0} → Numbers V → V → V → Type 0
AtMost k x y = k.is_at_most x y ≡ true

-- n is the floor of x: n is at most x, and n + 1 is above x
pub record IsFloorOf {V : Type 0} (k : Numbers V) (x : V) (n : ℤ) : Type 0 where
  pub at_most : AtMost k (integer k.ring n) x
  pub next_above : k.is_at_most (integer k.ring (n +ℤ pos 1)) x ≡ false

-- n is the ceiling of x: n is at least x, and n - 1 is below x
pub record IsCeilingOf {V : Type 0} (k : Numbers V) (x : V) (n : ℤ) : Type 0 where
  pub at_least : AtMost k x (integer k.ring n)
  pub last_below : k.is_at_most x (integer k.ring (n -ℤ pos 1)) ≡ false

-- The laws of ordered exact numbers, which real numbers satisfy, and rational numbers if a root may be missing: exact
-- numbers in a total order that products of numbers from 0 preserve. A root isn't negative. Floors and ceilings are
-- integers.
pub record AreOrdered {V : Type 0} (k : Numbers V) : Type 0 where
  pub are_exact : AreExact k
  pub total : (x y : V) → k.is_at_most x y ≡ false → AtMost k y x
  pub antisymmetric : (x y : V) → AtMost k x y → AtMost k y x → x ≡ y
  pub transitive : (x y z : V) → AtMost k x y → AtMost k y z → AtMost k x z
  pub times_kept : (x y : V) → AtMost k k.ring.zero x → AtMost k k.ring.zero y → AtMost k k.ring.zero (k.ring.times x y)
  pub root_from_zero : (x y : V) → k.root x ≡ Some y → AtMost k k.ring.zero y
  pub floor_is : (x : V) → (n : ℤ) × (k.floor x ≡ integer k.ring n) × IsFloorOf k x n
  pub ceiling_is : (x : V) → (n : ℤ) × (k.ceiling x ≡ integer k.ring n) × IsCeilingOf k x n

-- the number x, in units of 1 / scale, is from the integer lo to the integer hi
pub record IsBetween {V : Type 0} (k : Numbers V) (scale : ℕ) (lo hi : ℤ) (x : V) : Type 0 where
  pub low : AtMost k (integer k.ring lo) (k.ring.times (whole k.ring scale) x)
  pub high : AtMost k (k.ring.times (whole k.ring scale) x) (integer k.ring hi)
