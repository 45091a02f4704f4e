-- Floors, and multiples of one, rise.
use Rattle.std.proofs.Common.{ℕ, suc, ◌*◌, ◌/◌, ◌^◌, ◌<◌, ◌≤◌, ⊎_elim, arith, ℤ, pos, negsuc, neg_ℤ, ◌*ℤ◌, ◌≤ℤ◌}
use Rattle.std.proofs.lemmas.Int.{ints}
use Rattle.std.proofs.lemmas.Bool.{cases_lt}
use Rattle.std.proofs.Math.Nat.{mul-le-mul_left, mul-le-mul_right}
use lib.IntN.{*ℤ_comm, *ℤ-negsuc, pos-*ℤ-pos, pos-*ℤ-negsuc}
use Rattle.fixed.specs.Arithmetic.{floor_over, whole_of}
use Rattle.fixed.proofs.FloorLemmas.{two_pos}

-- a quotient of natural numbers rises in the dividend and falls in the divisor
pub div_rises : (a b n : ℕ) → 0 < n → a ≤ b → a / n ≤ b / n
div_rises a b n p h =
    ⊎_elim
    (λ (lt : b / n < a / n). let k : n * suc (b / n) ≤ n * (a / n) = mul-le-mul_left n lt in absurd (omega (arith, k)))
    (λ le. le)
    (cases_lt (b / n) (a / n))

-- a quotient of natural numbers falls in the divisor
pub div_falls : (a m n : ℕ) → 0 < m → m ≤ n → a / n ≤ a / m
div_falls a m n p h =
    let q : 0 < n = omega arith in
    ⊎_elim
    (λ (lt : a / m < a / n).
    let k : m * suc (a / m) ≤ m * (a / n) = mul-le-mul_left m lt in
    let l : m * (a / n) ≤ n * (a / n) = mul-le-mul_right (a / n) h in
    absurd (omega (arith, k, l)))
    (λ le. le)
    (cases_lt (a / m) (a / n))

-- the floor over a positive number rises in the dividend
pub floor_rises : (d : ℕ) (x y : ℤ) → 0 < d → x ≤ℤ y → floor_over x d ≤ℤ floor_over y d
floor_rises d (pos a) (pos b) p h = omega (arith, ints, div_rises a b d p (omega (arith, ints)))
floor_rises d (pos a) (negsuc b) p h = absurd (omega (arith, ints))
floor_rises d (negsuc a) (pos b) p h = omega (arith, ints)
floor_rises d (negsuc a) (negsuc b) p h = omega (arith, ints, div_rises b a d p (omega (arith, ints)))

-- products with a natural number rise, and with a negative number fall
pub scale_up : (m : ℕ) (x y : ℤ) → x ≤ℤ y → (pos m *ℤ x) ≤ℤ (pos m *ℤ y)
scale_up m (pos a) (pos b) h =
    let k : a ≤ b = omega (arith, ints) in rw (pos-*ℤ-pos m a, pos-*ℤ-pos m b) (omega (arith, ints, mul-le-mul_left m k))
scale_up m (pos a) (negsuc b) h = absurd (omega (arith, ints))
scale_up m (negsuc a) (pos b) h = rw (pos-*ℤ-negsuc m a, pos-*ℤ-pos m b) (omega (arith, ints))
scale_up m (negsuc a) (negsuc b) h =
    let k : suc b ≤ suc a = omega (arith, ints) in rw (pos-*ℤ-negsuc m a, pos-*ℤ-negsuc m b) (omega (arith, ints, mul-le-mul_left m k))

-- products with a negative number fall
pub scale_down : (m : ℕ) (x y : ℤ) → x ≤ℤ y → (negsuc m *ℤ y) ≤ℤ (negsuc m *ℤ x)
scale_down m x y h =
    let k = scale_up (suc m) x y h in
    rw (*ℤ_comm (negsuc m) y, *ℤ_comm (negsuc m) x, *ℤ-negsuc y m, *ℤ-negsuc x m, *ℤ_comm y (pos (suc m)), *ℤ_comm x (pos (suc m))) (omega (arith, ints))

-- multiplication by a natural number on the right preserves order
pub times_rises : (m : ℕ) (x y : ℤ) → x ≤ℤ y → (x *ℤ pos m) ≤ℤ (y *ℤ pos m)
times_rises m x y h = rw (*ℤ_comm x (pos m), *ℤ_comm y (pos m)) (scale_up m x y h)

-- the greatest multiple of one that is at most a number rises
pub whole_rises : (bits : ℕ) (x y : ℤ) → x ≤ℤ y → whole_of bits x ≤ℤ whole_of bits y
whole_rises bits x y h = times_rises (2 ^ bits) (floor_over x (2 ^ bits)) (floor_over y (2 ^ bits)) (floor_rises (2 ^ bits) x y (two_pos bits) h)

-- the least multiple of one that is at least x
abbrev pub least_multiple_of : ℕ → ℤ → ℤ
least_multiple_of bits x = neg_ℤ (whole_of bits (neg_ℤ x))

-- it rises
pub least_multiple_rises : (bits : ℕ) (x y : ℤ) → x ≤ℤ y → least_multiple_of bits x ≤ℤ least_multiple_of bits y
least_multiple_rises bits x y h = let k = whole_rises bits (neg_ℤ y) (neg_ℤ x) (omega (arith, ints)) in omega (arith, ints)
