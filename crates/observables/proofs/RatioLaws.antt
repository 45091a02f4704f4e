-- Fractions within bounds, and the decimals nearest to them.
use Rattle.std.proofs.Common.{ℕ, suc, ◌+◌, ◌*◌, ◌^◌, ◌<◌, ◌≤◌, ℤ, pos, negsuc, ◌+ℤ◌, ◌*ℤ◌, unsigned_abs, refl, arith}
use Rattle.std.specs.Prelude.{FitsSigned}
use Rattle.std.specs.Int.{w128}
use Rattle.std.proofs.lemmas.Bool.{cases_lt}
use Rattle.std.proofs.lemmas.Int.{ints, unsigned_abs-mul, fits_signed_from_abs}
use Rattle.std.proofs.lemmas.Nat.{mul-le}
use Rattle.std.proofs.Common.{inl, inr}
use Rattle.fixed.specs.Rounding.{IsNearest, nearest_of}
use Rattle.fixed.proofs.FloorLemmas.{nearest_is}
use Rattle.observables.specs.Ratios.{Ratio, plus, times, over, IsWithin}

nearest_at_most : (a q : ℤ) (b k : ℕ) → 0 < b → unsigned_abs a ≤ k * b → IsNearest a (pos b) q → unsigned_abs q ≤ k
nearest_at_most a (pos n) b k p h i =
    let l = i.half_below in
    elim (cases_lt k n) [
      | inl more ↦ let m = mul-le (suc k) b n b (omega arith) (omega arith) in absurd (omega (arith, ints))
      | inr most ↦ most
    ]
nearest_at_most a (negsuc n) b k p h i =
    let u = i.half_above in
    elim (cases_lt k (suc n)) [
      | inl more ↦ let m = mul-le (suc k) b (suc n) b (omega arith) (omega arith) in absurd (omega (arith, ints))
      | inr most ↦ most
    ]

-- if a fraction's magnitude is at most an integer k, the magnitude of the nearest integer is at most k
pub nearest_within : (a : ℤ) (b k : ℕ) → 0 < b → unsigned_abs a ≤ k * b → unsigned_abs (nearest_of a (pos b)) ≤ k
nearest_within a b k p h = nearest_at_most a (nearest_of a (pos b)) b k p h (nearest_is a (pos b) (nearest_of a (pos b)) (omega (arith, ints)) refl)

-- a sum is no greater than its parts
pub abs_sum : (x y : ℤ) → unsigned_abs (x +ℤ y) ≤ unsigned_abs x + unsigned_abs y
abs_sum (pos a) (pos b) = omega (arith, ints)
abs_sum (pos a) (negsuc b) = omega (arith, ints)
abs_sum (negsuc a) (pos b) = omega (arith, ints)
abs_sum (negsuc a) (negsuc b) = omega (arith, ints)

pub within_more : (k j : ℕ) (x : Ratio) → k ≤ j → IsWithin k x → IsWithin j x
within_more k j x h w = record { within = omega (arith, w.within, mul-le k x.denominator j x.denominator h (omega arith)) }

pub within_plus : (k j : ℕ) (x y : Ratio) → IsWithin k x → IsWithin j y → IsWithin (k + j) (plus x y)
within_plus k j x y v w =
    let a = unsigned_abs-mul x.numerator (pos y.denominator) in
    let b = unsigned_abs-mul y.numerator (pos x.denominator) in
    let s = abs_sum (x.numerator *ℤ pos y.denominator) (y.numerator *ℤ pos x.denominator) in
    let m = mul-le (unsigned_abs x.numerator) y.denominator (k * x.denominator) y.denominator v.within (omega arith) in
    let n = mul-le (unsigned_abs y.numerator) x.denominator (j * y.denominator) x.denominator w.within (omega arith) in
    record { within = omega (arith, a, b, s, m, n) }

pub within_times : (k m : ℕ) (x : Ratio) → IsWithin k x → IsWithin (k * m) (times x m)
within_times k m x w =
    let a = unsigned_abs-mul x.numerator (pos m) in
    let n = mul-le (unsigned_abs x.numerator) m (k * x.denominator) m w.within (omega arith) in
    record { within = omega (arith, a, n) }

pub within_over : (k m : ℕ) (x : Ratio) → IsWithin (k * m) x → IsWithin k (over x m)
within_over k m x w = record { within = omega (arith, w.within) }

-- the fraction n / d meets the requirements of `nearest`
pub record HasDecimal (n : ℤ) (d : ℕ) : Type 0 where
  pub positive : 0 < d
  pub room : 2 * unsigned_abs n + d < 2 ^ 512
  pub fits : FitsSigned w128 (nearest_of n (pos d))

-- a fraction of magnitude at most k, in units of the last of its decimals, meets the requirements of `nearest` if
-- k * 10^decimals is below 2^127 and the denominator is below 2^380
pub has_decimal : (k decimals : ℕ) (x : Ratio) → 0 < x.denominator → x.denominator < 2 ^ 380 → k * 10 ^ decimals < 2 ^ 127 → IsWithin k x
    → HasDecimal (x.numerator *ℤ pos (10 ^ decimals)) x.denominator
has_decimal k decimals x p small few w =
    let n = within_times k (10 ^ decimals) x w in
    let most = mul-le (k * 10 ^ decimals) x.denominator (2 ^ 127) x.denominator (omega arith) (omega arith) in
    let near = nearest_within (x.numerator *ℤ pos (10 ^ decimals)) x.denominator (k * 10 ^ decimals) p n.within in
    record {
      positive = p;
      room = omega (arith, n.within, most);
      fits = fits_signed_from_abs w128 (nearest_of (x.numerator *ℤ pos (10 ^ decimals)) (pos x.denominator)) (omega (arith, near));
    }
