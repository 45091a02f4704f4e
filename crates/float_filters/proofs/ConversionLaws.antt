-- Integers as floats.
use Rattle.std.proofs.Common.{◌≡◌, ℕ, ℤ, pos, negsuc, zero, suc, ◌+◌, ◌*◌, ◌/◌, ◌%◌, ◌^◌, ◌<◌, ◌≤◌, true, false, inl, inr, refl, subst, arith}
use Rattle.std.specs.Prelude.{unsigned_abs}
use Rattle.std.specs.Float.Ieee.{Float, binary64, add, mul, of_bits, of_int, round}
use lib.Ieee.Back.{round_whole}
use Rattle.float_filters.specs.Near.{IsNear, IsNearInteger}
use Rattle.float_filters.proofs.Fractions.{IsZeroOrModerate}
use Rattle.float_filters.proofs.Rounding.{exact_near}
use Rattle.float_filters.proofs.FloatLaws.{float_grows, near_product, near_sum, round_near}

-- a natural number up to 2^53 is a float
pub exact_natural : (n : ℕ) → n ≤ 2 ^ 53 → IsNear 0 (of_int binary64 (pos n)) n 1
unfolding of_int
exact_natural n h = exact_near (round binary64 false n 1) false n 1 (round_whole binary64 false n h)

-- an integer from -2^53 to 2^53 is a float
pub exact_integer : (z : ℤ) → unsigned_abs z ≤ 2 ^ 53 → IsNearInteger 0 (of_int binary64 z) z
unfolding of_int
exact_integer (pos n) h = exact_near (round binary64 false n 1) false n 1 (round_whole binary64 false n h)
exact_integer (negsuc n) h = exact_near (round binary64 true (suc n) 1) true (suc n) 1 (round_whole binary64 true (suc n) h)

-- a natural number below 2^200 is 0 or a moderate fraction
pub natural_moderate : (n : ℕ) → n ≤ 2 ^ 200 → IsZeroOrModerate 200 n 1
natural_moderate zero h = inl refl
natural_moderate (suc n) h = inr (record { low = omega arith; high = omega arith })

-- the float next to a natural number has one factor
pub near_natural : (n : ℕ) → n < 2 ^ 64 → IsNear 1 (of_int binary64 (pos n)) n 1
unfolding of_int
near_natural n h = round_near false n 1 (omega arith) (go n h)
  where
    go : (n : ℕ) → n < 2 ^ 64 → IsZeroOrModerate 400 n 1
    go zero h = inl refl
    go (suc n) h = inr (record { low = omega arith; high = omega arith })

-- the literal 2^64
two_to_64 : IsNear 0 (of_bits binary64 4895412794951729152) (2 ^ 64) 1
unfolding of_bits
two_to_64 = record { sign = refl; near = record { low = omega arith; high = omega arith } }

-- 2^64 times the high half of a number, plus its low half
pub near_halves : (n high low : ℕ) (x y : Float) → n < 2 ^ 128 → high ≡ n / 2 ^ 64 → low ≡ n % 2 ^ 64 → IsNear 1 x high 1 → IsNear 1 y low 1
    → IsNear 3 (add binary64 (mul binary64 x (of_bits binary64 4895412794951729152)) y) n 1
near_halves n high low x y b h l f g =
    let whole : high * 2 ^ 64 * 1 + low * 1 ≡ n = omega arith in
    let upper : IsNear 2 (mul binary64 x (of_bits binary64 4895412794951729152)) (high * 2 ^ 64) 1 = near_product 1 0 false false x (of_bits binary64 4895412794951729152) high 1 (2 ^ 64) 1 (omega arith) (omega arith) (omega arith) (natural_moderate (high * 2 ^ 64) (omega arith)) f two_to_64 in
    let lower : IsNear 2 y low 1 = float_grows 1 2 false y low 1 (omega arith) g in
    subst (λ m. IsNear 3 (add binary64 (mul binary64 x (of_bits binary64 4895412794951729152)) y) m 1) whole (near_sum 2 false _ y (high * 2 ^ 64) 1 low 1 (omega arith) (omega arith) (omega arith) (natural_moderate (high * 2 ^ 64 * 1 + low * 1) (omega arith)) upper lower)
