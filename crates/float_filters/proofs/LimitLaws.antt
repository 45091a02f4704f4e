-- Comparisons of floats that are near exact numbers decide the order of these numbers.
use Rattle.std.proofs.Common.{◌≡◌, ℕ, zero, suc, ◌+◌, ◌-◌, ◌*◌, ◌^◌, ◌<◌, ◌≤◌, Bool, true, false, refl, sym, ◌∙◌, true≢false, inl, inr, nat_lt, IsTrue, arith}
use mathlib.Core.Bool.{not, beq}
use Rattle.std.proofs.lemmas.Nat.{mul-le}
use Rattle.std.proofs.Math.Nat.{mul-le-mul_right, mul-pos, lt_of_mul-lt-mul_right}
use Rattle.std.proofs.lemmas.Bool.{cases_Bool}
use Rattle.std.specs.Float.Ieee.{Float, binary64, nan, inf, fin, lt, mul, of_bits}
use borrow.Author.Tests.{ltb-true, lt-ltb, le-ltb}
use Rattle.float_filters.specs.Near.{IsFractionNear, IsNear, HasSign, numerator, denominator}
use Rattle.float_filters.proofs.Fractions.{denominator_pos, IsZeroOrModerate}
use Rattle.float_filters.specs.Limits.{IsAround}
use Rattle.float_filters.specs.declared.limits.FloatLimit.{FloatLimit}
use Rattle.float_filters.proofs.FloatLaws.{near_product}

-- of two floats that aren't negative the one with the lesser fraction is less
pub less_values : (x y : Float) → HasSign false x → HasSign false y → lt x y ≡ true
    → numerator x * denominator y < numerator y * denominator x
unfolding lt
less_values nan y h g e = absurd h
less_values (inf s) y h g e = absurd h
less_values (fin s m e) nan h g f = absurd g
less_values (fin s m e) (inf t) h g f = absurd g
less_values (fin true m e) (fin t n d) h g f = absurd (true≢false h)
less_values (fin false m e) (fin true n d) h g f = absurd (true≢false g)
less_values (fin false m e) (fin false n d) h g f = ltb-true _ _ f

cancelled : (s l d k : ℕ) → s * k * d < l * k * d → s < l
cancelled s l d k h = lt_of_mul-lt-mul_right k (lt_of_mul-lt-mul_right d h)

-- the square's float is below the low end: nine factors are less than 2^-49
below_limit : (s limit n d m e : ℕ) → 0 < d → 0 < e → IsFractionNear 5 n d s 1 → IsFractionNear 4 m e (limit * (2 ^ 49 - 1)) (2 ^ 49)
    → n * e < m * d → s < limit
below_limit s limit n d m e D E f g h =
    let a : s * (2 ^ 53 - 1) ^ 5 * d * e ≤ n * 1 * (2 ^ 53) ^ 5 * e = mul-le-mul_right e f.low in
    let b : m * 2 ^ 49 * (2 ^ 53) ^ 4 * d ≤ limit * (2 ^ 49 - 1) * (2 ^ 53 + 1) ^ 4 * e * d = mul-le-mul_right d g.high in
    let p : 0 < d * e = mul-pos D E in
    cancelled s limit (d * e) ((2 ^ 53 - 1) ^ 5 * 2 ^ 49) (omega arith)

above_limit : (s limit n d m e : ℕ) → 0 < d → 0 < e → IsFractionNear 5 n d s 1 → IsFractionNear 4 m e (limit * (2 ^ 49 + 1)) (2 ^ 49)
    → m * d < n * e → limit < s
above_limit s limit n d m e D E f g h =
    let a : n * 1 * (2 ^ 53) ^ 5 * e ≤ s * (2 ^ 53 + 1) ^ 5 * d * e = mul-le-mul_right e f.high in
    let b : limit * (2 ^ 49 + 1) * (2 ^ 53 - 1) ^ 4 * e * d ≤ m * 2 ^ 49 * (2 ^ 53) ^ 4 * d = mul-le-mul_right d g.low in
    let p : 0 < d * e = mul-pos D E in
    cancelled limit s (d * e) ((2 ^ 53 + 1) ^ 5 * 2 ^ 49) (omega arith)

-- ---- a verdict

-- the bit patterns of 1 - 2^-49 and 1 + 2^-49
less_than_one : IsNear 0 (of_bits binary64 4607182418800017392) (2 ^ 49 - 1) (2 ^ 49)
unfolding of_bits
less_than_one = record { sign = refl; near = record { low = omega arith; high = omega arith } }

more_than_one : IsNear 0 (of_bits binary64 4607182418800017416) (2 ^ 49 + 1) (2 ^ 49)
unfolding of_bits
more_than_one = record { sign = refl; near = record { low = omega arith; high = omega arith } }

-- a limit below 2^128 times about one
scaled_limit : (limit b : ℕ) (x y : Float) → limit < 2 ^ 128 → 1 ≤ b → b ≤ 2 ^ 50 → IsNear 3 x limit 1 → IsNear 0 y b (2 ^ 49)
    → IsNear 4 (mul binary64 x y) (limit * b) (2 ^ 49)
scaled_limit limit b x y l p q f g = near_product 3 0 false false x y limit 1 b (2 ^ 49) (omega arith) (omega arith) (omega arith) (range limit b l p q) f g
  where
    range : (limit b : ℕ) → limit < 2 ^ 128 → 1 ≤ b → b ≤ 2 ^ 50 → IsZeroOrModerate 200 (limit * b) (2 ^ 49)
    range zero b l p q = inl (omega arith)
    range (suc n) b l p q = inr (record { low = omega (arith, mul-le 1 1 (suc n) b (omega arith) p); high = omega (arith, mul-le (suc n) b (2 ^ 128) (2 ^ 50) (omega arith) q) })

-- the ends around a limit
pub ends_around : (limit : ℕ) (x : Float) → limit < 2 ^ 128 → IsNear 3 x limit 1
    → IsAround limit (record { low = mul binary64 x (of_bits binary64 4607182418800017392); high = mul binary64 x (of_bits binary64 4607182418800017416) })
ends_around limit x l f =
    record {
      low = scaled_limit limit (2 ^ 49 - 1) x _ l (omega arith) (omega arith) f less_than_one;
      high = scaled_limit limit (2 ^ 49 + 1) x _ l (omega arith) (omega arith) f more_than_one;
    }

-- of two comparisons with different results, of which the first is false, the second is true
second_is_true : (a b : Bool) → a ≡ false → IsTrue (not (beq a b)) → b ≡ true
second_is_true true b e h = absurd (true≢false e)
second_is_true false true e h = refl
second_is_true false false e h = absurd (true≢false (sym h))

-- a square below the low end is below the limit, and one above the high end isn't
pub verdict : (s limit : ℕ) (ends : FloatLimit) (x : Float) → IsAround limit ends → IsNear 5 x s 1
    → IsTrue (not (beq (lt x ends.low) (lt ends.high x))) → lt x ends.low ≡ nat_lt s limit
verdict s limit ends x around near sure =
    elim (cases_Bool (lt x ends.low)) [
      | inl is ↦ is ∙ sym (lt-ltb s limit (below_limit s limit _ _ _ _ (denominator_pos x) (denominator_pos ends.low) near.near around.low.near (less_values x ends.low near.sign around.low.sign is)))
      | inr not ↦
          let over : lt ends.high x ≡ true = second_is_true _ _ not sure in
          not ∙ sym (le-ltb s limit (omega (arith, above_limit s limit _ _ _ _ (denominator_pos x) (denominator_pos ends.high) near.near around.high.near (less_values ends.high x around.high.sign near.sign over))))
    ]
