-- Laws of floats that are near exact numbers: products, sums, quotients and roots.
use Rattle.std.proofs.Common.{◌≡◌, ℕ, zero, suc, ◌+◌, ◌-◌, ◌*◌, ◌^◌, ◌<◌, ◌≤◌, Bool, true, false, inl, inr, refl, sym, subst, arith}
use Rattle.std.proofs.lemmas.Nat.{pow-add, mul-pow}
use Rattle.std.proofs.Math.Nat.{le_trans, mul-le-mul_right, mul-le-mul_left, le_of_mul-le-mul_right, mul-pos, mul_comm, one-le-pow, pow-le-pow_left, pow-le-pow_right}
use Rattle.std.specs.Float.Ieee.{Float, binary64, nan, inf, fin, up, round, unlike, mul, add, sum, div}
use borrow.Author.Tests.{ne_eqb}
use lib.Dec.{leb→le}
use lib.Ieee.Exact.{HasValue, round_exact}
use Rattle.float_filters.specs.Near.{IsFractionNear, IsNearSigned, HasSign, numerator, denominator}
use Rattle.float_filters.proofs.Fractions.{no_factor, denominator_pos, IsModerate, IsZeroOrModerate, near_after, near_grows, near_times, near_plus, near_over}
use Rattle.float_filters.proofs.Rounding.{IsNext, exact_near, near_of_next, rounded_next}

-- ---- the range in which one rounding is near

-- the number of factors of a float may grow
pub float_grows : (k j : ℕ) (s : Bool) (x : Float) (a c : ℕ) → k ≤ j → IsNearSigned k s x a c → IsNearSigned j s x a c
float_grows k j s x a c h g =
    record { sign = g.sign; near = near_grows k j (numerator x) (denominator x) a c (denominator_pos x) h g.near }

zero_near : (s : Bool) (d : ℕ) → 0 < d → IsNearSigned 1 s (round binary64 s 0 d) 0 d
zero_near s d D =
    let value : HasValue (round binary64 s 0 d) s 0 d = round_exact binary64 s 0 d 0 0 D (leb→le 1 (2 ^ 53) tt) (leb→le 1 (2 ^ 2098) tt) (omega arith) in
    float_grows 0 1 s (round binary64 s 0 d) 0 d (omega arith) (exact_near (round binary64 s 0 d) s 0 d value)

-- the float next to n / d has its sign, and is within the bound of one rounding
pub round_next : (s : Bool) (n d : ℕ) → 0 < d → IsModerate 400 n d
    → HasSign s (round binary64 s n d) × IsNext (numerator (round binary64 s n d)) (denominator (round binary64 s n d)) n d
round_next s n d D h =
    rounded_next s n d D (small n d h.low) (great n d h.high)
  where
    small : (n d : ℕ) → d ≤ n * 2 ^ 400 → 2 ^ 52 * d ≤ n * 2 ^ 1074
    small n d h = omega arith

    great : (n d : ℕ) → n ≤ d * 2 ^ 400 → n * 2 ^ 1074 ≤ 2 ^ 2000 * d
    great n d h = omega arith

-- the float next to n / d has its sign, and one factor
pub round_near : (s : Bool) (n d : ℕ) → 0 < d → IsZeroOrModerate 400 n d → IsNearSigned 1 s (round binary64 s n d) n d
round_near s n d D (inl e) = subst (λ m. IsNearSigned 1 s (round binary64 s m d) m d) (sym e) (zero_near s d D)
round_near s n d D (inr h) = let next = round_next s n d D h in record { sign = next.0; near = near_of_next _ _ n d next.1 }

twice_less : (k : ℕ) → k ≤ 100 → (2 ^ 53) ^ k ≤ 2 ^ 100 * (2 ^ 53 - 1) ^ k
twice_less k h =
    let a : (2 ^ 53) ^ k ≤ (2 * (2 ^ 53 - 1)) ^ k = pow-le-pow_left (omega arith) k in
    let b : 2 ^ k ≤ 2 ^ 100 = pow-le-pow_right (omega arith) h in
    omega (arith, mul-pow 2 (2 ^ 53 - 1) k, mul-le-mul_right ((2 ^ 53 - 1) ^ k) b)

twice_more : (k : ℕ) → k ≤ 100 → (2 ^ 53 + 1) ^ k ≤ 2 ^ 100 * (2 ^ 53) ^ k
twice_more k h =
    let a : (2 ^ 53 + 1) ^ k ≤ (2 * 2 ^ 53) ^ k = pow-le-pow_left (omega arith) k in
    let b : 2 ^ k ≤ 2 ^ 100 = pow-le-pow_right (omega arith) h in
    omega (arith, mul-pow 2 (2 ^ 53) k, mul-le-mul_right ((2 ^ 53) ^ k) b)

widened_low : (n d a c p q t u : ℕ) → 0 < c * p → q ≤ t * p → c ≤ a * u → a * p * d ≤ n * c * q → d ≤ n * (u * t)
widened_low n d a c p q t u C g m h =
    let x : c * (p * d) ≤ a * u * (p * d) = mul-le-mul_right (p * d) m in
    let y : a * p * d * u ≤ n * c * q * u = mul-le-mul_right u h in
    let z : q * (n * c * u) ≤ t * p * (n * c * u) = mul-le-mul_right (n * c * u) g in
    le_of_mul-le-mul_right (omega (arith, x, y, z)) C

widened_high : (n d a c s q t u : ℕ) → 0 < c * q → s ≤ t * q → a ≤ c * u → n * c * q ≤ a * s * d → n ≤ d * (u * t)
widened_high n d a c s q t u C g m h =
    let x : a * (s * d) ≤ c * u * (s * d) = mul-le-mul_right (s * d) m in
    let z : s * (c * u * d) ≤ t * q * (c * u * d) = mul-le-mul_right (c * u * d) g in
    le_of_mul-le-mul_right (omega (arith, x, z)) C

-- a fraction near one that is 0, or isn't too great or too small, is so too, with 100 more binary places
pub moderate_of_near : (b k n d a c : ℕ) → 0 < c → k ≤ 100 → IsZeroOrModerate b a c → IsFractionNear k n d a c
    → IsZeroOrModerate (b + 100) n d
moderate_of_near b k n d a c C h (inl e) g = inl (no_factor n _ (mul-pos C (one-le-pow k (2 ^ 53) (omega arith))) (empty n c _ _ d (subst (λ x. n * c * (2 ^ 53) ^ k ≤ x * (2 ^ 53 + 1) ^ k * d) e g.high)))
  where
    empty : (n c q s d : ℕ) → n * c * q ≤ 0 * s * d → n * (c * q) ≤ 0
    empty n c q s d h = omega arith
moderate_of_near b k n d a c C h (inr m) g =
    inr (record {
      low = rw (pow-add 2 b 100) (widened_low n d a c ((2 ^ 53 - 1) ^ k) ((2 ^ 53) ^ k) (2 ^ 100) (2 ^ b) (mul-pos C (one-le-pow k (2 ^ 53 - 1) (omega arith))) (twice_less k h) m.low g.low);
      high = rw (pow-add 2 b 100) (widened_high n d a c ((2 ^ 53 + 1) ^ k) ((2 ^ 53) ^ k) (2 ^ 100) (2 ^ b) (mul-pos C (one-le-pow k (2 ^ 53) (omega arith))) (twice_more k h) m.high g.high);
    })

-- the number of binary places may grow
pub moderate_grows : (b j n d : ℕ) → b ≤ j → IsZeroOrModerate b n d → IsZeroOrModerate j n d
moderate_grows b j n d h (inl e) = inl e
moderate_grows b j n d h (inr m) =
    let p : 2 ^ b ≤ 2 ^ j = pow-le-pow_right (omega arith) h in
    inr (record { low = le_trans m.low (mul-le-mul_left n p); high = le_trans m.high (mul-le-mul_left d p) })

-- rounding a fraction near another one adds a factor
rounded_after : (k : ℕ) (s : Bool) (n d a c : ℕ) → 0 < d → 0 < c → k ≤ 100 → IsZeroOrModerate 200 a c → IsFractionNear k n d a c
    → IsNearSigned (k + 1) s (round binary64 s n d) a c
rounded_after k s n d a c D C h m g =
    let one = round_near s n d D (moderate_grows 300 400 n d (omega arith) (moderate_of_near 200 k n d a c C h m g)) in
    record { sign = one.sign; near = near_after k 1 n d _ _ a c D g one.near }

-- ---- products

-- the product of two finite floats rounds the product of their magnitudes
pub product_is : (s t : Bool) (x y : Float) → HasSign s x → HasSign t y
    → mul binary64 x y ≡ round binary64 (unlike s t) (numerator x * numerator y) (denominator x * denominator y)
unfolding mul
product_is s t nan y h g = absurd h
product_is s t (inf u) y h g = absurd h
product_is s t (fin u m e) nan h g = absurd g
product_is s t (fin u m e) (inf v) h g = absurd g
product_is s t (fin u m e) (fin v n d) h g = rw (h, g) refl

-- The float product of floats near two numbers is near their product, with the factors of both and one more. The sign
-- is minus if the signs differ.
pub near_product : (k j : ℕ) (s t : Bool) (x y : Float) (a c b e : ℕ) → 0 < c → 0 < e → k + j ≤ 100 → IsZeroOrModerate 200 (a * b) (c * e)
    → IsNearSigned k s x a c → IsNearSigned j t y b e → IsNearSigned (k + j + 1) (unlike s t) (mul binary64 x y) (a * b) (c * e)
near_product k j s t x y a c b e C E h m f g =
    rw (product_is s t x y f.sign g.sign)
    (rounded_after (k + j) (unlike s t) _ _ _ _ (mul-pos (denominator_pos x) (denominator_pos y)) (mul-pos C E) h m (near_times k j _ _ _ _ a c b e f.near g.near))

-- ---- sums

sum_is : (s : Bool) (x y : Float) → HasSign s x → HasSign s y
    → add binary64 x y ≡ round binary64 s (numerator x * denominator y + numerator y * denominator x) (denominator x * denominator y)
unfolding add sum
sum_is s nan y h g = absurd h
sum_is s (inf u) y h g = absurd h
sum_is s (fin u m e) nan h g = absurd g
sum_is s (fin u m e) (inf v) h g = absurd g
sum_is false (fin u m e) (fin v n d) h g = rw (h, g) refl
sum_is true (fin u m e) (fin v n d) h g = rw (h, g) refl

-- The float sum of floats with the same sign, near two numbers, is near their sum, with one factor more.
pub near_sum : (k : ℕ) (s : Bool) (x y : Float) (a c b e : ℕ) → 0 < c → 0 < e → k ≤ 100 → IsZeroOrModerate 200 (a * e + b * c) (c * e)
    → IsNearSigned k s x a c → IsNearSigned k s y b e → IsNearSigned (k + 1) s (add binary64 x y) (a * e + b * c) (c * e)
near_sum k s x y a c b e C E h m f g =
    rw (sum_is s x y f.sign g.sign)
    (rounded_after k s _ _ _ _ (mul-pos (denominator_pos x) (denominator_pos y)) (mul-pos C E) h m (near_plus k _ _ _ _ a c b e f.near g.near))

-- ---- quotients

pub quotient_is : (s t : Bool) (x y : Float) → HasSign s x → HasSign t y → 0 < numerator y
    → div binary64 x y ≡ round binary64 (unlike s t) (numerator x * denominator y) (numerator y * denominator x)
unfolding div
quotient_is s t nan y h g p = absurd h
quotient_is s t (inf u) y h g p = absurd h
quotient_is s t (fin u m e) nan h g p = absurd g
quotient_is s t (fin u m e) (inf v) h g p = absurd g
quotient_is s t (fin u m e) (fin v n d) h g p = rw (h, g, ne_eqb n 0 (some n (up d) p)) refl
  where
    some : (n u : ℕ) → 0 < n * u → n ≡ 0 → ⊥
    some zero u p e = omega arith
    some (suc n) u p e = omega arith

-- a fraction near one that isn't 0 isn't 0
pub some_of_near : (k n d a c : ℕ) → 0 < a → 0 < d → IsFractionNear k n d a c → 0 < n
some_of_near k n d a c A D h = go n (mul-pos (mul-pos A (one-le-pow k (2 ^ 53 - 1) (omega arith))) D) h.low
  where
    go : (n : ℕ) → 0 < a * (2 ^ 53 - 1) ^ k * d → a * (2 ^ 53 - 1) ^ k * d ≤ n * c * (2 ^ 53) ^ k → 0 < n
    go zero p h = absurd (omega arith)
    go (suc n) p h = omega arith

-- The float quotient of floats near two numbers is near their quotient, with the factors of the dividend, twice those
-- of the divisor, and one more. The divisor isn't 0.
pub near_quotient : (k j : ℕ) (s t : Bool) (x y : Float) (a c b e : ℕ) → 0 < c → 0 < b → k + (j + j) ≤ 100
    → IsZeroOrModerate 200 (a * e) (c * b)
    → IsNearSigned k s x a c → IsNearSigned j t y b e → IsNearSigned (k + (j + j) + 1) (unlike s t) (div binary64 x y) (a * e) (c * b)
near_quotient k j s t x y a c b e C B h m f g =
    let some : 0 < numerator y = some_of_near j _ _ b e B (denominator_pos y) g.near in
    rw (quotient_is s t x y f.sign g.sign some, mul_comm (numerator y) (denominator x))
    (rounded_after (k + (j + j)) (unlike s t) _ _ _ _ (mul-pos (denominator_pos x) some) (mul-pos C B) h m (near_over k j _ _ _ _ a c b e f.near g.near))
