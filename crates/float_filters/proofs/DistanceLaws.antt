-- A float near a root decides the root's floor, if it is far enough from both integers around it.
use Rattle.std.proofs.Common.{◌≡◌, ◌/◌, ℕ, ◌+◌, ◌-◌, ◌*◌, ◌^◌, ◌<◌, ◌≤◌, arith}
use Rattle.std.proofs.lemmas.Nat.{mul-le}
use Rattle.std.proofs.Math.Nat.{mul-le-mul_right, le_of_mul-le-mul_right, mul-pos, mul-le-mul, le_trans, lt_of_not-le, not-le_of_lt, le-div_iff_mul-le, div-lt_iff_lt-mul}
use Rattle.std.specs.Float.Ieee.{Float}
use Rattle.fixed.specs.Roots.{root}
use Rattle.fixed.proofs.RootLemmas.{le_of_squares, root_is}
use Rattle.float_filters.specs.Near.{IsNearRoot, numerator, denominator}
use Rattle.float_filters.proofs.Fractions.{denominator_pos}

-- ---- p = a / d and m = b / d, with n + m <= p <= n + 1 - m and m >= 2^-50 p

margin_low : (a b d n : ℕ) → n * d + b ≤ a → a ≤ 2 ^ 50 * b → n * d * 2 ^ 50 ≤ a * (2 ^ 50 - 1)
margin_low a b d n h g = omega arith

margin_high : (a b d n : ℕ) → a + b ≤ (n + 1) * d → a ≤ 2 ^ 50 * b → a * (2 ^ 50 + 1) ≤ (n + 1) * d * 2 ^ 50
margin_high a b d n h g = omega arith

-- with t the number under the root, times v, which is u^2
floor_low : (a d n t v : ℕ) → 0 < d → n * d * 2 ^ 50 ≤ a * (2 ^ 50 - 1) → a * a * v * (2 ^ 53) ^ 11 ≤ t * (2 ^ 53 + 1) ^ 11 * (d * d)
    → n * n * v ≤ t
floor_low a d n t v D h g =
    let x : n * d * 2 ^ 50 * (n * d * 2 ^ 50) ≤ a * (2 ^ 50 - 1) * (a * (2 ^ 50 - 1)) = mul-le _ _ _ _ h h in
    let y : n * d * 2 ^ 50 * (n * d * 2 ^ 50) * v ≤ a * (2 ^ 50 - 1) * (a * (2 ^ 50 - 1)) * v = mul-le-mul_right v x in
    le_of_mul-le-mul_right {m = n * n * v} {n = t} {k = d * d} (omega (arith, y, g)) (mul-pos D D)

floor_high : (a d n t v : ℕ) → 0 < d → a * (2 ^ 50 + 1) ≤ (n + 1) * d * 2 ^ 50 → t * (2 ^ 53 - 1) ^ 11 * (d * d) ≤ a * a * v * (2 ^ 53) ^ 11
    → t * (2 ^ 100 * (2 ^ 53) ^ 11 + 1) ≤ (n + 1) * (n + 1) * v * (2 ^ 100 * (2 ^ 53) ^ 11)
floor_high a d n t v D h g =
    let x : a * (2 ^ 50 + 1) * (a * (2 ^ 50 + 1)) ≤ (n + 1) * d * 2 ^ 50 * ((n + 1) * d * 2 ^ 50) = mul-le _ _ _ _ h h in
    let y : a * (2 ^ 50 + 1) * (a * (2 ^ 50 + 1)) * v ≤ (n + 1) * d * 2 ^ 50 * ((n + 1) * d * 2 ^ 50) * v = mul-le-mul_right v x in
    le_of_mul-le-mul_right {k = d * d} (omega (arith, y, g)) (mul-pos D D)

strictly : (t x : ℕ) → 0 < x → t * (2 ^ 100 * (2 ^ 53) ^ 11 + 1) ≤ x * (2 ^ 100 * (2 ^ 53) ^ 11) → t < x
strictly t x X h = omega arith

-- p near the root of t / u^2, to a common denominator with m
common_high : (p q d t v r s : ℕ) → p * p * v * r ≤ t * s * (d * d) → p * q * (p * q) * v * r ≤ t * s * (d * q * (d * q))
common_high p q d t v r s h = omega (arith, mul-le-mul_right (q * q) h)

common_low : (p q d t v r s : ℕ) → t * s * (d * d) ≤ p * p * v * r → t * s * (d * q * (d * q)) ≤ p * q * (p * q) * v * r
common_low p q d t v r s h = omega (arith, mul-le-mul_right (q * q) h)

-- The float x is near the root of t / u^2, with eleven factors for the square. It is at least n + m and at most n + 1 - m
-- for a margin m = b / e of at least 2^-50 of it. Then n is the floor of the root: (u n)^2 <= t < (u (n + 1))^2.
pub floor_decided : (x : Float) (t u n b e : ℕ) → 0 < u → 0 < e → IsNearRoot 11 x t (u * u)
    → (n * e + b) * denominator x ≤ numerator x * e → numerator x * e + b * denominator x ≤ (n + 1) * e * denominator x → numerator x * e ≤ 2 ^ 50 * (b * denominator x)
    → (u * n * (u * n) ≤ t) × (t < u * (n + 1) * (u * (n + 1)))
floor_decided x t u n b e U E near low high margin =
    let p = numerator x in
    let d = denominator x in
    let D : 0 < d * e = mul-pos (denominator_pos x) E in
    let below = margin_low (p * e) (b * d) (d * e) n (omega (arith, low)) margin in
    let above = margin_high (p * e) (b * d) (d * e) n (omega (arith, high)) margin in
    let first = floor_low (p * e) (d * e) n t (u * u) D below (common_high p e d t (u * u) ((2 ^ 53) ^ 11) ((2 ^ 53 + 1) ^ 11) near.near.high) in
    let next = floor_high (p * e) (d * e) n t (u * u) D above (common_low p e d t (u * u) ((2 ^ 53) ^ 11) ((2 ^ 53 - 1) ^ 11) near.near.low) in
    let some : 0 < (n + 1) * (n + 1) * (u * u) = mul-pos (mul-pos {m = n + 1} {n = n + 1} (omega arith) (omega arith)) (mul-pos U U) in
    let second = strictly t ((n + 1) * (n + 1) * (u * u)) some next in
    (omega (arith, first), omega (arith, second))

-- the integer that is decided is the integer root, divided by u
pub root_quotient : (t u q : ℕ) → 0 < u → u * q * (u * q) ≤ t → t < u * (q + 1) * (u * (q + 1)) → q ≡ root t / u
root_quotient t u q U low high =
    let r = root_is t in
    let below : u * q ≤ root t = r.greatest (u * q) low in
    let above : root t < u * (q + 1) = lt_of_not-le (λ (h : u * (q + 1) ≤ root t). not-le_of_lt high (le_trans (mul-le-mul h h) r.square_le)) in
    let least : q ≤ root t / u = (le-div_iff_mul-le U).1 (omega (arith, below)) in
    let most : root t / u < q + 1 = (div-lt_iff_lt-mul U).1 (omega (arith, above)) in
    omega arith

-- ---- the margin

-- The float x is near the root of s / c, and m near 2^-49 of the root of t / c, with s at most t. Then x is at most
-- 2^49 (1 + 2^-40) m.
pub margin_of_root : (x m : Float) (s t c : ℕ) → 0 < c → s ≤ t → IsNearRoot 11 x s c → IsNearRoot 11 m t (c * 2 ^ 98)
    → numerator x * denominator m * 2 ^ 40 ≤ numerator m * denominator x * (2 ^ 49 * (2 ^ 40 + 1))
margin_of_root x m s t c C h f g = le_of_squares _ _ (squares (numerator x) (denominator x) (numerator m) (denominator m) s t c C h f.near.high g.near.low)
  where
    squares : (p d q e s t c : ℕ) → 0 < c → s ≤ t → p * p * c * (2 ^ 53) ^ 11 ≤ s * (2 ^ 53 + 1) ^ 11 * (d * d)
        → t * (2 ^ 53 - 1) ^ 11 * (e * e) ≤ q * q * (c * 2 ^ 98) * (2 ^ 53) ^ 11
        → p * e * 2 ^ 40 * (p * e * 2 ^ 40) ≤ q * d * (2 ^ 49 * (2 ^ 40 + 1)) * (q * d * (2 ^ 49 * (2 ^ 40 + 1)))
    squares p d q e s t c C h f g =
        let x : p * p * c * (2 ^ 53) ^ 11 * (e * e) ≤ s * (2 ^ 53 + 1) ^ 11 * (d * d) * (e * e) = mul-le-mul_right (e * e) f in
        let y : s * (d * d * (e * e)) ≤ t * (d * d * (e * e)) = mul-le-mul_right (d * d * (e * e)) h in
        let z : t * (2 ^ 53 - 1) ^ 11 * (e * e) * (d * d) ≤ q * q * (c * 2 ^ 98) * (2 ^ 53) ^ 11 * (d * d) = mul-le-mul_right (d * d) g in
        le_of_mul-le-mul_right {k = c} (omega (arith, x, y, z)) C
