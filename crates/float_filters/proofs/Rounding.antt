-- One rounding to the nearest float changes a number that isn't too great or too small by at most 2^-53 of it.
use Rattle.std.proofs.Common.{◌≡◌, ℕ, suc, ◌+◌, ◌*◌, ◌/◌, ◌%◌, ◌^◌, ◌<◌, ◌≤◌, Bool, refl, sym, ap, subst, inl, inr, arith, not, T}
use Rattle.std.proofs.lemmas.Bool.{cases_lt}
use Rattle.std.proofs.lemmas.Nat.{pow-add, pow_pos}
use Rattle.std.proofs.Math.Nat.{lt_of_not-le, not-le_of_lt, lt_of_lt_of_le, mul-le-mul_right, le_of_mul-le-mul_right, lt_of_mul-lt-mul_right, mul-pos, suc-mul, le-div_iff_mul-le, div-add-mod', mod-lt, pow-le-pow_right}
use Rattle.std.specs.Float.Ieee.{Float, binary64, nan, inf, fin, nearest, round, size}
use lib.Ieee.Digits.{size-lt, size_reaches}
use lib.Ieee.Exact.{HasValue, units_val}
use lib.Ieee.Fits.{round_is}
use lib.Ieee.Nearest.{closest}
use Prim.Native.Nat.{compare, Ordering}
use lib.Dec.{is_le, compare_is_eq, eqb, leb→le, nleb→lt, eqb→eq, eqb_refl}
use lib.Arith.{lt_of_le-ne}
use lib.Ieee.Order.{drop, kept}
use Rattle.float_filters.specs.Near.{IsFractionNear, IsNearSigned, HasSign, numerator, denominator}
use Rattle.float_filters.proofs.Fractions.{denominator_pos, near_itself, near_same}

-- ---- the nearest integer

-- what a comparison says of two numbers
abbrev IsOrder : Ordering → ℕ → ℕ → Type 0
IsOrder Ordering.lt a b = a < b
IsOrder Ordering.eq a b = a ≡ b
IsOrder Ordering.gt a b = b < a

compared : (a b : ℕ) → IsOrder (compare a b) a b
compared a b = go (compare a b) (leb→le a b) (nleb→lt a b) (eqb→eq a b) (λ (e : a ≡ b). subst (λ (x : ℕ). T (eqb a x)) e (eqb_refl a))
  where
    go : (o : Ordering) → (T (is_le o) → a ≤ b) → (T (not (is_le o)) → b < a) → (T (compare_is_eq o) → a ≡ b) → (a ≡ b → T (compare_is_eq o))
        → IsOrder o a b
    go Ordering.lt h k e n = lt_of_le-ne (h tt) n
    go Ordering.eq h k e n = e tt
    go Ordering.gt h k e n = k tt

-- twice the difference of a fraction and the integer nearest to it is at most one
nearest_low : (n u w r : ℕ) (o : Ordering) → w * u + r ≡ n → IsOrder o (r * 2) u → 2 * (nearest w o * u) ≤ 2 * n + u
nearest_low n u w r Ordering.lt e h = omega arith
nearest_low n u w r Ordering.eq e h = omega (arith, mul-le-mul_right u (tie w))
  where
    tie : (w : ℕ) → w + w % 2 ≤ w + 1
    tie w = omega arith
nearest_low n u w r Ordering.gt e h = omega arith

nearest_high : (n u w r : ℕ) (o : Ordering) → r < u → w * u + r ≡ n → IsOrder o (r * 2) u → 2 * n ≤ 2 * (nearest w o * u) + u
nearest_high n u w r Ordering.lt l e h = omega arith
nearest_high n u w r Ordering.eq l e h = omega (arith, mul-le-mul_right u (tie w))
  where
    tie : (w : ℕ) → w ≤ w + w % 2
    tie w = omega arith
nearest_high n u w r Ordering.gt l e h = up (suc w * u) refl
  where
    up : (x : ℕ) → suc w * u ≡ x → 2 * n ≤ 2 * x + u
    up x g = omega (arith, suc-mul w u)

pub closest_low : (n u : ℕ) → 2 * (closest n u * u) ≤ 2 * n + u
closest_low n u = nearest_low n u (n / u) (n % u) _ (div-add-mod' n u) (compared (n % u * 2) u)

pub closest_high : (n u : ℕ) → 0 < u → 2 * n ≤ 2 * (closest n u * u) + u
closest_high n u p = nearest_high n u (n / u) (n % u) _ (mod-lt n p) (div-add-mod' n u) (compared (n % u * 2) u)

-- ---- the unit of the last digit

size_above : (n j : ℕ) → 2 ^ j ≤ n → j < size n
size_above n j h = lt_of_not-le (λ (g : size n ≤ j). not-le_of_lt (lt_of_lt_of_le (size-lt n) (pow-le-pow_right (omega arith) g)) h)

-- the unit is at most 2^-52 of a number with at least 53 digits
unit_small : (n d : ℕ) → 0 < d → 2 ^ 52 * d ≤ n → d * 2 ^ drop 53 n d * 2 ^ 52 ≤ n
unit_small n d D h =
    let w = n / d in
    let some : 2 ^ 52 ≤ w = (le-div_iff_mul-le D).1 h in
    let long : 52 < size w = size_above w 52 some in
    let k = drop 53 n d in
    let reaches : 2 ^ (52 + k) ≤ w = size_reaches w (52 + k) (omega arith) in
    let whole : 2 ^ (52 + k) * d ≤ n = (le-div_iff_mul-le D).0 reaches in
    omega (arith, pow-add 2 52 k, ap (λ (x : ℕ). x * d) (pow-add 2 52 k))

-- ---- the rounded number in units of the least float

-- With u the unit of the last digit: x is q units, and n the exact number. If n is less than half a unit above 2^52
-- units, x is 2^52 units. So x is between n (1 - t) and n (1 + t) with t = 1 / (2^53 + 1), which is less than 2^-53.
least_digits : (n q u : ℕ) → 0 < u → u * 2 ^ 52 ≤ n → 2 * n < (2 ^ 53 + 1) * u → 2 * (q * u) ≤ 2 * n + u → 2 * n ≤ 2 * (q * u) + u
    → q ≡ 2 ^ 52
least_digits n q u U small near low high =
    let a : 2 ^ 53 * u ≤ (2 * q + 1) * u = omega arith in
    let b : 2 * q * u < (2 ^ 53 + 2) * u = omega arith in
    omega (arith, le_of_mul-le-mul_right {k = u} a U, lt_of_mul-lt-mul_right u b)

unit_low : (n q u : ℕ) → 0 < u → u * 2 ^ 52 ≤ n → 2 * (q * u) ≤ 2 * n + u → 2 * n ≤ 2 * (q * u) + u → n * 2 ^ 53 ≤ q * u * (2 ^ 53 + 1)
unit_low n q u U small low high =
    elim (cases_lt (2 * n) ((2 ^ 53 + 1) * u)) [
      | inl near ↦ let e : q * u ≡ 2 ^ 52 * u = ap (λ (x : ℕ). x * u) (least_digits n q u U small near low high) in omega arith
      | inr far ↦ omega arith
    ]

unit_high : (n q u : ℕ) → 0 < u → u * 2 ^ 52 ≤ n → 2 * (q * u) ≤ 2 * n + u → 2 * n ≤ 2 * (q * u) + u
    → q * u * (2 ^ 53 + 1) ≤ n * (2 ^ 53 + 2)
unit_high n q u U small low high =
    elim (cases_lt (2 * n) ((2 ^ 53 + 1) * u)) [
      | inl near ↦ let e : q * u ≡ 2 ^ 52 * u = ap (λ (x : ℕ). x * u) (least_digits n q u U small near low high) in omega arith
      | inr far ↦ omega arith
    ]

module _ (n d : ℕ) (positive : 0 < d) (large : 2 ^ 52 * d ≤ n) where
  regrouped : closest n (d * 2 ^ drop 53 n d) * (d * 2 ^ drop 53 n d) ≡ kept 53 n d * 2 ^ drop 53 n d * d
  regrouped = omega arith

  unit_positive : 0 < d * 2 ^ drop 53 n d
  unit_positive = mul-pos positive (pow_pos (drop 53 n d))

  grid_low : n * 2 ^ 53 ≤ kept 53 n d * 2 ^ drop 53 n d * d * (2 ^ 53 + 1)
  grid_low =
      let u = d * 2 ^ drop 53 n d in
      rw (← regrouped) (unit_low n (closest n u) u unit_positive (unit_small n d positive large) (closest_low n u) (closest_high n u unit_positive))

  grid_high : kept 53 n d * 2 ^ drop 53 n d * d * (2 ^ 53 + 1) ≤ n * (2 ^ 53 + 2)
  grid_high =
      let u = d * 2 ^ drop 53 n d in
      rw (← regrouped) (unit_high n (closest n u) u unit_positive (unit_small n d positive large) (closest_low n u) (closest_high n u unit_positive))

  grid_below : (b : ℕ) → n ≤ b * d → kept 53 n d * 2 ^ drop 53 n d < 2 * b + 1
  grid_below b h =
      let twice : kept 53 n d * 2 ^ drop 53 n d * d ≤ 2 * b * d = omega (arith, grid_high) in
      omega (arith, le_of_mul-le-mul_right {k = d} twice positive)

-- ---- floats by the fractions that they equal

-- a float's sign, and its magnitude as a fraction
pub value_parts : (x : Float) (s : Bool) (a c : ℕ) → HasValue x s a c → HasSign s x × (numerator x * c ≡ a * denominator x)
value_parts nan s a c h = absurd h
value_parts (inf t) s a c h = absurd h
value_parts (fin t m e) s a c h = (h.0, h.1)

-- a float that equals a fraction is near it with no factor
pub exact_near : (x : Float) (s : Bool) (a c : ℕ) → HasValue x s a c → IsNearSigned 0 s x a c
exact_near x s a c h =
    let parts = value_parts x s a c h in
    let n = numerator x in
    let d = denominator x in
    record { sign = parts.0; near = near_same 0 n d n d a c (denominator_pos x) parts.1 (near_itself 0 n d) }

-- ---- one rounding

-- n / d is between a / c (1 - t) and a / c (1 + t) with t = 1 / (2^53 + 1): the exact bound of one rounding
pub record IsNext (n d a c : ℕ) : Type 0 where
  pub low : a * 2 ^ 53 * d ≤ n * c * (2 ^ 53 + 1)
  pub high : n * c * (2 ^ 53 + 1) ≤ a * (2 ^ 53 + 2) * d

-- the bound of one rounding is less than one factor
pub near_of_next : (n d a c : ℕ) → IsNext n d a c → IsFractionNear 1 n d a c
near_of_next n d a c h = record { low = omega (arith, h.low); high = omega (arith, h.high) }

-- x units of 1 / l are n / d
regrouped_low : (n d x l m e p q : ℕ) → 0 < l → m * l ≡ x * e → n * l * p ≤ x * d * q → n * p * e ≤ m * d * q
regrouped_low n d x l m e p q L h g =
    let a : n * l * p * e ≤ x * d * q * e = mul-le-mul_right e g in
    let b : m * l * (d * q) ≡ x * e * (d * q) = ap (λ (i : ℕ). i * (d * q)) h in
    le_of_mul-le-mul_right {k = l} (omega (arith, a, b)) L

regrouped_high : (n d x l m e p q : ℕ) → 0 < l → m * l ≡ x * e → x * d * q ≤ n * l * p → m * d * q ≤ n * p * e
regrouped_high n d x l m e p q L h g =
    let a : x * d * q * e ≤ n * l * p * e = mul-le-mul_right e g in
    let b : m * l * (d * q) ≡ x * e * (d * q) = ap (λ (i : ℕ). i * (d * q)) h in
    le_of_mul-le-mul_right {k = l} (omega (arith, a, b)) L

-- The float next to n / d has its sign, and is within the bound of one rounding. Only numbers that are too small, or
-- too great, are excepted.
pub rounded_next : (s : Bool) (n d : ℕ) → 0 < d → 2 ^ 52 * d ≤ n * 2 ^ 1074 → n * 2 ^ 1074 ≤ 2 ^ 2000 * d
    → HasSign s (round binary64 s n d) × IsNext (numerator (round binary64 s n d)) (denominator (round binary64 s n d)) n d
rounded_next s n d D small great =
    let m = n * 2 ^ 1074 in
    let x = kept 53 m d * 2 ^ drop 53 m d in
    let below : x < 2 * 2 ^ 2000 + 1 = grid_below m d D small (2 ^ 2000) great in
    let below : x < 2 ^ (1074 + 1024) = lt_of_lt_of_le below (leb→le (2 * 2 ^ 2000 + 1) (2 ^ 2098) tt) in
    let value : HasValue (round binary64 s n d) s x (2 ^ 1074) = subst (λ y. HasValue y s x (2 ^ 1074)) (sym (round_is binary64 s n d)) (units_val binary64 s (kept 53 m d) (drop 53 m d) below) in
    let parts = value_parts (round binary64 s n d) s x (2 ^ 1074) value in (
      parts.0,
      record {
        low = regrouped_low n d x (2 ^ 1074) _ _ (2 ^ 53) (2 ^ 53 + 1) (pow_pos 1074) parts.1 (grid_low m d D small);
        high = regrouped_high n d x (2 ^ 1074) _ _ (2 ^ 53 + 2) (2 ^ 53 + 1) (pow_pos 1074) parts.1 (grid_high m d D small);
      },
    )
