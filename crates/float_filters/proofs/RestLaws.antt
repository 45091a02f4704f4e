-- What rounding to an integer takes off a float is a float itself.
use Rattle.std.proofs.Common.{◌≡◌, ℕ, zero, suc, ◌+◌, ◌-◌, ◌*◌, ◌/◌, ◌^◌, ◌<◌, ◌≤◌, ◌⊎◌, Bool, true, false, T, refl, sym, ap, subst, inl, inr, arith, pos, negsuc, pow_pos, pow_mono, mul-pos, mul-le-mul_right, lt_of_lt_of_le, lt_of_not-le, le_of_suc-le-suc, le_of_mul-le-mul_right, lt_of_mul-lt-mul_right, eqb→eq}
use Rattle.std.proofs.Math.Nat.{div-lt_iff_lt-mul}
use Rattle.std.proofs.lemmas.Bool.{cases_lt}
use Rattle.std.proofs.lemmas.Nat.{pow-add}
use lib.Ieee.{Float, nan, inf, fin, binary64, size, round, fits}
use lib.Ieee.Digits.{size-le}
use lib.Ieee.Exact.{HasValue, round_exact, units_val}
use lib.Ieee.Fits.{round_is}
use lib.Ieee.Nearest.{closest}
use lib.Ieee.Order.{drop, kept}
use Rattle.float_filters.specs.Near.{denominator}
use Rattle.float_filters.specs.Floors.{positive_part, negative_part, IsFinite, IsDifference, IsInteger}
use Rattle.float_filters.proofs.Rounding.{closest_low, closest_high, value_parts}
use Rattle.float_filters.proofs.Differences.{IsSigned, IsRounded, from_value, whole_exact}
use Rattle.float_filters.proofs.Comparisons.{parts}
use Rattle.float_filters.proofs.ErrorLaws.{not_negative}

-- ---- the nearest integer

-- the unit of the last digit is at most 1
unit_whole : (n d : ℕ) → 0 < d → n < 2 ^ 53 * d → drop 53 (n * 2 ^ 1074) d ≤ 1074
unit_whole n d D h =
    let w = n * 2 ^ 1074 / d in
    let few : w < 2 ^ 1127 = (div-lt_iff_lt-mul D).1 (omega arith) in
    let long : size w ≤ 1127 = size-le w 1127 few in
    omega arith

-- rounding a number below 2^53 to an integer changes it by at most 1/2
whole_near : (n d t : ℕ) → 0 < d → n < 2 ^ 53 * d → IsInteger (round binary64 false n d) t → (2 * (t * d) ≤ 2 * n + d) × (2 * n ≤ 2 * (t * d) + d)
whole_near n d t D h i =
    let m = n * 2 ^ 1074 in
    let k = drop 53 m d in
    let u = d * 2 ^ k in
    let q = closest m u in
    let x = kept 53 m d * 2 ^ k in
    let unit : 2 ^ k ≤ 2 ^ 1074 = pow_mono (unit_whole n d D h) in
    let most : 2 ^ k * d ≤ 2 ^ 1074 * d = mul-le-mul_right d unit in
    let same : x * d ≡ q * u = omega arith in
    let low : 2 * (q * u) ≤ 2 * m + u = closest_low m u in
    let high : 2 * m ≤ 2 * (q * u) + u = closest_high m u (mul-pos D (pow_pos k)) in
    let few : x < 2 ^ 1129 = lt_of_mul-lt-mul_right d (omega arith) in
    let below : x < 2 ^ (1074 + 1024) = lt_of_lt_of_le few (pow_mono {i = 1129} {j = 2098} (omega arith)) in
    let value : HasValue (round binary64 false n d) false x (2 ^ 1074) = subst (λ (y : Float). HasValue y false x (2 ^ 1074)) (sym (round_is binary64 false n d)) (units_val binary64 false (kept 53 m d) k below) in
    let two = value_parts (round binary64 false n d) false x (2 ^ 1074) value in
    let e = not_negative (round binary64 false n d) two.0 in
    let is : t * 2 ^ 1074 ≡ x = whole _ _ _ _ _ _ i.size e.0 i.whole two.1 in
    let w : t * 2 ^ 1074 * d ≡ x * d = ap (λ (j : ℕ). j * d) is in
    let a : 2 * (t * d) * 2 ^ 1074 ≤ (2 * n + d) * 2 ^ 1074 = omega arith in
    let b : 2 * n * 2 ^ 1074 ≤ (2 * (t * d) + d) * 2 ^ 1074 = omega arith in
    (le_of_mul-le-mul_right a (pow_pos 1074), le_of_mul-le-mul_right b (pow_pos 1074))
  where
    whole : (t p r d c x : ℕ) → p ≡ t → p ≡ r → d ≡ 1 → r * c ≡ x * d → t * c ≡ x
    whole t p r d c x e f g h =
        let a : p * c ≡ t * c = ap (λ (j : ℕ). j * c) e in
        let b : p * c ≡ r * c = ap (λ (j : ℕ). j * c) f in
        let k : x * d ≡ x * 1 = ap (λ (j : ℕ). x * j) g in
        omega arith

-- rounding a difference between 2^52 and 2^53 to an integer changes it by at most 1/2
pub integer_near : (t : Float) (a b c n : ℕ) → 0 < c → 2 ^ 52 * c + b ≤ a → a < 2 ^ 53 * c + b → IsRounded t a b c → IsInteger t n → (2 * (n * c + b) ≤ 2 * a + c) × (2 * a ≤ 2 * (n * c + b) + c)
integer_near t a b c n C many few r i = by r.0 r.1 r.2 r.3
  where
    by : (s : Bool) (m : ℕ) → t ≡ round binary64 s m c → IsSigned s m a b → (2 * (n * c + b) ≤ 2 * a + c) × (2 * a ≤ 2 * (n * c + b) + c)
    by false m is rel =
        let h = whole_near m c n C (omega arith) (subst (λ (y : Float). IsInteger y n) is i) in
        let l = h.0 in
        let g = h.1 in
        (omega arith, omega arith)
    by true m is rel = absurd (omega arith)

-- ---- what is left

-- a fraction with few digits over a power of two is kept by rounding
pub short_exact : (s : Bool) (n j : ℕ) → n < 2 ^ 53 → j ≤ 1074 → HasValue (round binary64 s n (2 ^ j)) s n (2 ^ j)
short_exact s n j h l =
    let i = 1074 - j in
    let total : i + j ≡ 1074 = omega arith in
    round_exact binary64 s n (2 ^ j) n i (pow_pos j) h
    (small n i h (omega arith))
    (omega (arith, ap (λ (k : ℕ). n * k) (sym (pow-add 2 i j)), ap (λ (k : ℕ). n * 2 ^ k) total))
  where
    small : (n i : ℕ) → n < 2 ^ 53 → i ≤ 1074 → n * 2 ^ i < 2 ^ 2098
    small n i h l =
        let p : 2 ^ i ≤ 2 ^ 1074 = pow_mono l in
        let a : n * 2 ^ i ≤ 2 ^ 53 * 2 ^ i = mul-le-mul_right (2 ^ i) (omega arith) in
        let b : n * 2 ^ i < 2 ^ 1128 = omega arith in
        lt_of_lt_of_le b (pow_mono {i = 1128} {j = 2098} (omega arith))

short_difference : (x : Float) (a b j : ℕ) → a < 2 ^ 53 + b → b < 2 ^ 53 + a → j ≤ 1074 → IsRounded x a b (2 ^ j) → IsDifference x a b (2 ^ j)
short_difference x a b j p q l r = by r.0 r.1 r.2 r.3
  where
    by : (s : Bool) (n : ℕ) → x ≡ round binary64 s n (2 ^ j) → IsSigned s n a b → IsDifference x a b (2 ^ j)
    by false n is rel = subst (λ (y : Float). IsDifference y a b (2 ^ j)) (sym is) (from_value _ false n (2 ^ j) a b (short_exact false n j (omega arith) l) rel)
    by true n is rel = subst (λ (y : Float). IsDifference y a b (2 ^ j)) (sym is) (from_value _ true n (2 ^ j) a b (short_exact true n j (omega arith) l) rel)

-- a float with places after the point has at most 53 bits and 1074 places
few_places : (s : Bool) (m k : ℕ) → T (fits binary64 (fin s m (negsuc k))) → (m < 2 ^ 53) × (suc k ≤ 1074)
unfolding fits
few_places s zero k p =
    let e : 1 * 2 ^ suc k ≡ 1 = eqb→eq (1 * 2 ^ suc k) 1 p in
    let h : 2 ^ 1 ≤ 2 ^ suc k = pow_mono {i = 1} {j = suc k} (omega arith) in
    absurd (omega arith)
few_places s (suc m) k p =
    let h = parts s m (negsuc k) p in (
      h.0,
      le_of_suc-le-suc (lt_of_not-le (λ (g : suc 1074 ≤ suc k). let x = pow_mono {i = suc 1074} {j = suc k} g in absurd (omega (arith, h.1, pow-add 2 1 1074, pow_pos 1074)))),
    )

-- the integer next to a number of less than 1/2 in magnitude is 0
next_to_zero : (p q n M c : ℕ) → 2 * p < c → 2 * q < c → 2 * (n * c + q) ≤ 2 * (p + M * c) + c → 2 * (p + M * c) ≤ 2 * (n * c + q) + c → n ≡ M
next_to_zero p q n M c P Q low high =
    let a : n * c < (M + 1) * c = omega arith in
    let b : M * c < (n + 1) * c = omega arith in
    let x : n < M + 1 = lt_of_mul-lt-mul_right c a in
    let y : M < n + 1 = lt_of_mul-lt-mul_right c b in
    omega arith

rest_short : (x : Float) (p q n M j : ℕ) → p < 2 ^ 53 → q < 2 ^ 53 → (p ≡ 0) ⊎ (q ≡ 0) → j ≤ 1074 → 2 * (n * 2 ^ j + q) ≤ 2 * (p + M * 2 ^ j) + 2 ^ j → 2 * (p + M * 2 ^ j) ≤ 2 * (n * 2 ^ j + q) + 2 ^ j
    → IsRounded x (p + M * 2 ^ j) (q + n * 2 ^ j) (2 ^ j) → IsDifference x (p + M * 2 ^ j) (q + n * 2 ^ j) (2 ^ j)
rest_short x p q n M j P Q one J low high r = elim (cases_lt j 54) [
  | inl l ↦
      let c : 2 ^ j ≤ 2 ^ 53 = pow_mono {i = j} {j = 53} (le_of_suc-le-suc l) in
      short_difference x (p + M * 2 ^ j) (q + n * 2 ^ j) j (omega arith) (omega arith) J r
  | inr g ↦
      let c : 2 ^ 54 ≤ 2 ^ j = pow_mono {i = 54} {j = j} g in
      let e : n * 2 ^ j ≡ M * 2 ^ j = ap (λ (i : ℕ). i * 2 ^ j) (next_to_zero p q n M (2 ^ j) (omega arith) (omega arith) low high) in
      short_difference x (p + M * 2 ^ j) (q + n * 2 ^ j) j (omega arith) (omega arith) J r
]

-- If n is the integer next to u + M, then u - (n - M) is kept by rounding.
pub rest_exact : (x u : Float) (n M : ℕ) → T (fits binary64 u) → IsFinite u
    → 2 * (n * denominator u + negative_part u) ≤ 2 * (positive_part u + M * denominator u) + denominator u → 2 * (positive_part u + M * denominator u) ≤ 2 * (n * denominator u + negative_part u) + denominator u
    → IsRounded x (positive_part u + M * denominator u) (negative_part u + n * denominator u) (denominator u) → IsDifference x (positive_part u + M * denominator u) (negative_part u + n * denominator u) (denominator u)
rest_exact x nan n M p f low high r = absurd f
rest_exact x (inf s) n M p f low high r = absurd f
rest_exact x (fin s m (pos k)) n M p f low high r = whole_exact x _ _ (omega arith) (omega arith) r
rest_exact x (fin false m (negsuc k)) n M p f low high r =
    let h = few_places false m k p in rest_short x (m * 1) 0 n M (suc k) (omega (arith, h.0)) (omega arith) (inr refl) h.1 low high r
rest_exact x (fin true m (negsuc k)) n M p f low high r =
    let h = few_places true m k p in rest_short x 0 (m * 1) n M (suc k) (omega arith) (omega (arith, h.0)) (inl refl) h.1 low high r
