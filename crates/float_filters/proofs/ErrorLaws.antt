-- The error of one rounding of a signed number, and what a certified floor says of the exact number.
use Rattle.std.proofs.Common.{◌≡◌, ℕ, zero, suc, ◌+◌, ◌-◌, ◌*◌, ◌^◌, ◌<◌, ◌≤◌, ◌⊎◌, Bool, true, false, T, refl, sym, ap, subst, arith, inl, inr, pos, negsuc, lt_of_mul-lt-mul_right, mul-le-mul_right, le_of_mul-le-mul_right, mul-lt-mul_of_pos_right, true≢false}
use Rattle.std.proofs.lemmas.Bool.{cases_lt}
use lib.Ieee.{Float, nan, inf, fin, binary64, round, fits, up}
use lib.Ieee.Fits.{down_pos}
use Rattle.float_filters.specs.Near.{denominator, numerator, HasSign, IsNearSigned}
use Rattle.float_filters.proofs.Fractions.{denominator_pos, IsZeroOrModerate}
use Rattle.float_filters.specs.Floors.{positive_part, negative_part, IsFinite, IsLess, IsAtLeast}
use Rattle.float_filters.proofs.FloatLaws.{round_near}
use Rattle.float_filters.proofs.Differences.{IsSigned, IsRounded}
use Rattle.float_filters.proofs.Comparisons.{parts}

-- ---- parts of floats with a sign

pub not_negative : (x : Float) → HasSign false x → (positive_part x ≡ numerator x) × (negative_part x ≡ 0)
not_negative nan h = absurd h
not_negative (inf s) h = absurd h
not_negative (fin true m e) h = absurd (true≢false h)
not_negative (fin false m e) h = (refl, refl)

pub not_positive : (x : Float) → HasSign true x → (positive_part x ≡ 0) × (negative_part x ≡ numerator x)
not_positive nan h = absurd h
not_positive (inf s) h = absurd h
not_positive (fin false m e) h = absurd (true≢false (sym h))
not_positive (fin true m e) h = (refl, refl)

-- a float with a sign is finite
pub signed_finite : (s : Bool) (x : Float) → HasSign s x → IsFinite x
signed_finite s nan h = absurd h
signed_finite s (inf t) h = absurd h
signed_finite s (fin t m e) h = tt

-- less than a finite float, and at least a finite float
pub less_finite : (a b c : ℕ) (y : Float) → IsFinite y → IsLess a b c y → a * denominator y + negative_part y * c < positive_part y * c + b * denominator y
less_finite a b c nan f h = absurd f
less_finite a b c (inf s) f h = absurd f
less_finite a b c (fin s m e) f h = h

pub at_least_finite : (a b c : ℕ) (y : Float) → IsFinite y → IsAtLeast a b c y → positive_part y * c + b * denominator y ≤ a * denominator y + negative_part y * c
at_least_finite a b c nan f h = absurd f
at_least_finite a b c (inf s) f h = absurd f
at_least_finite a b c (fin s m e) f h = h

-- ---- the error of one rounding

-- a - b in magnitude is 0 or moderate
abbrev pub IsModerateDifference : ℕ → ℕ → ℕ → Type 0
IsModerateDifference a b c = (n : ℕ) → (n + b ≡ a) ⊎ (n + a ≡ b) → IsZeroOrModerate 400 n c

-- rounding (a - b) / c, which is at most B / c in magnitude, changes it by at most B / c parts in 2^53
pub record IsNearDifference (x : Float) (a b c B : ℕ) : Type 0 where
  pub finite : IsFinite x
  pub high : 2 ^ 53 * (positive_part x * c + b * denominator x) ≤ 2 ^ 53 * (a * denominator x + negative_part x * c) + B * denominator x
  pub low : 2 ^ 53 * (a * denominator x + negative_part x * c) ≤ 2 ^ 53 * (positive_part x * c + b * denominator x) + B * denominator x

pub rounding_error : (x : Float) (a b c B : ℕ) → 0 < c → IsRounded x a b c → a ≤ b + B → b ≤ a + B → IsModerateDifference a b c → IsNearDifference x a b c B
rounding_error x a b c B C r p q m = by r.0 r.1 r.2 r.3
  where
    by : (s : Bool) (n : ℕ) → x ≡ round binary64 s n c → IsSigned s n a b → IsNearDifference x a b c B
    by false n is rel =
        let h : IsNearSigned 1 false x n c = subst (λ (y : Float). IsNearSigned 1 false y n c) (sym is) (round_near false n c C (m n (inl rel))) in
        let e = not_negative x h.sign in
        let z = e.1 in
        let d = denominator x in
        let u : positive_part x * c ≡ numerator x * c = ap (λ (k : ℕ). k * c) e.0 in
        let v : negative_part x * c ≡ 0 * c = ap (λ (k : ℕ). k * c) e.1 in
        let w : (n + b) * d ≡ a * d = ap (λ (k : ℕ). k * d) rel in
        let o : n * d ≤ B * d = mul-le-mul_right d (omega arith) in
        let l : n * (2 ^ 53 - 1) * d ≤ numerator x * c * 2 ^ 53 = h.near.low in
        let g : numerator x * c * 2 ^ 53 ≤ n * (2 ^ 53 + 1) * d = h.near.high in
        record { finite = signed_finite false x h.sign; high = omega arith; low = omega arith }
    by true n is rel =
        let h : IsNearSigned 1 true x n c = subst (λ (y : Float). IsNearSigned 1 true y n c) (sym is) (round_near true n c C (m n (inr rel))) in
        let e = not_positive x h.sign in
        let d = denominator x in
        let u : negative_part x * c ≡ numerator x * c = ap (λ (k : ℕ). k * c) e.1 in
        let v : positive_part x * c ≡ 0 * c = ap (λ (k : ℕ). k * c) e.0 in
        let w : (n + a) * d ≡ b * d = ap (λ (k : ℕ). k * d) rel in
        let o : n * d ≤ B * d = mul-le-mul_right d (omega arith) in
        let l : n * (2 ^ 53 - 1) * d ≤ numerator x * c * 2 ^ 53 = h.near.low in
        let g : numerator x * c * 2 ^ 53 ≤ n * (2 ^ 53 + 1) * d = h.near.high in
        record { finite = signed_finite true x h.sign; high = omega arith; low = omega arith }

-- ---- a float and 1/2

fine : (y : Float) → T (fits binary64 y) → denominator y ≤ 4 * positive_part y → denominator y ≤ 2 ^ 55
fine nan p h = absurd (omega arith)
fine (inf s) p h = absurd (omega arith)
fine (fin true m e) p h = absurd (omega (arith, down_pos e))
fine (fin false zero e) p h = absurd (omega (arith, down_pos e))
fine (fin false (suc m) (pos k)) p h = omega arith
fine (fin false (suc m) (negsuc k)) p h = let g = parts false m (negsuc k) p in omega (arith, g.0)

apart : (n a b d : ℕ) → 0 < d → (4 * a < d) ⊎ (d ≤ 2 ^ 55) → (n + (b * 2 + d) ≡ a * 2) ⊎ (n + a * 2 ≡ b * 2 + d) → 0 < n → d * 2 ≤ n * 2 ^ 400
apart n a b d D (inl h) (inl e) N = absurd (omega arith)
apart n a b d D (inl h) (inr e) N = omega arith
apart n a b d D (inr h) e N = omega arith

-- a float less 1/2 is 0 or moderate
pub half_apart : (y : Float) → T (fits binary64 y) → positive_part y ≤ 2 ^ 300 * denominator y → negative_part y ≤ 2 ^ 300 * denominator y
    → IsModerateDifference (positive_part y * 2) (negative_part y * 2 + denominator y) (denominator y * 2)
half_apart y p hi lo zero e = inl refl
half_apart y p hi lo (suc n) e =
    let d = denominator_pos y in
    let near : (4 * positive_part y < denominator y) ⊎ (denominator y ≤ 2 ^ 55) =
    elim (cases_lt (4 * positive_part y) (denominator y)) [ inl l ↦ inl l | inr g ↦ inr (fine y p g) ] in
    inr (record {
      low = apart (suc n) (positive_part y) (negative_part y) (denominator y) d near e (omega arith);
      high = elim e [ inl f ↦ omega arith | inr f ↦ omega arith ];
    })

-- ---- from a certified floor to the exact number

-- If u, which is c - 1/2 rounded, less n, which is T - M, is at least `least`, then c is at least n + 1/2 + least, but for
-- |c| + 1/2 parts in 2^53. The denominators are those of u, `least` and c.
pub above_floor : (up un ud lp ln ld cp cn cd n m : ℕ) → 0 < ud → lp * ud + (un + n * ud) * ld ≤ (up + m * ud) * ld + ln * ud
    → 2 ^ 53 * (up * (cd * 2) + (cn * 2 + cd) * ud) ≤ 2 ^ 53 * (cp * 2 * ud + un * (cd * 2)) + (2 * cp + 2 * cn + cd) * ud
    → 2 ^ 53 * (2 * cd * lp + 2 * cd * n * ld + (2 * cn + cd) * ld) ≤ 2 ^ 53 * (2 * cd * m * ld + 2 * cd * ln + 2 * cp * ld) + (2 * cp + 2 * cn + cd) * ld
above_floor up un ud lp ln ld cp cn cd n m UD f e =
    let a : (lp * ud + (un + n * ud) * ld) * cd ≤ ((up + m * ud) * ld + ln * ud) * cd = mul-le-mul_right cd f in
    let b = mul-le-mul_right ld e in
    let c : 2 ^ 53 * (2 * cd * lp + 2 * cd * n * ld + (2 * cn + cd) * ld) * ud ≤ (2 ^ 53 * (2 * cd * m * ld + 2 * cd * ln + 2 * cp * ld) + (2 * cp + 2 * cn + cd) * ld) * ud = omega arith in
    le_of_mul-le-mul_right c UD

-- If it is less than `room`, then c is less than n + 1/2 + room, but for |c| + 1/2 parts in 2^53.
pub below_floor : (up un ud rp rn rd cp cn cd n m : ℕ) → 0 < ud → (up + m * ud) * rd + rn * ud < rp * ud + (un + n * ud) * rd
    → 2 ^ 53 * (cp * 2 * ud + un * (cd * 2)) ≤ 2 ^ 53 * (up * (cd * 2) + (cn * 2 + cd) * ud) + (2 * cp + 2 * cn + cd) * ud → 0 < cd → 0 < rd
    → 2 ^ 53 * (2 * cp * rd + 2 * cd * m * rd + 2 * cd * rn) < 2 ^ 53 * (2 * cd * rp + 2 * cd * n * rd + (2 * cn + cd) * rd) + (2 * cp + 2 * cn + cd) * rd
below_floor up un ud rp rn rd cp cn cd n m UD f e CD RD =
    let a : ((up + m * ud) * rd + rn * ud) * cd < (rp * ud + (un + n * ud) * rd) * cd = mul-lt-mul_of_pos_right f CD in
    let b = mul-le-mul_right rd e in
    let c : 2 ^ 53 * (2 * cp * rd + 2 * cd * m * rd + 2 * cd * rn) * ud < (2 ^ 53 * (2 * cd * rp + 2 * cd * n * rd + (2 * cn + cd) * rd) + (2 * cp + 2 * cn + cd) * rd) * ud = omega arith in
    lt_of_mul-lt-mul_right ud c
