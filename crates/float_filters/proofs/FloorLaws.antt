-- Certified floors: the steps of `floors` in one lane.
use Rattle.std.proofs.Common.{◌≡◌, ℕ, suc, ◌+◌, ◌-◌, ◌*◌, ◌/◌, ◌^◌, ◌<◌, ◌≤◌, Bool, true, false, cond, T, refl, ap, ◌∙◌, arith, pos, negsuc, pow_pos, pow_mono, shl_lt, lt_of_not-le, lt_of_lt_of_le, lt_irrefl, div-one, mul-div_cancel, mul-le-mul_right, le_trans}
use lib.Ieee.{Float, nan, inf, fin, binary64, size, round, units, odd, neg, sum, add, sub, lt, le, fits, to_bits, of_bits}
use lib.Ieee.Fits.{add-fits, sub-fits}
use lib.Ieee.Digits.{size-lt, size-le}
use Rattle.float_filters.specs.Near.{denominator}
use Rattle.float_filters.specs.Floors.{positive_part, negative_part, IsFinite, IsDifference, IsZero, half, minus_half, middle, halved, IsInteger, IsCertified}
use Rattle.float_filters.proofs.Fractions.{denominator_pos}
use Rattle.float_filters.proofs.Differences.{IsSigned, IsRounded, adds, subtracts, same_rounded, whole_exact}
use Rattle.float_filters.proofs.RestLaws.{integer_near, rest_exact}
use Rattle.float_filters.proofs.Comparisons.{own, less_value, at_least_value, finite_rounded, rounded_at_most, rounded_at_least, rounded_above_minus, large_whole}

pub half_value : IsDifference half 1 0 2
half_value = record { finite = tt; value = refl }

pub middle_value : IsDifference middle (3 * 2 ^ 51) 0 1
middle_value = record { finite = tt; value = refl }

-- p - 1/2, for p of at most 2^50 in magnitude
pub halved_rounded : (p : Float) → IsFinite p → IsRounded (halved p) (positive_part p * 2) (negative_part p * 2 + denominator p) (denominator p * 2)
halved_rounded p f =
    let d = denominator_pos p in
    same_rounded _ (positive_part p * 2 + 0 * denominator p) (negative_part p * 2 + 1 * denominator p) (denominator p * 2) _ _ _ (omega arith) (omega arith) (omega arith)
    (subtracts p half (positive_part p) (negative_part p) (denominator p) 1 0 2 d (omega arith) (own p f) half_value)

halved_finite : (p : Float) → IsFinite p → positive_part p ≤ 2 ^ 50 * denominator p → negative_part p ≤ 2 ^ 50 * denominator p → IsFinite (halved p)
halved_finite p f hi lo =
    let d = denominator_pos p in
    finite_rounded (halved p) _ _ _ (2 ^ 51) (omega arith) (omega arith) (halved_rounded p f) (omega arith) (omega arith)

-- the sum of such a number and 3 * 2^51 is an integer
module _ (u : Float) (f : IsFinite u) (most : positive_part u ≤ 2 ^ 50 * denominator u + negative_part u) (least : negative_part u ≤ (2 ^ 50 + 1) * denominator u + positive_part u) where
  raised_rounded : IsRounded (add binary64 u middle) (positive_part u + 3 * 2 ^ 51 * denominator u) (negative_part u) (denominator u)
  raised_rounded =
      let d = denominator_pos u in
      same_rounded _ (positive_part u * 1 + 3 * 2 ^ 51 * denominator u) (negative_part u * 1 + 0 * denominator u) (denominator u * 1) _ _ _ (omega arith) d (omega arith)
      (adds u middle (positive_part u) (negative_part u) (denominator u) (3 * 2 ^ 51) 0 1 d (omega arith) (own u f) middle_value)

  raised_finite : IsFinite (add binary64 u middle)
  raised_finite =
      let d = denominator_pos u in
      finite_rounded (add binary64 u middle) _ _ _ (2 ^ 53) d (omega arith) raised_rounded (omega arith) (omega arith)

  raised_integer : IsInteger (add binary64 u middle) (positive_part (add binary64 u middle))
  raised_integer =
      let t = add binary64 u middle in
      let d = denominator_pos u in
      let low : 2 ^ 52 * denominator t + negative_part t ≤ positive_part t = rounded_at_least t _ _ _ (2 ^ 52) d (omega arith) raised_rounded raised_finite (omega arith) in
      let high : positive_part t ≤ 7 * 2 ^ 50 * denominator t + negative_part t = rounded_at_most t _ _ _ (7 * 2 ^ 50) d (omega arith) raised_rounded raised_finite (omega arith) in
      let w = large_whole t (add-fits binary64 u middle) raised_finite low in
      record {
        finite = raised_finite;
        size = refl;
        whole = w.0;
        from_zero = w.1;
        low = omega (arith, w.0, w.1);
        high = omega (arith, w.0, w.1);
      }

-- an integer between 2^52 and 2^53 as a difference
integer_value : (t : Float) (n : ℕ) → IsInteger t n → IsDifference t n 0 1
integer_value t n h =
    let e = h.size in
    let z = h.from_zero in
    let k : n * denominator t ≡ n * 1 = ap (λ (j : ℕ). n * j) h.whole in
    record { finite = h.finite; value = omega arith }

-- less 3 * 2^51 it is exact
pub lowered_value : (t : Float) (n : ℕ) → IsInteger t n → IsDifference (sub binary64 t middle) n (3 * 2 ^ 51) 1
lowered_value t n h =
    let l = h.low in
    let g = h.high in
    whole_exact _ n (3 * 2 ^ 51) (omega arith) (omega arith)
    (same_rounded _ (n * 1 + 0 * 1) (0 * 1 + 3 * 2 ^ 51 * 1) 1 n (3 * 2 ^ 51) 1 (omega arith) (omega arith) (omega arith)
    (subtracts t middle n 0 1 (3 * 2 ^ 51) 0 1 (omega arith) (omega arith) (integer_value t n h) middle_value))

-- what is left of u
rest_rounded : (u w : Float) (n : ℕ) → IsFinite u → IsDifference w n (3 * 2 ^ 51) 1 → IsRounded (sub binary64 u w) (positive_part u + 3 * 2 ^ 51 * denominator u) (negative_part u + n * denominator u) (denominator u)
rest_rounded u w n f v =
    let d = denominator_pos u in
    same_rounded _ (positive_part u * 1 + 3 * 2 ^ 51 * denominator u) (negative_part u * 1 + n * denominator u) (denominator u * 1) _ _ _ (omega arith) d (omega arith)
    (subtracts u w (positive_part u) (negative_part u) (denominator u) n (3 * 2 ^ 51) 1 d (omega arith) (own u f) v)

-- where both comparisons hold, the integer is certified
pub certified : (p room least : Float) → IsFinite p → positive_part p ≤ 2 ^ 50 * denominator p → negative_part p ≤ 2 ^ 50 * denominator p → T (fits binary64 room)
    → T (lt (sub binary64 (halved p) (sub binary64 (add binary64 (halved p) middle) middle)) room)
    → T (le least (sub binary64 (halved p) (sub binary64 (add binary64 (halved p) middle) middle)))
    → IsCertified p room least (add binary64 (halved p) middle)
certified p room least f hi lo fr less least_at_most =
    let u = halved p in
    let t = add binary64 u middle in
    let w = sub binary64 t middle in
    let d = denominator_pos p in
    let r = halved_rounded p f in
    let g = halved_finite p f hi lo in
    let most = rounded_at_most u _ _ _ (2 ^ 50) (omega arith) (omega arith) r g (omega arith) in
    let low = rounded_above_minus u _ _ _ (2 ^ 50 + 1) (omega arith) (omega arith) r g (omega arith) in
    let i = raised_integer u g most low in
    let e = rest_rounded u w (positive_part t) g (lowered_value t (positive_part t) i) in
    let U = denominator_pos u in
    let near = integer_near t _ _ _ (positive_part t) U (omega arith) (omega arith) (raised_rounded u g most low) i in
    let exact = rest_exact (sub binary64 u w) u (positive_part t) (3 * 2 ^ 51) (sub-fits binary64 p half) g near.0 near.1 e in
    record {
      integer = i;
      finite = g;
      less = less_value _ _ _ (sub binary64 u w) room U e fr less;
      at_least = at_least_value _ _ _ (sub binary64 u w) least exact least_at_most;
    }

-- ---- 0

half_round : (s : Bool) → round binary64 s 1 2 ≡ fin s 1 (negsuc 0)
unfolding round units odd
half_round false = refl
half_round true = refl

-- 1/2 or -1/2 is kept by rounding
pub half_exact : (s : Bool) (y : Float) (a b c : ℕ) → 0 < c → a * 2 + cond s 1 0 * c ≡ cond s 0 1 * c + b * 2 → IsRounded y a b c → y ≡ fin s 1 (negsuc 0)
half_exact s y a b c C e r = by s q.0 q.1 q.2 q.3
  where
    q : IsRounded y (cond s 0 1) (cond s 1 0) 2
    q = same_rounded y a b c (cond s 0 1) (cond s 1 0) 2 C (omega arith) e r

    by : (s t : Bool) (n : ℕ) → y ≡ round binary64 t n 2 → IsSigned t n (cond s 0 1) (cond s 1 0) → y ≡ fin s 1 (negsuc 0)
    by false false n is rel = let one : n ≡ 1 = omega arith in is ∙ ap (λ (k : ℕ). round binary64 false k 2) one ∙ half_round false
    by true true n is rel = let one : n ≡ 1 = omega arith in is ∙ ap (λ (k : ℕ). round binary64 true k 2) one ∙ half_round true
    by false true n is rel = absurd (omega arith)
    by true false n is rel = absurd (omega arith)

pub zero_parts : (p : Float) → IsZero p → (positive_part p ≡ 0) × (negative_part p ≡ 0)
zero_parts nan z = absurd z.finite
zero_parts (inf s) z = absurd z.finite
zero_parts (fin false m e) z = (z.none, refl)
zero_parts (fin true m e) z = (refl, z.none)

pub halved_zero : (p : Float) → IsZero p → halved p ≡ minus_half
halved_zero p z =
    let d = denominator_pos p in
    let e = zero_parts p z in
    half_exact true (halved p) _ _ (denominator p * 2) (omega arith) (omega (arith, e.0, e.1)) (halved_rounded p z.finite)

pub rest_of_half : sub binary64 minus_half (sub binary64 (add binary64 minus_half middle) middle) ≡ minus_half
unfolding sub add sum neg round units odd
rest_of_half = refl

-- ---- the bits of an integer between 2^52 and 2^53

digits : (n : ℕ) → 2 ^ 52 ≤ n → n < 2 ^ 53 → size (n * 2 ^ 1074) ≡ 1127
digits n l h =
    let top : n * 2 ^ 1074 < 2 ^ 1127 = shl_lt 53 1074 h in
    let most : size (n * 2 ^ 1074) ≤ 1127 = size-le (n * 2 ^ 1074) 1127 top in
    let bottom : 2 ^ 1126 ≤ n * 2 ^ 1074 = mul-le-mul_right (2 ^ 1074) l in
    let some : 1126 < size (n * 2 ^ 1074) = lt_of_not-le (λ (g : size (n * 2 ^ 1074) ≤ 1126). lt_irrefl (n * 2 ^ 1074) (lt_of_lt_of_le (size-lt (n * 2 ^ 1074)) (le_trans (pow_mono {i = size (n * 2 ^ 1074)} {j = 1126} g) bottom))) in
    omega arith

one_unit : (k : ℕ) → 2 ^ suc k ≡ 1 → ⊥
one_unit k e = let h : 2 ^ 1 ≤ 2 ^ suc k = pow_mono {i = 1} {j = suc k} (omega arith) in omega arith

bits_by : (n N : ℕ) → N ≡ n * 2 ^ 1074 → 2 ^ 52 ≤ n → n < 2 ^ 53 → 0 + (size N - 53) * 2 ^ 52 + N / 2 ^ (size N - 53) ≡ 1074 * 2 ^ 52 + n
bits_by n N e l h =
    let z : size N ≡ 1127 = ap size e ∙ digits n l h in
    ap (λ (k : ℕ). 0 + (k - 53) * 2 ^ 52 + N / 2 ^ (k - 53)) z ∙ ap (λ (k : ℕ). 1074 * 2 ^ 52 + k) (ap (λ (k : ℕ). k / 2 ^ 1074) e ∙ mul-div_cancel n (pow_pos 1074))

-- the bits of an integer between 2^52 and 2^53 count up with it
pub bits_of_integer : (t : Float) (n : ℕ) → IsInteger t n → to_bits binary64 t ≡ 1074 * 2 ^ 52 + n
unfolding to_bits
bits_of_integer nan n h = absurd h.finite
bits_of_integer (inf s) n h = absurd h.finite
bits_of_integer (fin true m e) n h = let a = h.size in let b = h.low in absurd (omega arith)
bits_of_integer (fin false m (negsuc k)) n h = absurd (one_unit k h.whole)
bits_of_integer (fin false m (pos k)) n h = bits_by n (m * 2 ^ k * 2 ^ 1074 / 1) (div-one (m * 2 ^ k * 2 ^ 1074) ∙ ap (λ (j : ℕ). j * 2 ^ 1074) h.size) h.low h.high

-- ---- literals

pub half_is : of_bits binary64 4602678819172646912 ≡ half
unfolding of_bits
half_is = refl

pub middle_is : of_bits binary64 4843621399236968448 ≡ middle
unfolding of_bits
middle_is = refl
