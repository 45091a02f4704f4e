-- What comparisons of floats say of their values.
use Rattle.std.proofs.Common.{◌≡◌, ℕ, zero, suc, ◌+◌, ◌-◌, ◌*◌, ◌/◌, ◌%◌, ◌^◌, ◌<◌, ◌≤◌, ◌⊎◌, Bool, true, false, cond, ◌&&◌, ◌||◌, T, eqb, ltb, leb, refl, sym, ap, ◌∙◌, subst, inl, inr, arith, pos, negsuc, pow_pos, pow_mono, pow-add, shl_lt, lt_of_not-le, le_of_suc-le-suc, lt_of_lt_of_le, mul-le-mul_right, le_of_mul-le-mul_right, le_of_lt, eqb→eq, eq-eqb, ne_eqb, ltb→lt, leb→le}
use lib.IntN.{ℤ}
use lib.Ieee.{Float, nan, inf, fin, binary64, up, down, size, round, lt, eq, le, fits, to_bits, of_bits}
use lib.Ieee.Bits.{of_bits-to_bits}
use lib.Ieee.Fits.{down_pos, round-fits, and_l, and_r}
use lib.Ieee.Exact.{HasValue, round_exact}
use lib.Ieee.Nearest.{div_same}
use lib.Ieee.Back.{round_whole}
use Rattle.std.proofs.lemmas.Float as order
use Rattle.std.proofs.lemmas.Bool.{cases_eq}
use Rattle.float_filters.specs.Near.{denominator}
use Rattle.float_filters.specs.Floors.{positive_part, negative_part, IsFinite, IsDifference, IsLess, IsAtLeast}
use Rattle.float_filters.proofs.Fractions.{denominator_pos}
use Rattle.float_filters.proofs.Differences.{IsSigned, IsRounded, rounded_le, from_value}

-- ---- a float that fits is its own rounding

bits_alike : (s t : Bool) (m n : ℕ) (e d : ℤ) → t ≡ s → n * up d * down e ≡ m * up e * down d → to_bits binary64 (fin s m e) ≡ to_bits binary64 (fin t n d)
unfolding to_bits
bits_alike s t m n e d p q =
    let l : m * up e * 2 ^ 1074 * down d ≡ n * up d * 2 ^ 1074 * down e = omega (arith, ap (λ (k : ℕ). k * 2 ^ 1074) q) in
    let is : m * up e * 2 ^ 1074 / down e ≡ n * up d * 2 ^ 1074 / down d = div_same _ _ _ _ (down_pos e) (down_pos d) l in
    λ i. cond (sym p i) 9223372036854775808 0 + (size (is i) - 53) * 4503599627370496 + is i / 2 ^ (size (is i) - 53)

same_value : (s : Bool) (m : ℕ) (e : ℤ) (y : Float) → T (fits binary64 (fin s m e)) → T (fits binary64 y) → HasValue y s (m * up e) (down e) → fin s m e ≡ y
same_value s m e nan p q v = absurd v
same_value s m e (inf t) p q v = absurd v
same_value s m e (fin t n d) p q v =
    sym (of_bits-to_bits binary64 (fin s m e) p) ∙ ap (of_bits binary64) (bits_alike s t m n e d v.0 v.1) ∙ of_bits-to_bits binary64 (fin t n d) q

-- what a float that fits is made of
pub parts : (s : Bool) (m : ℕ) (e : ℤ) → T (fits binary64 (fin s (suc m) e)) → (suc m < 2 ^ 53) × (down e ≤ 2 ^ 1074) × (suc m * up e < 2 ^ 1024 * down e)
unfolding fits
parts s m e t =
    let a = eqb (suc m % 2) 1 in
    let b = ltb (suc m) (2 ^ 53) in
    let c = leb (down e) (2 ^ 1074) in
    let d = ltb (suc m * up e) (2 ^ 1024 * down e) in (
      ltb→lt _ _ (and_r a b (and_l (a && b) c (and_l (a && b && c) d t))),
      leb→le _ _ (and_r (a && b) c (and_l (a && b && c) d t)),
      ltb→lt _ _ (and_r (a && b && c) d t),
    )

own_value : (s : Bool) (m : ℕ) (e : ℤ) → T (fits binary64 (fin s m e)) → HasValue (round binary64 s (m * up e) (down e)) s (m * up e) (down e)
own_value s zero e t = round_exact binary64 s (0 * up e) (down e) 0 0 (down_pos e) (pow_pos 53) (pow_pos 2098) (omega arith)
own_value s (suc m) (pos k) t =
    let h = parts s m (pos k) t in
    let big : suc m * 2 ^ k < 2 ^ 1024 = omega (arith, h.2) in
    let place : suc m * 2 ^ k * 2 ^ 1074 ≡ suc m * 2 ^ (k + 1074) = omega (arith, ap (λ (j : ℕ). suc m * j) (pow-add 2 k 1074)) in
    round_exact binary64 s (suc m * 2 ^ k) 1 (suc m) (k + 1074) (omega arith) h.0
    (subst (λ (j : ℕ). j < 2 ^ 2098) place (shl_lt 1024 1074 big)) (omega (arith, place))
own_value s (suc m) (negsuc k) t =
    let h = parts s m (negsuc k) t in
    let low : suc k ≤ 1074 = le_of_suc-le-suc (lt_of_not-le (λ (g : suc 1074 ≤ suc k). let x = pow_mono {i = suc 1074} {j = suc k} g in absurd (omega (arith, h.1, pow-add 2 1 1074, pow_pos 1074)))) in
    let j = 1074 - suc k in
    let total : j + suc k ≡ 1074 = omega arith in
    let most : 53 + j ≤ 2098 = omega arith in
    round_exact binary64 s (suc m * 1) (2 ^ suc k) (suc m) j (pow_pos (suc k)) h.0
    (lt_of_lt_of_le (shl_lt 53 j h.0) (pow_mono most))
    (omega (arith, ap (λ (i : ℕ). suc m * i) (sym (pow-add 2 j (suc k)) ∙ ap (λ (i : ℕ). 2 ^ i) total)))

signs : (s : Bool) (n : ℕ) → IsSigned s n (cond s 0 n) (cond s n 0)
signs false n = omega arith
signs true n = omega arith

-- a float that fits is its own rounding
pub itself : (x : Float) → T (fits binary64 x) → IsFinite x → IsRounded x (positive_part x) (negative_part x) (denominator x)
itself nan p t = absurd t
itself (inf s) p t = absurd t
itself (fin s m e) p t =
    (s, m * up e, same_value s m e (round binary64 s (m * up e) (down e)) p (round-fits binary64 s (m * up e) (down e)) (own_value s m e p), signs s (m * up e))

-- a finite float is its own value
pub own : (x : Float) → IsFinite x → IsDifference x (positive_part x) (negative_part x) (denominator x)
own nan t = absurd t
own (inf s) t = absurd t
own (fin s m e) t = record { finite = tt; value = refl }

-- ---- less than a float

no_less : (x : Float) → T (lt x nan) → ⊥
unfolding lt
no_less nan t = t
no_less (inf s) t = t
no_less (fin s m e) t = t

less_infinity : (x : Float) (s : Bool) → T (lt x (inf s)) → s ≡ false
unfolding lt
less_infinity x false t = refl
less_infinity nan true t = absurd t
less_infinity (inf true) true t = absurd t
less_infinity (inf false) true t = absurd t
less_infinity (fin r m e) true t = absurd t

-- if a rounded number is less than a float, so is the number
pub less_value : (a b c : ℕ) (x y : Float) → 0 < c → IsRounded x a b c → T (fits binary64 y) → T (lt x y) → IsLess a b c y
less_value a b c x nan C r p l = absurd (no_less x l)
less_value a b c x (inf s) C r p l = less_infinity x s l
less_value a b c x (fin s m e) C r p l =
    let y = fin s m e in
    lt_of_not-le (λ (g : positive_part y * c + b * denominator y ≤ a * denominator y + negative_part y * c).
    order.lt_irrefl x (order.lt_of_lt_of_le x y x l (rounded_le y x _ _ _ a b c (denominator_pos y) C (itself y p tt) r g)))

-- ---- values of floats in order

eqb_sym : (a b : ℕ) → eqb a b ≡ eqb b a
eqb_sym a b = elim (cases_eq a b) [
  | inl e ↦ rw (eq-eqb a b e, eq-eqb b a (sym e)) refl
  | inr n ↦ rw (ne_eqb a b n, ne_eqb b a (λ f. n (sym f))) refl
]

split : (a b : Bool) → T (a || b) → T a ⊎ T b
split true b t = inl tt
split false b t = inr t

less_or_level : (A B : ℕ) → T (ltb A B || (eqb A B && true)) → A ≤ B
less_or_level A B t = elim (split (ltb A B) (eqb A B && true) t) [
  | inl l ↦ le_of_lt (ltb→lt A B l)
  | inr l ↦ let h : A ≡ B = eqb→eq A B (and_l (eqb A B) true l) in omega arith
]

-- finite floats in order have values in order
pub le_value : (x y : Float) → IsFinite x → IsFinite y → T (le x y) → positive_part x * denominator y + negative_part y * denominator x ≤ positive_part y * denominator x + negative_part x * denominator y
unfolding le lt eq
le_value nan y p q t = absurd p
le_value (inf s) y p q t = absurd p
le_value (fin s m e) nan p q t = absurd q
le_value (fin s m e) (inf r) p q t = absurd q
le_value (fin false m e) (fin false n d) p q t =
    let h : m * up e * down d ≤ n * up d * down e = less_or_level (m * up e * down d) (n * up d * down e) t in omega arith
le_value (fin true m e) (fin true n d) p q t =
    let h : n * up d * down e ≤ m * up e * down d = less_or_level (n * up d * down e) (m * up e * down d) (subst (λ (k : Bool). T (ltb (n * up d * down e) (m * up e * down d) || (k && true))) (eqb_sym (m * up e * down d) (n * up d * down e)) t) in omega arith
le_value (fin true m e) (fin false n d) p q t = omega arith
le_value (fin false m e) (fin true n d) p q t =
    let A = m * up e * down d in
    let B = n * up d * down e in
    let h : A ≡ B = eqb→eq A B (and_l (eqb A B) (eqb A 0) t) in
    let g : A ≡ 0 = eqb→eq A 0 (and_r (eqb A B) (eqb A 0) t) in
    omega arith

-- ---- at least a float

at_least_infinity : (x : Float) (s : Bool) → IsFinite x → T (le (inf s) x) → s ≡ true
unfolding le lt eq
at_least_infinity x true f t = refl
at_least_infinity nan false f t = absurd f
at_least_infinity (inf r) false f t = absurd f
at_least_infinity (fin r m e) false f t = absurd t

not_at_least : (x : Float) → T (le nan x) → ⊥
unfolding le lt eq
not_at_least x t = t

-- if a number is a float that is at least another, the number is
pub at_least_value : (a b c : ℕ) (x y : Float) → IsDifference x a b c → T (le y x) → IsAtLeast a b c y
at_least_value a b c x nan v l = absurd (not_at_least x l)
at_least_value a b c x (inf s) v l = at_least_infinity x s v.finite l
at_least_value a b c x (fin s m e) v l =
    let y = fin s m e in
    let h : positive_part y * denominator x * c + negative_part x * denominator y * c ≤ positive_part x * denominator y * c + negative_part y * denominator x * c = omega (arith, mul-le-mul_right c (le_value y x tt v.finite l)) in
    let w : positive_part x * c * denominator y + b * denominator x * denominator y ≡ a * denominator x * denominator y + negative_part x * c * denominator y = omega (arith, ap (λ (k : ℕ). k * denominator y) v.value) in
    let g : (positive_part y * c + b * denominator y) * denominator x ≤ (a * denominator y + negative_part y * c) * denominator x = omega arith in
    le_of_mul-le-mul_right g (denominator_pos x)

pub finite_between : (l x h : Float) → IsFinite l → IsFinite h → T (le l x) → T (le x h) → IsFinite x
unfolding le lt eq
finite_between nan x h p q s t = absurd p
finite_between (inf r) x h p q s t = absurd p
finite_between (fin r m e) nan h p q s t = absurd s
finite_between (fin r m e) (inf u) nan p q s t = absurd q
finite_between (fin r m e) (inf u) (inf v) p q s t = absurd q
finite_between (fin r m e) (inf true) (fin v n d) p q s t = absurd s
finite_between (fin r m e) (inf false) (fin v n d) p q s t = absurd t
finite_between (fin r m e) (fin u n d) h p q s t = tt

-- ---- bounds that are integers

whole : (s : Bool) (n a b : ℕ) → n ≤ 2 ^ 53 → IsSigned s n a b → IsDifference (round binary64 s n 1) a b 1
whole s n a b h rel = from_value _ s n 1 a b (round_whole binary64 s n h) rel

-- a rounded number between two integers is finite
pub finite_rounded : (x : Float) (a b c n : ℕ) → 0 < c → n ≤ 2 ^ 53 → IsRounded x a b c → a ≤ n * c + b → b ≤ n * c + a → IsFinite x
finite_rounded x a b c n C h r p q =
    finite_between (round binary64 true n 1) x (round binary64 false n 1)
    (whole true n 0 n h (omega arith)).finite (whole false n n 0 h (omega arith)).finite
    (rounded_le (round binary64 true n 1) x 0 n 1 a b c (omega arith) C (true, n, refl, omega arith) r (omega arith))
    (rounded_le x (round binary64 false n 1) a b c n 0 1 C (omega arith) r (false, n, refl, omega arith) (omega arith))

below_whole : (x : Float) (n : ℕ) → IsFinite x → n ≤ 2 ^ 53 → T (le x (round binary64 false n 1)) → positive_part x ≤ n * denominator x + negative_part x
below_whole x n p h t =
    let y = round binary64 false n 1 in
    let v = whole false n n 0 h (omega arith) in
    let w = v.value in
    let l = le_value x y p v.finite t in
    let m : positive_part y * denominator x ≡ n * denominator y * denominator x + negative_part y * denominator x = omega (arith, ap (λ (k : ℕ). k * denominator x) w) in
    let g : positive_part x * denominator y ≤ (n * denominator x + negative_part x) * denominator y = omega arith in
    le_of_mul-le-mul_right g (denominator_pos y)

above_whole : (x : Float) (n : ℕ) → IsFinite x → n ≤ 2 ^ 53 → T (le (round binary64 false n 1) x) → n * denominator x + negative_part x ≤ positive_part x
above_whole x n p h t =
    let y = round binary64 false n 1 in
    let v = whole false n n 0 h (omega arith) in
    let w = v.value in
    let l = le_value y x v.finite p t in
    let m : positive_part y * denominator x ≡ n * denominator y * denominator x + negative_part y * denominator x = omega (arith, ap (λ (k : ℕ). k * denominator x) w) in
    let g : (n * denominator x + negative_part x) * denominator y ≤ positive_part x * denominator y = omega arith in
    le_of_mul-le-mul_right g (denominator_pos y)

above_minus : (x : Float) (n : ℕ) → IsFinite x → n ≤ 2 ^ 53 → T (le (round binary64 true n 1) x) → negative_part x ≤ n * denominator x + positive_part x
above_minus x n p h t =
    let y = round binary64 true n 1 in
    let v = whole true n 0 n h (omega arith) in
    let w = v.value in
    let l = le_value y x v.finite p t in
    let m : positive_part y * denominator x + n * denominator y * denominator x ≡ negative_part y * denominator x = omega (arith, ap (λ (k : ℕ). k * denominator x) w) in
    let g : negative_part x * denominator y ≤ (n * denominator x + positive_part x) * denominator y = omega arith in
    le_of_mul-le-mul_right g (denominator_pos y)

-- a number at most an integer is at most this integer when it is rounded
pub rounded_at_most : (x : Float) (a b c n : ℕ) → 0 < c → n ≤ 2 ^ 53 → IsRounded x a b c → IsFinite x → a ≤ n * c + b → positive_part x ≤ n * denominator x + negative_part x
rounded_at_most x a b c n C h r p q =
    below_whole x n p h (rounded_le x (round binary64 false n 1) a b c n 0 1 C (omega arith) r (false, n, refl, omega arith) (omega arith))

-- a number at least an integer is at least this integer when it is rounded
pub rounded_at_least : (x : Float) (a b c n : ℕ) → 0 < c → n ≤ 2 ^ 53 → IsRounded x a b c → IsFinite x → n * c + b ≤ a → n * denominator x + negative_part x ≤ positive_part x
rounded_at_least x a b c n C h r p q =
    above_whole x n p h (rounded_le (round binary64 false n 1) x n 0 1 a b c (omega arith) C (false, n, refl, omega arith) r (omega arith))

-- a number at least a negative integer is at least this integer when it is rounded
pub rounded_above_minus : (x : Float) (a b c n : ℕ) → 0 < c → n ≤ 2 ^ 53 → IsRounded x a b c → IsFinite x → b ≤ n * c + a → negative_part x ≤ n * denominator x + positive_part x
rounded_above_minus x a b c n C h r p q =
    above_minus x n p h (rounded_le (round binary64 true n 1) x 0 n 1 a b c (omega arith) C (true, n, refl, omega arith) r (omega arith))

-- ---- integers of 53 bits

-- a float of 2^52 or more is an integer
pub large_whole : (x : Float) → T (fits binary64 x) → IsFinite x → 2 ^ 52 * denominator x + negative_part x ≤ positive_part x → (denominator x ≡ 1) × (negative_part x ≡ 0)
large_whole nan p t h = absurd t
large_whole (inf s) p t h = absurd t
large_whole (fin true m e) p t h = let d = down_pos e in absurd (omega arith)
large_whole (fin false zero e) p t h = let d = down_pos e in absurd (omega arith)
large_whole (fin false (suc m) (pos k)) p t h = (refl, refl)
large_whole (fin false (suc m) (negsuc k)) p t h =
    let g = parts false m (negsuc k) p in
    let d : 2 ^ 1 ≤ 2 ^ suc k = pow_mono {i = 1} {j = suc k} (omega arith) in
    absurd (omega (arith, g.0))
