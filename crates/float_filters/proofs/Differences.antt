-- Floats of either sign as differences of natural numbers over a denominator: sums, rounding, and the order that
-- rounding keeps.
use Rattle.std.proofs.Common.{◌≡◌, ℕ, zero, suc, ◌+◌, ◌-◌, ◌*◌, ◌^◌, ◌<◌, ◌≤◌, Bool, true, false, not, cond, ◌&&◌, ◌||◌, T, eqb, ltb, refl, sym, ap, ◌∙◌, subst, inl, inr, true≢false, arith, mul-pos, le_of_mul-le-mul_right, ltb-true, ltb-false, lt-ltb, eqb→eq, eq-zero-or-pos}
use lib.Ieee.{Float, nan, inf, fin, binary64, up, down, odd, units, round, neg, sum, add, sub, le, is_nan}
use lib.Ieee.Fits.{down_pos, round_is}
use lib.Ieee.Exact.{HasValue}
use lib.Ieee.Order.{round_mono}
use lib.Ieee.Scale.{round_same}
use lib.Ieee.Back.{round_whole}
use lib.Dec.{eqb_refl}
use Rattle.std.proofs.lemmas.Float as order
use Rattle.float_filters.specs.Floors.{IsDifference}

-- ---- rounded differences

-- a - b is n, or -n if s
abbrev pub IsSigned : Bool → ℕ → ℕ → ℕ → Type 0
IsSigned false n a b = n + b ≡ a
IsSigned true n a b = n + a ≡ b

-- the float is (a - b) / c, rounded once to the nearest float
abbrev pub IsRounded : Float → ℕ → ℕ → ℕ → Type 0
IsRounded x a b c = (s : Bool) × (n : ℕ) × (x ≡ round binary64 s n c) × IsSigned s n a b

same_by : (s : Bool) (x : Float) (n a b c d e f : ℕ) → 0 < c → 0 < f → a * f + e * c ≡ d * c + b * f → x ≡ round binary64 s n c → IsSigned s n a b → IsRounded x d e f
same_by false x n a b c d e f C F same is rel =
    let m : (n + b) * f ≡ a * f = ap (λ (k : ℕ). k * f) rel in
    let q : n * f + e * c ≡ d * c = omega arith in
    let h : e * c ≤ d * c = omega arith in
    let le : e ≤ d = le_of_mul-le-mul_right h C in
    let k : d - e + e ≡ d = omega arith in
    let l : (d - e + e) * c ≡ d * c = ap (λ (j : ℕ). j * c) k in
    (false, d - e, is ∙ round_same binary64 false n c (d - e) f C F (omega arith), k)
same_by true x n a b c d e f C F same is rel =
    let m : (n + a) * f ≡ b * f = ap (λ (k : ℕ). k * f) rel in
    let q : n * f + d * c ≡ e * c = omega arith in
    let h : d * c ≤ e * c = omega arith in
    let le : d ≤ e = le_of_mul-le-mul_right h C in
    let k : e - d + d ≡ e = omega arith in
    let l : (e - d + d) * c ≡ e * c = ap (λ (j : ℕ). j * c) k in
    (true, e - d, is ∙ round_same binary64 true n c (e - d) f C F (omega arith), k)

-- equal fractions round alike
pub same_rounded : (x : Float) (a b c d e f : ℕ) → 0 < c → 0 < f → a * f + e * c ≡ d * c + b * f → IsRounded x a b c → IsRounded x d e f
same_rounded x a b c d e f C F same r = same_by r.0 x r.1 a b c d e f C F same r.2 r.3

-- a float with a value is a difference with this value
pub from_value : (x : Float) (s : Bool) (n c a b : ℕ) → HasValue x s n c → IsSigned s n a b → IsDifference x a b c
from_value nan s n c a b v rel = absurd v
from_value (inf t) s n c a b v rel = absurd v
from_value (fin false m e) true n c a b v rel = absurd (true≢false (sym v.0))
from_value (fin true m e) false n c a b v rel = absurd (true≢false v.0)
from_value (fin false m e) false n c a b v rel =
    let k : (n + b) * down e ≡ a * down e = ap (λ (j : ℕ). j * down e) rel in
    let w : m * up e * c ≡ n * down e = v.1 in
    record { finite = tt; value = omega arith }
from_value (fin true m e) true n c a b v rel =
    let k : (n + a) * down e ≡ b * down e = ap (λ (j : ℕ). j * down e) rel in
    let w : m * up e * c ≡ n * down e = v.1 in
    record { finite = tt; value = omega arith }

-- an integer of at most 53 bits is kept by rounding
pub whole_exact : (x : Float) (a b : ℕ) → a ≤ 2 ^ 53 + b → b ≤ 2 ^ 53 + a → IsRounded x a b 1 → IsDifference x a b 1
whole_exact x a b p q r = by r.0 r.1 r.2 r.3
  where
    by : (s : Bool) (n : ℕ) → x ≡ round binary64 s n 1 → IsSigned s n a b → IsDifference x a b 1
    by false n is rel = subst (λ (y : Float). IsDifference y a b 1) (sym is) (from_value _ false n 1 a b (round_whole binary64 false n (omega arith)) rel)
    by true n is rel = subst (λ (y : Float). IsDifference y a b 1) (sym is) (from_value _ true n 1 a b (round_whole binary64 true n (omega arith)) rel)

-- ---- sums

summed : (s t : Bool) (a b c : ℕ) → IsRounded (sum binary64 s a t b c) (cond s 0 a + cond t 0 b) (cond s a 0 + cond t b 0) c
unfolding sum
summed false false a b c = (false, a + b, refl, omega arith)
summed true true a b c = (true, a + b, refl, omega arith)
summed false true a b c = by (ltb a b) refl
  where
    by : (l : Bool) → ltb a b ≡ l → IsRounded (cond l (round binary64 true (b - a) c) (round binary64 false (a - b) c)) (a + 0) (0 + b) c
    by true e = let h = ltb-true a b e in (true, b - a, refl, omega arith)
    by false e = let h = ltb-false a b e in (false, a - b, refl, omega arith)
summed true false a b c = by (ltb a b) (ltb b a) refl refl
  where
    by : (l r : Bool) → ltb a b ≡ l → ltb b a ≡ r → IsRounded (cond l (round binary64 false (b - a) c) (round binary64 (true && r) (a - b) c)) (0 + b) (a + 0) c
    by true r e f = let h = ltb-true a b e in (false, b - a, refl, omega arith)
    by false true e f = let h = ltb-true b a f in (true, a - b, refl, omega arith)
    by false false e f = let h = ltb-false a b e in let g = ltb-false b a f in (false, a - b, refl, omega arith)

spread : (s t : Bool) (A B p q a b c d e f : ℕ) → cond s 0 A * c + b * p ≡ a * p + cond s A 0 * c → cond t 0 B * f + e * q ≡ d * q + cond t B 0 * f
    → (cond s 0 (A * q) + cond t 0 (B * p)) * (c * f) + (b * f + e * c) * (p * q) ≡ (a * f + d * c) * (p * q) + (cond s (A * q) 0 + cond t (B * p) 0) * (c * f)
spread false false A B p q a b c d e f v w = omega (arith, ap (λ (k : ℕ). k * (q * f)) v, ap (λ (k : ℕ). k * (p * c)) w)
spread false true A B p q a b c d e f v w = omega (arith, ap (λ (k : ℕ). k * (q * f)) v, ap (λ (k : ℕ). k * (p * c)) w)
spread true false A B p q a b c d e f v w = omega (arith, ap (λ (k : ℕ). k * (q * f)) v, ap (λ (k : ℕ). k * (p * c)) w)
spread true true A B p q a b c d e f v w = omega (arith, ap (λ (k : ℕ). k * (q * f)) v, ap (λ (k : ℕ). k * (p * c)) w)

-- the sum of two floats is the sum of their values, rounded
pub adds : (x y : Float) (a b c d e f : ℕ) → 0 < c → 0 < f → IsDifference x a b c → IsDifference y d e f → IsRounded (add binary64 x y) (a * f + d * c) (b * f + e * c) (c * f)
unfolding add
adds nan y a b c d e f C F p q = absurd p.finite
adds (inf s) y a b c d e f C F p q = absurd p.finite
adds (fin s m k) nan a b c d e f C F p q = absurd q.finite
adds (fin s m k) (inf t) a b c d e f C F p q = absurd q.finite
adds (fin s m k) (fin t n l) a b c d e f C F p q =
    same_rounded _ _ _ (down k * down l) (a * f + d * c) (b * f + e * c) (c * f) (mul-pos (down_pos k) (down_pos l)) (mul-pos C F)
    (spread s t (m * up k) (n * up l) (down k) (down l) a b c d e f p.value q.value)
    (summed s t (m * up k * down l) (n * up l * down k) (down k * down l))

-- the negative of a float
pub negated : (x : Float) (a b c : ℕ) → IsDifference x a b c → IsDifference (neg x) b a c
unfolding neg
negated nan a b c p = absurd p.finite
negated (inf s) a b c p = absurd p.finite
negated (fin false m e) a b c p = let v = p.value in record { finite = tt; value = omega arith }
negated (fin true m e) a b c p = let v = p.value in record { finite = tt; value = omega arith }

-- the difference of two floats is the difference of their values, rounded
pub subtracts : (x y : Float) (a b c d e f : ℕ) → 0 < c → 0 < f → IsDifference x a b c → IsDifference y d e f → IsRounded (sub binary64 x y) (a * f + e * c) (b * f + d * c) (c * f)
unfolding sub
subtracts x y a b c d e f C F p q = adds x (neg y) a b c e d f C F p (negated y d e f q)

-- ---- order

signed : Bool → Float → Float
signed s nan = nan
signed s (inf t) = inf s
signed s (fin t m e) = fin s m e

signed_odd : (s : Bool) (d q k l : ℕ) → signed s (odd d false q k l) ≡ odd d s q k l
unfolding odd signed
signed_odd s d zero k l = refl
signed_odd s d (suc q) k l = refl

signed_units : (s : Bool) (q k : ℕ) → signed s (units binary64 false q k) ≡ units binary64 s q k
unfolding units signed
signed_units s q k = go (ltb (q * 2 ^ k) (2 ^ 2098))
  where
    go : (b : Bool) → signed s (cond b (odd 54 false q k 1074) (inf false)) ≡ cond b (odd 54 s q k 1074) (inf s)
    go true = signed_odd s 54 q k 1074
    go false = refl

signed_round : (s : Bool) (n c : ℕ) → signed s (round binary64 false n c) ≡ round binary64 s n c
signed_round s n c = ap (signed s) (round_is binary64 false n c) ∙ signed_units s _ _ ∙ sym (round_is binary64 s n c)

turned : (a b : ℕ) → T (ltb b a || (eqb b a && true)) → T (ltb b a || (eqb a b && true))
turned a b = by (ltb b a) (eqb b a) refl
  where
    by : (l e : Bool) → eqb b a ≡ e → T (l || (e && true)) → T (l || (eqb a b && true))
    by true e q t = tt
    by false false q t = absurd t
    by false true q t = let h : b ≡ a = eqb→eq b a (subst T (sym q) tt) in subst (λ (x : ℕ). T (eqb a x && true)) (sym h) (one (eqb a a) (eqb_refl a))
      where
        one : (k : Bool) → T k → T (k && true)
        one true g = tt
        one false g = g

mirror : (x y : Float) → T (le (signed false y) (signed false x)) → T (le (signed true x) (signed true y))
unfolding le signed
mirror nan nan t = absurd t
mirror nan (inf s) t = absurd t
mirror nan (fin s m e) t = absurd t
mirror (inf r) nan t = absurd t
mirror (inf r) (inf s) t = tt
mirror (inf r) (fin s m e) t = tt
mirror (fin r n d) nan t = absurd t
mirror (fin r n d) (inf s) t = absurd t
mirror (fin r n d) (fin s m e) t = turned (n * up d * down e) (m * up e * down d) t

zeros : (a b : ℕ) → T (ltb 0 (a + b) || (eqb a b && eqb a 0))
zeros zero zero = tt
zeros zero (suc b) = subst (λ (x : Bool). T (x || (eqb 0 (suc b) && eqb 0 0))) (sym (lt-ltb 0 (0 + suc b) (omega arith))) tt
zeros (suc a) b = subst (λ (x : Bool). T (x || (eqb (suc a) b && eqb (suc a) 0))) (sym (lt-ltb 0 (suc a + b) (omega arith))) tt

across : (x y : Float) → T (not (is_nan x)) → T (not (is_nan y)) → T (le (signed true x) (signed false y))
unfolding le signed is_nan
across nan y p q = absurd p
across (inf r) nan p q = absurd q
across (inf r) (inf s) p q = tt
across (inf r) (fin s m e) p q = tt
across (fin r n d) nan p q = absurd q
across (fin r n d) (inf s) p q = tt
across (fin r n d) (fin s m e) p q = zeros (n * up d * down e) (m * up e * down d)

number : (n c : ℕ) → 0 < c → T (not (is_nan (round binary64 false n c)))
number n c C = order.le_left _ _ (round_mono binary64 n c n c C C (omega arith))

none : (n c : ℕ) → 0 < c → n * c ≡ 0 → n ≡ 0
none n c C h = elim (eq-zero-or-pos n) [ inl z ↦ z | inr p ↦ let q : 0 < n * c = mul-pos p C in absurd (omega arith) ]

zero_levels : T (le (round binary64 false 0 1) (round binary64 true 0 1))
unfolding le round
zero_levels = tt

ordered : (s t : Bool) (n m a b c d e f : ℕ) → 0 < c → 0 < f → IsSigned s n a b → IsSigned t m d e → a * f + e * c ≤ d * c + b * f → T (le (round binary64 s n c) (round binary64 t m f))
ordered false false n m a b c d e f C F p q h =
    let v : (n + b) * f ≡ a * f = ap (λ (k : ℕ). k * f) p in
    let w : (m + e) * c ≡ d * c = ap (λ (k : ℕ). k * c) q in
    round_mono binary64 n c m f C F (omega arith)
ordered true true n m a b c d e f C F p q h =
    let v : (n + a) * f ≡ b * f = ap (λ (k : ℕ). k * f) p in
    let w : (m + d) * c ≡ e * c = ap (λ (k : ℕ). k * c) q in
    let g = round_mono binary64 m f n c F C (omega arith) in
    subst T (λ i. le (signed_round true n c i) (signed_round true m f i)) (mirror _ _ (subst T (λ i. le (sym (signed_round false m f) i) (sym (signed_round false n c) i)) g))
ordered true false n m a b c d e f C F p q h =
    subst T (λ i. le (signed_round true n c i) (signed_round false m f i)) (across _ _ (number n c C) (number m f F))
ordered false true n m a b c d e f C F p q h =
    let v : (n + b) * f ≡ a * f = ap (λ (k : ℕ). k * f) p in
    let w : (m + d) * c ≡ e * c = ap (λ (k : ℕ). k * c) q in
    let x : 0 ≡ n = sym (none n f F (omega arith)) in
    let y : 0 ≡ m = sym (none m c C (omega arith)) in
    let u : round binary64 false 0 1 ≡ round binary64 false 0 c = round_same binary64 false 0 1 0 c (omega arith) C (omega arith) in
    let z : round binary64 true 0 1 ≡ round binary64 true 0 f = round_same binary64 true 0 1 0 f (omega arith) F (omega arith) in
    subst T (λ i. le (round binary64 false (x i) c) (round binary64 true (y i) f)) (subst T (λ i. le (u i) (z i)) zero_levels)

-- rounding keeps the order
pub rounded_le : (x y : Float) (a b c d e f : ℕ) → 0 < c → 0 < f → IsRounded x a b c → IsRounded y d e f → a * f + e * c ≤ d * c + b * f → T (le x y)
rounded_le x y a b c d e f C F p q h = subst T (λ i. le (sym p.2 i) (sym q.2 i)) (ordered p.0 q.0 p.1 q.1 a b c d e f C F p.3 q.3 h)
