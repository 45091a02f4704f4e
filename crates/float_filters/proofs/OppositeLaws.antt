-- Minus an integer as a float, put together from its bits.
use Rattle.std.proofs.Common.{◌≡◌, ℕ, zero, suc, ◌+◌, ◌-◌, ◌*◌, ◌/◌, ◌%◌, ◌^◌, ◌<◌, ◌≤◌, Bool, true, false, cond, eqb, List, [], ◌∷◌, ℤ, pos, negsuc, neg_ℤ, length, get_or, map, replicate, refl, sym, ap, ◌∙◌, subst, arith, to_z, of_z, w64, bit_and, bit_or, pow_pos, mul-pos, lt-ltb, le-ltb, eqb→eq, eq-eqb, not, SFits, T, true≢false}
use Rattle.std.specs.Prelude.{unsigned_abs}
use Rattle.std.specs.Simd.Lanes.{zip2, Each1}
use Rattle.std.proofs.lemmas.Bool.{lt-leb}
use Rattle.std.proofs.lemmas.Nat.{and_mask, or_comm, or_shifted}
use Rattle.std.proofs.lemmas.Nat.Bits.{and_high_mask}
use Rattle.std.proofs.lemmas.Simd.{length-zip2, get_or-zip2, get_or-replicate, Each1-from_get_or}
use native.Mathlib.Nat.{eq_of_mul-eq-mul_right}
use lib.Ieee.{Float, nan, inf, fin, binary64, up, down, odd, round, sum, add, sub, neg, of_bits, of_fields, nan_bits}
use lib.Ieee.Back.{round_whole}
use lib.Ieee.Exact.{HasValue, odd_sign}
use lib.Ieee.Fits.{down_pos}
use lib.Ieee.Scale.{round_same}
use Rattle.float_filters.specs.Floors.{IsFull, IsSet, lane, middle}
use Rattle.float_filters.specs.Forces.{IsSize}
use Rattle.float_filters.proofs.FloorLaws.{middle_is}
use Rattle.float_filters.proofs.Rounding.{exact_near}
use Rattle.float_filters.proofs.VectorLaws.{chosen, full_where, kept}

-- ---- the bits of 2^52 and more

scaled_down : (x : Float) (n : ℕ) → HasValue x false (n * 2 ^ 1074) (2 ^ 1074) → HasValue x false n 1
scaled_down nan n v = absurd v
scaled_down (inf s) n v = absurd v
scaled_down (fin s m e) n v =
    let a : m * up e * 1 * 2 ^ 1074 ≡ n * down e * 2 ^ 1074 = omega (arith, v.1) in
    (v.0, eq_of_mul-eq-mul_right (2 ^ 1074) (pow_pos 1074) (m * up e * 1) (n * down e) a)

-- a pattern of the field of 2^52
pub raised_value : (t : ℕ) → t < 2 ^ 52 → HasValue (of_bits binary64 (1075 * 2 ^ 52 + t)) false (2 ^ 52 + t) 1
unfolding of_bits of_fields
raised_value t h =
    let b = 1075 * 2 ^ 52 + t in
    let s : lib.Dec.leb (2 ^ 63) b ≡ false = lt-leb (2 ^ 63) b (omega arith) in
    let f : b % 2 ^ 63 / 2 ^ 52 ≡ 1075 = omega arith in
    let g : b % 2 ^ 52 ≡ t = omega arith in
    subst (λ (x : Float). HasValue x false (2 ^ 52 + t) 1) (λ i. sym (λ j. of_fields binary64 (s j) (f j) (g j)) i)
    (scaled_down (odd 53 false (2 ^ 52 + t) 1074 1074) (2 ^ 52 + t) (odd_sign 53 false (2 ^ 52 + t) 1074 1074))

-- ---- a difference of natural numbers

picked : (a b c p : ℕ) → 0 < p → c ≤ 2 ^ 53 → a ≡ c * p + b → HasValue (cond (lib.Dec.ltb a b) (round binary64 true (b - a) p) (round binary64 false (a - b) p)) false c 1
picked a b c p P few e =
    let k : lib.Dec.ltb a b ≡ false = le-ltb a b (omega arith) in
    let d : a - b ≡ c * p = omega arith in
    subst (λ (t : Bool). HasValue (cond t (round binary64 true (b - a) p) (round binary64 false (a - b) p)) false c 1) (sym k)
    (subst (λ (x : Float). HasValue x false c 1) (sym (ap (λ (n : ℕ). round binary64 false n p) d ∙ round_same binary64 false (c * p) p c 1 P (omega arith) (omega arith))) (round_whole binary64 false c few))

picked_below : (a b c p : ℕ) → 0 < p → 0 < c → c ≤ 2 ^ 53 → b ≡ c * p + a → HasValue (cond (lib.Dec.ltb a b) (round binary64 true (b - a) p) (round binary64 false (a - b) p)) true c 1
picked_below a b c p P C few e =
    let some = mul-pos C P in
    let k : lib.Dec.ltb a b ≡ true = lt-ltb a b (omega arith) in
    let d : b - a ≡ c * p = omega arith in
    subst (λ (t : Bool). HasValue (cond t (round binary64 true (b - a) p) (round binary64 false (a - b) p)) true c 1) (sym k)
    (subst (λ (x : Float). HasValue x true c 1) (sym (ap (λ (n : ℕ). round binary64 true n p) d ∙ round_same binary64 true (c * p) p c 1 P (omega arith) (omega arith))) (round_whole binary64 true c few))

less_above : (x : Float) (n c : ℕ) → HasValue x false n 1 → n ≡ c + 3 * 2 ^ 51 → c ≤ 2 ^ 53 → HasValue (sub binary64 x middle) false c 1
unfolding sub add neg sum
less_above nan n c v e few = absurd v
less_above (inf s) n c v e few = absurd v
less_above (fin true m d) n c v e few = absurd (true≢false v.0)
less_above (fin false m d) n c v e few =
    let w : m * up d ≡ n * down d = omega (arith, v.1) in
    let z : n * down d ≡ (c + 3 * 2 ^ 51) * down d = ap (λ (k : ℕ). k * down d) e in
    picked (m * up d * 1) (3 * 2 ^ 51 * down d) c (down d * 1) (omega (arith, down_pos d)) few (omega arith)

less_below : (x : Float) (n c : ℕ) → HasValue x false n 1 → n + c ≡ 3 * 2 ^ 51 → 0 < c → c ≤ 2 ^ 53 → HasValue (sub binary64 x middle) true c 1
unfolding sub add neg sum
less_below nan n c v e C few = absurd v
less_below (inf s) n c v e C few = absurd v
less_below (fin true m d) n c v e C few = absurd (true≢false v.0)
less_below (fin false m d) n c v e C few =
    let w : m * up d ≡ n * down d = omega (arith, v.1) in
    let z : (n + c) * down d ≡ 3 * 2 ^ 51 * down d = ap (λ (k : ℕ). k * down d) e in
    picked_below (m * up d * 1) (3 * 2 ^ 51 * down d) c (down d * 1) (omega (arith, down_pos d)) C few (omega arith)

-- ---- minus an integer

-- 2^51 less an integer, as the vector operation computes it
opposite : (z : ℤ) (t : ℕ) → SFits w64 z → t ≡ (2 ^ 51 + (2 ^ 64 - of_z w64 z)) % 2 ^ 64 → t < 2 ^ 52 → IsSize (neg_ℤ z) (sub binary64 (of_bits binary64 (1075 * 2 ^ 52 + t)) middle)
opposite (pos zero) t f e h =
    let v = raised_value t h in
    record { small = omega arith; exact = exact_near _ false 0 1 (less_above _ (2 ^ 52 + t) 0 v (omega arith) (omega arith)) }
opposite (pos (suc n)) t f e h =
    let v = raised_value t h in
    let g : suc n < 2 ^ 63 = f.sfits in
    record { small = omega arith; exact = exact_near _ true (suc n) 1 (less_below _ (2 ^ 52 + t) (suc n) v (omega arith) (omega arith) (omega arith)) }
opposite (negsuc n) t f e h =
    let v = raised_value t h in
    let g : n < 2 ^ 63 = f.sfits in
    record { small = omega arith; exact = exact_near _ false (suc n) 1 (less_above _ (2 ^ 52 + t) (suc n) v (omega arith) (omega arith)) }

-- the steps of `opposites` in one lane
pub opposite_lane : (z : ℤ) (b t : ℕ) (x y : Float) → SFits w64 z → b ≡ of_z w64 z → t ≡ (2 ^ 51 + (2 ^ 64 - b)) % 2 ^ 64 → t < 2 ^ 52 → x ≡ of_bits binary64 (1075 * 2 ^ 52 + t) → y ≡ sub binary64 x (of_bits binary64 4843621399236968448)
    → IsSize (neg_ℤ z) y
opposite_lane z b t x y f p q h u v =
    subst (IsSize (neg_ℤ z)) (sym (v ∙ (λ i. sub binary64 (u i) (middle_is i)))) (opposite z t f (q ∙ ap (λ (k : ℕ). (2 ^ 51 + (2 ^ 64 - k)) % 2 ^ 64) p) h)

-- an integer in a lane that is set is at most 2^51 in magnitude
pub opposite_small : (z : ℤ) (b t : ℕ) → SFits w64 z → b ≡ of_z w64 z → t ≡ (2 ^ 51 + (2 ^ 64 - b)) % 2 ^ 64 → t < 2 ^ 52 → unsigned_abs z ≤ 2 ^ 51
opposite_small (pos n) b t f p q h = let g : n < 2 ^ 63 = f.sfits in omega arith
opposite_small (negsuc n) b t f p q h = let g : n < 2 ^ 63 = f.sfits in omega arith

-- ---- lanes of natural numbers

pub natural_with : (f : ℕ → ℕ → ℕ) (xs : List ℕ) (y k : ℕ) → length xs ≡ 4 → k < 4 → get_or (zip2 f xs (y ∷ y ∷ y ∷ y ∷ [])) k 0 ≡ f (get_or xs k 0) y
natural_with f xs y k m l = get_or-zip2 f xs (replicate 4 y) k 0 0 0 (omega arith) l ∙ ap (f (get_or xs k 0)) (get_or-replicate 4 k y 0 l)

pub with_natural : (f : ℕ → ℕ → ℕ) (xs : List ℕ) (y k : ℕ) → length xs ≡ 4 → k < 4 → get_or (zip2 f (y ∷ y ∷ y ∷ y ∷ []) xs) k 0 ≡ f y (get_or xs k 0)
with_natural f xs y k m l = get_or-zip2 f (replicate 4 y) xs k 0 0 0 l (omega arith) ∙ ap (λ (z : ℕ). f z (get_or xs k 0)) (get_or-replicate 4 k y 0 l)

-- the lanes in which two vectors are equal
equal_set : (xs ys : List ℕ) (k : ℕ) → IsSet (map (to_z w64) (zip2 (λ a b. cond (eqb a b) (2 ^ 64 - 1) 0) xs ys)) k → get_or xs k 0 ≡ get_or ys k 0
equal_set [] ys k h = absurd (omega arith)
equal_set (x ∷ xs) [] k h = absurd (omega arith)
equal_set (x ∷ xs) (y ∷ ys) zero h = eqb→eq x y (chosen (eqb x y) (kept _ h))
equal_set (x ∷ xs) (y ∷ ys) (suc k) h = equal_set xs ys k h

-- no higher bit is set
pub low_set : (xs : List ℕ) (k : ℕ) → length xs ≡ 4 → k < 4 → get_or xs k 0 < 2 ^ 64
    → IsSet (map (to_z w64) (zip2 (λ a b. cond (eqb a b) (2 ^ 64 - 1) 0) (zip2 bit_and xs (18442240474082181120 ∷ 18442240474082181120 ∷ 18442240474082181120 ∷ 18442240474082181120 ∷ [])) (0 ∷ 0 ∷ 0 ∷ 0 ∷ []))) k → get_or xs k 0 < 2 ^ 52
low_set xs k m l f h =
    let a : get_or (zip2 bit_and xs (replicate 4 18442240474082181120)) k 0 ≡ bit_and (get_or xs k 0) (2 ^ 64 - 2 ^ 52) = natural_with bit_and xs 18442240474082181120 k m l in
    let none : ℕ = 0 in
    let b : get_or (replicate 4 none) k none ≡ none = get_or-replicate 4 k none none l in
    let c : get_or xs k 0 / 2 ^ 52 * 2 ^ 52 ≡ 0 = sym (and_high_mask 64 52 (omega arith) (get_or xs k 0) f) ∙ sym a ∙ equal_set _ _ k h ∙ b in
    omega (arith, c)

pub low_full : (xs : List ℕ) (k : ℕ) → length xs ≡ 4 → k < 4 → get_or xs k 0 < 2 ^ 52
    → IsFull (map (to_z w64) (zip2 (λ a b. cond (eqb a b) (2 ^ 64 - 1) 0) (zip2 bit_and xs (18442240474082181120 ∷ 18442240474082181120 ∷ 18442240474082181120 ∷ 18442240474082181120 ∷ [])) (0 ∷ 0 ∷ 0 ∷ 0 ∷ []))) k
low_full xs k m l h =
    let a : get_or (zip2 bit_and xs (replicate 4 18442240474082181120)) k 0 ≡ bit_and (get_or xs k 0) (2 ^ 64 - 2 ^ 52) = natural_with bit_and xs 18442240474082181120 k m l in
    let none : ℕ = 0 in
    let b : get_or (replicate 4 none) k none ≡ none = get_or-replicate 4 k none none l in
    let f : get_or xs k 0 < 2 ^ 64 = omega arith in
    let c : get_or xs k 0 / 2 ^ 52 * 2 ^ 52 ≡ 0 = omega arith in
    let e = a ∙ and_high_mask 64 52 (omega arith) (get_or xs k 0) f ∙ c ∙ sym b in
    full_where eqb none (zip2 bit_and xs (replicate 4 18442240474082181120)) (replicate 4 none) k (length-zip2 bit_and xs (replicate 4 18442240474082181120) m ∙ m) refl l (subst T (sym (eq-eqb _ _ e)) tt)

-- 2^51 less 0
pub zero_low : (z : ℤ) (b t : ℕ) → z ≡ pos 0 → b ≡ of_z w64 z → t ≡ (2 ^ 51 + (2 ^ 64 - b)) % 2 ^ 64 → t < 2 ^ 52
zero_low z b t e p q = let n : b ≡ 0 = p ∙ ap (of_z w64) e in omega arith

mapped : (xs : List ℕ) (k : ℕ) → k < length xs → lane (map (of_bits binary64) xs) k ≡ of_bits binary64 (get_or xs k 0)
mapped [] k l = absurd (omega arith)
mapped (x ∷ xs) zero l = refl
mapped (x ∷ xs) (suc k) l = mapped xs k (omega arith)

-- the floats of patterns with the field of 2^52
pub raised_lane : (xs : List ℕ) (k : ℕ) → length xs ≡ 4 → k < 4 → get_or xs k 0 < 2 ^ 52
    → lane (map (of_bits binary64) (zip2 bit_or (zip2 bit_and xs (4503599627370495 ∷ 4503599627370495 ∷ 4503599627370495 ∷ 4503599627370495 ∷ [])) (4841369599423283200 ∷ 4841369599423283200 ∷ 4841369599423283200 ∷ 4841369599423283200 ∷ []))) k
    ≡ of_bits binary64 (1075 * 2 ^ 52 + get_or xs k 0)
raised_lane xs k m l h =
    let ys = zip2 bit_and xs (replicate 4 4503599627370495) in
    let long : length ys ≡ 4 = length-zip2 bit_and xs (replicate 4 4503599627370495) m ∙ m in
    let all : length (zip2 bit_or ys (replicate 4 4841369599423283200)) ≡ 4 = length-zip2 bit_or ys (replicate 4 4841369599423283200) long ∙ long in
    let n = get_or xs k 0 in
    let a : get_or ys k 0 ≡ n = natural_with bit_and xs 4503599627370495 k m l ∙ and_mask n 52 ∙ omega arith in
    let b : get_or (zip2 bit_or ys (replicate 4 4841369599423283200)) k 0 ≡ 1075 * 2 ^ 52 + n =
    natural_with bit_or ys 4841369599423283200 k long l ∙ ap (λ (j : ℕ). bit_or j 4841369599423283200) a ∙ or_comm n 4841369599423283200 ∙ or_shifted 1075 52 n h in
    mapped _ k (omega arith) ∙ ap (of_bits binary64) b

-- such a pattern is no NaN
raised_bits : (x : ℕ) → T (not (nan_bits binary64 (bit_or (bit_and x 4503599627370495) 4841369599423283200)))
unfolding nan_bits
raised_bits x =
    let a : bit_and x 4503599627370495 ≡ x % 2 ^ 52 = and_mask x 52 in
    let sum : bit_or (x % 2 ^ 52) 4841369599423283200 ≡ 4841369599423283200 + x % 2 ^ 52 = or_comm (x % 2 ^ 52) 4841369599423283200 ∙ or_shifted 1075 52 (x % 2 ^ 52) (omega arith) in
    let field : (4841369599423283200 + x % 2 ^ 52) % 2 ^ 63 / 2 ^ 52 ≡ 1075 = omega arith in
    rw (a, sum, field) tt

pub raised_numbers : (xs : List ℕ) → length xs ≡ 4
    → Each1 (λ (b : ℕ). T (not (nan_bits binary64 b))) (zip2 bit_or (zip2 bit_and xs (4503599627370495 ∷ 4503599627370495 ∷ 4503599627370495 ∷ 4503599627370495 ∷ [])) (4841369599423283200 ∷ 4841369599423283200 ∷ 4841369599423283200 ∷ 4841369599423283200 ∷ []))
raised_numbers xs m =
    let ys = zip2 bit_and xs (replicate 4 4503599627370495) in
    let long : length ys ≡ 4 = length-zip2 bit_and xs (replicate 4 4503599627370495) m ∙ m in
    let all : length (zip2 bit_or ys (replicate 4 4841369599423283200)) ≡ 4 = length-zip2 bit_or ys (replicate 4 4841369599423283200) long ∙ long in
    Each1-from_get_or (λ (b : ℕ). T (not (nan_bits binary64 b))) _ 0
    (λ k l.
    let h : k < 4 = omega (arith, l, all) in
    subst (λ (b : ℕ). T (not (nan_bits binary64 b))) (sym (natural_with bit_or ys 4841369599423283200 k long h ∙ ap (λ (j : ℕ). bit_or j 4841369599423283200) (natural_with bit_and xs 4503599627370495 k m h))) (raised_bits (get_or xs k 0)))
