-- The lanes of vectors of four floats, and of masks.
use Rattle.std.proofs.Common.{◌≡◌, ℕ, zero, suc, ◌+◌, ◌-◌, ◌*◌, ◌%◌, ◌^◌, ◌<◌, ◌≤◌, ◌/◌, Bool, true, false, not, cond, T, leb→le, List, [], ◌∷◌, ℤ, pos, negsuc, ◌-ℤ◌, ◌*ℤ◌, length, get_or, map, replicate, refl, sym, ap, ◌∙◌, subst, arith, inl, inr, to_z, of_z, w64, bit_and}
use Rattle.std.specs.Simd.Lanes.{zip2, mask_l, top, sel_l}
use Rattle.std.proofs.lemmas.Bool.{cases_lt, le-ltb}
use Rattle.std.proofs.lemmas.List.{length-map}
use Rattle.std.proofs.lemmas.Float.{le_left, le_of_lt}
use Rattle.std.proofs.lemmas.Int.{ints, to_z_pos}
use Rattle.std.proofs.lemmas.Nat.{and_le_l, and_le_r}
use Rattle.std.proofs.lemmas.Simd.{length-zip2, get_or-zip2, get_or-replicate, bit_mask_l, tops_compared, length-sel_l, get_or-sel_l}
use lib.Ieee.{Float, nan, inf, fin, binary64, le, lt, fits, add, sub, mul, neg, is_nan, of_bits, to_bits}
use Rattle.float_filters.specs.Floors.{HasFloats, IsFull, IsSet, IsZero, lane, minus_half, IsFinite, IsCertified, positive_part, negative_part, halved, middle, half, IsInteger}
use Rattle.float_filters.specs.Near.{denominator}
use Rattle.fixed.specs.Roots.{root}
use Rattle.fixed.specs.Rounding.{IsFloor}
use Rattle.float_filters.specs.Forces.{IsLine, IsSize, float_component_of, least_of, magnitude, margin_of, ratio_of, room_of}
use Rattle.float_filters.proofs.ForceLaws.{force_lane, zero_sure}
use Rattle.float_filters.proofs.FloorLaws.{certified, half_is, halved_zero, middle_is, rest_of_half, bits_of_integer}

-- an operation on two vectors
pub pointwise : (f : Float → Float → Float) (xs ys : List Float) → length xs ≡ 4 → length ys ≡ 4 → HasFloats (zip2 f xs ys) (λ k. f (lane xs k) (lane ys k))
pointwise f xs ys m n = record {
  long = length-zip2 f xs ys (m ∙ sym n) ∙ m;
  each = λ k l. get_or-zip2 f xs ys k nan nan nan (omega arith) (omega arith);
}

-- an operation on a vector and a number
pub with_number : (f : Float → Float → Float) (xs : List Float) (y : Float) → length xs ≡ 4 → HasFloats (zip2 f xs (y ∷ y ∷ y ∷ y ∷ [])) (λ k. f (lane xs k) y)
with_number f xs y m = record {
  long = length-zip2 f xs (replicate 4 y) m ∙ m;
  each = λ k l. get_or-zip2 f xs (replicate 4 y) k nan nan nan (omega arith) l ∙ ap (f (lane xs k)) (get_or-replicate 4 k y nan l);
}

-- the bits of a lane, as a signed number and back
pub kept : (n : ℕ) → 2 ^ 63 ≤ of_z w64 (to_z w64 n) → 2 ^ 63 ≤ n
kept n h = elim (cases_lt n (2 ^ 63)) [
  | inl l ↦ let g : 2 ^ 63 ≤ n = subst (λ (z : ℤ). 2 ^ 63 ≤ of_z w64 z) (to_z_pos w64 n l) h in g
  | inr g ↦ g
]

pub chosen : (b : Bool) → 2 ^ 63 ≤ cond b (2 ^ 64 - 1) 0 → T b
chosen true h = tt
chosen false h = absurd (omega arith)

-- the lanes in which one vector is less than another
pub less_set : (xs ys : List Float) (k : ℕ) → IsSet (map (to_z w64) (zip2 (λ a b. cond (lt a b) (2 ^ 64 - 1) 0) xs ys)) k → T (lt (lane xs k) (lane ys k))
less_set [] ys k h = absurd (omega arith)
less_set (x ∷ xs) [] k h = absurd (omega arith)
less_set (x ∷ xs) (y ∷ ys) zero h = chosen (lt x y) (kept _ h)
less_set (x ∷ xs) (y ∷ ys) (suc k) h = less_set xs ys k h

-- the lanes in which one vector is at most another
pub at_most_set : (ys xs : List Float) (k : ℕ) → IsSet (map (to_z w64) (zip2 (λ a b. cond (le a b) (2 ^ 64 - 1) 0) ys xs)) k → T (le (lane ys k) (lane xs k))
at_most_set [] xs k h = absurd (omega arith)
at_most_set (y ∷ ys) [] k h = absurd (omega arith)
at_most_set (y ∷ ys) (x ∷ xs) zero h = chosen (le y x) (kept _ h)
at_most_set (y ∷ ys) (x ∷ xs) (suc k) h = at_most_set ys xs k h

-- the lanes that are at least a number
pub at_least_set : (xs : List Float) (y : Float) (k : ℕ) → k < 4 → IsSet (map (to_z w64) (zip2 (λ a b. cond (le a b) (2 ^ 64 - 1) 0) (y ∷ y ∷ y ∷ y ∷ []) xs)) k → T (le y (lane xs k))
at_least_set xs y k l h = subst (λ (z : Float). T (le z (lane xs k))) (get_or-replicate 4 k y nan l) (at_most_set (replicate 4 y) xs k h)

-- the lanes that are set in both masks
pub both_set : (ms ns : List ℤ) (k : ℕ) → IsSet (map (to_z w64) (zip2 bit_and (map (of_z w64) ms) (map (of_z w64) ns))) k → IsSet ms k × IsSet ns k
both_set [] ns k h = absurd (omega arith)
both_set (m ∷ ms) [] k h = absurd (omega arith)
both_set (m ∷ ms) (n ∷ ns) zero h = let g = kept (bit_and (of_z w64 m) (of_z w64 n)) h in (omega (arith, g, and_le_l (of_z w64 m) (of_z w64 n)), omega (arith, g, and_le_r (of_z w64 m) (of_z w64 n)))
both_set (m ∷ ms) (n ∷ ns) (suc k) h = both_set ms ns k h

-- a mask that is handed on
pub set_again : (ms : List ℤ) (k : ℕ) → IsSet (map (to_z w64) (map (of_z w64) ms)) k → IsSet ms k
set_again [] k h = h
set_again (m ∷ ms) zero h = kept (of_z w64 m) h
set_again (m ∷ ms) (suc k) h = set_again ms k h

-- ---- lanes whose bits are all 1

all_ones : (b : Bool) → T b → to_z w64 (cond b (2 ^ 64 - 1) 0) ≡ negsuc 0
all_ones true t = refl
all_ones false t = absurd t

-- the lanes in which a comparison holds
ones_where : {X : Type 0} (t : X → X → Bool) (d : X) (xs ys : List X) (k : ℕ) → k < length xs → k < length ys → T (t (get_or xs k d) (get_or ys k d)) → get_or (map (to_z w64) (zip2 (λ a b. cond (t a b) (2 ^ 64 - 1) 0) xs ys)) k (pos 0) ≡ negsuc 0
ones_where t d [] ys k l m h = absurd (omega arith)
ones_where t d (x ∷ xs) [] k l m h = absurd (omega arith)
ones_where t d (x ∷ xs) (y ∷ ys) zero l m h = all_ones (t x y) h
ones_where t d (x ∷ xs) (y ∷ ys) (suc k) l m h = ones_where t d xs ys k (omega arith) (omega arith) h

pub full_where : {X : Type 0} (t : X → X → Bool) (d : X) (xs ys : List X) (k : ℕ) → length xs ≡ 4 → length ys ≡ 4 → k < 4 → T (t (get_or xs k d) (get_or ys k d)) → IsFull (map (to_z w64) (zip2 (λ a b. cond (t a b) (2 ^ 64 - 1) 0) xs ys)) k
full_where t d xs ys k m n l h = record {
  long = length-map (zip2 (λ a b. cond (t a b) (2 ^ 64 - 1) 0) xs ys) (to_z w64) ∙ length-zip2 (λ a b. cond (t a b) (2 ^ 64 - 1) 0) xs ys (m ∙ sym n) ∙ m;
  bits = ones_where t d xs ys k (omega arith) (omega arith) h;
}

-- in both masks
ones_both : (ms ns : List ℤ) (k : ℕ) → get_or ms k (pos 0) ≡ negsuc 0 → get_or ns k (pos 0) ≡ negsuc 0 → get_or (map (to_z w64) (zip2 bit_and (map (of_z w64) ms) (map (of_z w64) ns))) k (pos 0) ≡ negsuc 0
ones_both [] ns k h g = absurd (omega (arith, ints, h))
ones_both (m ∷ ms) [] k h g = absurd (omega (arith, ints, g))
ones_both (m ∷ ms) (n ∷ ns) zero h g = λ i. to_z w64 (bit_and (of_z w64 (h i)) (of_z w64 (g i)))
ones_both (m ∷ ms) (n ∷ ns) (suc k) h g = ones_both ms ns k h g

pub full_both : (ms ns : List ℤ) (k : ℕ) → IsFull ms k → IsFull ns k → IsFull (map (to_z w64) (zip2 bit_and (map (of_z w64) ms) (map (of_z w64) ns))) k
full_both ms ns k h g =
    let a : length (map (of_z w64) ms) ≡ 4 = length-map ms (of_z w64) ∙ h.long in
    let b : length (map (of_z w64) ns) ≡ 4 = length-map ns (of_z w64) ∙ g.long in
    record {
      long = length-map (zip2 bit_and (map (of_z w64) ms) (map (of_z w64) ns)) (to_z w64) ∙ length-zip2 bit_and (map (of_z w64) ms) (map (of_z w64) ns) (a ∙ sym b) ∙ a;
      bits = ones_both ms ns k h.bits g.bits;
    }

-- in a mask that is handed on
ones_again : (ms : List ℤ) (k : ℕ) → get_or ms k (pos 0) ≡ negsuc 0 → get_or (map (to_z w64) (map (of_z w64) ms)) k (pos 0) ≡ negsuc 0
ones_again [] k h = h
ones_again (m ∷ ms) zero h = λ i. to_z w64 (of_z w64 (h i))
ones_again (m ∷ ms) (suc k) h = ones_again ms k h

pub full_again : (ms : List ℤ) (k : ℕ) → IsFull ms k → IsFull (map (to_z w64) (map (of_z w64) ms)) k
full_again ms k h = record { long = length-map (map (of_z w64) ms) (to_z w64) ∙ length-map ms (of_z w64) ∙ h.long; bits = ones_again ms k h.bits }

pub full_set : (ms : List ℤ) (k : ℕ) → IsFull ms k → IsSet ms k
full_set ms k h = subst (λ (z : ℤ). 2 ^ 63 ≤ of_z w64 z) (sym h.bits) (omega arith)

-- four lanes
four_ones : (ms : List ℤ) → length ms ≡ 4 → ((k : ℕ) → k < 4 → get_or ms k (pos 0) ≡ negsuc 0) → mask_l (map (top 63) (map (of_z w64) ms)) % 2 ^ 64 ≡ 15
four_ones (a ∷ b ∷ c ∷ d ∷ []) m h = λ i. mask_l (map (top 63) (map (of_z w64) (h 0 (omega arith) i ∷ h 1 (omega arith) i ∷ h 2 (omega arith) i ∷ h 3 (omega arith) i ∷ []))) % 2 ^ 64
four_ones [] m h = absurd (omega arith)
four_ones (a ∷ []) m h = absurd (omega arith)
four_ones (a ∷ b ∷ []) m h = absurd (omega arith)
four_ones (a ∷ b ∷ c ∷ []) m h = absurd (omega arith)
four_ones (a ∷ b ∷ c ∷ d ∷ e ∷ ms) m h = absurd (omega arith)

pub all_full : (ms : List ℤ) → ((k : ℕ) → k < 4 → IsFull ms k) → mask_l (map (top 63) (map (of_z w64) ms)) % 2 ^ 64 ≡ 15
all_full ms h = four_ones ms (h 0 (omega arith)).long (λ k l. (h k l).bits)

-- ---- certified floors

-- the steps of `floors` in one lane, by the results of the operations
pub certified_lane : (p room least u t w e : Float) → u ≡ sub binary64 p (of_bits binary64 4602678819172646912) → t ≡ add binary64 u (of_bits binary64 4843621399236968448) → w ≡ sub binary64 t (of_bits binary64 4843621399236968448)
    → e ≡ sub binary64 u w → IsFinite p → positive_part p ≤ 2 ^ 50 * denominator p → negative_part p ≤ 2 ^ 50 * denominator p → T (fits binary64 room) → T (lt e room) → T (le least e)
    → IsCertified p room least t
certified_lane p room least u t w e a b c d number hi lo fr x y =
    let u' : u ≡ halved p = a ∙ ap (sub binary64 p) half_is in
    let t' : t ≡ add binary64 (halved p) middle = b ∙ (λ i. add binary64 (u' i) (middle_is i)) in
    let w' : w ≡ sub binary64 (add binary64 (halved p) middle) middle = c ∙ (λ i. sub binary64 (t' i) (middle_is i)) in
    let e' : e ≡ sub binary64 (halved p) (sub binary64 (add binary64 (halved p) middle) middle) = d ∙ (λ i. sub binary64 (u' i) (w' i)) in
    subst (λ (z : Float). IsCertified p room least z) (sym t') (certified p room least number hi lo fr (subst (λ (z : Float). T (lt z room)) e' x) (subst (λ (z : Float). T (le least z)) e' y))

-- the rest of 0
pub zero_lane : (p u t w e : Float) → u ≡ sub binary64 p (of_bits binary64 4602678819172646912) → t ≡ add binary64 u (of_bits binary64 4843621399236968448) → w ≡ sub binary64 t (of_bits binary64 4843621399236968448)
    → e ≡ sub binary64 u w → IsZero p → e ≡ minus_half
zero_lane p u t w e a b c d z =
    let u' : u ≡ minus_half = a ∙ ap (sub binary64 p) half_is ∙ halved_zero p z in
    let t' : t ≡ add binary64 minus_half middle = b ∙ (λ i. add binary64 (u' i) (middle_is i)) in
    let w' : w ≡ sub binary64 (add binary64 minus_half middle) middle = c ∙ (λ i. sub binary64 (t' i) (middle_is i)) in
    d ∙ (λ i. sub binary64 (u' i) (w' i)) ∙ rest_of_half

-- where the comparison of the rest holds, the integer is a number
no_rest : (u y : Float) → is_nan (sub binary64 u (sub binary64 nan y)) ≡ true
unfolding sub add is_nan
no_rest nan y = refl
no_rest (inf s) y = refl
no_rest (fin s m e) y = refl

number_rest : (u t y : Float) → T (not (is_nan (sub binary64 u (sub binary64 t y)))) → T (not (is_nan t))
number_rest u nan y h = absurd (subst (λ (b : Bool). T (not b)) (no_rest u y) h)
number_rest u (inf s) y h = infinite s
  where
    infinite : (s : Bool) → T (not (is_nan (inf s)))
    infinite s = unfold is_nan in tt
number_rest u (fin s m e) y h = finite s m e
  where
    finite : (s : Bool) (m : ℕ) (e : ℤ) → T (not (is_nan (fin s m e)))
    finite s m e = unfold is_nan in tt

pub number_lane : (u t y w e room : Float) → w ≡ sub binary64 t y → e ≡ sub binary64 u w → T (lt e room) → T (not (is_nan t))
number_lane u t y w e room a b l = number_rest u t y (le_left _ _ (le_of_lt _ _ (subst (λ (z : Float). T (lt z room)) (b ∙ ap (sub binary64 u) a) l)))

-- the bits of four integers between 2^52 and 2^53, counted from those of 3 * 2^51
mapped : (t : List Float) (k : ℕ) → k < length t → get_or (map (to_bits binary64) t) k 0 ≡ to_bits binary64 (lane t k)
mapped [] k l = absurd (omega arith)
mapped (x ∷ t) zero l = refl
mapped (x ∷ t) (suc k) l = mapped t k (omega arith)

pub pattern_lane : (t : List Float) (k n : ℕ) → length t ≡ 4 → k < 4 → IsInteger (lane t k) n
    → get_or (zip2 (λ a b. (a + (2 ^ 64 - b)) % 2 ^ 64) (map (to_bits binary64) t) (4843621399236968448 ∷ 4843621399236968448 ∷ 4843621399236968448 ∷ 4843621399236968448 ∷ [])) k 0 ≡ (n + (2 ^ 64 - 3 * 2 ^ 51)) % 2 ^ 64
pattern_lane t k n m l i =
    let c : ℕ = 4843621399236968448 in
    let f = λ (a b : ℕ). (a + (2 ^ 64 - b)) % 2 ^ 64 in
    let u : get_or (map (to_bits binary64) t) k 0 ≡ 1074 * 2 ^ 52 + n = mapped t k (omega arith) ∙ bits_of_integer (lane t k) n i in
    let v : get_or (replicate 4 c) k 0 ≡ c = get_or-replicate 4 k c 0 l in
    get_or-zip2 f (map (to_bits binary64) t) (replicate 4 c) k 0 0 0 (omega (arith, length-map t (to_bits binary64))) l
    ∙ (λ j. f (u j) (v j)) ∙ ap (λ (j : ℕ). j % 2 ^ 64) (omega arith)

-- such a number read with its sign
pub signed_pattern : (n x : ℕ) → n < 2 ^ 53 → 2 ^ 52 ≤ n → x ≡ (n + (2 ^ 64 - 3 * 2 ^ 51)) % 2 ^ 64 → to_z w64 x ≡ pos n -ℤ pos (3 * 2 ^ 51)
signed_pattern n x h l e = elim (cases_lt n (3 * 2 ^ 51)) [
  | inl k ↦
      let f : x ≡ n + (2 ^ 64 - 3 * 2 ^ 51) = omega arith in
      let g : to_z w64 x ≡ negsuc (2 ^ 64 - suc x) = rw (le-ltb x (2 ^ 63) (omega arith)) refl in
      g ∙ omega (arith, ints)
  | inr k ↦ let f : x ≡ n - 3 * 2 ^ 51 = omega arith in omega (arith, ints)
]

-- and handed on
pub signed_again : (r : ℤ) (n : ℕ) → n < 2 ^ 53 → 2 ^ 52 ≤ n → r ≡ pos n -ℤ pos (3 * 2 ^ 51) → to_z w64 (of_z w64 r) ≡ pos n -ℤ pos (3 * 2 ^ 51)
signed_again r n h l e = omega (arith, ints)

-- all lanes of a mask
top_lane : (ms : List ℤ) (k : ℕ) → T (get_or (map (top 63) (map (of_z w64) ms)) k false) → IsSet ms k
top_lane [] k t = absurd t
top_lane (m ∷ ms) zero t = leb→le (2 ^ 63) (of_z w64 m) t
top_lane (m ∷ ms) (suc k) t = top_lane ms k t

bit_of : (x k : ℕ) → x % 2 ^ 64 ≡ 15 → k < 4 → x / 2 ^ k % 2 ≡ 1
bit_of x zero e l = omega arith
bit_of x (suc zero) e l = omega arith
bit_of x (suc (suc zero)) e l = omega arith
bit_of x (suc (suc (suc zero))) e l = omega arith
bit_of x (suc (suc (suc (suc k)))) e l = absurd (omega arith)

one_bit : (b : Bool) → ◌≡◌ {A = ℕ} (cond b 1 0) 1 → T b
one_bit true e = tt
one_bit false e = absurd (omega arith)

pub all_set : (ms : List ℤ) → mask_l (map (top 63) (map (of_z w64) ms)) % 2 ^ 64 ≡ 15 → (k : ℕ) → k < 4 → IsSet ms k
all_set ms e k l =
    let bs = map (top 63) (map (of_z w64) ms) in
    top_lane ms k (one_bit _ (sym (bit_mask_l bs k) ∙ bit_of (mask_l bs) k e l))

-- ---- operations of forces

pub number_with : (f : Float → Float → Float) (y : Float) (xs : List Float) → length xs ≡ 4 → HasFloats (zip2 f (y ∷ y ∷ y ∷ y ∷ []) xs) (λ k. f y (lane xs k))
number_with f y xs m = record {
  long = length-zip2 f (replicate 4 y) xs (sym m);
  each = λ k l. get_or-zip2 f (replicate 4 y) xs k nan nan nan l (omega arith) ∙ ap (λ (z : Float). f z (lane xs k)) (get_or-replicate 4 k y nan l);
}

-- the same lanes in other words
pub same_lanes : (v : List Float) (f g : ℕ → Float) → HasFloats v f → ((k : ℕ) → k < 4 → f k ≡ g k) → HasFloats v g
same_lanes v f g h e = record { long = h.long; each = λ k l. h.each k l ∙ e k l }

turned : (xs : List Float) (k : ℕ) → k < length xs → lane (map neg xs) k ≡ neg (lane xs k)
turned [] k l = absurd (omega arith)
turned (x ∷ xs) zero l = refl
turned (x ∷ xs) (suc k) l = turned xs k (omega arith)

pub zero_is : of_bits binary64 0 ≡ fin false 0 (pos 0)
unfolding of_bits
zero_is = refl

pub magnitude_lanes : (xs : List Float) → length xs ≡ 4
    → HasFloats (sel_l (map (top 63) (zip2 (λ a b. cond (lt a b) (2 ^ 64 - 1) 0) xs (of_bits binary64 0 ∷ of_bits binary64 0 ∷ of_bits binary64 0 ∷ of_bits binary64 0 ∷ []))) (map neg xs) xs) (λ k. magnitude (lane xs k))
magnitude_lanes xs m =
    let z = of_bits binary64 0 in
    let zs = replicate 4 z in
    let long : length (zip2 lt xs zs) ≡ 4 = length-zip2 lt xs zs m ∙ m in
    let other : length (map neg xs) ≡ 4 = length-map xs neg ∙ m in
    subst (λ (ms : List Bool). HasFloats (sel_l ms (map neg xs) xs) (λ k. magnitude (lane xs k))) (sym (tops_compared w64 lt xs zs))
    (record {
      long = length-sel_l (zip2 lt xs zs) (map neg xs) xs (omega arith) (omega arith) ∙ long;
      each = λ k l.
          let a : get_or (zip2 lt xs zs) k false ≡ lt (lane xs k) (fin false 0 (pos 0)) = get_or-zip2 lt xs zs k nan nan false (omega arith) l ∙ ap (lt (lane xs k)) (get_or-replicate 4 k z nan l ∙ zero_is) in
          let b : lane (map neg xs) k ≡ neg (lane xs k) = turned xs k (omega arith) in
          get_or-sel_l (zip2 lt xs zs) (map neg xs) xs k nan (omega arith) (omega arith) (omega arith) ∙ (λ i. cond (a i) (b i) (lane xs k));
    })

-- the steps of `force_floors` in one lane, by the results of the operations
pub force_of_lane : (s : ℕ) (g a : ℤ) (size r x slack q m room least p t : Float) → q ≡ ratio_of size r → m ≡ mul binary64 (magnitude q) slack → room ≡ sub binary64 half m → least ≡ sub binary64 m (of_bits binary64 4602678819172646912)
    → p ≡ mul binary64 q x → IsSize g size → IsLine s a r x slack → T (lt least room) → (IsFinite p → positive_part p ≤ 2 ^ 50 * denominator p → negative_part p ≤ 2 ^ 50 * denominator p → IsCertified p room least t)
    → IsInteger t (positive_part t) × IsFloor (g *ℤ a) (pos (root s)) (pos (positive_part t) -ℤ pos (3 * 2 ^ 51))
force_of_lane s g a size r x slack q m room least p t q' m' room' least' p' exact line order cert =
    let u : m ≡ margin_of size r slack = m' ∙ ap (λ (y : Float). mul binary64 (magnitude y) slack) q' in
    let v : room ≡ room_of size r slack = room' ∙ ap (sub binary64 half) u in
    let w : least ≡ least_of size r slack = least' ∙ (λ i. sub binary64 (u i) (half_is i)) in
    let c : p ≡ float_component_of size r x = p' ∙ ap (λ (y : Float). mul binary64 y x) q' in
    force_lane s g a size r x slack t exact line (subst T (λ i. lt (w i) (v i)) order)
    (subst (λ (y : Float). IsFinite y → positive_part y ≤ 2 ^ 50 * denominator y → negative_part y ≤ 2 ^ 50 * denominator y → IsCertified y (room_of size r slack) (least_of size r slack) t) c
    (subst (λ (y : Float). IsFinite p → positive_part p ≤ 2 ^ 50 * denominator p → negative_part p ≤ 2 ^ 50 * denominator p → IsCertified p (room_of size r slack) y t) w
    (subst (λ (y : Float). IsFinite p → positive_part p ≤ 2 ^ 50 * denominator p → negative_part p ≤ 2 ^ 50 * denominator p → IsCertified p y least t) v cert)))

-- a lane without a force
pub zero_of_lane : (s : ℕ) (a : ℤ) (size r x slack q m room least p : Float) → q ≡ ratio_of size r → m ≡ mul binary64 (magnitude q) slack → room ≡ sub binary64 half m → least ≡ sub binary64 m (of_bits binary64 4602678819172646912)
    → p ≡ mul binary64 q x → IsSize (pos 0) size → IsLine s a r x slack → IsZero p × T (lt minus_half room) × T (le least minus_half)
zero_of_lane s a size r x slack q m room least p q' m' room' least' p' exact line =
    let u : m ≡ margin_of size r slack = m' ∙ ap (λ (y : Float). mul binary64 (magnitude y) slack) q' in
    let v : room ≡ room_of size r slack = room' ∙ ap (sub binary64 half) u in
    let w : least ≡ least_of size r slack = least' ∙ (λ i. sub binary64 (u i) (half_is i)) in
    let c : p ≡ float_component_of size r x = p' ∙ ap (λ (y : Float). mul binary64 y x) q' in
    let z = zero_sure s a size r x slack exact line in
    (subst IsZero (sym c) z.0, subst (λ (y : Float). T (lt minus_half y)) (sym v) z.1, subst (λ (y : Float). T (le y minus_half)) (sym w) z.2)
