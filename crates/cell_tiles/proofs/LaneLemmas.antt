-- Masks of up to 64 bits: the lanes whose bits are set, and the pairs that masks exclude.
use Rattle.std.proofs.Common.{◌≡◌, ℕ, zero, suc, ◌+◌, ◌-◌, ◌*◌, ◌/◌, ◌%◌, ◌^◌, ◌<◌, ◌≤◌, ◌⊎◌, Bool, true, false, cond, eqb, List, [], ◌∷◌, ◌++◌, length, get_or, map, filter, bit_and, bit_or, None, refl, subst, sym, ap, ◌∙◌, ⊎_elim, arith, append-nil, All}
use Rattle.std.specs.Int.{bit_at}
use Rattle.std.proofs.lemmas.Bool.{cases_eq, cases_lt, eq-eqb, eqb-false, ne_eqb}
use Rattle.std.proofs.lemmas.List.{append_assoc, ext_get_or, get_or-map, length-map, map-append}
use Rattle.std.proofs.lemmas.List.Elements.{All-filter, filter-append}
use Rattle.std.proofs.Math.Nat.{mod-eq_of_lt, mod-lt, pow-le-pow_right}
use Rattle.std.proofs.lemmas.Nat.{and_mask, mul-le, or_comm, or_shifted, pow-add, pow_pos, shr-shr, shr_split}
use Rattle.std.proofs.lemmas.Grind.{pow_more}
use Rattle.std.proofs.lemmas.Nat.Bits.{bit_at-lt, bit_at-pow_other, bit_at-pow_same, bit_at-zero, bit_at_above, bit_at_and, bit_at_cat_high, bit_at_cat_low, bit_at_ones_above, ones_shr, same_from_bits_below}
use Rattle.place_blocks.specs.Blocks.{IsLane, LeavesOut}
use Rattle.ring_box.specs.Acting.{Reach, acting_of}
use Rattle.place_blocks.specs.declared.blocks.Block.{Block}
use Rattle.ring_box.specs.declared.boxes.RingBox.{RingBox}
use Rattle.place_blocks.specs.declared.upper_halves.UpperHalves.{UpperHalves}
use Rattle.cell_tiles.specs.Cells.{LeavesOutOfFirst, no_block, numbers_below}
use Rattle.cell_tiles.specs.Near.{lanes_of}
use Rattle.cell_tiles.proofs.CountLemmas.{below_suc, below_zero, filter_suc, get_below, length_below, numbers_are_below}

-- ---- a part of a mask

-- the lower `count` bits from the bit `first` on, as shifts and a mask make them
pub part_is : (bits first count : ℕ) → count ≤ 64 → bit_and (bits / 2 ^ first) ((2 ^ 64 - 1) / 2 ^ (64 - count)) ≡ bits / 2 ^ first % 2 ^ count
part_is bits first count few =
    let e : 64 - (64 - count) ≡ count = omega arith in
    ap (bit_and (bits / 2 ^ first)) (ones_shr 64 (64 - count) (omega arith) ∙ ap (λ n. 2 ^ n - 1) e) ∙ and_mask (bits / 2 ^ first) count

-- the part of a mask is below 2 ^ count
pub part_bound : (bits first count : ℕ) → count ≤ 64 → bit_and (bits / 2 ^ first) ((2 ^ 64 - 1) / 2 ^ (64 - count)) < 2 ^ count
part_bound bits first count few = let lt = mod-lt (bits / 2 ^ first) (pow_pos count) in omega (arith, part_is bits first count few, lt)

-- the bit k of the part is the bit first + k of the mask
pub part_each : (bits first count k : ℕ) → k < count → bit_at (bits / 2 ^ first % 2 ^ count) k ≡ bit_at bits (first + k)
part_each bits first count k lt =
    let n = bits / 2 ^ first in
    let whole : n / 2 ^ count * 2 ^ count + n % 2 ^ count ≡ n = shr_split n count in
    sym (bit_at_cat_low (n / 2 ^ count) count (n % 2 ^ count) k lt) ∙ ap (λ m. bit_at m k) whole ∙ ap (λ m. m % 2) (shr-shr bits first k)

-- ---- masks of sixteen beside one another

-- if n masks of sixteen bits fit 16 * n bits, one mask more above them fits 16 * (n + 1) bits
pub mask_bound : (near mask n : ℕ) → near < 2 ^ (16 * n) → mask < 2 ^ 16 → mask * 2 ^ (16 * n) + near < 2 ^ (16 * (n + 1))
mask_bound near mask n small few =
    let e : 2 ^ (16 * (n + 1)) ≡ 2 ^ 16 * 2 ^ (16 * n) = ap (λ k. 2 ^ k) (omega arith) ∙ pow-add 2 16 (16 * n) in
    let m : (mask + 1) * 2 ^ (16 * n) ≤ 2 ^ 16 * 2 ^ (16 * n) = mul-le (mask + 1) (2 ^ (16 * n)) (2 ^ 16) (2 ^ (16 * n)) (omega arith) (omega arith) in
    omega (arith, e, m, small)

-- the code joins the mask with a 64-bit shift and an or
pub mask_joined : (near mask n : ℕ) → n < 4 → near < 2 ^ (16 * n) → mask < 2 ^ 16 → bit_or near (mask * 2 ^ (16 * n) % 2 ^ 64) ≡ mask * 2 ^ (16 * n) + near
mask_joined near mask n room small few =
    let bound = mask_bound near mask n small few in
    let last : 16 * (n + 1) ≤ 64 = omega arith in
    let within : 2 ^ (16 * (n + 1)) ≤ 2 ^ 64 = pow-le-pow_right (omega arith) last in
    let fits : mask * 2 ^ (16 * n) % 2 ^ 64 ≡ mask * 2 ^ (16 * n) = mod-eq_of_lt (omega (arith, bound, within)) in
    ap (bit_or near) fits ∙ or_comm near (mask * 2 ^ (16 * n)) ∙ or_shifted mask (16 * n) near small

-- if the first n blocks' mask and the next block's mask exclude only atoms that don't interact, so does the joined mask
pub leaves_out_more : (d : Reach) (b : RingBox) (blocks : List Block) (n : ℕ) (halves : UpperHalves) (near mask : ℕ) → near < 2 ^ (16 * n) → LeavesOutOfFirst d b blocks n halves near → LeavesOut d b (get_or blocks n no_block) halves mask
    → LeavesOutOfFirst d b blocks (n + 1) halves (mask * 2 ^ (16 * n) + near)
leaves_out_more d b blocks n halves near mask small before more k p q lt here lane unset =
    ⊎_elim (λ below. before k p q below here lane (sym (bit_at_cat_low mask (16 * n) near k below) ∙ unset)) last (cases_lt k (16 * n))
  where
    last : 16 * n ≤ k → acting_of d b p q ≡ None
    last le =
        let block : k / 16 ≡ n = omega arith in
        let own : k % 16 ≡ k - 16 * n = omega arith in
        more (k - 16 * n) p q (omega arith) here (subst (λ j. IsLane (get_or blocks n no_block) j q) own (subst (λ i. IsLane (get_or blocks i no_block) (k % 16) q) block lane))
        (sym (bit_at_cat_high mask (16 * n) near k small le) ∙ unset)

-- ---- the lowest bit

-- clearing the lowest set bit t leaves the bits up to t at 0 and the higher bits unchanged
pub without_lowest : (t b : ℕ) → bit_at b t ≡ 1 → ((k : ℕ) → k < t → bit_at b k ≡ 0)
    → ((k : ℕ) → k ≤ t → bit_at (bit_and b (b - 1)) k ≡ 0) × ((k : ℕ) → t < k → bit_at (bit_and b (b - 1)) k ≡ bit_at b k)
without_lowest t b set least =
    let q = b / 2 ^ (t + 1) in
    let whole : q * 2 ^ (t + 1) + b % 2 ^ (t + 1) ≡ b = shr_split b (t + 1) in
    let few : 2 ^ t < 2 ^ (t + 1) = omega (arith, pow_more 2 t, pow_pos t) in
    let low : b % 2 ^ (t + 1) ≡ 2 ^ t = same_from_bits_below (t + 1) (b % 2 ^ (t + 1)) (2 ^ t) (mod-lt b (pow_pos (t + 1))) few (λ i lt. each i lt whole) in
    let here : q * 2 ^ (t + 1) + 2 ^ t ≡ b = omega (arith, whole, low) in
    let less : q * 2 ^ (t + 1) + (2 ^ t - 1) ≡ b - 1 = omega (arith, here, pow_pos t) in (
      λ k le. bit_at_and b (b - 1) k ∙ ⊎_elim (λ lt. omega (arith, least k lt)) (λ ge. omega (arith, bit_at_ones_above t k ge, low_bit q (2 ^ t - 1) (b - 1) k (omega arith) less)) (cases_lt k t),
      λ k lt. bit_at_and b (b - 1) k ∙ omega (arith, high_bit q (2 ^ t) b k few lt here, high_bit q (2 ^ t - 1) (b - 1) k (omega (arith, few)) lt less),
    )
  where
    low_bit : (q r n k : ℕ) → k < t + 1 → q * 2 ^ (t + 1) + r ≡ n → bit_at n k ≡ bit_at r k
    low_bit q r n k lt e = ap (λ m. bit_at m k) (sym e) ∙ bit_at_cat_low q (t + 1) r k lt

    high_bit : (q r n k : ℕ) → r < 2 ^ (t + 1) → t < k → q * 2 ^ (t + 1) + r ≡ n → bit_at n k ≡ bit_at q (k - (t + 1))
    high_bit q r n k small lt e = ap (λ m. bit_at m k) (sym e) ∙ bit_at_cat_high q (t + 1) r k small (omega arith)

    each : (i : ℕ) → i < t + 1 → b / 2 ^ (t + 1) * 2 ^ (t + 1) + b % 2 ^ (t + 1) ≡ b → bit_at (b % 2 ^ (t + 1)) i ≡ bit_at (2 ^ t) i
    each i lt whole =
        sym (low_bit (b / 2 ^ (t + 1)) (b % 2 ^ (t + 1)) b i lt whole)
        ∙ ⊎_elim (λ e. rw e (set ∙ sym (bit_at-pow_same t))) (λ ne. least i (omega arith) ∙ sym (bit_at-pow_other t i ne)) (cases_eq i t)

-- ---- numbers below a bound that pass a test

-- if no number below n passes the test, the filtered list is empty
pub none_below : (p : ℕ → Bool) (n : ℕ) → ((k : ℕ) → k < n → p k ≡ false) → filter p (numbers_below n) ≡ []
none_below p zero h = ap (filter p) below_zero
none_below p (suc n) h = rw (filter_suc p n, h n (omega arith), none_below p n (λ k lt. h k (omega arith))) refl

-- the first that passes, and the others
pub first_below : (p q : ℕ → Bool) (t n : ℕ) → t < n → p t ≡ true → ((k : ℕ) → k < t → p k ≡ false) → ((k : ℕ) → k ≤ t → q k ≡ false) → ((k : ℕ) → t < k → q k ≡ p k)
    → filter p (numbers_below n) ≡ t ∷ filter q (numbers_below n)
first_below p q t zero lt here before none behind = absurd (omega arith)
first_below p q t (suc n) lt here before none behind =
    rw (filter_suc p n, filter_suc q n)
    (⊎_elim
    (λ (e : n ≡ t). rw (e, here, none t (omega arith), none_below p t before, none_below q t (λ k l. none k (omega arith))) refl)
    (λ ne. rw (first_below p q t n (omega arith) here before none behind, behind n (omega arith)) refl)
    (cases_eq n t))

-- if no number from n on passes the test, a higher bound doesn't change the filtered list
pub none_above : (p : ℕ → Bool) (n d : ℕ) → ((k : ℕ) → n ≤ k → p k ≡ false) → filter p (numbers_below (n + d)) ≡ filter p (numbers_below n)
none_above p n zero h = ap (λ m. filter p (numbers_below m)) (omega arith)
none_above p n (suc d) h =
    let e : n + suc d ≡ suc (n + d) = omega arith in
    rw (e, filter_suc p (n + d), h (n + d) (omega arith)) (append-nil (filter p (numbers_below (n + d))) ∙ none_above p n d h)

-- tests that agree below n
pub same_below : (p q : ℕ → Bool) (n : ℕ) → ((k : ℕ) → k < n → p k ≡ q k) → filter p (numbers_below n) ≡ filter q (numbers_below n)
same_below p q zero h = rw below_zero refl
same_below p q (suc n) h = rw (filter_suc p n, filter_suc q n, h n (omega arith), same_below p q n (λ k lt. h k (omega arith))) refl

map_cond : (f : ℕ → ℕ) (b : Bool) (n : ℕ) → map f (cond b (n ∷ []) []) ≡ cond b (f n ∷ []) []
map_cond f true n = refl
map_cond f false n = refl

-- those that pass of n numbers and m more
pub passing_more : (p : ℕ → Bool) (n m : ℕ) → filter p (numbers_below (n + m)) ≡ filter p (numbers_below n) ++ map (λ k. n + k) (filter (λ k. p (n + k)) (numbers_below m))
passing_more p n zero = let e : n + 0 ≡ n = omega arith in rw (e, below_zero) (sym (append-nil (filter p (numbers_below n))))
passing_more p n (suc m) =
    let e : n + suc m ≡ suc (n + m) = omega arith in
    rw (e, filter_suc p (n + m), filter_suc (λ k. p (n + k)) m, map-append, map_cond, passing_more p n m) (append_assoc (filter p (numbers_below n)) _ _)

-- ---- lanes

abbrev pub is_set : ℕ → ℕ → Bool
is_set bits k = eqb (bit_at bits k) 1

pub set_true : (bits k : ℕ) → bit_at bits k ≡ 1 → is_set bits k ≡ true
set_true bits k e = eq-eqb _ _ e

pub set_false : (bits k : ℕ) → bit_at bits k ≡ 0 → is_set bits k ≡ false
set_false bits k e = ne_eqb _ _ (λ (o : bit_at bits k ≡ 1). let z : ◌≡◌ {A = ℕ} 0 1 = sym e ∙ o in omega (arith, z))

-- if t is the lowest set bit, the lanes are t followed by the lanes of the mask without the bit t
pub next_lanes : (bits t : ℕ) → t < 64 → bit_at bits t ≡ 1 → ((k : ℕ) → k < t → bit_at bits k ≡ 0) → lanes_of bits ≡ t ∷ lanes_of (bit_and bits (bits - 1))
unfolding lanes_of
next_lanes bits t lt set least =
    let rest = without_lowest t bits set least in
    first_below (is_set bits) (is_set (bit_and bits (bits - 1))) t 64 lt (set_true bits t set) (λ k l. set_false bits k (least k l))
    (λ k l. set_false (bit_and bits (bits - 1)) k (rest.0 k l)) (λ k l. ap (λ b. eqb b 1) (rest.1 k l))

-- no bit is set in 0
pub no_lanes : lanes_of 0 ≡ []
unfolding lanes_of
no_lanes = none_below (is_set 0) 64 (λ k lt. set_false 0 k (bit_at-zero k))

-- the lanes of a mask of n bits are below n
pub lanes_below : (bits n : ℕ) → bits < 2 ^ n → n ≤ 64 → lanes_of bits ≡ filter (is_set bits) (numbers_below n)
unfolding lanes_of
lanes_below bits n small few =
    let d = 64 - n in
    let e : n + d ≡ 64 = omega arith in
    ap (λ m. filter (is_set bits) (numbers_below m)) (sym e) ∙ none_above (is_set bits) n d (λ k le. set_false bits k (bit_at_above bits n k small le))

-- each lane of a mask of n bits is below n
pub each_lane_below : (bits n : ℕ) → bits < 2 ^ n → n ≤ 64 → All (λ j. j < n) (lanes_of bits)
each_lane_below bits n small few = rw (lanes_below bits n small few) (All-filter (is_set bits) (λ j. j < n) (numbers_below n) (numbers_are_below n))

-- the lanes of two bytes beside one another
pub lanes_joined : (low high : ℕ) → low < 2 ^ 8 → high < 2 ^ 8 → lanes_of (high * 2 ^ 8 + low) ≡ lanes_of low ++ map (λ k. 8 + k) (lanes_of high)
lanes_joined low high few more =
    let bits = high * 2 ^ 8 + low in
    lanes_below bits 16 (omega (arith, few, more)) (omega arith)
    ∙ passing_more (is_set bits) 8 8
    ∙ ap (λ xs. xs ++ map (λ k. 8 + k) (filter (λ k. is_set bits (8 + k)) (numbers_below 8)))
    (same_below (is_set bits) (is_set low) 8 (λ k lt. ap (λ b. eqb b 1) (bit_at_cat_low high 8 low k lt)) ∙ sym (lanes_below low 8 few (omega arith)))
    ∙ ap (λ xs. lanes_of low ++ map (λ k. 8 + k) xs)
    (same_below (λ k. is_set bits (8 + k)) (is_set high) 8 (λ k lt. let e : 8 + k - 8 ≡ k = omega arith in ap (λ b. eqb b 1) (bit_at_cat_high high 8 low (8 + k) few (omega arith) ∙ ap (bit_at high) e))
    ∙ sym (lanes_below high 8 more (omega arith)))

filter_short : (p : ℕ → Bool) (xs : List ℕ) → length (filter p xs) ≤ length xs
filter_short p [] = omega arith
filter_short p (x ∷ xs) = grind (arith, filter_short p xs)

-- no more are set than the mask has bits
pub length_lanes : (bits n : ℕ) → bits < 2 ^ n → n ≤ 64 → length (lanes_of bits) ≤ n
length_lanes bits n small few =
    let e : length (lanes_of bits) ≡ length (filter (is_set bits) (numbers_below n)) = ap length (lanes_below bits n small few) in
    let s = filter_short (is_set bits) (numbers_below n) in
    let l = length_below n in
    omega arith

-- a set bit of a mask of n bits is below n
pub lane_below : (bits n t : ℕ) → bits < 2 ^ n → bit_at bits t ≡ 1 → t < n
lane_below bits n t small set = ⊎_elim (λ lt. lt) (λ le. let z : ◌≡◌ {A = ℕ} 0 1 = sym (bit_at_above bits n t small le) ∙ set in absurd (omega (arith, z))) (cases_lt t n)

-- ---- excluded lanes

module _ {X : Type 0} (acts : X → Bool) (at : ℕ → X) where
  -- if no element at a failing number interacts, filtering the numbers first loses no interacting element
  pub filter_passing : (p : ℕ → Bool) (n : ℕ) → ((k : ℕ) → k < n → p k ≡ false → acts (at k) ≡ false) → filter acts (map at (filter p (numbers_below n))) ≡ filter acts (map at (numbers_below n))
  filter_passing p zero h = rw below_zero refl
  filter_passing p (suc n) h =
      rw (filter_suc p n, below_suc n, map-append at (filter p (numbers_below n)) (cond (p n) (n ∷ []) []), map-append at (numbers_below n) (n ∷ []))
      (filter-append acts (map at (filter p (numbers_below n))) (map at (cond (p n) (n ∷ []) []))
      ∙ ap (λ xs. xs ++ filter acts (map at (cond (p n) (n ∷ []) []))) (filter_passing p n (λ k lt. h k (omega arith)))
      ∙ ap (λ xs. filter acts (map at (numbers_below n)) ++ xs) (by_test (p n) (h n (omega arith)))
      ∙ sym (filter-append acts (map at (numbers_below n)) (at n ∷ [])))
    where
      by_test : (b : Bool) → (b ≡ false → acts (at n) ≡ false) → filter acts (map at (cond b (n ∷ []) [])) ≡ filter acts (at n ∷ [])
      by_test true e = refl
      by_test false e = rw (e refl) refl

  -- so of the lanes of a mask of n bits
  pub lanes_act : (bits n : ℕ) → bits < 2 ^ n → n ≤ 64 → ((k : ℕ) → k < n → bit_at bits k ≡ 0 → acts (at k) ≡ false) → filter acts (map at (lanes_of bits)) ≡ filter acts (map at (numbers_below n))
  lanes_act bits n small few idle =
      ap (λ xs. filter acts (map at xs)) (lanes_below bits n small few)
      ∙ filter_passing (is_set bits) n (λ k lt e. idle k lt (let f = eqb-false _ _ e in let two = bit_at-lt bits k in omega arith))

-- a list by its indices
pub by_indices : (xs : List ℕ) → map (λ j. get_or xs j 0) (numbers_below (length xs)) ≡ xs
by_indices xs =
    let l = length_below (length xs) in
    let m = length-map (numbers_below (length xs)) (λ (j : ℕ). get_or xs j 0) in
    ext_get_or 0 (map (λ j. get_or xs j 0) (numbers_below (length xs))) xs (omega arith)
    (λ i lt. let inside : i < length xs = omega arith in get_or-map (λ (j : ℕ). get_or xs j 0) (numbers_below (length xs)) i 0 0 (omega arith) ∙ ap (λ j. get_or xs j 0) (get_below (length xs) i 0 inside))
