-- From the upper halves of places to atoms that don't act.
use Rattle.std.proofs.Common.{◌≡◌, ◌∙◌, ℕ, suc, ◌+◌, ◌-◌, ◌*◌, ◌/◌, ◌%◌, ◌^◌, ◌<◌, ◌≤◌, Bool, true, false, None, inl, inr, ap, sym, min, arith, pow-add, pow_mono, cond, leb}
use Rattle.std.specs.Prelude.{unsigned_abs}
use lib.Count.{count_leading_zeros}
use Rattle.std.proofs.lemmas.Bool.{cases_lt, leb-false}
use Rattle.std.proofs.lemmas.Nat.{mul-le, pow_pos, leading_top}
use Rattle.std.proofs.Math.Nat.{div-lt_iff_lt-mul, div-mul-le_self, lt-mul-div-succ, div-div-eq-div-mul}
use Rattle.ring_box.specs.Acting.{IsCellNumber, IsInCell, Reach, acting_of, limit_of}
use Rattle.place_blocks.specs.Blocks.{AreInSpan, IsCoarseReach, IsCut, IsInSpan, IsLane, IsUpperHalf, behind, coarse_square, coarse_square_of, least_gap}
use Rattle.ring_box.specs.Places.{difference}
use Rattle.place_blocks.specs.declared.blocks.Block.{Block}
use Rattle.ring_box.specs.declared.boxes.RingBox.{RingBox}
use Rattle.place_blocks.specs.declared.coarse_reaches.CoarseReach.{CoarseReach}
use Rattle.place_blocks.specs.declared.upper_halves.CellSpan.{CellSpan}
use Rattle.ring_box.specs.declared.vectors.Place3.{Place3}
use Rattle.ring_box.proofs.DistanceLemmas.{squared}
use Rattle.ring_box.proofs.GapLemmas.{beyond, gap_below}
use Rattle.ring_box.proofs.PlaceLemmas.{difference_turned}

-- ---- from upper halves to places

-- if the `width` upper halves from `first` on are more than `gap` from x's, a y among them is gap * 2^16 or more from x
gap_far : (x y first width gap : ℕ) → x < 2 ^ 32 → y < 2 ^ 32 → first ≤ y / 2 ^ 16 → y / 2 ^ 16 < first + width → 0 < gap →
    gap + width ≤ behind (x / 2 ^ 16) first → gap + 1 + behind (x / 2 ^ 16) first ≤ 2 ^ 16 → gap * 2 ^ 16 ≤ unsigned_abs (difference x y)
gap_far x y first width gap p q low high some after before =
    let m : (x + (2 ^ 32 - first * 2 ^ 16)) % 2 ^ 32 ≡ behind (x / 2 ^ 16) first * 2 ^ 16 + x % 2 ^ 16 = omega arith in
    gap_below x y (first * 2 ^ 16) (width * 2 ^ 16) (gap * 2 ^ 16) p q (omega arith) (omega arith) (omega arith) (omega arith) (omega arith)

least_gap_far : (x y first width : ℕ) → x < 2 ^ 32 → y < 2 ^ 32 → first ≤ y / 2 ^ 16 → y / 2 ^ 16 < first + width →
    least_gap (x / 2 ^ 16) first width * 2 ^ 16 ≤ unsigned_abs (difference x y)
least_gap_far x y first width p q low high =
    let gap = least_gap (x / 2 ^ 16) first width in
    elim (cases_lt 0 gap) [
      | inl some ↦ gap_far x y first width gap p q low high some (omega arith) (omega arith)
      | inr none ↦ omega arith
    ]

-- ---- from gaps to squares of lengths

-- the upper half of gap times the side's upper bits w, scaled back, is at most the length d * side
length_below : (gap w cut d side : ℕ) → gap * 2 ^ 16 ≤ d → w * 2 ^ cut ≤ side → gap * w / 2 ^ 16 * 2 ^ (32 + cut) ≤ d * side
length_below gap w cut d side p q =
    let v = gap * w / 2 ^ 16 in
    let s = 2 ^ cut in
    let a : 2 ^ (32 + cut) ≡ 2 ^ 32 * s = pow-add 2 32 cut in
    let b : v * 2 ^ 16 ≤ gap * w = omega arith in
    let c : v * 2 ^ 16 * s ≤ gap * w * s = mul-le (v * 2 ^ 16) s (gap * w) s b (omega arith) in
    let f : gap * 2 ^ 16 * (w * s) ≤ d * side = mul-le (gap * 2 ^ 16) (w * s) d side p q in
    rw a (omega (arith, c, f))

square_below : (gap w cut d side : ℕ) → gap * 2 ^ 16 ≤ d → w * 2 ^ cut ≤ side →
    coarse_square gap w * 2 ^ (64 + 2 * cut) ≤ d * side * (d * side)
square_below gap w cut d side p q =
    let u = 2 ^ (32 + cut) in
    let e : 2 ^ (64 + 2 * cut) ≡ u * u = ap (λ n. 2 ^ n) (omega arith) ∙ pow-add 2 (32 + cut) (32 + cut) in
    rw e (squared (gap * w / 2 ^ 16) (d * side) u (length_below gap w cut d side p q))

-- along an axis, of an atom in the span at p and another with the upper half h at q
axis_far : (h p q first width w cut side : ℕ) → IsInSpan first width p → IsUpperHalf h q → w * 2 ^ cut ≤ side →
    coarse_square (least_gap h first width) w * 2 ^ (64 + 2 * cut)
    ≤ unsigned_abs (difference p q) * side * (unsigned_abs (difference p q) * side)
axis_far h p q first width w cut side in_span half wide =
    let t : unsigned_abs (difference p q) ≡ unsigned_abs (difference q p) = difference_turned p q in_span.0 half.0 in
    let gap = least_gap h first width in
    let f : gap * 2 ^ 16 ≤ unsigned_abs (difference q p) = rw half.1 at (least_gap_far q p first width half.0 in_span.0 in_span.1 in_span.2) in
    let g : gap * 2 ^ 16 ≤ unsigned_abs (difference p q) = rw t f in
    square_below gap w cut (unsigned_abs (difference p q)) side g wide

sum_far : (a b c x y z u limit s : ℕ) → a * u ≤ x → b * u ≤ y → c * u ≤ z → s ≤ a + b + c → limit < s * u → limit ≤ x + y + z
sum_far a b c x y z u limit s f g h le lt = omega (arith, f, g, h, lt, mul-le s u (a + b + c) u le (omega arith))

-- ---- which atoms are left out

-- an atom whose coarse square is above the coarse limit doesn't act with any in the span
pub far_lane : (d : Reach) (b : RingBox) (c : CoarseReach) (span : CellSpan) (block : Block) (k : ℕ) (p q : Place3) →
    IsCoarseReach d b c → AreInSpan span p → IsLane block k q → c.limit < coarse_square_of c span block k → c.limit < 2 ^ 32 - 1 → acting_of d b p q ≡ None
far_lane d b c span block k p q coarse in_span lane above small =
    let u = 2 ^ (64 + 2 * coarse.cut) in
    let f = axis_far _ p.x q.x span.first.x span.width.x c.x coarse.cut b.x in_span.0 lane.0 coarse.x in
    let g = axis_far _ p.y q.y span.first.y span.width.y c.y coarse.cut b.y in_span.1 lane.1 coarse.y in
    let h = axis_far _ p.z q.z span.first.z span.width.z c.z coarse.cut b.z in_span.2 lane.2 coarse.z in
    let x = unsigned_abs (difference p.x q.x) in
    let y = unsigned_abs (difference p.y q.y) in
    let z = unsigned_abs (difference p.z q.z) in
    beyond d b p q x y z coarse.reach (omega arith) (omega arith) (omega arith)
    (sum_far _ _ _ _ _ _ u (limit_of d.frac d.cutoff) (c.limit + 1) f g h (omega arith) (coarse.limit small))

-- if the bit of a comparison m ≤ n isn't set, m is above n
pub unset : (m n : ℕ) (b : Bool) → leb m n ≡ b → cond {A = ℕ} b 1 0 ≡ 0 → n < m
unset m n true e z = absurd (omega arith)
unset m n false e z = leb-false m n e

-- ---- how many bits are cut

top_bit : (n j : ℕ) → 2 ^ j ≤ n → n < 2 ^ 24 → j < 24
top_bit n j p q = elim (cases_lt j 24) [
  | inl l ↦ l
  | inr g ↦ let m : 2 ^ 24 ≤ 2 ^ j = pow_mono g in absurd (omega arith)
]

low_bit : (n j : ℕ) → n < 2 ^ suc j → 2 ^ 16 ≤ n → 15 ≤ j
low_bit n j p q = elim (cases_lt j 15) [
  | inl l ↦ let m : 2 ^ suc j ≤ 2 ^ 15 = pow_mono l in absurd (omega arith)
  | inr g ↦ g
]

-- a number of more than 16 bits has at most 16 leading zeros of 32
pub bits_some : (n : ℕ) → 2 ^ 16 ≤ n → n < 2 ^ 24 → count_leading_zeros 32 n ≤ 16
bits_some n p q =
    let t = leading_top 32 n (omega arith) (omega arith) in
    let low = low_bit n t.0 t.3 p in
    omega (arith, t.1)

-- and one below 2^24 at least 8
pub bits_few : (n : ℕ) → 2 ^ 16 ≤ n → n < 2 ^ 24 → 16 - count_leading_zeros 32 n ≤ 8
bits_few n p q =
    let t = leading_top 32 n (omega arith) (omega arith) in
    let high = top_bit n t.0 t.2 q in
    omega (arith, t.1)

quotient_fits : (n s : ℕ) → 0 < s → n < 2 ^ 16 * s → n / s < 2 ^ 16
quotient_fits n s p h = (div-lt_iff_lt-mul p).1 h

product_fits : (n s : ℕ) → 0 < s → n / s < 2 ^ 16 → n < 2 ^ 16 * s
product_fits n s p h = (div-lt_iff_lt-mul p).0 h

-- fewer than the bits above 16 leave more than 16
no_fewer : (n j k : ℕ) → 2 ^ j ≤ n → 15 ≤ j → n / 2 ^ k < 2 ^ 16 → j - 15 ≤ k
no_fewer n j k p q h = elim (cases_lt k (j - 15)) [
  | inl l ↦
      let s = 2 ^ k in
      let e : 2 ^ (16 + k) ≡ 2 ^ 16 * s = pow-add 2 16 k in
      let m : 2 ^ (16 + k) ≤ 2 ^ j = pow_mono (omega arith) in
      let f : n < 2 ^ 16 * s = product_fits n s (pow_pos k) h in
      absurd (omega (arith, e, m, f))
  | inr g ↦ g
]

-- that many are cut
pub cut_is : (n : ℕ) → 2 ^ 16 ≤ n → n < 2 ^ 24 → IsCut n (16 - count_leading_zeros 32 n)
cut_is n p q =
    let t = leading_top 32 n (omega arith) (omega arith) in
    let low = low_bit n t.0 t.3 p in
    let cut = 16 - count_leading_zeros 32 n in
    let c : cut ≡ t.0 - 15 = omega (arith, t.1) in
    let e : suc t.0 ≡ 16 + cut = omega (arith, t.1) in
    let f : 2 ^ suc t.0 ≡ 2 ^ 16 * 2 ^ cut = ap (λ k. 2 ^ k) e ∙ pow-add 2 16 cut in
    record {
      fits = quotient_fits n (2 ^ cut) (pow_pos cut) (omega (arith, t.3, f));
      least = λ k h. rw c (no_fewer n t.0 k t.2 low h);
    }

-- the limit is below the next coarse one
pub next_limit : (limit cut c : ℕ) → c ≡ min (limit / 2 ^ cut) (2 ^ 32 - 1) → c < 2 ^ 32 - 1 → limit < (c + 1) * 2 ^ cut
next_limit limit cut c e small =
    let u = 2 ^ cut in
    let q : limit / u ≡ c = omega arith in
    let h : limit < u * (limit / u + 1) = lt-mul-div-succ limit (pow_pos cut) in
    rw (← q) (omega (arith, h))

-- ---- the upper halves of a cell's places

-- a cell is one of 2^b that fill the side
pub cell_fits : (b cell : ℕ) → b ≤ 4 → cell < 2 ^ b → cell * 2 ^ (16 - b) + 2 ^ (16 - b) ≤ 2 ^ 16
cell_fits b cell p q =
    let w = 2 ^ (16 - b) in
    let k : 16 ≡ b + (16 - b) = omega arith in
    let e : 2 ^ 16 ≡ 2 ^ b * w = ap (λ n. 2 ^ n) k ∙ pow-add 2 b (16 - b) in
    let f : (cell + 1) * w ≤ 2 ^ b * w = mul-le (cell + 1) w (2 ^ b) w (omega arith) (omega arith) in
    omega (arith, e, f)

-- each place of a cell has its upper half in the span of the cell
pub in_cell : (b cell y : ℕ) → IsCellNumber b cell → IsInCell b cell y → IsInSpan (cell * 2 ^ (16 - b)) (2 ^ (16 - b)) y
in_cell b cell y n h =
    let w = 2 ^ (16 - b) in
    let few = n.1 in
    let some : 0 < w = pow_pos (16 - b) in
    let k : 32 - b ≡ 16 + (16 - b) = omega arith in
    let e : 2 ^ (32 - b) ≡ 2 ^ 16 * w = ap (λ n. 2 ^ n) k ∙ pow-add 2 16 (16 - b) in
    let g : y / 2 ^ 16 / w ≡ cell = div-div-eq-div-mul y (2 ^ 16) w ∙ ap (λ m. y / m) (sym e) ∙ h.1 in
    let low : cell * w ≤ y / 2 ^ 16 = rw g at (div-mul-le_self (y / 2 ^ 16) w) in
    let high : y / 2 ^ 16 < w * (cell + 1) = rw g at (lt-mul-div-succ (y / 2 ^ 16) some) in
    (h.0, omega arith, omega arith)
