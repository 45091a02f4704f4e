-- How far a place is from the places of a cell.
use Rattle.std.proofs.Common.{◌≡◌, ℕ, ◌+◌, ◌-◌, ◌*◌, ◌%◌, ◌^◌, ◌<◌, ◌≤◌, ℤ, pos, None, inl, inr, refl, sym, arith}
use Rattle.std.specs.Prelude.{unsigned_abs, ◌*ℤ◌}
use Rattle.std.proofs.lemmas.Nat.{mul-le, pow_pos}
use Rattle.std.proofs.lemmas.Int.{unsigned_abs-mul}
use Rattle.std.proofs.lemmas.Bool.{cases_lt}
use Rattle.std.proofs.lemmas.Bool.Decides.{nat_tests}
use Rattle.std.proofs.Math.Nat.{div-mul-le_self, lt-mul-div-succ}
use Rattle.ring_box.specs.Acting.{IsInCell, IsReach, Reach, acting_of, limit_of}
use Rattle.ring_box.specs.Distances.{square, square_of}
use Rattle.ring_box.specs.Places.{difference, signed}
use Rattle.ring_box.specs.declared.boxes.RingBox.{RingBox}
use Rattle.ring_box.specs.declared.vectors.Place3.{Place3}
use Rattle.ring_box.proofs.ActingLemmas.{idle}

signed_far : (m r : ℕ) → m < 2 ^ 32 → r ≤ m → r + m ≤ 2 ^ 32 → r ≤ unsigned_abs (signed m)
signed_far m r p q h = grind (arith, nat_tests)

-- if x on the ring is outside a range of coordinates and at least r from both of its ends,
-- x is at least r from each coordinate in the range
pub gap_below : (x y first width r : ℕ) → x < 2 ^ 32 → y < 2 ^ 32 → first ≤ y → y < first + width → width ≤ (x + (2 ^ 32 - first)) % 2 ^ 32 →
    r + (width - 1) ≤ (x + (2 ^ 32 - first)) % 2 ^ 32 → r + (x + (2 ^ 32 - first)) % 2 ^ 32 ≤ 2 ^ 32 → r ≤ unsigned_abs (difference x y)
gap_below x y first width r p q low high out after before =
    elim (cases_lt x first) [
      | inl l ↦
          let e : (x + (2 ^ 32 - first)) % 2 ^ 32 ≡ x + (2 ^ 32 - first) = omega arith in
          let f : (x + (2 ^ 32 - y)) % 2 ^ 32 ≡ x + (2 ^ 32 - y) = omega arith in
          signed_far ((x + (2 ^ 32 - y)) % 2 ^ 32) r (omega arith) (omega arith) (omega arith)
      | inr g ↦
          let e : (x + (2 ^ 32 - first)) % 2 ^ 32 ≡ x - first = omega arith in
          let f : (x + (2 ^ 32 - y)) % 2 ^ 32 ≡ x - y = omega arith in
          signed_far ((x + (2 ^ 32 - y)) % 2 ^ 32) r (omega arith) (omega arith) (omega arith)
    ]

-- each coordinate in the cell is at least r from x
pub gap_is : (x b cell r : ℕ) → x < 2 ^ 32 → 2 ^ (32 - b) ≤ (x + (2 ^ 32 - cell * 2 ^ (32 - b))) % 2 ^ 32 →
    r + (2 ^ (32 - b) - 1) ≤ (x + (2 ^ 32 - cell * 2 ^ (32 - b))) % 2 ^ 32 → r + (x + (2 ^ 32 - cell * 2 ^ (32 - b))) % 2 ^ 32 ≤ 2 ^ 32 →
    (y : ℕ) → IsInCell b cell y → r ≤ unsigned_abs (difference x y)
gap_is x b cell r p out after before y h =
    let k : 0 < 2 ^ (32 - b) = pow_pos (32 - b) in
    let low : cell * 2 ^ (32 - b) ≤ y = rw h.1 at (div-mul-le_self y (2 ^ (32 - b))) in
    let high : y < cell * 2 ^ (32 - b) + 2 ^ (32 - b) = let u = rw h.1 at (lt-mul-div-succ y k) in omega (arith, u) in
    gap_below x y (cell * 2 ^ (32 - b)) (2 ^ (32 - b)) r p h.0 low high out after before

-- ---- from gaps to squares

side_square : (g L : ℕ) (d : ℤ) → g ≤ unsigned_abs d → g * L * (g * L) ≤ square (d *ℤ pos L)
side_square g L d h =
    let e : unsigned_abs (d *ℤ pos L) ≡ unsigned_abs d * L = unsigned_abs-mul d (pos L) in
    let l : g * L ≤ unsigned_abs d * L = mul-le g L (unsigned_abs d) L h (omega arith) in
    rw e (mul-le (g * L) (g * L) (unsigned_abs d * L) (unsigned_abs d * L) l l)

-- a pair with at least the separations u, v and w doesn't interact if their squared distance reaches the limit
pub beyond : (d : Reach) (b : RingBox) (p q : Place3) (u v w : ℕ) → IsReach d →
    u ≤ unsigned_abs (difference p.x q.x) → v ≤ unsigned_abs (difference p.y q.y) → w ≤ unsigned_abs (difference p.z q.z) →
    limit_of d.frac d.cutoff ≤ u * b.x * (u * b.x) + v * b.y * (v * b.y) + w * b.z * (w * b.z) → acting_of d b p q ≡ None
beyond d b p q u v w a e f g h =
    let i = side_square u b.x (difference p.x q.x) e in
    let j = side_square v b.y (difference p.y q.y) f in
    let k = side_square w b.z (difference p.z q.z) g in
    let l : limit_of d.frac d.cutoff ≤ square_of b p q = omega (arith, h, i, j, k) in
    sym (idle d b p q (square_of b p q) a refl l)
