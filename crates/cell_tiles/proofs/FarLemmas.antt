-- Cells that are passed over, since none of them is near another.
use Rattle.std.proofs.Common.{◌≡◌, ℕ, ◌+◌, ◌*◌, ◌/◌, ◌%◌, ◌^◌, ◌<◌, ◌≤◌, false, refl, ap, ◌∙◌, arith, div-mul-le_self}
use Rattle.std.proofs.lemmas.Bool.{and_right}
use Rattle.std.proofs.lemmas.Bool.Decides.{nat_tests}
use Rattle.std.proofs.lemmas.Nat.{div_below, div-add-mod', le-div, mod_below, mul-le}
use Rattle.ring_box.specs.Cells.{are_near_cells}
use Rattle.ring_box.specs.declared.vectors.CellBits.{CellBits}
use Rattle.ring_box.specs.declared.vectors.CellNumbers.{CellNumbers}
use Rattle.cell_tiles.specs.Cells.{are_near, numbers_of}
use Rattle.cell_tiles.specs.Tiles.{AreFar}

-- ---- numbers in parts of n

part_le : (c e n : ℕ) → 0 < n → c ≤ e → c / n ≤ e / n
part_le c e n pos le = let m : c / n * n ≤ c = div-mul-le_self c n in le-div (c / n) e n pos (omega arith)

-- a number is before the end of its part
pub before_end : (c n : ℕ) → 0 < n → c < (c / n + 1) * n
before_end c n pos =
    let whole : c / n * n + c % n ≡ c = div-add-mod' c n in
    let rest : c % n < n = mod_below c n pos in
    omega arith

-- if c ≤ d and they are in different parts, the part of c ends at or before d
pub part_ends : (c d n : ℕ) → 0 < n → c ≤ d → (c / n ≡ d / n → ⊥) → (c / n + 1) * n ≤ d
part_ends c d n pos le ne =
    let low : c / n ≤ d / n = part_le c d n pos le in
    let higher : c / n + 1 ≤ d / n = omega arith in
    let step : (c / n + 1) * n ≤ d / n * n = mul-le (c / n + 1) n (d / n) n higher (omega arith) in
    let m : d / n * n ≤ d = div-mul-le_self d n in
    omega arith

-- a number from c to the end of c's part is in that part
pub in_part : (c e n : ℕ) → 0 < n → c ≤ e → e < (c / n + 1) * n → e / n ≡ c / n
in_part c e n pos le lt =
    let low : c / n ≤ e / n = part_le c e n pos le in
    let high : e / n < c / n + 1 = div_below e n (c / n + 1) pos lt in
    omega arith

-- the three lemmas above for slabs: y parts of z numbers each
pub before_slab_end : (c y z : ℕ) → 0 < y → 0 < z → c < (c / z / y + 1) * y * z
before_slab_end c y z p q =
    let inner : c / z < (c / z / y + 1) * y = before_end (c / z) y p in
    let step : (c / z + 1) * z ≤ (c / z / y + 1) * y * z = mul-le (c / z + 1) z ((c / z / y + 1) * y) z (omega arith) (omega arith) in
    let outer : c < (c / z + 1) * z = before_end c z q in
    omega arith

pub slab_ends : (c d y z : ℕ) → 0 < y → 0 < z → c ≤ d → (c / z / y ≡ d / z / y → ⊥) → (c / z / y + 1) * y * z ≤ d
slab_ends c d y z p q le ne =
    let inner : (c / z / y + 1) * y ≤ d / z = part_ends (c / z) (d / z) y p (part_le c d z q le) ne in
    let step : (c / z / y + 1) * y * z ≤ d / z * z = mul-le ((c / z / y + 1) * y) z (d / z) z inner (omega arith) in
    let m : d / z * z ≤ d = div-mul-le_self d z in
    omega arith

pub in_slab : (c e y z : ℕ) → 0 < y → 0 < z → c ≤ e → e < (c / z / y + 1) * y * z → e / z / y ≡ c / z / y
in_slab c e y z p q le lt = in_part (c / z) (e / z) y p (part_le c e z q le) (div_below e z ((c / z / y + 1) * y) q lt)

-- ---- cells

-- numbers that aren't near are two
pub far_are_two : (b i j : ℕ) → are_near_cells b i j ≡ false → i ≡ j → ⊥
far_are_two b i j far e = grind (arith, nat_tests)

-- no cell with the number i along x is near d, if i isn't near the number of d; so along y
x_far : (bits : CellBits) (k d i : ℕ) → are_near_cells bits.x i (numbers_of bits d).x ≡ false → (numbers_of bits k).x ≡ i
    → are_near bits k d ≡ false
x_far bits k d i far e = rw (e, far) refl

y_far : (bits : CellBits) (k d j : ℕ) → are_near_cells bits.y j (numbers_of bits d).y ≡ false → (numbers_of bits k).y ≡ j
    → are_near bits k d ≡ false
y_far bits k d j far e = rw (e, far) (and_right _ false refl)

-- a cell c that isn't near d is passed over to e
abbrev pub Passes : CellBits → ℕ → ℕ → ℕ → Type 0
Passes bits d c e = (c < e) × (e ≤ d) × AreFar bits d c e

slab_far : (bits : CellBits) (c d : ℕ) → 0 < 2 ^ bits.y → 0 < 2 ^ bits.z → c ≤ d
    → are_near_cells bits.x (numbers_of bits c).x (numbers_of bits d).x ≡ false
    → Passes bits d c (((numbers_of bits c).x + 1) * 2 ^ bits.y * 2 ^ bits.z)
slab_far bits c d p q le far =
    let y = 2 ^ bits.y in
    let z = 2 ^ bits.z in (
      before_slab_end c y z p q,
      slab_ends c d y z p q le (far_are_two bits.x (c / z / y) (d / z / y) far),
      λ k from to. x_far bits k d (c / z / y) far (in_slab c k y z p q from to),
    )

row_far : (bits : CellBits) (c d : ℕ) → 0 < 2 ^ bits.z → c ≤ d
    → are_near_cells bits.y (numbers_of bits c).y (numbers_of bits d).y ≡ false
    → Passes bits d c ((c / 2 ^ bits.z + 1) * 2 ^ bits.z)
row_far bits c d q le far =
    let y = 2 ^ bits.y in
    let z = 2 ^ bits.z in (
      before_end c z q,
      part_ends c d z q le (λ e. far_are_two bits.y (c / z % y) (d / z % y) far (ap (λ n. n % y) e)),
      λ k from to. y_far bits k d (c / z % y) far (ap (λ n. n % y) (in_part c k z q from to)),
    )

-- if the x indices of c and d aren't near, no cell from c to the end of its slab is near d
pub slab_passed : (bits : CellBits) (c d : ℕ) (here other : CellNumbers) (rows columns : ℕ)
    → here ≡ numbers_of bits c → other ≡ numbers_of bits d → rows ≡ 2 ^ bits.y → columns ≡ 2 ^ bits.z
    → 0 < rows → 0 < columns → c ≤ d → are_near_cells bits.x here.x other.x ≡ false → Passes bits d c ((here.x + 1) * rows * columns)
slab_passed bits c d here other rows columns h o r k p q le far =
    rw (h, r, k) (slab_far bits c d (rw r at p) (rw k at q) le (rw (h, o) at far))

-- if the y indices of c and d aren't near, no cell from c to the end of its row is near d
pub row_passed : (bits : CellBits) (c d : ℕ) (here other : CellNumbers) (columns : ℕ)
    → here ≡ numbers_of bits c → other ≡ numbers_of bits d → columns ≡ 2 ^ bits.z
    → 0 < columns → c ≤ d → are_near_cells bits.y here.y other.y ≡ false → Passes bits d c ((c / columns + 1) * columns)
row_passed bits c d here other columns h o k q le far = rw k (row_far bits c d (rw k at q) le (rw (h, o) at far))

-- if the cell c isn't near d, the range from c to before c + 1 has no cell near d
pub one_far : (bits : CellBits) (c d : ℕ) → are_near bits c d ≡ false → AreFar bits d c (c + 1)
one_far bits c d far = λ k le lt. let same : k ≡ c = omega arith in ap (λ n. are_near bits n d) same ∙ far
