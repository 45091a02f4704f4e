-- The numbers of cells: how many there are, and the numbers along the sides that a cell's number is made of.
use Rattle.std.proofs.Common.{◌≡◌, ℕ, ◌+◌, ◌*◌, ◌/◌, ◌%◌, ◌^◌, ◌<◌, ◌≤◌, List, length, inl, inr, refl, ap, ap₂, ◌∙◌, arith, All}
use Rattle.std.proofs.lemmas.Nat.{mul-add-lt, div-mul-add, mod-mul-add, one_shl}
use Rattle.std.proofs.lemmas.Bool.{cases_lt}
use Rattle.std.proofs.lemmas.Bool.Decides.{nat_tests}
use Rattle.std.proofs.lemmas.List.{get_or_past}
use Rattle.std.proofs.Math.Nat.{pow-le-pow_right, mul_comm}
use Rattle.ring_box.specs.Cells.{are_near_cells, are_neighbours, cell_of}
use Rattle.ring_box.specs.Places.{ArePlaces, no_place, places_of}
use Rattle.ring_box.proofs.CellLemmas.{cell_below}
use Rattle.ring_box.specs.declared.vectors.CellBits.{CellBits}
use Rattle.ring_box.specs.declared.vectors.Place3.{Place3}
use Rattle.cell_tiles.specs.Cells.{IsBits, IsGrid, are_near, are_near_numbers, cell_number, cells_of, numbers_at, numbers_of}

-- ---- how many

-- a side is cut into 16 cells at most
pub power_bound : (b : ℕ) → IsBits b → 2 ^ b ≤ 16
power_bound b h = let p : 2 ^ b ≤ 2 ^ 4 = pow-le-pow_right (omega arith) h.1 in p

-- the number of cells along a side, computed by the code with a 32-bit shift, is at most 16
pub along_bound : (b : ℕ) → IsBits b → 1 * 2 ^ b % 2 ^ 32 ≤ 16
along_bound b h = let e = one_shl b 32 (omega (arith, h.1)) in rw e (power_bound b h)

-- ---- a number made of three

-- a row and a column make a number below rows times columns
pub row_below : (i j X Y : ℕ) → i < X → j < Y → i * Y + j < X * Y
row_below i j X Y p q = omega (arith, mul-add-lt i Y j X p q, mul_comm X Y)

-- three numbers below three bounds make a number below their product
pub place_below : (i j k X Y Z : ℕ) → i < X → j < Y → k < Z → (i * Y + j) * Z + k < X * Y * Z
place_below i j k X Y Z p q r = row_below (i * Y + j) k (X * Y) Z (row_below i j X Y p q) r

-- the first of the three indices is recovered from the number by two divisions
pub x_of_place : (i j k Y Z : ℕ) → j < Y → k < Z → ((i * Y + j) * Z + k) / Z / Y ≡ i
x_of_place i j k Y Z q r = ap (λ n. n / Y) (div-mul-add (i * Y + j) Z k r) ∙ div-mul-add i Y j q

-- the second index is recovered by a division and a remainder
pub y_of_place : (i j k Y Z : ℕ) → j < Y → k < Z → ((i * Y + j) * Z + k) / Z % Y ≡ j
y_of_place i j k Y Z q r = ap (λ n. n % Y) (div-mul-add (i * Y + j) Z k r) ∙ mod-mul-add i Y j q

-- the third index is recovered by a remainder
pub z_of_place : (i j k Y Z : ℕ) → k < Z → ((i * Y + j) * Z + k) % Z ≡ k
z_of_place i j k Y Z r = mod-mul-add (i * Y + j) Z k r

-- ---- cells of atoms

-- the coordinates at any index of a frame are valid, including the default past the last atom
pub are_places : (frame : List Place3) (a : ℕ) → All ArePlaces frame → ArePlaces (places_of frame a)
are_places frame a all =
    elim (cases_lt a (length frame)) [
      | inl l ↦ all a no_place l
      | inr g ↦ rw (get_or_past frame a no_place g) (record { x = omega arith; y = omega arith; z = omega arith })
    ]

-- the number of the cell along a side is below how many cells the side has
pub along_below : (x b : ℕ) → IsBits b → x < 2 ^ 32 → cell_of x b < 2 ^ b
along_below x b h p = cell_below x b (omega (arith, h.1)) p

-- an atom's cell is one of the cells that there are
pub number_below : (bits : CellBits) (p : Place3) → IsGrid bits → ArePlaces p → cell_number bits p < cells_of bits
number_below bits p g h = place_below _ _ _ _ _ _ (along_below p.x bits.x g.0 h.x) (along_below p.y bits.y g.1 h.y) (along_below p.z bits.z g.2 h.z)

-- from its number come a cell's numbers along the sides
pub numbers_back : (bits : CellBits) (p : Place3) → IsGrid bits → ArePlaces p → numbers_of bits (cell_number bits p) ≡ numbers_at bits p
numbers_back bits p g h =
    let i = cell_of p.x bits.x in
    let j = cell_of p.y bits.y in
    let y = along_below p.y bits.y g.1 h.y in
    let z = along_below p.z bits.z g.2 h.z in
    rw (x_of_place i j _ _ _ y z, y_of_place i j _ _ _ y z, z_of_place i j _ (2 ^ bits.y) _ z) refl

-- ---- neighbours

near_cells_sym : (b i j : ℕ) → are_near_cells b i j ≡ are_near_cells b j i
near_cells_sym b i j = grind (arith, nat_tests)

-- two cells are near each other, whichever is named first
pub near_sym : (bits : CellBits) (c d : ℕ) → are_near bits c d ≡ are_near bits d c
near_sym bits c d =
    rw (near_cells_sym bits.x (numbers_of bits c).x (numbers_of bits d).x, near_cells_sym bits.y (numbers_of bits c).y (numbers_of bits d).y, near_cells_sym bits.z (numbers_of bits c).z (numbers_of bits d).z) refl

-- the cells of two atoms are near by their numbers exactly if the atoms are in one cell or in neighbouring cells
pub near_are_neighbours : (bits : CellBits) (p q : Place3) → IsGrid bits → ArePlaces p → ArePlaces q → are_near bits (cell_number bits p) (cell_number bits q) ≡ are_neighbours bits p q
near_are_neighbours bits p q g h i = ap₂ (are_near_numbers bits) (numbers_back bits p g h) (numbers_back bits q g i)
