-- A walk over the pairs of a tile: the pairs that are left, and the row and column of the next one.
use Rattle.std.specs.Prelude.{◌≡◌, ℕ, ◌+◌, ◌*◌, ◌-◌, ◌<◌, ◌≤◌, Bool, true, false, List, length, drop}
use Rattle.cell_tiles.specs.Tiles.{pairs_among, pairs_between}

-- the pairs among the atoms of one cell, or between two cells
abbrev pub pairs_over : Bool → List ℕ → List ℕ → List (ℕ × ℕ)
pairs_over true xs ys = pairs_among xs (length xs)
pairs_over false xs ys = pairs_between xs ys

-- the last n of a list
abbrev pub last_of : ℕ → List (ℕ × ℕ) → List (ℕ × ℕ)
last_of n ps = drop (length ps - n) ps

-- the number of columns of a row: of one cell, the number of atoms before the row's; of two cells, the number of atoms
-- of the second
abbrev pub width_of : Bool → List ℕ → ℕ → ℕ
width_of true ys row = row
width_of false ys row = length ys

-- the pair with the number k has this row and this column
abbrev pub IsPositionOf : Bool → List ℕ → List ℕ → ℕ → ℕ → ℕ → Type 0
IsPositionOf true xs ys row column k = (ys ≡ xs) × ((column < row) × (2 * k + row ≡ row * row + 2 * column))
IsPositionOf false xs ys row column k = (column < length ys) × (k ≡ row * length ys + column)

-- a walk with `left` pairs left is at the first of them
pub record IsWalk (one : Bool) (xs ys : List ℕ) (row column width left : ℕ) : Type 0 where
  pub few : length xs ≤ 65536
  pub within : left ≤ length (pairs_over one xs ys)
  pub width_is : width ≡ width_of one ys row
  pub position : 0 < left → IsPositionOf one xs ys row column (length (pairs_over one xs ys) - left)

-- the rest of a tile: its pairs, and the atoms of its second cell, of which rows are slices
pub record Walk : Type 0 where
  pub pairs : List (ℕ × ℕ)
  pub others : List ℕ
