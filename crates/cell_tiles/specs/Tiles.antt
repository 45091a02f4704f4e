-- Tiles: two neighbouring cells, or a cell with itself; and the pairs of atoms in them.
use Rattle.std.specs.Prelude.{ℕ, zero, suc, ◌==◌, ◌≡◌, ◌<◌, ◌≤◌, false, nat_lt, if◌then◌else◌, List, [], ◌∷◌, ◌++◌, ◌/◌, drop, length, map, filter, take, flat_map, slice_index, slice_index_or}
use Rattle.ring_box.specs.declared.vectors.CellBits.{CellBits}
use Rattle.ring_box.specs.declared.vectors.Place3.{Place3}
use Rattle.cell_tiles.specs.Cells.{are_near, cells_of, members_of, numbers_below}

-- the tiles of the cell d with the cells up to d, the lower number first
abbrev pub tiles_with : CellBits → ℕ → List (ℕ × ℕ)
tiles_with bits d = map (λ c. (c, d)) (filter (λ c. are_near bits c d) (numbers_below (suc d)))

-- no cell from c to before e is near d
abbrev pub AreFar : CellBits → ℕ → ℕ → ℕ → Type 0
AreFar bits d c e = (k : ℕ) → c ≤ k → k < e → are_near bits k d ≡ false

-- all tiles, each once, in the order of their second cells
abbrev pub tiles_by_cell : CellBits → List (ℕ × ℕ)
tiles_by_cell bits = flat_map (tiles_with bits) (numbers_below (cells_of bits))

-- an element of each list in turn, then the rest of the longer list
unfoldable pub in_turn : {T : Type 0} → List T → List T → List T
in_turn [] ys = ys
in_turn (x ∷ xs) [] = x ∷ xs
in_turn (x ∷ xs) (y ∷ ys) = x ∷ y ∷ in_turn xs ys

-- the elements of the two halves of a list in turn
abbrev pub by_halves : {T : Type 0} → List T → List T
by_halves xs = in_turn (take (length xs / 2) xs) (drop (length xs / 2) xs)

-- the elements of the four quarters of a list in turn
abbrev pub by_quarters : {T : Type 0} → List T → List T
by_quarters xs = in_turn (by_halves (take (length xs / 2) xs)) (by_halves (drop (length xs / 2) xs))

-- all tiles, each once; four in a row are of the four quarters of the list by cells, so of distant parts of the box
abbrev pub tiles_of : CellBits → List (ℕ × ℕ)
tiles_of bits = by_quarters (tiles_by_cell bits)

-- the pair of two atoms, the lower first
abbrev pub pair_of : ℕ → ℕ → ℕ × ℕ
pair_of a b = if nat_lt a b then (a, b) else (b, a)

-- the pairs of an atom with each of the others
abbrev pub pairs_with : ℕ → List ℕ → List (ℕ × ℕ)
pairs_with a bs = map (pair_of a) bs

-- the pairs of an atom of one list with an atom of the other, row by row
abbrev pub pairs_between : List ℕ → List ℕ → List (ℕ × ℕ)
pairs_between xs ys = flat_map (λ a. pairs_with a ys) xs

-- the pairs among the first m atoms of a list: of each atom with those before it
unfoldable pub pairs_among : List ℕ → ℕ → List (ℕ × ℕ)
pairs_among xs zero = []
pairs_among xs (suc m) = pairs_among xs m ++ pairs_with (slice_index xs m) (take m xs)

-- the atoms of a cell
abbrev pub members_at : List (List ℕ) → ℕ → List ℕ
members_at members c = slice_index_or members c []

-- the pairs of a tile, given the atoms of each cell
abbrev pub pairs_in : List (List ℕ) → ℕ × ℕ → List (ℕ × ℕ)
pairs_in members t =
    if t.0 == t.1 then pairs_among (members_at members t.0) (length (members_at members t.0))
    else pairs_between (members_at members t.0) (members_at members t.1)

-- the pairs of each tile, for the atoms of a frame
abbrev pub tile_pairs : CellBits → List Place3 → List (List (ℕ × ℕ))
tile_pairs bits frame = map (pairs_in (members_of bits frame)) (tiles_of bits)
