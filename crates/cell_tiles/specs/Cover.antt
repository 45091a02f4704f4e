-- The cover of the tiles: each pair of atoms in one cell or in neighbouring cells is in one tile, once, and no other
-- pair is in any.
use Rattle.std.specs.Prelude.{◌≡◌, ℕ, ◌==◌, Bool, false, ◌&&◌, nat_lt, if◌then◌else◌, List, length, sum_by, count_by}
use Rattle.ring_box.specs.Cells.{are_neighbours}
use Rattle.ring_box.specs.declared.vectors.CellBits.{CellBits}
use Rattle.ring_box.specs.declared.vectors.Place3.{Place3}
use Rattle.ring_box.specs.Places.{places_of}
use Rattle.cell_tiles.specs.Tiles.{tile_pairs}

-- whether p is q
abbrev pub is_same : ℕ × ℕ → ℕ × ℕ → Bool
is_same p q = (p.0 == q.0) && (p.1 == q.1)

-- the number of times that a pair is in a list, and in all tiles
abbrev pub times : ℕ × ℕ → List (ℕ × ℕ) → ℕ
times p ps = count_by (is_same p) ps

abbrev pub times_in_all : ℕ × ℕ → List (List (ℕ × ℕ)) → ℕ
times_in_all p tiles = sum_by (times p) tiles

-- p is a pair of two of n atoms, the lower first
abbrev pub is_pair : ℕ → ℕ × ℕ → Bool
is_pair n p = nat_lt p.0 p.1 && nat_lt p.1 n

-- two atoms of a frame are in one cell or in neighbouring cells
abbrev pub are_close : CellBits → List Place3 → ℕ × ℕ → Bool
are_close bits frame p = are_neighbours bits (places_of frame p.0) (places_of frame p.1)

-- each pair of close atoms is in the tiles once, and no other pair is
abbrev pub Covers : CellBits → List Place3 → Type 0
Covers bits frame = (p : ℕ × ℕ)
    → times_in_all p (tile_pairs bits frame) ≡ (if is_pair (length frame) p && are_close bits frame p then 1 else 0)

-- the list contains each pair of n atoms once, and no other pair
abbrev pub ArePairs : ℕ → List (ℕ × ℕ) → Type 0
ArePairs n ps = (p : ℕ × ℕ) → times p ps ≡ (if is_pair n p then 1 else 0)

-- the sum over the tiles equals the sum over all pairs, for each amount that is 0 for pairs that aren't close
abbrev pub SumsAsAll : CellBits → List Place3 → Type 0
SumsAsAll bits frame = (f : ℕ × ℕ → ℕ) (pairs : List (ℕ × ℕ)) → ArePairs (length frame) pairs
    → ((p : ℕ × ℕ) → are_close bits frame p ≡ false → f p ≡ 0)
    → sum_by (λ t. sum_by f t) (tile_pairs bits frame) ≡ sum_by f pairs
