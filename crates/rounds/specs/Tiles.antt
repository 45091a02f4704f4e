-- Tiles, each a list of additions, and their sums.
use Rattle.std.specs.Prelude.{◌≡◌, ◌<◌, ◌≤◌, ℕ, length, ◌+◌, ◌*◌, List, [], ◌∷◌, ◌++◌, map, slice_index_or, sum_by, take, if◌then◌else◌, ◌==◌, Option, Some, None, ℤ, pos, flat_map}
use Rattle.std.specs.Int.{w64, cast_unsigned, int_wrapping_neg}
use Rattle.rounds.specs.declared.work.PairAdd.{PairAdd}

-- an entry of the sums, and the amount to add to it modulo 2^64
abbrev pub Addition : Type 0
Addition = ℕ × ℕ

abbrev pub amount_on : ℕ → Addition → ℕ
amount_on entry a = if a.0 == entry then a.1 else 0

-- the sum of a list of additions on an entry
abbrev pub on_entry : ℕ → List Addition → ℕ
on_entry entry xs = sum_by (amount_on entry) xs

-- the sum of all tiles on an entry
abbrev pub total : List (List Addition) → ℕ → ℕ
total tiles entry = sum_by (on_entry entry) tiles

-- the tile of a ticket; a ticket past the last tile has no additions
abbrev pub tile_at : List (List Addition) → ℕ → List Addition
tile_at tiles t = slice_index_or tiles t []

-- the additions of three components on an atom
abbrev pub three_on : ℕ → ℕ → ℕ → ℕ → List Addition
three_on atom x y z = (3 * atom, x) ∷ (3 * atom + 1, y) ∷ (3 * atom + 2, z) ∷ []

-- a component of a force
abbrev pub component : List ℤ → ℕ → ℤ
component force axis = slice_index_or force axis (pos 0)

-- a component modulo 2^64, and its negative modulo 2^64
abbrev pub along : List ℤ → ℕ → ℕ
along force axis = cast_unsigned w64 (component force axis)

abbrev pub against : List ℤ → ℕ → ℕ
against force axis = cast_unsigned w64 (int_wrapping_neg w64 (component force axis))

-- the six additions of an interacting pair
abbrev pub additions_of : Option PairAdd → List Addition
additions_of None = []
additions_of (Some p) =
    three_on p.low (along p.force 0) (along p.force 1) (along p.force 2)
    ++ three_on p.high (against p.force 0) (against p.force 1) (against p.force 2)

-- the additions of a tile's pairs, in order
abbrev pub tile_of : List (Option PairAdd) → List Addition
tile_of pairs = flat_map additions_of pairs

-- the tiles of a plan, which lists the pairs of each tile
abbrev pub tiles_of : List (List (Option PairAdd)) → List (List Addition)
tiles_of plan = map tile_of plan

abbrev pub pairs_at : List (List (Option PairAdd)) → ℕ → List (Option PairAdd)
pairs_at plan t = slice_index_or plan t []

-- the pairs that interact, in order, with whatever is known of each
abbrev pub acting : {A : Type 0} → List (Option A) → List A
acting [] = []
acting (None ∷ pairs) = acting pairs
acting (Some pair ∷ pairs) = pair ∷ acting pairs

-- the additions of these forces, one after the other
abbrev pub additions_of_all : List PairAdd → List Addition
additions_of_all adds = flat_map (λ add. additions_of (Some add)) adds

-- the forces of a batch
pub record Batch : Type 0 where
  pub items : List PairAdd

-- the interacting pairs before the pair n are those before the pair k, followed by `adds`
pub record AreNextActing (pairs : List (Option PairAdd)) (k : ℕ) (adds : List PairAdd) (n : ℕ) : Type 0 where
  pub onward : k < n
  pub within : n ≤ length pairs
  pub acting : acting (take n pairs) ≡ acting (take k pairs) ++ adds

-- a pair of these atoms, the lower first
pub record IsPairOf (atoms : ℕ) (p : PairAdd) : Type 0 where
  pub ordered : p.low < p.high
  pub inside : p.high < atoms
