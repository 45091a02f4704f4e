-- Lists of pairs of atoms.
use Rattle.std.specs.Prelude.{◌≡◌, ℕ, ◌-◌, Bool, false, if◌then◌else◌, List, [], ◌∷◌, ◌++◌, drop, flat_map, length, map, nat_le, sum_by, take, All}
use Rattle.cell_tiles.specs.Cells.{CellAtoms}
use Rattle.cell_tiles.specs.Cover.{ArePairs}
use Rattle.cell_tiles.specs.Near.{IsPairOf}
use Rattle.cell_tiles.specs.Tiles.{pairs_in, tiles_of}

-- the elements from the index `start` to before the index `end`
abbrev pub part_of : {X : Type 0} → ℕ → ℕ → List X → List X
part_of start end xs = take (end - start) (drop start xs)

-- lists of pairs, and pairs behind them that are in no list
pub record ListsAndRest : Type 0 where
  pub lists : List (List (ℕ × ℕ))
  pub rest : List (ℕ × ℕ)

-- the pairs of all lists
abbrev pub all_pairs : List (List (ℕ × ℕ)) → List (ℕ × ℕ)
all_pairs lists = flat_map (λ ps. ps) lists

-- the pairs of all lists, then those that are in no list
abbrev pub pairs_of : ListsAndRest → List (ℕ × ℕ)
pairs_of l = all_pairs l.lists ++ l.rest

-- the pairs that were in no list become one, if they are at least this many
abbrev pub closed_from : ℕ → ListsAndRest → ListsAndRest
closed_from least l = if nat_le least (length l.rest) then (record { lists = l.lists ++ l.rest ∷ []; rest = [] }) else l

-- the pairs of each tile of filled cells
abbrev pub tiles_in : CellAtoms → List (List (ℕ × ℕ))
tiles_in cells = map (pairs_in cells.members) (tiles_of cells.bits)

-- The lists contain each pair of n atoms that acts exactly once: the sum of any amounts over the lists equals the sum
-- over all pairs, if the amount is 0 for each pair that doesn't act.
pub record AreListsOf (n : ℕ) (acts : ℕ × ℕ → Bool) (lists : List (List (ℕ × ℕ))) : Type 0 where
  pub inside : All (All (IsPairOf n)) lists
  pub sums : (f : ℕ × ℕ → ℕ) (pairs : List (ℕ × ℕ)) → ArePairs n pairs → ((p : ℕ × ℕ) → acts p ≡ false → f p ≡ 0)
      → sum_by (λ ps. sum_by f ps) lists ≡ sum_by f pairs
