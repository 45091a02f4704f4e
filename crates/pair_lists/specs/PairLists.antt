-- The pairs of a frame that may interact, tile by tile.
use Rattle.std.specs.Prelude.{◌≡◌, ℕ, Bool, false, if◌then◌else◌, IsTrue, Option, IfSome, IsSomeAnd, List, [], length, slice_index_or, All}
use Rattle.cell_tiles.specs.Cells.{AreBeside, CellAtoms, members_of}
use Rattle.cell_tiles.specs.Near.{pair_acts}
use Rattle.ring_box.specs.Acting.{IsReach, Reach}
use Rattle.ring_box.specs.Cells.{NearAreNeighbours}
use Rattle.ring_box.specs.Places.{ArePlaces}
use Rattle.ring_box.specs.declared.boxes.RingBox.{RingBox}
use Rattle.ring_box.specs.declared.vectors.CellBits.{CellBits}
use Rattle.ring_box.specs.declared.vectors.Place3.{Place3}
use Rattle.pair_lists.specs.Lists.{AreListsOf, tiles_in}
use Rattle.pair_lists.specs.Margins.{AreKept, IsMargin}
use Rattle.pair_lists.specs.declared.margins.Margin.{Margin}

-- the box, the range of distances, the filled cells, and lists of pairs; `kept` is whether the lists serve
pub record PreparedPairs : Type 0 where
  pub ring : RingBox
  pub reach : Reach
  pub cells : CellAtoms
  pub lists : List (List (ℕ × ℕ))
  pub kept : Bool

-- the pairs of each tile
abbrev pub lists_of : PreparedPairs → List (List (ℕ × ℕ))
lists_of p = if p.kept then p.lists else tiles_in p.cells

abbrev pub list_at : PreparedPairs → ℕ → List (ℕ × ℕ)
list_at p tile = slice_index_or (lists_of p) tile []

-- the cells hold the atoms of the frame
pub record AreFilled (frame : List Place3) (cells : CellAtoms) : Type 0 where
  pub members : cells.members ≡ members_of cells.bits frame
  pub beside : AreBeside frame cells

-- each interacting pair of the frame is in one tile, once; the cells hold the frame, unless lists serve
pub record IsPrepared (p : PreparedPairs) (frame : List Place3) : Type 0 where
  pub places : All ArePlaces frame
  pub listed : AreListsOf (length frame) (pair_acts p.reach p.ring frame) (lists_of p)
  pub cells : p.kept ≡ false → AreFilled frame p.cells

-- The parts of `PairLists` fit together: the tiles and the cells divide the box alike, coarsely enough for the cutoff;
-- `margin` is the margin, if there is one; and lists that are kept are those of the frame `reference`.
pub record FitTogether (p : PreparedPairs) (grid : CellBits) (margin : Option Margin) (reference : List Place3) : Type 0 where
  pub range : IsReach p.reach
  pub alike : grid ≡ p.cells.bits
  pub neighbours : NearAreNeighbours p.reach.frac p.ring p.reach.cutoff p.cells.bits
  pub is_margin : IfSome margin (IsMargin p.ring p.reach)
  pub kept : IsTrue p.kept → IsSomeAnd margin (λ m. AreKept p.ring m reference p.lists)
