-- The pairs of a prepared frame: those of the cells' tiles, or those of lists that are kept.
use Rattle.std.proofs.Common.{◌≡◌, ℕ, ◌-◌, ◌<◌, true, false, Option, Some, List, [], length, take, drop, map, arith, refl, ap, sym, subst, ◌∙◌, if◌then◌else◌, IfSome, IsSomeAnd, IsTrue, Result, Ok, Err, OnOk, slice_get, slice_index_or, All}
use Rattle.std.proofs.lemmas.Bool.{true≢false}
use Rattle.std.proofs.lemmas.List.{drop-map, length-drop, take_all}
use Rattle.ring_box.specs.Acting.{Reach}
use Rattle.ring_box.specs.Cells.{NearAreNeighbours}
use Rattle.ring_box.specs.Distances.{square_of}
use Rattle.ring_box.specs.Places.{ArePlaces, places_of}
use Rattle.ring_box.specs.declared.boxes.RingBox.{RingBox}
use Rattle.ring_box.specs.declared.vectors.CellBits.{CellBits}
use Rattle.ring_box.specs.declared.vectors.Place3.{Place3}
use Rattle.cell_tiles.specs.Cells.{AreBeside, CellAtoms, IsGrid, members_of}
use Rattle.cell_tiles.specs.Near.{pair_acts}
use Rattle.cell_tiles.specs.Tiles.{pairs_in, tile_pairs, tiles_of}
use Rattle.ring_box.specs.declared.pairs.AtomPair.{AtomPair}
use Rattle.pair_lists.specs.Lists.{AreListsOf, tiles_in}
use Rattle.pair_lists.specs.Margins.{AreKept, IsMargin}
use Rattle.pair_lists.specs.PairLists.{FitTogether, IsPrepared, PreparedPairs, list_at, lists_of}
use Rattle.pair_lists.specs.declared.margins.Margin.{Margin}
use Rattle.pair_lists.proofs.ListLaws.{act_less, mapped_at, tiles_listed}
use Rattle.pair_lists.proofs.MarginLaws.{stayed, wider}
use Rattle.pair_lists.proofs.BoundsLemmas.{numbers}

-- ---- the pairs of a tile

-- while no list is kept, the pairs of the tiles are those in the cells
of_cells : (p : PreparedPairs) → p.kept ≡ false → lists_of p ≡ tiles_in p.cells
of_cells p e = ap (λ b. if b then p.lists else tiles_in p.cells) e

-- while lists are kept, the pairs of the tiles are those of the lists
pub of_lists : (p : PreparedPairs) → p.kept ≡ true → lists_of p ≡ p.lists
of_lists p e = ap (λ b. if b then p.lists else tiles_in p.cells) e

-- the pairs of a tile of the cells; q is a view of the fields that p has
pub tile_at : (p q : PreparedPairs) (grid : CellBits) (tile : ℕ) (t : ℕ × ℕ) → p ≡ q → grid ≡ p.cells.bits → q.kept ≡ false
    → slice_get (tiles_of grid) tile ≡ Some t → list_at q tile ≡ pairs_in p.cells.members t
tile_at p q grid tile t is alike kept e =
    ap (λ xs. slice_index_or xs tile []) (of_cells q kept)
    ∙ (ap (λ (f : PreparedPairs). slice_index_or (tiles_in f.cells) tile []) (sym is)
    ∙ mapped_at (pairs_in p.cells.members) (tiles_of p.cells.bits) tile t []
    (ap (λ bits. slice_get (tiles_of bits) tile) (sym alike) ∙ e))

-- ---- a frame in the cells

-- a fact that follows from two, each of them known unless there is an error
pub on_ok : {T E : Type 0} (r : Result T E) {A B C : Type 0} → (A → B → C) → OnOk r A → OnOk r B → OnOk r C
on_ok (Ok x) f a b = f a b
on_ok (Err e) f a b = b

-- the pairs of a frame in filled cells, tile by tile, are lists of those that act, if near atoms are in neighbouring cells
pub cells_listed : (cells : CellAtoms) (bits : CellBits) (d : Reach) (b : RingBox) (frame : List Place3)
    → cells.bits ≡ bits → cells.members ≡ members_of bits frame → IsGrid bits → All ArePlaces frame
    → NearAreNeighbours d.frac b d.cutoff bits → AreListsOf (length frame) (pair_acts d b frame) (tiles_in cells)
cells_listed cells bits d b frame is members grid places near =
    let here : tiles_in cells ≡ tile_pairs bits frame =
    ap (λ ms. map (pairs_in ms) (tiles_of cells.bits)) members ∙ ap (λ c. map (pairs_in (members_of bits frame)) (tiles_of c)) is
    in
    subst (AreListsOf (length frame) (pair_acts d b frame)) (sym here) (tiles_listed bits d b frame grid places near)

-- a frame in filled cells is prepared
pub filled : (p : PreparedPairs) (bits : CellBits) (frame : List Place3) → p.kept ≡ false → p.cells.bits ≡ bits → IsGrid bits
    → NearAreNeighbours p.reach.frac p.ring p.reach.cutoff bits
    → p.cells.members ≡ members_of bits frame → AreBeside frame p.cells → All ArePlaces frame → IsPrepared p frame
filled p bits frame kept is grid near members beside places =
    record {
      places = places;
      listed = subst (AreListsOf (length frame) (pair_acts p.reach p.ring frame)) (sym (of_cells p kept))
          (cells_listed p.cells bits p.reach p.ring frame is members grid places near);
      cells = λ _. record { members = members ∙ ap (λ b. members_of b frame) (sym is); beside = beside };
    }

-- ---- lists that are kept

-- lists that are kept serve a frame, if the pairs that act in it acted in the reference, up to the margin
lists_serve : (p : PreparedPairs) (m : Margin) (reference frame : List Place3) → IsTrue p.kept → AreKept p.ring m reference p.lists
    → All ArePlaces frame → length reference ≡ length frame
    → ((q : ℕ × ℕ) → pair_acts p.reach p.ring frame q ≡ true → pair_acts m.reach p.ring reference q ≡ true) → IsPrepared p frame
lists_serve p m reference frame kept lists places long acted =
    let acts = pair_acts p.reach p.ring frame in
    let less : AreListsOf (length reference) acts p.lists =
    act_less (length reference) (pair_acts m.reach p.ring reference) acts p.lists acted lists.listed
    in
    record {
      places = places;
      listed = subst (AreListsOf (length frame) acts) (sym (of_lists p kept)) (subst (λ n. AreListsOf n acts p.lists) long less);
      cells = λ no. absurd (true≢false (sym kept ∙ no));
    }

-- they serve a frame in which each atom is nearer than half the margin to where it was
pub served : (p : PreparedPairs) (grid : CellBits) (margin : Option Margin) (m : Margin) (reference frame : List Place3)
    → FitTogether p grid margin reference → margin ≡ Some m → IsTrue p.kept → length reference ≡ length frame → All ArePlaces frame
    → ((a : ℕ) → a < length frame → square_of p.ring (places_of reference a) (places_of frame a) < m.limit) → IsPrepared p frame
served p grid margin m reference frame fit is kept long places near =
    let is_margin : IsMargin p.ring p.reach m = subst (λ o. IfSome o (IsMargin p.ring p.reach)) is fit.is_margin in
    let lists : AreKept p.ring m reference p.lists =
    subst (λ o. IsSomeAnd o (λ n. AreKept p.ring n reference p.lists)) is (fit.kept kept)
    in
    lists_serve p m reference frame kept lists places long
    (stayed p.reach p.ring m reference frame fit.range is_margin lists.places places long near)

-- they serve the frame in which they were made
pub kept_prepared : (p : PreparedPairs) (margin : Option Margin) (m : Margin) (frame : List Place3)
    → IfSome margin (IsMargin p.ring p.reach) → margin ≡ Some m → IsTrue p.kept → AreKept p.ring m frame p.lists → IsPrepared p frame
kept_prepared p margin m frame is_margin is kept lists =
    let here : IsMargin p.ring p.reach m = subst (λ o. IfSome o (IsMargin p.ring p.reach)) is is_margin in
    lists_serve p m frame frame kept lists lists.places refl (λ q. wider p.reach p.ring m frame q here)

-- ---- a part of a list

-- the pairs of a list from the index k on
pub rest_from : (pairs : List AtomPair) (ps : List (ℕ × ℕ)) (k end : ℕ) → map numbers pairs ≡ ps → end ≡ length pairs
    → map numbers (take (end - k) (drop k pairs)) ≡ drop k ps
rest_from pairs ps k end is e =
    ap (map numbers) (take_all (end - k) (drop k pairs) (omega (arith, e, length-drop k pairs)))
    ∙ (sym (drop-map numbers k pairs) ∙ ap (drop k) is)
