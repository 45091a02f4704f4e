use Rattle.std.proofs.Common.{◌≡◌, List, length, subst, sym, All}
use Rattle.cell_tiles.specs.Cells.{CellAtoms, IsGrid, members_of}
use Rattle.cell_tiles.specs.Near.{pair_acts}
use Rattle.ring_box.specs.Cells.{NearAreNeighbours}
use Rattle.ring_box.specs.Places.{ArePlaces}
use Rattle.ring_box.specs.declared.boxes.RingBox.{RingBox}
use Rattle.ring_box.specs.declared.vectors.CellBits.{CellBits}
use Rattle.ring_box.specs.declared.vectors.Place3.{Place3}
use Rattle.pair_lists.specs.Lists.{AreListsOf, tiles_in}
use Rattle.pair_lists.specs.Margins.{AreKept}
use Rattle.pair_lists.specs.declared.margins.Margin.{Margin}
use Rattle.pair_lists.proofs.ListLaws.{in_any_order, same_lists}
use Rattle.pair_lists.proofs.PreparedLemmas.{cells_listed}
use Rattle.pair_lists.proofs.wide_cells.WideCells.list.Goals as goal

-- the pairs of a frame in the cells for a margin are lists of those that act up to it; `of` is a view of the margin m
wide_listed : (cells : CellAtoms) (bits : CellBits) (m of : Margin) (b : RingBox) (frame : List Place3)
    → m ≡ of → bits ≡ m.grid.bits → NearAreNeighbours of.reach.frac b of.reach.cutoff of.grid.bits
    → cells.bits ≡ bits → cells.members ≡ members_of bits frame → All ArePlaces frame
    → AreListsOf (length frame) (pair_acts m.reach b frame) (tiles_in cells)
wide_listed cells bits m of b frame view is near same members places =
    let here : NearAreNeighbours m.reach.frac b m.reach.cutoff m.grid.bits =
    subst (λ (n : Margin). NearAreNeighbours n.reach.frac b n.reach.cutoff n.grid.bits) (sym view) near
    in
    cells_listed cells bits m.reach b frame same members (subst IsGrid (sym is) m.grid.in_range) places
    (subst (NearAreNeighbours m.reach.frac b m.reach.cutoff) (sym is) here)

pub list_all-requires-clause-pairs : goal.list_all-requires-clause-pairs
list_all-requires-clause-pairs g c =
    let i = c.self.inside in
    let filled = c.in_ok-fill.ensures in
    (wide_listed c.fill.new.self i.cells.bits i.margin c.args.self.now c.args.ring.now c.args.frame.now c.self.view_is c.self.invariant.1
    c.requires.neighbours filled.bits filled.ok filled.on_ring).inside

pub returns-clause-kept : goal.returns-clause-kept
returns-clause-kept g c =
    let i = c.self.inside in
    let b = c.args.ring.now in
    let frame = c.args.frame.now in
    let cells = c.fill.new.self in
    let lists = c.list_all.new.lists.lists in
    let spread = c.spread.new.self.lists in
    let filled = c.in_ok-fill.ensures in
    let listed = c.in_ok-list_all.ensures in
    let acts = pair_acts i.margin.reach b frame in
    let tiles : AreListsOf (length frame) acts (tiles_in cells) =
    wide_listed cells i.cells.bits i.margin c.args.self.now b frame c.self.view_is c.self.invariant.1
    c.requires.neighbours filled.bits filled.ok filled.on_ring
    in
    subst (λ m. AreKept b m frame spread) c.self.view_is
    (record {
      places = filled.on_ring;
      listed = in_any_order (length frame) acts lists spread c.spread.ensures.lists
          (same_lists (length frame) acts lists (tiles_in cells) listed.acting listed.inside tiles);
    })
