use Rattle.std.proofs.Common.{◌≡◌, ◌<◌, ap, arith, append-nil, get_or, length, sym, ◌∙◌}
use Rattle.std.proofs.lemmas.List.{get_or-map, length-map}
use Rattle.std.proofs.lemmas.List.Elements.{All-get_or}
use Rattle.ring_box.specs.Places.{places_of}
use Rattle.cell_tiles.specs.Cells.{cell_number}
use Rattle.cell_tiles.specs.Near.{pair_acts, those_acting}
use Rattle.cell_tiles.specs.Tiles.{members_at, pair_of, pairs_with}
use Rattle.cell_tiles.proofs.CellLemmas.{are_places}
use Rattle.cell_tiles.proofs.ListLemmas.{row_lanes}
use Rattle.cell_tiles.proofs.NearLemmas.{lies_in, members_lie, none_left, pair_idle, part_lies}
use Rattle.cell_tiles.proofs.cells.Cells.list_row.Goals as goal

pub returns-then-is_cell_far-clause-acting : goal.returns-then-is_cell_far-clause-acting
returns-then-is_cell_far-clause-acting g c =
    let cells = c.args.self.now in
    let grid = c.self.inside.grid in
    let frame = c.args.frame.now.places.now in
    let d = c.args.frame.now.reach.now in
    let b = c.args.frame.now.ring.now in
    let a = c.args.row.now.atom in
    let others = c.args.row.now.others.now in
    let lie = rw (← c.requires.members) at (members_lie cells.bits frame c.args.tile.second c.requires.cell) in
    let each = part_lies (λ o. cell_number cells.bits (places_of frame o) ≡ c.args.tile.second) others (members_at cells.members c.args.tile.second) c.args.row.now.column (length others) c.requires.part lie in
    let none = none_left (pair_acts d b frame) (length others) (pairs_with a others)
    (λ j lt.
    let inside : j < length others = omega (arith, length-map others (pair_of a), lt) in
    let other = get_or others j 0 in
    let here = All-get_or (λ o. cell_number cells.bits (places_of frame o) ≡ c.args.tile.second) others j 0 inside each in
    ap (pair_acts d b frame) (get_or-map (pair_of a) others j 0 (0, 0) inside)
    ∙ pair_idle d b frame a other c.args.frame.now.on_ring
    (c.is_cell_far.ensures c.if-is_cell_far.true (places_of frame other)
    (rw c.numbers.ensures.value (lies_in grid.bits (places_of frame other) c.args.tile.second grid.in_range (are_places frame other c.args.frame.now.on_ring) (rw (← c.self.view_is) at here))))) in
    rw none (sym (append-nil (those_acting d b frame c.args.near.now)))

pub add_row-requires-clause-beside : goal.add_row-requires-clause-beside
add_row-requires-clause-beside g c =
    let beside = c.requires.beside c.args.tile.second in
    rw c.blocks-blocks.ensures (row_lanes c.args.frame.now.places.now _ c.args.row.now.column c.args.row.now.others.now _ c.requires.part c.requires.within beside.lanes)
