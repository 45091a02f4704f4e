use Rattle.std.proofs.Common.{◌≡◌, ℕ, arith, ap, length, subst, take, ◌∙◌}
use Rattle.std.proofs.lemmas.List.{length-map, take_all}
use Rattle.std.proofs.lemmas.Result.{on_ok_weaker}
use Rattle.ring_box.specs.declared.vectors.CellBits.{CellBits}
use Rattle.cell_tiles.specs.Near.{ArePairsIn, IsPairOf, acting_in, pair_acts}
use Rattle.cell_tiles.specs.Tiles.{pairs_in, tiles_of}
use Rattle.pair_lists.specs.Lists.{all_pairs, pairs_of, tiles_in}
use Rattle.pair_lists.proofs.ListingLemmas.{all_listed, closed_inside, holds_at, one_more, tile_there}
use Rattle.pair_lists.proofs.listing.list_all.Goals as goal

pub list_tile-requires-clause-pairs : goal.list_tile-requires-clause-pairs
list_tile-requires-clause-pairs g c =
    let cells = c.args.cells.now in
    let tile : ℕ × ℕ = (c.get.result.first, c.get.result.second) in
    let here = tile_there cells.bits c.args.tiles.now.grid.bits c.loop-tile.tile tile c.requires.grid c.get.ensures.value in
    holds_at (pairs_in cells.members) (tiles_of cells.bits) c.loop-tile.tile tile here (ArePairsIn c.args.frame.now) c.requires.pairs

pub loop-tile-preserved : goal.loop-tile-preserved
loop-tile-preserved g c =
    let cells = c.args.cells.now in
    let frame = c.args.frame.now in
    let tile : ℕ × ℕ = (c.get.result.first, c.get.result.second) in
    let here = tile_there cells.bits c.args.tiles.now.grid.bits c.loop-tile.tile tile c.requires.grid c.get.ensures.value in
    record {
      acting =
          one_more (pairs_in cells.members) (tiles_of cells.bits) c.loop-tile.tile tile here
          (pair_acts frame.reach.now frame.ring.now frame.places.now) (pairs_of c.loop-tile.lists) (pairs_of c.list_tile.new.lists)
          c.in_ok-list_tile.ensures.acting c.loop-tile.invariant.acting;
      inside = c.in_ok-list_tile.ensures.inside;
      rest = c.in_ok-list_tile.ensures.rest;
    }

pub returns-clause-acting : goal.returns-clause-acting
returns-clause-acting g c =
    let cells = c.args.cells.now in
    let acting = acting_in c.args.frame.now in
    let tiles = tiles_in cells in
    let all : take c.loop-tile.tile tiles ≡ tiles =
    take_all c.loop-tile.tile tiles
    (omega
    (arith, length-map (tiles_of cells.bits) (pairs_in cells.members), ap (λ (bits : CellBits). length (tiles_of bits)) c.requires.grid))
    in
    on_ok_weaker c.close_from.result
    (λ e.
    ap acting (all_listed c.loop-tile.lists c.close_from.new.self e)
    ∙ subst (λ ts. acting (pairs_of c.loop-tile.lists) ≡ acting (all_pairs ts)) all c.loop-tile.invariant.acting)
    c.close_from.ensures.ok

pub returns-clause-inside : goal.returns-clause-inside
returns-clause-inside g c =
    let kept = c.loop-tile.invariant in
    on_ok_weaker c.close_from.result
    (λ e. closed_inside _ c.loop-tile.lists c.close_from.new.self e (IsPairOf _) kept.inside kept.rest) c.close_from.ensures.ok
