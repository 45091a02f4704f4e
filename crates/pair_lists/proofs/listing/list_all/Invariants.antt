use Rattle.std.proofs.Common.{◌≡◌, take, All}
use Rattle.cell_tiles.specs.Near.{ArePairsIn, acting_in}
use Rattle.pair_lists.specs.Lists.{all_pairs, pairs_of, tiles_in}
use Rattle.pair_lists.proofs.listing.list_all.Given as goal

-- the pairs of the tiles so far are appended, but for some that don't act
abbrev pub invariant-loop-tile : goal.invariant-loop-tile
invariant-loop-tile g l = record {
  acting : acting_in l.frame (pairs_of l.lists) ≡ acting_in l.frame (all_pairs (take l.tile (tiles_in l.cells)));
  inside : All (ArePairsIn l.frame) l.lists.lists;
  rest : ArePairsIn l.frame l.lists.rest;
}
