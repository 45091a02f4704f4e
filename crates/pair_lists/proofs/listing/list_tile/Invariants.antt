use Rattle.std.proofs.Common.{◌≡◌, ◌++◌, ◌-◌, ◌≤◌, length, take, All}
use Rattle.cell_tiles.specs.Near.{ArePairsIn, acting_in}
use Rattle.cell_tiles.specs.Tiles.{pairs_in}
use Rattle.pair_lists.specs.Lists.{pairs_of}
use Rattle.pair_lists.proofs.listing.list_tile.Given as goal

-- the tile's pairs before the pair k are appended, but for some that don't act
abbrev pub invariant-loop-k : goal.invariant-loop-k
invariant-loop-k g l =
    let pairs = pairs_in l.cells.members (l.tile.first, l.tile.second) in
    record {
      within : l.k ≤ length pairs;
      acting : acting_in l.frame (pairs_of l.lists) ≡ acting_in l.frame (pairs_of l.fn.lists) ++ acting_in l.frame (take l.k pairs);
      inside : All (ArePairsIn l.frame) l.lists.lists;
      rest : ArePairsIn l.frame l.lists.rest;
    }

abbrev pub decreases-loop-k : goal.decreases-loop-k
decreases-loop-k g l = l.pairs - l.k
