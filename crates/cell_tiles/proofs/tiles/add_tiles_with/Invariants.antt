use Rattle.std.proofs.Common.{◌≡◌, ◌+◌, ◌-◌, ◌≤◌, ◌++◌, map}
use Rattle.cell_tiles.proofs.TileLemmas.{with_below}
use Rattle.cell_tiles.proofs.tiles.add_tiles_with.Given as goal

abbrev pub decreases-loop-c : goal.decreases-loop-c
decreases-loop-c g l = l.d + 1 - l.c

abbrev pub invariant-loop-c : goal.invariant-loop-c
invariant-loop-c g l =
    record {
      within : l.c ≤ l.d + 1;
      added : map (λ t. (t.first, t.second)) l.tiles.items ≡ map (λ t. (t.first, t.second)) l.fn.tiles.items ++ with_below l.grid.bits l.d l.c;
    }
