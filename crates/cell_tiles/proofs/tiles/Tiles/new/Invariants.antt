use Rattle.std.proofs.Common.{◌≡◌, map}
use Rattle.cell_tiles.proofs.TileLemmas.{all_below}
use Rattle.cell_tiles.proofs.tiles.Tiles.new.Given as goal

abbrev pub invariant-loop-d : goal.invariant-loop-d
invariant-loop-d g l = map (λ t. (t.first, t.second)) l.by_cell.items ≡ all_below l.grid.bits l.d
