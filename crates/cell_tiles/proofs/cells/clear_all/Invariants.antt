use Rattle.std.proofs.Common.{◌≡◌, [], length, map, replicate, take}
use Rattle.cell_tiles.proofs.cells.clear_all.Given as goal

abbrev pub invariant-loop-cell : goal.invariant-loop-cell
invariant-loop-cell g l = record {
  cleared : take l.cell (map (λ m. m.items) l.members.items) ≡ replicate l.cell [];
  whole : length l.members.items ≡ length l.fn.members.items;
}
