use Rattle.std.proofs.Common.{◌≡◌, ℕ, ◌<◌, [], get_or, length, map}
use Rattle.cell_tiles.specs.Cells.{AreBlocks}
use Rattle.cell_tiles.proofs.cell_blocks.lay_out_all.Given as goal

abbrev pub invariant-loop-cell : goal.invariant-loop-cell
invariant-loop-cell g l = record {
  blocks : (c : ℕ) → c < l.cell → AreBlocks l.frame (get_or (map (λ m. m.items) l.members) c []) (get_or (map (λ b. b.items) l.blocks.items) c []);
  whole : length l.blocks.items ≡ length l.fn.blocks.items;
}
