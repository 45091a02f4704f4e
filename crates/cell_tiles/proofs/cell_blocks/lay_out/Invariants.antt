use Rattle.std.proofs.Common.{◌≡◌, ℕ, ◌*◌, ◌/◌, ◌%◌, ◌<◌, get_or, length}
use Rattle.place_blocks.specs.Blocks.{IsLane}
use Rattle.ring_box.specs.Places.{places_of}
use Rattle.cell_tiles.specs.Cells.{no_block}
use Rattle.cell_tiles.proofs.cell_blocks.lay_out.Given as goal

abbrev pub invariant-loop-block : goal.invariant-loop-block
invariant-loop-block g l = record {
  long : length l.blocks.items ≡ l.block;
  lanes : (i : ℕ) → i < l.block * 16 → i < length l.atoms → IsLane (get_or l.blocks.items (i / 16) no_block) (i % 16) (places_of l.frame (get_or l.atoms i 0));
}
