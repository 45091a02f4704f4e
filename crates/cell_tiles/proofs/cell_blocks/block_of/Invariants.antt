use Rattle.std.proofs.Common.{◌≡◌, ℕ, ◌<◌, get_or, length}
use Rattle.ring_box.specs.Places.{no_place, places_of}
use Rattle.cell_tiles.proofs.cell_blocks.block_of.Given as goal

abbrev pub invariant-loop-i : goal.invariant-loop-i
invariant-loop-i l = record {
  filled : (k : ℕ) → k < l.i → get_or l.places k no_place ≡ places_of l.frame (get_or l.atoms k 0);
  long : length l.places ≡ 16;
}
