use Rattle.std.proofs.Common.{◌≡◌, ℕ, ◌<◌, ◌≤◌, length, slice_index_or, get_or}
use Rattle.place_blocks.specs.Blocks.{IsUpperHalf}
use Rattle.ring_box.specs.Places.{no_place}
use Rattle.place_blocks.proofs.blocks.Block.of.Given as goal

-- the first i lanes have the upper halves of the places, and the other lanes are 0
abbrev pub invariant-loop-i : goal.invariant-loop-i
invariant-loop-i l = record {
  x_long : length l.x ≡ 16;
  y_long : length l.y ≡ 16;
  z_long : length l.z ≡ 16;
  x : (k : ℕ) → k < l.i → IsUpperHalf (get_or l.x k 0) (slice_index_or l.places k no_place).x;
  y : (k : ℕ) → k < l.i → IsUpperHalf (get_or l.y k 0) (slice_index_or l.places k no_place).y;
  z : (k : ℕ) → k < l.i → IsUpperHalf (get_or l.z k 0) (slice_index_or l.places k no_place).z;
  x_rest : (k : ℕ) → l.i ≤ k → get_or l.x k 0 ≡ 0;
  y_rest : (k : ℕ) → l.i ≤ k → get_or l.y k 0 ≡ 0;
  z_rest : (k : ℕ) → l.i ≤ k → get_or l.z k 0 ≡ 0;
}
