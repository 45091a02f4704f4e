use Rattle.std.proofs.Common.{ℕ, ◌^◌, ◌≤◌, ◌<◌, ◌≡◌, length, slice_index_or}
use Rattle.std.specs.Float.Ieee.{nan}
use Rattle.float_filters.specs.Near.{IsNear, IsNearRoot}
use Rattle.float_filters.proofs.lengths.near_lengths.Given as goal

abbrev pub invariant-loop-l : goal.invariant-loop-l
invariant-loop-l l = record {
  size : length l.lengths ≡ 128;
  near : (k s : ℕ) → k < l.l → s ≤ 2 ^ 200 → IsNear 5 (slice_index_or l.squares k nan) s 1 → IsNearRoot 7 (slice_index_or l.lengths k nan) s 1;
}
