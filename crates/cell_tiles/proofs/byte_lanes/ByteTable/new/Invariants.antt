use Rattle.std.proofs.Common.{◌≡◌, ℕ, ◌<◌, length, get_or}
use Rattle.cell_tiles.specs.Near.{AreByteLanes, no_byte}
use Rattle.cell_tiles.proofs.byte_lanes.ByteTable.new.Given as goal

abbrev pub invariant-loop-b : goal.invariant-loop-b
invariant-loop-b l =
    record {
      wide : length l.bytes ≡ 256;
      each : (k : ℕ) → k < l.b → AreByteLanes k (get_or l.bytes k no_byte);
    }
