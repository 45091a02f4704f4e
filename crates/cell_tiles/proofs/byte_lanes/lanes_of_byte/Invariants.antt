use Rattle.std.proofs.Common.{◌≡◌, ◌+◌, ◌^◌, ◌<◌, ◌≤◌, ◌++◌, length, take}
use Rattle.cell_tiles.specs.Near.{lanes_of}
use Rattle.cell_tiles.proofs.byte_lanes.lanes_of_byte.Given as goal

abbrev pub invariant-loop-left : goal.invariant-loop-left
invariant-loop-left l =
    record {
      listed : lanes_of l.byte ≡ take l.count l.lanes ++ lanes_of l.left;
      room : l.count + length (lanes_of l.left) ≤ 8;
      small : l.left < 2 ^ 8;
      wide : length l.lanes ≡ 8;
    }

abbrev pub decreases-loop-left : goal.decreases-loop-left
decreases-loop-left l = l.left
