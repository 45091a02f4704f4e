use Rattle.std.proofs.Common.{◌*◌, ◌^◌, ◌<◌}
use Rattle.place_blocks.specs.Blocks.{IsCoarseReach}
use Rattle.ring_box.specs.Acting.{Reach}
use Rattle.ring_box.specs.declared.boxes.RingBox.{RingBox}
use Rattle.cell_tiles.specs.Cells.{LeavesOutOfFirst}
use Rattle.cell_tiles.proofs.lanes.near_lanes.Given as goal

abbrev pub invariant-loop-i : goal.invariant-loop-i
invariant-loop-i l =
    record {
      small : l.near < 2 ^ (16 * l.i);
      left_out : (d : Reach) (b : RingBox) → IsCoarseReach d b l.coarse → LeavesOutOfFirst d b l.blocks l.i l.halves l.near;
    }
