use Rattle.std.proofs.Common.{◌++◌, take, ap, sym, ◌∙◌, arith, append-nil}
use Rattle.cell_tiles.specs.Near.{lanes_of}
use Rattle.cell_tiles.proofs.LaneLemmas.{lane_below, no_lanes}
use Rattle.cell_tiles.proofs.byte_lanes.lanes_of_byte.Goals as goal

pub overflow_cast-lanes : goal.overflow_cast-lanes
overflow_cast-lanes c =
    let below = lane_below c.loop-left.left 8 _ c.loop-left.invariant.small c.next_lane-lane.ensures.set in
    record { fits = omega (arith, below) }

pub returns : goal.returns
returns c =
    let kept = c.loop-left.invariant in
    let xs = take c.loop-left.count c.loop-left.lanes in
    record {
      long = kept.wide;
      few = omega (arith, kept.room);
      lanes = sym (kept.listed ∙ ap (λ b. xs ++ lanes_of b) c.loop-left-test.false ∙ ap (λ js. xs ++ js) no_lanes ∙ append-nil xs);
    }
