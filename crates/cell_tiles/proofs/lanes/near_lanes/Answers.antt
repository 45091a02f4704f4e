use Rattle.std.proofs.Common.{◌*◌, ◌+◌, ◌<◌, ◌^◌, arith, subst, sym}
use Rattle.cell_tiles.specs.Cells.{LeavesOutOfFirst}
use Rattle.cell_tiles.proofs.LaneLemmas.{leaves_out_more, mask_bound, mask_joined}
use Rattle.cell_tiles.proofs.lanes.near_lanes.Goals as goal

pub loop-i-preserved : goal.loop-i-preserved
loop-i-preserved c =
    let n = c.loop-i.i in
    let kept = c.loop-i.invariant in
    let mask = c.near.ensures in
    let joined = sym (mask_joined c.loop-i.near c.near.result n (omega (arith, c.loop-i-test.true, c.requires)) kept.small mask.bound) in
    record {
      small = subst (λ m. m < 2 ^ (16 * (n + 1))) joined (mask_bound c.loop-i.near c.near.result n kept.small mask.bound);
      left_out = λ d b r.
          subst (λ m. LeavesOutOfFirst d b c.args.blocks.now (n + 1) c.args.halves m) joined
          (leaves_out_more d b c.args.blocks.now n c.args.halves c.loop-i.near c.near.result kept.small (kept.left_out d b r) (mask.left_out d b r));
    }
