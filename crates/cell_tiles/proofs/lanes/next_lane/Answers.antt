use Rattle.std.proofs.Common.{◌-◌, arith, w64}
use Rattle.std.proofs.lemmas.Nat.{and_le_r}
use Rattle.std.proofs.lemmas.Nat.Bits.{bit_at-trailing_zeros}
use Rattle.cell_tiles.proofs.LaneLemmas.{lane_below, next_lanes, without_lowest}
use Rattle.cell_tiles.proofs.lanes.next_lane.Goals as goal

pub returns : goal.returns
returns c =
    let t = bit_at-trailing_zeros w64 c.args.bits c.requires.some c.ranges.bits.fits in
    let rest = without_lowest _ c.args.bits t.1 t.2 in
    record {
      lanes = next_lanes c.args.bits _ (lane_below c.args.bits 64 _ c.ranges.bits.fits t.1) t.1 t.2;
      set = t.1;
      before = t.2;
      gone = rest.0;
      behind = rest.1;
      less = omega (arith, and_le_r c.args.bits (c.args.bits - 1), c.requires.some);
    }
