use Rattle.std.proofs.Common.{◌<◌, ◌^◌, arith, rules, length-set}
use Rattle.std.specs.Int.{from_bool}
use Rattle.observables.proofs.LimbLaws.{difference_more, written_below}
use Rattle.observables.proofs.limbs.difference.Goals as goal

pub loop-i-preserved : goal.loop-i-preserved
loop-i-preserved c =
    let n = c.loop-i.invariant.0 in
    let low : c.borrowing_sub-limb.result.0 < 2 ^ 64 = search rules in (
      omega (arith, length-set c.loop-i.rest c.loop-i.i c.borrowing_sub-limb.result.0),
      written_below c.loop-i.rest c.loop-i.i c.borrowing_sub-limb.result.0 (omega arith) c.loop-i.invariant.1 low,
      difference_more c.args.a.now c.args.b.now c.loop-i.rest c.loop-i.i c.borrowing_sub-limb.result.0 (from_bool c.loop-i.under) (from_bool c.borrowing_sub-limb.result.1) (from_bool c.args.borrow)
          (omega arith) (omega arith) (omega arith) c.loop-i.invariant.2 c.borrowing_sub-limb.ensures,
    )
