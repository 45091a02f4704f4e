use Rattle.std.proofs.Common.{arith, length-set}
use Rattle.std.specs.Int.{from_bool}
use Rattle.observables.proofs.LimbLaws.{sum_more}
use Rattle.observables.proofs.limbs.sum.Goals as goal

pub loop-i-preserved : goal.loop-i-preserved
loop-i-preserved c =
    let n = c.loop-i.invariant.0 in (
      omega (arith, length-set c.loop-i.sum c.loop-i.i c.carrying_add-limb.result.0),
      sum_more c.args.a.now c.args.b.now c.loop-i.sum c.loop-i.i c.carrying_add-limb.result.0 (from_bool c.loop-i.over) (from_bool c.carrying_add-limb.result.1) (from_bool c.args.carry)
          (omega arith) (omega arith) (omega arith) c.loop-i.invariant.1 c.carrying_add-limb.ensures,
    )
