use Rattle.std.proofs.Common.{arith, length-set}
use Rattle.observables.proofs.LimbLaws.{product_more}
use Rattle.observables.proofs.limbs.product.Goals as goal

pub loop-i-preserved : goal.loop-i-preserved
loop-i-preserved c =
    let n = c.loop-i.invariant.0 in (
      omega (arith, length-set c.loop-i.product c.loop-i.i c.carrying_mul-limb.result.0),
      product_more c.args.a.now c.loop-i.product c.args.factor c.loop-i.i c.carrying_mul-limb.result.0 c.loop-i.over c.carrying_mul-limb.result.1 c.args.carry
          (omega arith) (omega arith) c.loop-i.invariant.1 c.carrying_mul-limb.ensures,
    )
