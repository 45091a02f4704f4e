use Rattle.std.proofs.Common.{◌≡◌, ◌+◌, ◌-◌, arith, length-set}
use Rattle.observables.proofs.LimbLaws.{quotient_more}
use Rattle.observables.proofs.limbs.quotient.Goals as goal

pub loop-i-preserved : goal.loop-i-preserved
loop-i-preserved c =
    let n = c.loop-i.invariant.0 in
    let e : c.loop-i.i - 1 + 1 ≡ c.loop-i.i = omega arith in (
      omega (arith, length-set c.loop-i.quotient (c.loop-i.i - 1) c.quotient_limb-limb.result.0),
      quotient_more c.args.a.now c.loop-i.quotient c.args.divisor (c.loop-i.i - 1) c.quotient_limb-limb.result.0 c.loop-i.rest c.quotient_limb-limb.result.1
          (omega arith) (omega arith) (rw e c.loop-i.invariant.1) c.quotient_limb-limb.ensures.value,
      c.quotient_limb-limb.ensures.below,
    )
