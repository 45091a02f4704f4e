use Rattle.std.proofs.Common.{◌+◌, ◌^◌, get_or, drop, pos, ◌*ℤ◌, arith}
use Rattle.std.proofs.lemmas.Int.{unsigned_abs-mul}
use Rattle.observables.specs.Products.{product_of}
use Rattle.observables.proofs.ProductLaws.{product_of-drop, positive_factors, part_below, next_factor}
use Rattle.observables.proofs.fractions.scaled.Goals as goal

pub times-product-requires-in-loop-factor : goal.times-product-requires-in-loop-factor
times-product-requires-in-loop-factor c =
    let e = product_of-drop c.args.factors.now c.loop-factor.factor-index (omega arith) in
    part_below c.loop-factor.product (c.args.whole.now *ℤ pos (product_of c.args.factors.now)) (get_or c.args.factors.now c.loop-factor.factor-index 0) (product_of (drop (c.loop-factor.factor-index + 1) c.args.factors.now)) (2 ^ 512)
    (rw e at c.loop-factor.invariant.0) (rw e at c.loop-factor.invariant.1) (omega (arith, c.requires.room, unsigned_abs-mul c.args.whole.now (pos (product_of c.args.factors.now))))

pub loop-factor-preserved : goal.loop-factor-preserved
loop-factor-preserved c =
    let e = product_of-drop c.args.factors.now c.loop-factor.factor-index (omega arith) in (
      (positive_factors (get_or c.args.factors.now c.loop-factor.factor-index 0) (product_of (drop (c.loop-factor.factor-index + 1) c.args.factors.now)) (rw e at c.loop-factor.invariant.0)).1,
      next_factor c.loop-factor.product (c.args.whole.now *ℤ pos (product_of c.args.factors.now)) c.times-product-in-loop-factor.result (get_or c.args.factors.now c.loop-factor.factor-index 0) (product_of (drop (c.loop-factor.factor-index + 1) c.args.factors.now))
          (rw e at c.loop-factor.invariant.1) c.times-product-in-loop-factor.ensures,
    )
