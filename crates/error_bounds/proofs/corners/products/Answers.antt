use Rattle.std.proofs.Common.{◌∙◌, ◌^◌, ◌-◌, arith, rules}
use Rattle.std.specs.Int.{w128}
use Rattle.std.proofs.lemmas.Int.{ints, to_z-of_z}
use mir.Val.{SFits}
use Rattle.interval_domain.specs.Views.{range_of}
use Rattle.error_bounds.proofs.CornerLaws.{outer_from_zero, outer_to_zero}
use Rattle.error_bounds.proofs.corners.products.Goals as goal

pub products_with-requires : goal.products_with-requires
products_with-requires c =
    let x = c.args.x in
    let y = c.args.y in
    let a : SFits w128 x.low = search rules in
    let d : SFits w128 y.low = search rules in
    let e : SFits w128 y.high = search rules in
    let sign = simp to_z-of_z at c.if-x-ge0.true in
    let o = outer_from_zero (2 ^ 127 - 1) (range_of x) (range_of y) c.requires (omega (arith, ints, sign)) x.ordered y.ordered in
    simp to_z-of_z (record { least_fits = o.least_fits; greatest_fits = o.greatest_fits; ordered = o.ordered })

pub returns-then-x-ge0 : goal.returns-then-x-ge0
returns-then-x-ge0 c =
    let x = c.args.x in
    let y = c.args.y in
    let a : SFits w128 x.low = search rules in
    let d : SFits w128 y.low = search rules in
    let e : SFits w128 y.high = search rules in
    let sign = simp to_z-of_z at c.if-x-ge0.true in
    simp to_z-of_z at c.products_with.ensures
    ∙ (outer_from_zero (2 ^ 127 - 1) (range_of x) (range_of y) c.requires (omega (arith, ints, sign)) x.ordered y.ordered).are

pub products_with-requires-then-x-le0 : goal.products_with-requires-then-x-le0
products_with-requires-then-x-le0 c =
    let x = c.args.x in
    let y = c.args.y in
    let b : SFits w128 x.high = search rules in
    let d : SFits w128 y.low = search rules in
    let e : SFits w128 y.high = search rules in
    let sign = simp to_z-of_z at c.if-x-le0.true in
    let o = outer_to_zero (2 ^ 127 - 1) (range_of x) (range_of y) c.requires (omega (arith, ints, sign)) x.ordered y.ordered in
    simp to_z-of_z (record { least_fits = o.least_fits; greatest_fits = o.greatest_fits; ordered = o.ordered })

pub returns-then-x-le0 : goal.returns-then-x-le0
returns-then-x-le0 c =
    let x = c.args.x in
    let y = c.args.y in
    let b : SFits w128 x.high = search rules in
    let d : SFits w128 y.low = search rules in
    let e : SFits w128 y.high = search rules in
    let sign = simp to_z-of_z at c.if-x-le0.true in
    simp to_z-of_z at c.products_with-then-x-le0.ensures
    ∙ (outer_to_zero (2 ^ 127 - 1) (range_of x) (range_of y) c.requires (omega (arith, ints, sign)) x.ordered y.ordered).are
