use Rattle.std.proofs.Common.{arith}
use Rattle.std.proofs.lemmas.Int.{ints, to_z-of_z}
use Rattle.ring_box.proofs.FloatReachLemmas.{near_scaled}
use Rattle.ring_box.proofs.separations.float_scaled_two.Goals as goal

pub returns-clause-x : goal.returns-clause-x
returns-clause-x c =
    let fits = c.ranges.x in
    let side = c.get.ensures in
    simp (to_z-of_z, fits) (near_scaled c.args.x c.args.x_side c.get.result c.exact_u32.result (omega (arith, ints)) side.value side.positive side.bound c.exact_u32.ensures)

pub returns-clause-y : goal.returns-clause-y
returns-clause-y c =
    let fits = c.ranges.y in
    let side = c.get-2.ensures in
    simp (to_z-of_z, fits) (near_scaled c.args.y c.args.y_side c.get-2.result c.exact_u32-2.result (omega (arith, ints)) side.value side.positive side.bound c.exact_u32-2.ensures)
