use Rattle.std.proofs.Common.{arith}
use Rattle.std.proofs.lemmas.Int.{ints, to_z-of_z}
use Rattle.float_filters.proofs.SeparationLaws.{near_length}
use Rattle.float_filters.proofs.separations.near_separation.Goals as goal

pub returns : goal.returns
returns c =
    let fits = c.ranges.n in
    let exact = simp (to_z-of_z, fits) at c.exact_i32.ensures in
    near_length c.args.n c.args.side c.exact_i32.result c.exact_u32.result (omega (arith, ints)) (omega arith) (omega arith) exact c.exact_u32.ensures
