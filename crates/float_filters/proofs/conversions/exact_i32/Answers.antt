use Rattle.std.proofs.Common.{arith}
use Rattle.std.proofs.lemmas.Int.{ints, to_z-of_z}
use Rattle.float_filters.proofs.ConversionLaws.{exact_integer}
use Rattle.float_filters.proofs.conversions.exact_i32.Goals as goal

pub returns : goal.returns
returns c =
    let fits = c.ranges.integer in
    simp (to_z-of_z, fits) (exact_integer c.args.integer (omega (arith, ints)))
