use Rattle.std.proofs.Common.{T, not, arith}
use Rattle.std.proofs.lemmas.Simd.{Each1-from_get_or}
use lib.Ieee.{Float, nan, is_nan}
use Rattle.float_filters.proofs.VectorLaws.{pattern_lane}
use Rattle.float_filters.proofs.floor_lanes.patterns.Goals as goal

pub float_to_bits-result : goal.float_to_bits-result
float_to_bits-result c = Each1-from_get_or (λ (a : Float). T (not (is_nan a))) c.args.t nan (λ k l. c.requires k (omega (arith, l, c.fits-t.0)))

pub returns : goal.returns
returns c k l n i = pattern_lane c.args.t k n c.fits-t.0 l i
