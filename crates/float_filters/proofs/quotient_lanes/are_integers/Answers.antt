use Rattle.std.proofs.Common.{T, arith}
use Rattle.std.proofs.lemmas.Simd.{Each1-get_or}
use lib.Ieee.{Float, nan, fits, binary64}
use Rattle.float_filters.proofs.QuotientLaws.{integer_lane}
use Rattle.float_filters.proofs.VectorLaws.{set_again}
use Rattle.float_filters.proofs.quotient_lanes.are_integers.Goals as goal

pub returns : goal.returns
returns c k l h =
    let two = c.both.ensures.set k l (set_again c.both.result k h) in
    let f = Each1-get_or (λ (a : Float). T (fits binary64 a)) c.args.t k nan (omega (arith, c.fits-t.0)) c.fits-t.1 in
    integer_lane c.args.t k l f (c.are_at_least.ensures k l (set_again c.are_at_least.result k two.0)) (c.less-below.ensures.set k l (set_again c.less-below.result k two.1))
