use Rattle.std.proofs.Common.{T, arith}
use Rattle.std.proofs.lemmas.Simd.{Each1-get_or}
use lib.Ieee.{Float, nan, fits, binary64}
use Rattle.float_filters.proofs.MarginLaws.{root_lane}
use Rattle.float_filters.proofs.distance_lanes.root_floors.Goals as goal

pub returns : goal.returns
returns c = record {
  number = λ k l h. c.floors.ensures.certified.number k l h;
  each = λ k l h s limit u U le most near margin.
      let fp = Each1-get_or (λ (a : Float). T (fits binary64 a)) c.args.products k nan (omega (arith, c.fits-products.0)) c.fits-products.1 in
      let fm = Each1-get_or (λ (a : Float). T (fits binary64 a)) c.args.margins k nan (omega (arith, c.fits-margins.0)) c.fits-margins.1 in
      root_lane _ _ _ _ _ s limit u (c.half_less.ensures.each k l) (c.minus.ensures.each k l) fp fm U le most near margin (c.floors.ensures.certified.ordered k l h) (c.floors.ensures.certified.each k l h);
}
