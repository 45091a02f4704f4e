use Rattle.std.proofs.Common.{T, arith, subst, sym}
use Rattle.std.proofs.lemmas.Float.{lt_of_le_of_lt}
use Rattle.std.proofs.lemmas.Simd.{Each1-get_or}
use lib.Ieee.{Float, nan, fits, le, lt, binary64}
use Rattle.float_filters.specs.Floors.{lane}
use Rattle.float_filters.proofs.VectorLaws.{certified_lane, full_again, number_lane, set_again, zero_lane}
use Rattle.float_filters.proofs.floor_lanes.floors.Goals as goal

pub returns-clause-certified : goal.returns-clause-certified
returns-clause-certified c = record {
  number = λ k l s.
      let b = c.both.ensures.set k l (set_again c.both.result k s) in
      number_lane _ _ _ _ _ _ (c.minus.ensures.each k l) (c.differences-e.ensures.each k l) (c.less.ensures.set k l (set_again c.less.result k b.0));
  ordered = λ k l s.
      let b = c.both.ensures.set k l (set_again c.both.result k s) in
      lt_of_le_of_lt _ _ _ (c.at_most.ensures.set k l (set_again c.at_most.result k b.1)) (c.less.ensures.set k l (set_again c.less.result k b.0));
  each = λ k l s number hi lo.
      let b = c.both.ensures.set k l (set_again c.both.result k s) in
      let fr = Each1-get_or (λ (a : Float). T (fits binary64 a)) c.args.room k nan (omega (arith, c.fits-room.0)) c.fits-room.1 in
      certified_lane _ _ _ _ _ _ _ (c.minus-u.ensures.each k l) (c.plus-t.ensures.each k l) (c.minus.ensures.each k l) (c.differences-e.ensures.each k l)
      number hi lo fr (c.less.ensures.set k l (set_again c.less.result k b.0)) (c.at_most.ensures.set k l (set_again c.at_most.result k b.1));
}

pub returns-clause-zeros : goal.returns-clause-zeros
returns-clause-zeros c = record {
  each = λ k l zero room least.
      let e = zero_lane _ _ _ _ _ (c.minus-u.ensures.each k l) (c.plus-t.ensures.each k l) (c.minus.ensures.each k l) (c.differences-e.ensures.each k l) zero in
      let below = c.less.ensures.full k l (subst (λ (z : Float). T (lt z (lane c.args.room k))) (sym e) room) in
      let above = c.at_most.ensures.full k l (subst (λ (z : Float). T (le (lane c.args.least k) z)) (sym e) least) in
      full_again c.both.result k (c.both.ensures.full k l (full_again c.less.result k below) (full_again c.at_most.result k above));
}
