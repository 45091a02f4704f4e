use Rattle.std.proofs.Common.{◌∙◌, ap}
use lib.Ieee.{Float, binary64, mul}
use Rattle.float_filters.proofs.VectorLaws.{force_of_lane, full_again, set_again, zero_of_lane}
use Rattle.float_filters.proofs.force_lanes.force_floors.Goals as goal

pub returns-clause-x : goal.returns-clause-x
returns-clause-x c = record {
  number = λ k l h.
      let two = c.both-2.ensures.set k l (set_again c.both-2.result k h) in
      let one = c.both.ensures.set k l (set_again c.both.result k two.0) in
      c.floors.ensures.certified.number k l (set_again c.floors.result.1 k one.0);
  each = λ k l h s g a exact line.
      let two = c.both-2.ensures.set k l (set_again c.both-2.result k h) in
      let one = c.both.ensures.set k l (set_again c.both.result k two.0) in
      let cert = c.floors.ensures.certified in
      force_of_lane s g a _ _ _ _ _ _ _ _ _ _ (c.ratios-ratios.ensures.each k l) (c.times-margins.ensures.each k l ∙ ap (λ (y : Float). mul binary64 y c.args.slack) (c.magnitudes.ensures.each k l))
      (c.half_less-room.ensures.each k l) (c.minus-least.ensures.each k l) (c.products.ensures.each k l) exact line (cert.ordered k l (set_again c.floors.result.1 k one.0)) (cert.each k l (set_again c.floors.result.1 k one.0));
}

pub returns-clause-y : goal.returns-clause-y
returns-clause-y c = record {
  number = λ k l h.
      let two = c.both-2.ensures.set k l (set_again c.both-2.result k h) in
      let one = c.both.ensures.set k l (set_again c.both.result k two.0) in
      c.floors-2.ensures.certified.number k l (set_again c.floors-2.result.1 k one.1);
  each = λ k l h s g a exact line.
      let two = c.both-2.ensures.set k l (set_again c.both-2.result k h) in
      let one = c.both.ensures.set k l (set_again c.both.result k two.0) in
      let cert = c.floors-2.ensures.certified in
      force_of_lane s g a _ _ _ _ _ _ _ _ _ _ (c.ratios-ratios.ensures.each k l) (c.times-margins.ensures.each k l ∙ ap (λ (y : Float). mul binary64 y c.args.slack) (c.magnitudes.ensures.each k l))
      (c.half_less-room.ensures.each k l) (c.minus-least.ensures.each k l) (c.products-2.ensures.each k l) exact line (cert.ordered k l (set_again c.floors-2.result.1 k one.1)) (cert.each k l (set_again c.floors-2.result.1 k one.1));
}

pub returns-clause-z : goal.returns-clause-z
returns-clause-z c = record {
  number = λ k l h.
      let two = c.both-2.ensures.set k l (set_again c.both-2.result k h) in
      let one = c.both.ensures.set k l (set_again c.both.result k two.0) in
      c.floors-3.ensures.certified.number k l (set_again c.floors-3.result.1 k two.1);
  each = λ k l h s g a exact line.
      let two = c.both-2.ensures.set k l (set_again c.both-2.result k h) in
      let one = c.both.ensures.set k l (set_again c.both.result k two.0) in
      let cert = c.floors-3.ensures.certified in
      force_of_lane s g a _ _ _ _ _ _ _ _ _ _ (c.ratios-ratios.ensures.each k l) (c.times-margins.ensures.each k l ∙ ap (λ (y : Float). mul binary64 y c.args.slack) (c.magnitudes.ensures.each k l))
      (c.half_less-room.ensures.each k l) (c.minus-least.ensures.each k l) (c.products-3.ensures.each k l) exact line (cert.ordered k l (set_again c.floors-3.result.1 k two.1)) (cert.each k l (set_again c.floors-3.result.1 k two.1));
}

pub returns-clause-zeros : goal.returns-clause-zeros
returns-clause-zeros c = record {
  each = λ k l exact line.
      let x = zero_of_lane line.square line.along_x _ _ _ _ _ _ _ _ _ (c.ratios-ratios.ensures.each k l) (c.times-margins.ensures.each k l ∙ ap (λ (y : Float). mul binary64 y c.args.slack) (c.magnitudes.ensures.each k l))
      (c.half_less-room.ensures.each k l) (c.minus-least.ensures.each k l) (c.products.ensures.each k l) exact line.line_x in
      let y = zero_of_lane line.square line.along_y _ _ _ _ _ _ _ _ _ (c.ratios-ratios.ensures.each k l) (c.times-margins.ensures.each k l ∙ ap (λ (y : Float). mul binary64 y c.args.slack) (c.magnitudes.ensures.each k l))
      (c.half_less-room.ensures.each k l) (c.minus-least.ensures.each k l) (c.products-2.ensures.each k l) exact line.line_y in
      let z = zero_of_lane line.square line.along_z _ _ _ _ _ _ _ _ _ (c.ratios-ratios.ensures.each k l) (c.times-margins.ensures.each k l ∙ ap (λ (y : Float). mul binary64 y c.args.slack) (c.magnitudes.ensures.each k l))
      (c.half_less-room.ensures.each k l) (c.minus-least.ensures.each k l) (c.products-3.ensures.each k l) exact line.line_z in
      let two = c.both.ensures.full k l (full_again c.floors.result.1 k (c.floors.ensures.zeros.each k l x.0 x.1 x.2)) (full_again c.floors-2.result.1 k (c.floors-2.ensures.zeros.each k l y.0 y.1 y.2)) in
      full_again c.both-2.result k (c.both-2.ensures.full k l (full_again c.both.result k two) (full_again c.floors-3.result.1 k (c.floors-3.ensures.zeros.each k l z.0 z.1 z.2)));
}
