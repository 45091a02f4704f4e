use Rattle.float_filters.proofs.QuotientLaws.{strict_lane}
use Rattle.float_filters.proofs.VectorLaws.{set_again}
use Rattle.float_filters.proofs.quotient_lanes.strict_floors.Goals as goal

pub returns : goal.returns
returns c k l h =
    let two = c.both.ensures.set k l (set_again c.both.result k h) in
    let between = c.both-between.ensures.set k l (set_again c.both-between.result k two.0) in
    strict_lane _ _ _ _ (c.minus-n.ensures.each k l) (c.plus.ensures.each k l) (c.are_integers.ensures k l (set_again c.are_integers.result k two.1))
    (c.less.ensures.set k l (set_again c.less.result k between.0)) (c.less-2.ensures.set k l (set_again c.less-2.result k between.1))
