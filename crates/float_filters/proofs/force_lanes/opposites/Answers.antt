use Rattle.float_filters.proofs.OppositeLaws.{opposite_lane, opposite_small, zero_low}
use Rattle.float_filters.proofs.VectorLaws.{full_again, set_again}
use Rattle.float_filters.proofs.force_lanes.opposites.Goals as goal

pub returns-clause-sizes : goal.returns-clause-sizes
returns-clause-sizes c k l s =
    let low = c.are_low.ensures.set k l (set_again c.are_low.result k s) in
    opposite_lane _ _ _ _ _ (c.unsigned.ensures.fits k l) (c.unsigned.ensures.value k l) (c.below_bias-n.ensures k l) low (c.raised.ensures k l low) (c.minus.ensures.each k l)

pub returns-clause-small : goal.returns-clause-small
returns-clause-small c k l s =
    let low = c.are_low.ensures.set k l (set_again c.are_low.result k s) in
    opposite_small _ _ _ (c.unsigned.ensures.fits k l) (c.unsigned.ensures.value k l) (c.below_bias-n.ensures k l) low

pub returns-clause-zeros : goal.returns-clause-zeros
returns-clause-zeros c k l e =
    full_again c.are_low.result k (c.are_low.ensures.full k l (zero_low _ _ _ e (c.unsigned.ensures.value k l) (c.below_bias-n.ensures k l)))
