use Rattle.std.proofs.Common.{Ok, ap, subst, sym, ◌∙◌}
use lib.Ieee.{Float}
use Rattle.float_filters.specs.Floors.{lane}
use Rattle.float_filters.specs.Quotients.{IsStrictFloor}
use Rattle.float_filters.proofs.QuotientLaws.{integer_number, quotient_lane}
use Rattle.float_filters.proofs.VectorLaws.{set_again}
use Rattle.float_filters.proofs.quotient_lanes.quotient_floors.Goals as goal

pub integers-requires : goal.integers-requires
integers-requires c k l =
    let outer = c.both-2.ensures.set k l (set_again c.both-2.result k (c.are_all_set.ensures.set c.if-are_all_set.true k l)) in
    integer_number _ _ (c.strict_floors.ensures k l (set_again c.strict_floors.result.1 k outer.1)).integer

pub returns-then-are_all_set : goal.returns-then-are_all_set
returns-then-are_all_set c k l =
    let outer = c.both-2.ensures.set k l (set_again c.both-2.result k (c.are_all_set.ensures.set c.if-are_all_set.true k l)) in
    let inner = c.both.ensures.set k l (set_again c.both.result k outer.0) in
    let sure = c.strict_floors.ensures k l (set_again c.strict_floors.result.1 k outer.1) in
    quotient_lane c.args.bits _ _ c.args.whole _ _ _ _ _ c.requires.few (c.opposites.ensures.small k l (set_again c.opposites.result.1 k inner.0)) (c.opposites.ensures.sizes k l (set_again c.opposites.result.1 k inner.0)) (c.opposites-2.ensures.sizes k l (set_again c.opposites-2.result.1 k inner.1)) c.shift.ensures (λ w. c.requires.whole w k l) c.power.ensures
    (subst (λ (p : Float). IsStrictFloor p (lane c.strict_floors.result.0 k)) (c.scaled_quotients-found.ensures.each k l) sure)
    ∙ ap Ok (sym (c.integers.ensures k l _ sure.integer))
