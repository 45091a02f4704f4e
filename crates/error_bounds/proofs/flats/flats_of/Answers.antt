use Rattle.std.proofs.Common.{◌∙◌, ◌^◌, rules}
use Rattle.std.specs.Int.{w128}
use Rattle.std.proofs.lemmas.Int.{to_z-of_z}
use mir.Val.{SFits}
use Rattle.interval_domain.specs.Ranges.{around}
use Rattle.interval_domain.proofs.RangeLemmas.{around_small, four_same, within_same}
use Rattle.error_bounds.proofs.flats.flats_of.Goals as goal

pub returns-clause-value : goal.returns-clause-value
returns-clause-value c =
    let x = c.args.x in
    let fa : SFits w128 x.low = search rules in
    let fb : SFits w128 x.high = search rules in
    let ft : SFits w128 c.turn_of-turn.result = search rules in
    let fp : SFits w128 c.flat_at.result = search rules in
    let fq : SFits w128 c.flat_at-2.result = search rules in
    let fr : SFits w128 c.flat_at-3.result = search rules in
    let fs : SFits w128 c.flat_at-4.result = search rules in
    let e = simp to_z-of_z at c.ends_around.ensures in
    let t = c.turn_of-turn.ensures in
    let p = simp to_z-of_z at c.flat_at.ensures.value in
    let q = simp t at (simp to_z-of_z at c.flat_at-2.ensures.value) in
    let r = simp t at (simp to_z-of_z at c.flat_at-3.ensures.value) in
    let s = simp to_z-of_z at c.flat_at-4.ensures.value in
    e ∙ four_same around _ _ _ _ _ _ _ _ p q r s

pub returns-clause-bound : goal.returns-clause-bound
returns-clause-bound c =
    let fp : SFits w128 c.flat_at.result = search rules in
    let fq : SFits w128 c.flat_at-2.result = search rules in
    let fr : SFits w128 c.flat_at-3.result = search rules in
    let fs : SFits w128 c.flat_at-4.result = search rules in
    within_same (2 ^ 73) _ _ (simp to_z-of_z at c.ends_around.ensures)
    (around_small (2 ^ 73) c.flat_at.result c.flat_at-2.result c.flat_at-3.result c.flat_at-4.result c.flat_at.ensures.bound
    c.flat_at-2.ensures.bound c.flat_at-3.ensures.bound c.flat_at-4.ensures.bound)
