use Rattle.std.proofs.Common.{◌≡◌, ◌∙◌, IsTrue, length, map, rules, subst, sym, take}
use Rattle.std.specs.Prelude.{IfSome}
use Rattle.float_filters.specs.Forces.{AreComponents}
use Rattle.float_filters.specs.declared.force_lanes.FourForces.{FourForces}
use Rattle.ring_box.specs.FloatReaches.{IsReachSlack}
use Rattle.ring_box.specs.FoundPairs.{AreApart, AreFourForces, AreNearLengths, FoundPairs, found_from, scaled}
use Rattle.ring_box.proofs.FoundLemmas.{four_found, held_length, if_some_of_three}
use Rattle.ring_box.proofs.found_pairs.FoundPairs.four_forces.Goals as goal

pub returns : goal.returns
returns c =
    let f = c.self.inside in
    let i = c.self.invariant in
    let stored = map (scaled f.ring) f.lanes.pairs in
    let pairs = map (found_from f.reach) (take f.count stored) in
    let enough : IsReachSlack f.reach c.args.slack = subst (λ (s : FoundPairs). IsReachSlack s.reach c.args.slack) (sym c.self.view_is) c.requires.slack in
    let all : f.measured ≡ length pairs = subst (λ (s : FoundPairs). s.measured ≡ length s.pairs) (sym c.self.view_is) c.requires.measured in
    let whole : f.measured ≡ f.count = all ∙ held_length f.reach f.count stored i.1.held in
    let is : IsTrue f.apart = search rules in
    let near : AreNearLengths f.count stored f.lengths = rw whole at i.2.lengths' in
    let apart : AreApart f.count stored = rw whole at i.2.apart' is in
    subst (λ (s : FoundPairs). IfSome c.forces.result (AreFourForces s.pairs c.args.slopes.now c.args.l)) c.self.view_is
    (if_some_of_three (λ (v : FourForces). AreComponents c.four_raw.result c.four.result c.four-2.result c.args.slack v.x) (λ (v : FourForces). AreComponents c.four_raw.result c.four.result c.four-3.result c.args.slack v.y) (λ (v : FourForces). AreComponents c.four_raw.result c.four.result c.four-4.result c.args.slack v.z) (AreFourForces pairs c.args.slopes.now c.args.l)
    (four_found f.reach f.count stored f.lanes.x f.lanes.y f.lanes.z f.lanes.squares f.lengths c.args.slopes.now c.args.l c.args.slack c.four_raw.result c.four.result c.four-2.result c.four-3.result c.four-4.result
    i.0.fits i.1 near apart enough c.four_raw.ensures c.four.ensures c.four-2.ensures c.four-3.ensures c.four-4.ensures)
    c.forces.result c.forces.ensures.x c.forces.ensures.y c.forces.ensures.z)
