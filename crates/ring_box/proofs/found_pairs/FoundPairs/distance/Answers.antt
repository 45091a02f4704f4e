use Rattle.std.proofs.Common.{◌≡◌, ◌<◌, ◌∙◌, arith, get_or, map, pos, rules, subst, sym}
use Rattle.ring_box.specs.FoundPairs.{FoundPairs, scaled}
use Rattle.ring_box.proofs.FoundLemmas.{distance_held, nothing}
use Rattle.ring_box.proofs.found_pairs.FoundPairs.distance.Goals as goal

pub returns : goal.returns
returns c =
    let f = c.self.inside in
    let i = c.self.invariant in
    let now : c.args.l < f.measured = subst (λ (s : FoundPairs). c.args.l < s.measured) (sym c.self.view_is) c.requires in
    let e : c.from_raw.result ≡ get_or f.distances c.args.l (pos 0) = search rules in
    rw (← c.self.view_is) (distance_held f.reach f.count (map (scaled f.ring) f.lanes.pairs) c.args.l c.from_raw.result i.1.held (omega (arith, now, i.2.before)) (e ∙ i.2.taken c.args.l nothing now))
