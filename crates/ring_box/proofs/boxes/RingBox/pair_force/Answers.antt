use Rattle.std.proofs.Common.{rules, ◌≡◌, Some}
use Rattle.ring_box.specs.Acting.{Reach, acting_of}
use Rattle.ring_box.specs.Forces.{taken_distance_of}
use Rattle.ring_box.proofs.ActingLemmas.{taken, whole}
use Rattle.ring_box.proofs.boxes.RingBox.pair_force.Goals as goal

pub returns-clause-value : goal.returns-clause-value
returns-clause-value g c =
    let d : Reach = record { frac = c.args.frac; core = c.args.core; cutoff = c.args.cutoff } in
    let m = g.P.PairForce.slope (g.P.PairForce.held c.args.f.now) c.args.a c.args.b in
    let found : acting_of d c.args.self.now c.args.p c.args.q ≡ Some c.in_ok-acting.acting = search rules in
    let slope : c.minus_slope-minus_slope.result ≡ m c.in_ok-acting.acting.distance = rw (← c.distance.ensures) c.minus_slope-minus_slope.ensures.value in
    whole d c.args.self.now m c.args.p c.args.q c.in_ok-acting.acting c.force.result found (rw (← slope) c.force.ensures.value)

pub returns-clause-bound : goal.returns-clause-bound
returns-clause-bound g c =
    let d : Reach = record { frac = c.args.frac; core = c.args.core; cutoff = c.args.cutoff } in
    let m = g.P.PairForce.slope (g.P.PairForce.held c.args.f.now) c.args.a c.args.b in
    let found : acting_of d c.args.self.now c.args.p c.args.q ≡ Some c.in_ok-acting.acting = search rules in
    let t = taken d c.args.self.now c.args.p c.args.q c.in_ok-acting.acting found in
    let slope : c.minus_slope-minus_slope.result ≡ m (taken_distance_of c.args.frac c.args.self.now c.args.core c.args.p c.args.q) =
    rw (← t.1, ← c.distance.ensures) c.minus_slope-minus_slope.ensures.value in
    rw (← slope) c.force.ensures.bound
