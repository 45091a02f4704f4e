use Rattle.std.proofs.Common.{◌≡◌, ◌∙◌, ◌+◌, ◌-◌, ap, arith, drop, length, map, refl, sym, take, ◌++◌}
use Rattle.std.proofs.lemmas.List.{length-map}
use Rattle.ring_box.specs.FoundPairs.{found_among, scaled}
use Rattle.ring_box.proofs.FoundLemmas.{found_next, held_length, none_held, none_measured}
use Rattle.ring_box.proofs.found_pairs.FoundPairs.fill.Goals as goal
use Rattle.ring_box.proofs.found_pairs.FoundPairs.fill.Goals.{then-loop-k-test+else-l-lt128, else-loop-k-test}

pub loop-k-init : goal.loop-k-init
loop-k-init c =
    let f = c.self.inside in
    let b = c.args.ring.now in
    let s = f.lanes in
    let same : length (map (scaled b) s.pairs) ≡ length (map (scaled f.ring) s.pairs) = length-map s.pairs (scaled b) ∙ sym (length-map s.pairs (scaled f.ring)) in
    record {
      tried = omega arith;
      held = none_held f.reach f.count (map (scaled f.ring) s.pairs) (map (scaled b) s.pairs) s.x s.y s.z s.squares same c.self.invariant.1;
      found = refl;
    }

pub loop-k-preserved : goal.loop-k-preserved
loop-k-preserved c =
    let i = c.loop-k.invariant in
    let k = c.loop-k.k in
    let m = c.min-end.result - k in
    let d = c.self.inside.reach in
    let b = c.args.ring.now in
    let frame = c.args.frame.now in
    let near = c.args.near.now in
    let is = c.append-l.ensures in
    let whole : k + m ≡ c.min-end.result = omega (arith, c.min-end.ensures, c.loop-k-test.true, c.if-l-lt128.true) in
    record {
      tried = omega (arith, c.min-end.ensures);
      held = is.held;
      found = is.found
          ∙ (ap (λ fs. fs ++ found_among d b frame (take m (drop k near))) i.found
          ∙ (sym (found_next d b frame near k m) ∙ ap (λ e. found_among d b frame (take e near)) whole));
    }

pub invariant_of-self : goal.invariant_of-self
invariant_of-self c =
    let f = c.self.inside in
    let i = c.loop-k.invariant in
    let pairs = map (scaled c.args.ring.now) c.loop-k.lanes.pairs in
    elim c.loop-k-test.branch [
      | then-loop-k-test+else-l-lt128 w ↦ rw w.self-inside-is (c.self.invariant.0, i.held, none_measured f.reach c.loop-k.l pairs f.lengths f.apart f.distances)
      | else-loop-k-test w ↦ rw w.self-inside-is (c.self.invariant.0, i.held, none_measured f.reach c.loop-k.l pairs f.lengths f.apart f.distances)
    ]

pub returns-clause-tried : goal.returns-clause-tried
returns-clause-tried c = c.loop-k.invariant.tried

pub returns-clause-found : goal.returns-clause-found
returns-clause-found c =
    let d = c.self.inside.reach in
    let found = ap (λ fs. record { reach = d; pairs = fs; measured = 0 }) c.loop-k.invariant.found in
    elim c.loop-k-test.branch [
      | then-loop-k-test+else-l-lt128 w ↦ rw (w.self-inside-is, ← c.self.view_is) found
      | else-loop-k-test w ↦ rw (w.self-inside-is, ← c.self.view_is) found
    ]

pub returns-clause-full : goal.returns-clause-full
returns-clause-full c more =
    let held = c.loop-k.invariant.held.held in
    let size = held_length c.self.inside.reach c.loop-k.l (map (scaled c.args.ring.now) c.loop-k.lanes.pairs) held in
    elim c.loop-k-test.branch [
      | then-loop-k-test+else-l-lt128 w ↦ rw w.self-inside-is (omega (arith, size, held.few, w.if-l-lt128.false))
      | else-loop-k-test w ↦ absurd (omega (arith, more, w.loop-k-test.false))
    ]

pub returns-clause-few : goal.returns-clause-few
returns-clause-few c =
    let held = c.loop-k.invariant.held.held in
    let size = held_length c.self.inside.reach c.loop-k.l (map (scaled c.args.ring.now) c.loop-k.lanes.pairs) held in
    elim c.loop-k-test.branch [
      | then-loop-k-test+else-l-lt128 w ↦ rw w.self-inside-is (omega (arith, size, held.few))
      | else-loop-k-test w ↦ rw w.self-inside-is (omega (arith, size, held.few))
    ]
