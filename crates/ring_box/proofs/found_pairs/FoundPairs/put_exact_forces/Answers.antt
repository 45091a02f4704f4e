use Rattle.std.proofs.Common.{◌≡◌, ◌<◌, ◌≤◌, ◌+◌, ◌⊎◌, arith, get_or, inl, inr, length, map, neg_ℤ, pos, subst, sym}
use Rattle.std.proofs.lemmas.Bool.{cases_lt}
use Rattle.std.proofs.lemmas.List.{length-map}
use Rattle.ring_box.specs.FoundPairs.{PairInReach, line_force_on, scaled}
use Rattle.ring_box.proofs.FoundLemmas.{alike, exact_all, exact_at, exact_put, no_grid_pair, scaled_at, seen_length}
use Rattle.ring_box.proofs.found_pairs.FoundPairs.put_exact_forces.Goals as goal

pub exact_force-requires : goal.exact_force-requires
exact_force-requires c =
    let f = c.self.inside in
    let k = c.loop-k.k in
    let size = seen_length f.reach f.count (map (scaled f.ring) f.lanes.pairs) f.measured c.args.self.now c.self.invariant.1.held c.self.view_is in
    let lt : k < length c.args.self.now.pairs = omega (arith, size, c.loop-k-test.true, c.min-k-end.ensures) in
    rw (alike c.args.slopes.now k c.index-slopes-k.result (pos 0) (omega (arith, lt, size, c.told-slopes, c.self.invariant.1.held.few))) (c.requires.slopes k lt)

pub loop-k-preserved : goal.loop-k-preserved
loop-k-preserved c =
    let f = c.self.inside in
    let k = c.loop-k.k in
    let size = seen_length f.reach f.count (map (scaled f.ring) f.lanes.pairs) f.measured c.args.self.now c.self.invariant.1.held c.self.view_is in
    let lt : k < length c.args.self.now.pairs = omega (arith, size, c.loop-k-test.true, c.min-k-end.ensures) in
    let room : k < length c.args.slopes.now = omega (arith, lt, size, c.told-slopes, c.self.invariant.1.held.few) in
    let here : k < length f.lanes.pairs = omega (arith, lt, size, c.self.invariant.1.held.few, c.self.invariant.1.held.lanes, length-map f.lanes.pairs (scaled f.ring)) in
    let g = neg_ℤ (get_or c.args.slopes.now k c.index-slopes-k.result) in
    let is = subst (λ (p : PairInReach). c.exact_force.result ≡ line_force_on p g) (sym (scaled_at f.ring f.lanes.pairs k here)) c.exact_force.ensures in
    record {
      put =
          exact_put c.args.self.now.pairs c.args.slopes.now c.args.l k c.args.forces.now c.loop-k.forces c.put.new.self c.exact_force.result (omega (arith, c.loop-k.auto.k))
          (exact_at f.reach f.count (map (scaled f.ring) f.lanes.pairs) f.measured k c.args.self.now c.args.slopes.now (scaled f.ring no_grid_pair) c.index-slopes-k.result c.exact_force.result c.self.invariant.1.held c.self.view_is room is)
          c.put.ensures c.loop-k.invariant.put;
    }

pub returns : goal.returns
returns c =
    let f = c.self.inside in
    let size = seen_length f.reach f.count (map (scaled f.ring) f.lanes.pairs) f.measured c.args.self.now c.self.invariant.1.held c.self.view_is in
    let done : (f.count ≤ c.loop-k.k) ⊎ (c.args.l + 4 ≤ c.loop-k.k) = elim (cases_lt f.count (c.args.l + 4)) [
      | inl h ↦ inl (omega (arith, h, c.loop-k-test.false, c.min-k-end.ensures))
      | inr h ↦ inr (omega (arith, h, c.loop-k-test.false, c.min-k-end.ensures))
    ] in
    exact_all c.args.self.now.pairs c.args.slopes.now f.count c.args.l c.loop-k.k c.args.forces.now c.loop-k.forces size done c.loop-k.invariant.put
