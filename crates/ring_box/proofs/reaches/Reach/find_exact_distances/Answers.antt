use Rattle.std.proofs.Common.{◌≡◌, ◌≤◌, ◌<◌, ◌+◌, ◌⊎◌, arith, get_or, inl, inr, length, map, of_z, rules, to_z, w64}
use Rattle.std.proofs.lemmas.Bool.{cases_lt}
use Rattle.std.proofs.lemmas.List.{length-map}
use Rattle.ring_box.specs.FoundPairs.{IsMeasured, scaled}
use Rattle.ring_box.proofs.FoundLemmas.{below_at, exactly_four, exactly_more, no_grid_pair, scaled_at}
use Rattle.ring_box.proofs.reaches.Reach.find_exact_distances.Goals as goal

pub exact_distance-distance-requires : goal.exact_distance-distance-requires
exact_distance-distance-requires c =
    let l = c.loop-l.l in
    let b = c.args.ring.now in
    let pairs = c.args.pairs.now in
    let lt : l < c.args.count = omega (arith, c.loop-l-test.true, c.min-l-end.ensures) in
    let room : l < length pairs = omega (arith, lt, c.requires.pairs.lanes, c.requires.pairs.few, length-map pairs (scaled b)) in
    rw (scaled_at b pairs l room) at (below_at c.args.self.now c.args.count (map (scaled b) pairs) l (scaled b no_grid_pair) c.requires.pairs lt)

pub loop-l-preserved : goal.loop-l-preserved
loop-l-preserved c =
    let l = c.loop-l.l in
    let kept = c.loop-l.invariant.measured in
    let v = c.raw.result in
    let e : to_z w64 (of_z w64 v) ≡ v = search rules in
    let b = c.args.ring.now in
    let pairs = map (scaled b) c.args.pairs.now in
    let room : l < length pairs = omega (arith, c.requires.pairs.lanes, c.loop-l-test.true, c.min-l-end.ensures, c.requires.room) in
    let is : IsMeasured c.args.self.now (get_or pairs l (scaled b no_grid_pair)) c.exact_distance-distance.result.1 (to_z w64 (of_z w64 v)) =
    rw (scaled_at b c.args.pairs.now l (omega (arith, room, length-map c.args.pairs.now (scaled b))), e, c.raw.ensures) c.exact_distance-distance.ensures
    in
    record {
      measured = exactly_more c.args.self.now pairs c.args.first l c.loop-l.apart c.both-apart.result c.exact_distance-distance.result.1 c.args.distances.now c.loop-l.distances (scaled b no_grid_pair) (to_z w64 (of_z w64 v))
          (omega (arith, c.loop-l.auto.l)) room (omega (arith, kept.long)) c.both-apart.ensures is kept;
    }

pub returns : goal.returns
returns c =
    let done : (c.args.count ≤ c.loop-l.l) ⊎ (c.args.first + 4 ≤ c.loop-l.l) = elim (cases_lt c.args.count (c.args.first + 4)) [
      | inl h ↦ inl (omega (arith, h, c.loop-l-test.false, c.min-l-end.ensures))
      | inr h ↦ inr (omega (arith, h, c.loop-l-test.false, c.min-l-end.ensures))
    ] in
    exactly_four c.args.self.now c.args.count (map (scaled c.args.ring.now) c.args.pairs.now) c.args.first c.loop-l.l c.loop-l.apart c.args.distances.now c.loop-l.distances done c.loop-l.invariant.measured
