use Rattle.std.proofs.Common.{◌*◌, true, arith, map, refl}
use Rattle.ring_box.specs.FoundPairs.{scaled}
use Rattle.ring_box.proofs.FoundLemmas.{four_measured, measured_more}
use Rattle.ring_box.proofs.reaches.Reach.find_distances.Goals as goal
use Rattle.ring_box.proofs.reaches.Reach.find_distances.Goals.{in-Some, in-None}

pub loop-i-preserved : goal.loop-i-preserved
loop-i-preserved c =
    let d = c.args.self.now in
    let pairs = map (scaled c.args.ring.now) c.args.pairs.now in
    let i = c.loop-i.i in
    let from = c.loop-i.distances in
    let old = c.loop-i.apart in
    elim c.match-distances.branch [
      | in-Some w ↦ rw (w.distances-is, w.apart-is) (record {
        measured = measured_more d c.args.count pairs old old true i from w.put_four.new.row (λ is. (is, refl)) c.loop-i.invariant.measured
            (four_measured d c.args.count pairs c.args.lengths.now c.four.result c.filter-filter.result (4 * i) w.in-Some.found from w.put_four.new.row c.requires.pairs c.requires.lengths c.filter-filter.ensures c.four.ensures w.in-Some.ensures w.put_four.ensures);
      })
      | in-None w ↦ rw (w.distances-is, w.apart-is) (record {
        measured = measured_more d c.args.count pairs old w.both-apart.result w.find_exact_distances-are_apart.result i from w.find_exact_distances-are_apart.new.distances w.both-apart.ensures c.loop-i.invariant.measured w.find_exact_distances-are_apart.ensures;
      })
    ]

pub returns-clause-taken : goal.returns-clause-taken
returns-clause-taken c l p lt = (c.loop-i.invariant.measured l p (omega (arith, lt, c.loop-i-test.false)) lt).taken

pub returns-clause-apart : goal.returns-clause-apart
returns-clause-apart c is l p lt = (c.loop-i.invariant.measured l p (omega (arith, lt, c.loop-i-test.false)) lt).apart' is
