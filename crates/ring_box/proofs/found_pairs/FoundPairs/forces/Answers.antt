use Rattle.std.proofs.Common.{◌*◌, arith, map, subst}
use Rattle.std.proofs.lemmas.Option.{slice_get_within}
use Rattle.ring_box.specs.Acting.{limit_of}
use Rattle.ring_box.specs.FloatReaches.{IsReachSlack}
use Rattle.ring_box.specs.FoundPairs.{FoundPairs, scaled}
use Rattle.ring_box.proofs.FoundLemmas.{forces_more, four_put, seen_length}
use Rattle.ring_box.proofs.found_pairs.FoundPairs.forces.Goals as goal
use Rattle.ring_box.proofs.found_pairs.FoundPairs.forces.Goals.{in-Some, in-None}

pub four_forces-requires-clause-slack : goal.four_forces-requires-clause-slack
four_forces-requires-clause-slack c =
    let d = c.self.inside.reach in
    let near = c.self.invariant.0 in
    let is : IsReachSlack d c.force_slack-slack.result = λ s below. c.force_slack-slack.ensures (limit_of d.frac d.cutoff) s (omega (arith, below)) (omega (arith, below)) (omega (arith, near.fits)) near.longest in
    subst (λ (s : FoundPairs). IsReachSlack s.reach c.force_slack-slack.result) c.self.view_is is

pub loop-i-preserved : goal.loop-i-preserved
loop-i-preserved c =
    let pairs = c.args.self.now.pairs in
    let slopes = c.args.slopes.now in
    let i = c.loop-i.i in
    let from = c.loop-i.forces in
    elim c.match-four_forces.branch [
      | in-Some w ↦ rw w.forces-is (record { done = forces_more pairs slopes i from w.put_four.new.self c.loop-i.invariant.done (four_put pairs slopes (4 * i) w.in-Some.found from w.put_four.new.self w.in-Some.ensures w.put_four.ensures) })
      | in-None w ↦ rw w.forces-is (record { done = forces_more pairs slopes i from w.put_exact_forces.new.forces c.loop-i.invariant.done w.put_exact_forces.ensures })
    ]

pub returns : goal.returns
returns c l f there =
    let i = c.self.inside in
    let size = seen_length i.reach i.count (map (scaled i.ring) i.lanes.pairs) i.measured c.args.self.now c.self.invariant.1.held c.self.view_is in
    c.loop-i.invariant.done l (omega (arith, size, c.loop-i-test.false, slice_get_within c.args.self.now.pairs l f there)) f there
