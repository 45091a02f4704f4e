use Rattle.std.proofs.Common.{◌≤◌, ◌^◌, ◌+◌, ◌-◌, ◌*◌, length, arith, ap, sym, ◌∙◌}
use Rattle.run_laws.specs.Adding.{with_pairs}
use Rattle.integrator.specs.Frames.{pair_force}
use Rattle.integrator.specs.Forces.{pairs_with}
use Rattle.integrator.specs.Systems.{dynamics_of}
use Rattle.run_laws.proofs.BoundLaws.{all_within-weaker}
use Rattle.run_laws.proofs.PairLemmas.{row_goes_on, row_stops, row_ends}
use Rattle.run_laws.proofs.tested_run.forces.add_row.Goals as goal

pub add_pair-requires-clause-room : goal.add_pair-requires-clause-room
add_pair-requires-clause-room g c =
    let few : length c.args.system.now.masses.items ≤ 65536 = c.args.system.now.most_atoms in
    let same = c.args.system.now.atoms in
    all_within-weaker (2 ^ 98 + 2 ^ 64 * (c.loop-high.high - (c.args.low + 1))) (2 ^ 99) _ (omega arith) (c.loop-high.invariant.within (2 ^ 98) c.requires.room)

pub returns-in-Err-clause-within : goal.returns-in-Err-clause-within
returns-in-Err-clause-within g c =
    λ b h. all_within-weaker (b + 2 ^ 64 * (c.loop-high.high - (c.args.low + 1))) (b + 2 ^ 64 * length c.args.frame.now) _ (omega arith) (c.loop-high.invariant.within b h)

pub returns-in-Err-clause-fault : goal.returns-in-Err-clause-fault
returns-in-Err-clause-fault g c =
    sym c.loop-high.invariant.left
    ∙ row_stops (pair_force (dynamics_of g.K.TestedSlope.slope c.args.system.now) c.args.frame.now) c.loop-high.sums c.args.low c.loop-high.high (length c.args.frame.now) (omega arith) c.in-Err.ensures.none

pub loop-high-preserved : goal.loop-high-preserved
loop-high-preserved g c =
    let force = pair_force (dynamics_of g.K.TestedSlope.slope c.args.system.now) c.args.frame.now in
    let high = c.loop-high.high in
    record {
      left =
          ap (λ s. with_pairs force s (pairs_with c.args.low (high + 1) (length c.args.frame.now - (high + 1)))) c.add_pair.ensures.value
          ∙ sym (row_goes_on force c.loop-high.sums c.args.low high (length c.args.frame.now) c.in-Ok.force (omega arith) c.in-Ok.ensures.value)
          ∙ c.loop-high.invariant.left;
      within = λ b h.
          all_within-weaker (b + 2 ^ 64 * (high - (c.args.low + 1)) + 2 ^ 64) (b + 2 ^ 64 * (high + 1 - (c.args.low + 1))) _ (omega arith)
          (c.add_pair.ensures.within (b + 2 ^ 64 * (high - (c.args.low + 1))) (c.loop-high.invariant.within b h));
    }

pub returns-clause-value : goal.returns-clause-value
returns-clause-value g c =
    sym c.loop-high.invariant.left
    ∙ row_ends (pair_force (dynamics_of g.K.TestedSlope.slope c.args.system.now) c.args.frame.now) c.loop-high.sums c.args.low c.loop-high.high (length c.args.frame.now) (omega arith)

pub returns-clause-within : goal.returns-clause-within
returns-clause-within g c =
    λ b h. all_within-weaker (b + 2 ^ 64 * (c.loop-high.high - (c.args.low + 1))) (b + 2 ^ 64 * length c.args.frame.now) _ (omega arith) (c.loop-high.invariant.within b h)
