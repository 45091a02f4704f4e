use Rattle.std.proofs.Common.{◌≡◌, ◌≤◌, ◌^◌, ◌-◌, ◌*◌, length, replicate, arith, ap, sym, ◌∙◌, Some, slice_index}
use Rattle.std.proofs.lemmas.Result.{on_ok_weaker, MatchResult-weaker}
use Rattle.integrator.specs.Forces.{pairs_of, forces_of}
use Rattle.run_laws.specs.Adding.{with_pairs}
use Rattle.ring_box.specs.Places.{places_of}
use Rattle.integrator.specs.Frames.{pair_force}
use Rattle.integrator.specs.Systems.{dynamics_of}
use Rattle.ring_box.specs.Forces.{acting_distance_of, no_force}
use Rattle.run_laws.proofs.BoundLaws.{all_within-weaker, force_at_within, found_within}
use Rattle.run_laws.proofs.AddingLaws.{forces_found, fault_found}
use Rattle.run_laws.proofs.tested_run.forces.forces.Goals as goal

pub returns-clause-value : goal.returns-clause-value
returns-clause-value g c =
    let force = pair_force (dynamics_of g.K.TestedSlope.slope c.args.system.now) c.args.frame.now in
    let n = length c.args.frame.now in
    let start : c.clear.new.sums ≡ replicate n no_force = c.clear.ensures ∙ ap (λ m. replicate m no_force) c.requires.sums in
    on_ok_weaker c.add_rows.result (λ e. forces_found force n c.add_rows.new.sums (sym (ap (λ s. with_pairs force s (pairs_of n)) start) ∙ e)) c.add_rows.ensures.value

pub returns-clause-within : goal.returns-clause-within
returns-clause-within g c =
    let s = c.args.system.now in
    let frame = c.args.frame.now in
    let force = pair_force (dynamics_of g.K.TestedSlope.slope s) frame in
    let n = length frame in
    let few : length s.masses.items ≤ 65536 = s.most_atoms in
    let same = s.atoms in
    let start : c.clear.new.sums ≡ replicate n no_force = c.clear.ensures ∙ ap (λ m. replicate m no_force) c.requires.sums in
    on_ok_weaker c.add_rows.result (λ e.
    let found : forces_of force n ≡ Some c.add_rows.new.sums = forces_found force n c.add_rows.new.sums (sym (ap (λ s. with_pairs force s (pairs_of n)) start) ∙ e) in
    all_within-weaker (2 ^ 63 * (n - 1)) (2 ^ 80) c.add_rows.new.sums (omega arith)
    (found_within (2 ^ 63) force n c.add_rows.new.sums
    (λ i j v apart below h. force_at_within (2 ^ 63) s.ring (g.K.TestedSlope.slope s.kernel (slice_index s.types.items i) (slice_index s.types.items j))
    (acting_distance_of s.frac s.ring s.core s.cutoff (places_of frame i) (places_of frame j)) (places_of frame i) (places_of frame j) v
    (g.met.K.TestedSlope.bounded s.kernel (slice_index s.types.items i) (slice_index s.types.items j)) h)
    found))
    c.add_rows.ensures.value

pub returns-clause-fault : goal.returns-clause-fault
returns-clause-fault g c =
    let force = pair_force (dynamics_of g.K.TestedSlope.slope c.args.system.now) c.args.frame.now in
    let n = length c.args.frame.now in
    MatchResult-weaker c.add_rows.result c.add_rows.ensures.fault (λ x h. h) (λ e h. fault_found force n c.clear.new.sums (e.low, e.high) h)
