use Rattle.std.proofs.Common.{◌≡◌, ◌^◌, ◌-◌, ◌*◌, length}
use Rattle.std.specs.List.{All}
use Rattle.ring_box.specs.Forces.{IsWithin}
use Rattle.integrator.specs.Forces.{pairs_from, pairs_of}
use Rattle.run_laws.specs.Adding.{with_pairs}
use Rattle.integrator.specs.Frames.{pair_force}
use Rattle.integrator.specs.Systems.{dynamics_of}
use Rattle.run_laws.proofs.tested_run.forces.add_rows.Given as goal

-- adding the rest of the pairs to these sums has the same result as adding all pairs to the first sums
abbrev pub invariant-loop-low : goal.invariant-loop-low
invariant-loop-low g l =
    let force = pair_force (dynamics_of g.K.TestedSlope.slope l.system) l.frame in
    record {
      left : with_pairs force l.sums (pairs_from l.low (length l.frame - l.low)) ≡ with_pairs force l.fn.sums (pairs_of (length l.frame));
      within : All (IsWithin (2 ^ 64 * (l.low * length l.frame))) l.sums;
    }
