use Rattle.std.proofs.Common.{◌≡◌, ◌^◌, ℕ, ◌+◌, ◌-◌, ◌*◌, length}
use Rattle.std.specs.List.{All}
use Rattle.ring_box.specs.Forces.{IsWithin}
use Rattle.integrator.specs.Forces.{pairs_with}
use Rattle.run_laws.specs.Adding.{with_pairs}
use Rattle.integrator.specs.Frames.{pair_force}
use Rattle.integrator.specs.Systems.{dynamics_of}
use Rattle.run_laws.proofs.tested_run.forces.add_row.Given as goal

-- adding the rest of the row to these sums has the same result as adding the whole row to the first sums
abbrev pub invariant-loop-high : goal.invariant-loop-high
invariant-loop-high g l =
    let force = pair_force (dynamics_of g.K.TestedSlope.slope l.system) l.frame in
    record {
      left : with_pairs force l.sums (pairs_with l.low l.high (length l.frame - l.high)) ≡ with_pairs force l.fn.sums (pairs_with l.low (l.low + 1) (length l.frame - (l.low + 1)));
      within : (b : ℕ) → All (IsWithin b) l.fn.sums → All (IsWithin (b + 2 ^ 64 * (l.high - (l.low + 1)))) l.sums;
    }
