use Rattle.std.proofs.Common.{◌≡◌, ℕ, ◌<◌, ◌≤◌}
use Rattle.ring_box.specs.Places.{places_of}
use Rattle.integrator.specs.Frames.{next_at}
use Rattle.integrator.specs.Systems.{dynamics_of}
use Rattle.run_laws.proofs.tested_run.steps.advance.Given as goal

-- the atoms so far have moved, and the others not
abbrev pub invariant-loop-atom : goal.invariant-loop-atom
invariant-loop-atom g l =
    record {
      moved : (k : ℕ) → k < l.atom → places_of l.before k ≡ next_at (dynamics_of g.K.TestedSlope.slope l.system) l.fn.before l.middle l.forces k;
      kept : (k : ℕ) → l.atom ≤ k → places_of l.before k ≡ places_of l.fn.before k;
    }
