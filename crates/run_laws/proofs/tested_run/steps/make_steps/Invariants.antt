use Rattle.std.proofs.Common.{◌≡◌, length, Some}
use Rattle.integrator.specs.Frames.{frames, steps_in}
use Rattle.integrator.specs.Systems.{dynamics_of}
use Rattle.integrator.specs.declared.direction.Direction.TheVariants.{Forward}
use Rattle.run_laws.proofs.tested_run.steps.make_steps.Given as goal

-- the frames after the steps so far
abbrev pub invariant-loop-done : goal.invariant-loop-done
invariant-loop-done g l =
    record {
      steps : steps_in Forward (dynamics_of g.K.TestedSlope.slope l.system) l.done (frames l.fn.before.items l.fn.middle.items) ≡ Some (frames l.before.items l.middle.items);
      before : length l.before.items ≡ length l.fn.before.items;
      middle : length l.middle.items ≡ length l.fn.middle.items;
    }
