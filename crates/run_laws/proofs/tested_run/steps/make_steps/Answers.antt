use Rattle.std.proofs.Common.{arith, ap, refl, ◌∙◌}
use Rattle.std.specs.Option.{option_and_then}
use Rattle.integrator.specs.Frames.{frames, step_in, steps_in}
use Rattle.integrator.specs.Systems.{dynamics_of}
use Rattle.integrator.specs.declared.direction.Direction.TheVariants.{Forward}
use Rattle.integrator.proofs.MotionLaws.{steps_more}
use Rattle.run_laws.proofs.tested_run.steps.make_steps.Goals as goal

pub loop-done-init : goal.loop-done-init
unfolding steps_in
loop-done-init g c = record { steps = refl; before = refl; middle = refl }

pub loop-done-preserved : goal.loop-done-preserved
loop-done-preserved g c =
    let d = dynamics_of g.K.TestedSlope.slope c.args.system.now in
    record {
      steps =
          steps_more Forward d c.loop-done.done (frames c.args.before.now.items c.args.middle.now.items)
          ∙ ap (option_and_then (step_in Forward d)) c.loop-done.invariant.steps
          ∙ c.in-Ok.ensures.value;
      before = omega arith;
      middle = omega arith;
    }
