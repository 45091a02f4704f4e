use Rattle.std.proofs.Common.{length, arith}
use Rattle.ring_box.specs.Places.{no_place}
use Rattle.integrator.specs.Frames.{next_at}
use Rattle.integrator.specs.Systems.{dynamics_of}
use Rattle.integrator.proofs.NumberLaws.{made_of_numbers}
use Rattle.run_laws.proofs.tested_run.steps.advance.Goals as goal

pub returns : goal.returns
returns g c =
    made_of_numbers (next_at (dynamics_of g.K.TestedSlope.slope c.args.system.now) c.args.before.now c.args.middle.now c.args.forces.now) no_place (length c.args.middle.now) c.loop-atom.before
    (omega arith) (λ a h. c.loop-atom.invariant.moved a (omega arith))
