use Rattle.std.proofs.Common.{refl}
use Rattle.integrator.specs.declared.direction.Direction.TheVariants.{Forward}
use Rattle.engine.proofs.CourseFacts.{now_known}
use Rattle.engine.proofs.CourseLaws.{still_forces}
use Rattle.engine.proofs.courses.Course.forces.Goals as goal

pub invariant_of-self : goal.invariant_of-self
invariant_of-self g c =
    let t = c.forces_alone.new.self in
    let are = still_forces Forward c.args.self.now t c.in-Ok.sums c.in-Ok.ensures.same c.in-Ok.ensures.forces in
    record {
      previous_atoms = t.previous_atoms;
      current_atoms = t.current_atoms;
      step_fits = t.step_fits;
      kept = now_known t.system.system t.system.system t.frames.current.items c.in-Ok.sums refl are;
    }
