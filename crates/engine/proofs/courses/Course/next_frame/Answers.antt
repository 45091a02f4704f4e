use Rattle.std.proofs.Common.{◌≡◌, length, arith, refl, ◌∙◌}
use Rattle.std.proofs.lemmas.List.{with_items_is}
use Rattle.integrator.specs.Frames.{moved_frame}
use Rattle.integrator.specs.declared.direction.Direction.TheVariants.{Forward}
use Rattle.frame_sums.specs.Rounds.{forces_from}
use Rattle.frame_sums.specs.SafeSystems.{safe_dynamics}
use Rattle.engine.proofs.CourseFacts.{now_known}
use Rattle.engine.proofs.CourseLaws.{still_forces}
use Rattle.engine.proofs.EngineForceLaws.{next_moved}
use Rattle.engine.proofs.courses.Course.next_frame.Goals as goal

pub invariant_of-self-2 : goal.invariant_of-self-2
invariant_of-self-2 g c =
    let t = c.forces_alone.new.self in
    let are = still_forces Forward _ t c.in-Ok.sums c.in-Ok.ensures.same c.in-Ok.ensures.forces in
    record {
      previous_atoms = t.previous_atoms;
      current_atoms = t.current_atoms;
      step_fits = t.step_fits;
      kept = now_known t.system.system t.system.system t.frames.current.items c.in-Ok.sums refl are;
    }

pub returns-clause-next : goal.returns-clause-next
returns-clause-next g c =
    let s = c.args.self.now in
    let t = c.forces_alone.new.self in
    let same = c.in-Ok.ensures.same in
    let frame = c.in_ok-frame.frame in
    let made = c.advance.new.before in
    let size : length made ≡ frame.len = omega (arith, c.advance.auto.before, c.deref_mut.ensures.len, frame.ok.0) in
    let moved : made ≡ moved_frame (safe_dynamics t.system.system) frame.items t.frames.current.items (forces_from c.in-Ok.sums (length t.frames.current.items)) =
    rw (c.deref_mut.ensures.value, c.deref-2.ensures.value, c.as_slice.ensures) at c.advance.ensures in
    next_moved s.system.system t.system.system s.frames.previous.items frame.items s.frames.current.items t.frames.current.items _ c.in-Ok.sums same.system
    (c.in_ok-frame.ensures.items ∙ c.deref.ensures.value) same.current c.in-Ok.ensures.forces (with_items_is frame made size ∙ moved)
