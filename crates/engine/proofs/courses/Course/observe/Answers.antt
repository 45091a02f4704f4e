use Rattle.engine.proofs.CourseFacts.{now_known}
use Rattle.engine.proofs.courses.Course.observe.Goals as goal

pub invariant_of-self : goal.invariant_of-self
invariant_of-self g c =
    let s = c.args.self.now in
    let same = c.observe.ensures.same in
    record {
      previous_atoms = rw same s.previous_atoms;
      current_atoms = rw same s.current_atoms;
      step_fits = s.step_fits;
      kept = rw same s.kept;
    }

pub invariant_of-self-2-clause-kept : goal.invariant_of-self-2-clause-kept
invariant_of-self-2-clause-kept g c =
    now_known _ _ c.args.self.now.frames.current.items c.in_ok-totals.forces c.observe.ensures.same (rw c.deref.ensures.value at c.in_ok-totals.ensures.forces)

pub returns-clause-totals : goal.returns-clause-totals
returns-clause-totals g c = rw c.deref.ensures.value at c.in_ok-totals.ensures.totals
