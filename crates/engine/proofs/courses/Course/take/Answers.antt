use Rattle.engine.proofs.courses.Course.take.Goals as goal

pub invariant_of-self : goal.invariant_of-self
invariant_of-self g c =
    let s = c.args.self.now in
    let same = c.in_err-take.ensures.same in
    record {
      previous_atoms = rw same s.previous_atoms;
      current_atoms = rw same s.current_atoms;
      step_fits = s.step_fits;
      kept = rw same s.kept;
    }
