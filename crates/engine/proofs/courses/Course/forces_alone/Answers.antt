use Rattle.engine.proofs.courses.Course.forces_alone.Goals as goal

pub invariant_of-self-clause-kept : goal.invariant_of-self-clause-kept
invariant_of-self-clause-kept g c = rw c.sums_alone.ensures.same c.take_forces.new.self.kept
