use Rattle.engine.proofs.courses.Course.energy.Goals as goal

pub invariant_of-self-clause-kept : goal.invariant_of-self-clause-kept
invariant_of-self-clause-kept g c = rw c.energy.ensures.same c.args.self.now.kept
