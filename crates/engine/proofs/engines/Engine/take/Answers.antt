use Rattle.engine.proofs.EngineLaws.{typed_at}
use Rattle.engine.proofs.TakenLaws.{engine_taken, safe_with, system_taken}
use Rattle.engine.proofs.engines.Engine.take.Goals as goal

pub take-requires-clause-safe : goal.take-requires-clause-safe
take-requires-clause-safe g c =
    let i = c.self.inside in
    let atoms = c.in_ok-atoms in
    safe_with i.job i.state c.args.state i.course.system.system c.self.invariant.system atoms.atoms atoms.ensures.atoms

pub invariant_of-self-2 : goal.invariant_of-self-2
invariant_of-self-2 g c =
    let i = c.self.inside in
    let atoms = c.in_ok-atoms in
    let taken = c.in_ok-take.ensures in
    record {
      system = system_taken i.job i.state c.args.state i.course.system.system c.self.invariant.system atoms.atoms atoms.ensures.atoms _ taken.taken;
      typed = typed_at _ _ _
          (engine_taken i.job i.state c.args.state i.course.system.system c.self.invariant.system atoms.atoms atoms.ensures.atoms _ taken.taken);
      frames' = taken.frames;
      step = taken.step;
    }

pub returns-clause-engine : goal.returns-clause-engine
returns-clause-engine g c =
    let i = c.self.inside in
    let atoms = c.in_ok-atoms in
    rw (← c.self.view_is)
    (engine_taken i.job i.state c.args.state i.course.system.system c.self.invariant.system atoms.atoms atoms.ensures.atoms _ c.in_ok-take.ensures.taken)
