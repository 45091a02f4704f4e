use Rattle.std.proofs.lemmas.Result.{IfOk-weaker}
use Rattle.engine.proofs.EngineForceLaws.{seen_forces}
use Rattle.engine.proofs.engines.Engine.forces.Goals as goal

pub returns-clause-forces : goal.returns-clause-forces
returns-clause-forces g c =
    let i = c.self.inside in
    rw (← c.self.view_is) (IfOk-weaker c.forces.result _ _ (λ x. seen_forces i.job i.state i.course c.self.invariant x.items) c.forces.ensures.forces)
