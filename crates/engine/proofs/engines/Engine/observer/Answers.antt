use Rattle.engine.proofs.ObserverLaws.{observer_made}
use Rattle.engine.proofs.engines.Engine.observer.Goals as goal

pub returns-in-Ok-clause-observer : goal.returns-in-Ok-clause-observer
returns-in-Ok-clause-observer g c =
    let i = c.self.inside in
    let made = c.in-Ok.ensures in
    rw (← c.self.view_is)
    (observer_made i.job i.state i.course.system.system c.self.invariant.system c.in-Ok.kernel made.kernel made.under made.gives made.has)

pub returns-in-Err-clause-refused : goal.returns-in-Err-clause-refused
returns-in-Err-clause-refused g c = rw (← c.self.view_is) c.in-Err.ensures.refused
