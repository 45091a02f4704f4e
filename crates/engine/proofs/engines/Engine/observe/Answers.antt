use Rattle.std.proofs.lemmas.Result.{IfOk-weaker}
use Rattle.engine.proofs.EngineForceLaws.{seen_totals}
use Rattle.engine.proofs.ObserverLaws.{code_of_observer}
use Rattle.engine.proofs.engines.Engine.observe.Goals as goal

pub observe-requires : goal.observe-requires
observe-requires g c =
    let i = c.self.inside in
    let is = rw (← c.self.view_is, ← c.observer.view_is) at c.requires in
    code_of_observer i.job i.state i.course.system.system c.self.invariant.system c.observer.inside.kernel is

pub returns-clause-totals : goal.returns-clause-totals
returns-clause-totals g c =
    let i = c.self.inside in
    rw (← c.self.view_is) (IfOk-weaker c.observe.result _ _ (seen_totals i.job i.state i.course c.self.invariant) c.observe.ensures.totals)
