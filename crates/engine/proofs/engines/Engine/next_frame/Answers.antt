use Rattle.std.proofs.lemmas.Result.{IfOk-weaker}
use Rattle.engine.proofs.EngineForceLaws.{seen_next}
use Rattle.engine.proofs.engines.Engine.next_frame.Goals as goal

pub returns-clause-next : goal.returns-clause-next
returns-clause-next g c =
    let i = c.self.inside in
    rw (← c.self.view_is) (IfOk-weaker c.next_frame.result _ _ (λ x. seen_next i.job i.state i.course c.self.invariant x.items) c.next_frame.ensures.next)
