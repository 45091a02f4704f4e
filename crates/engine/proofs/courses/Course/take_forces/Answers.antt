use Rattle.engine.proofs.CourseFacts.{if_known}
use Rattle.engine.proofs.courses.Course.take_forces.Goals as goal

pub returns-in-Forward-clause-forces : goal.returns-in-Forward-clause-forces
returns-in-Forward-clause-forces g c = rw (c.in-Forward.is, c.take-forces.ensures.value) (if_known _ _ c.args.self.now.kept)
