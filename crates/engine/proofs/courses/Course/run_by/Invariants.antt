use Rattle.engine.specs.Courses.{HasGone}
use Rattle.engine.proofs.courses.Course.run_by.Given as goal

-- the steps so far
abbrev pub invariant-loop-done : goal.invariant-loop-done
invariant-loop-done g l = HasGone l.direction l.done l.fn.self l.self
