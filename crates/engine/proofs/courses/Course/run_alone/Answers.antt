use Rattle.engine.proofs.CourseLaws.{fits_next, goes_on, same_last, stays, still_forces}
use Rattle.engine.proofs.courses.Course.run_alone.Goals as goal

pub loop-done-init : goal.loop-done-init
loop-done-init g c = stays c.args.direction c.args.self.now

pub make_step-requires-clause-forces : goal.make_step-requires-clause-forces
make_step-requires-clause-forces g c = still_forces c.args.direction c.loop-done.self c.forces_alone.new.self c.in-Ok.forces c.in-Ok.ensures.same c.in-Ok.ensures.forces

pub make_step-requires-clause-fits : goal.make_step-requires-clause-fits
make_step-requires-clause-fits g c =
    let s = c.args.self.now in
    let t = c.forces_alone.new.self in
    let gone = same_last c.args.direction c.loop-done.done s c.loop-done.self t c.loop-done.invariant c.in-Ok.ensures.same in
    fits_next c.args.direction c.args.steps c.loop-done.done s t c.requires gone c.loop-done-test.true

pub loop-done-preserved : goal.loop-done-preserved
loop-done-preserved g c =
    let s = c.args.self.now in
    let t = c.forces_alone.new.self in
    let gone = same_last c.args.direction c.loop-done.done s c.loop-done.self t c.loop-done.invariant c.in-Ok.ensures.same in
    goes_on c.args.direction c.loop-done.done 1 s t c.make_step.new.self gone c.make_step.ensures

pub returns-in-Err : goal.returns-in-Err
returns-in-Err g c =
    (c.loop-done-test.true, same_last c.args.direction c.loop-done.done c.args.self.now c.loop-done.self c.forces_alone.new.self c.loop-done.invariant c.in-Err.ensures.same)
