use Rattle.std.proofs.Common.{◌<◌, arith, refl}
use Rattle.engine.proofs.CourseLaws.{same_last, stays}
use Rattle.engine.proofs.courses.Course.run.Goals as goal

pub returns-then-steps-eq0 : goal.returns-then-steps-eq0
returns-then-steps-eq0 g c = rw c.if-steps-eq0.true (stays c.args.direction c.args.self.now)

pub returns-then-is_err : goal.returns-then-is_err
returns-then-is_err g c =
    let s = c.args.self.now in
    let some : 0 < c.args.steps = omega arith in
    (some, same_last c.args.direction 0 s s _ (stays c.args.direction s) (record { system = refl; previous = refl; current = refl; step = refl }))
