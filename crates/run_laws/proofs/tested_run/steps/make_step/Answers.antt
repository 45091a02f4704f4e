use Rattle.std.proofs.Common.{rules}
use Rattle.std.proofs.lemmas.List.{with_items_is}
use Rattle.std.proofs.lemmas.Result.{err_from_is_err_and}
use Rattle.integrator.specs.Systems.{dynamics_of}
use Rattle.run_laws.proofs.StopLaws.{step_from}
use Rattle.run_laws.proofs.tested_run.steps.make_step.Goals as goal

pub returns-in_err-follow-clause-fault : goal.returns-in_err-follow-clause-fault
returns-in_err-follow-clause-fault g c =
    let p = err_from_is_err_and c.from_residual.result c.from_residual.ensures.1 in
    let same = c.deref.ensures.value in
    rw (p.1, p.2, ← same) c.in_err-follow.ensures.fault

pub returns-clause-value : goal.returns-clause-value
returns-clause-value g c =
    let before = c.deref_mut.ensures.value in
    let middle = c.deref.ensures.value in
    let written = with_items_is c.args.before.now c.follow.new.before (search rules) in
    rw (c.swap.ensures.x_after, c.swap.ensures.y_after, written)
    (step_from (dynamics_of g.K.TestedSlope.slope c.args.system.now) c.args.before.now.items c.args.middle.now.items c.follow.new.before
    (rw (← before, ← middle) c.in_ok-follow.ensures.value))
