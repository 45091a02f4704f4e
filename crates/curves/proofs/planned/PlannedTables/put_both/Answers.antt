use Rattle.std.proofs.Common.{◌+◌, ◌*◌, arith, subst}
use Rattle.energy_program.specs.Programs.{trees_of}
use Rattle.curves.proofs.ReportLaws.{all_stopped, memory_stopped, whatever_value}
use Rattle.curves.proofs.WritingLaws.{no_room_for}
use Rattle.curves.proofs.planned.PlannedTables.put_both.Goals as goal

pub returns-in_err-one_body-clause-tables : goal.returns-in_err-one_body-clause-tables
returns-in_err-one_body-clause-tables g c = no_room_for c.from_residual.result _ _ c.from_residual.ensures.1

pub returns-in_err-one_body-clause-stopped : goal.returns-in_err-one_body-clause-stopped
returns-in_err-one_body-clause-stopped g c =
    let stopped = c.in_err-one_body.ensures.stopped in
    memory_stopped c.from_residual.result (2 * (c.args.self.now.plan.now.points + 1)) (g.W.Progress.passed c.args.watch.now c.body_text.new.watch)
    c.from_residual.ensures.1 (stopped.0, omega (arith, stopped.1), stopped.2)

pub returns-in_err-other_body-clause-tables : goal.returns-in_err-other_body-clause-tables
returns-in_err-other_body-clause-tables g c = no_room_for c.from_residual-in_err-other_body.result _ _ c.from_residual-in_err-other_body.ensures.1

pub returns-in_err-other_body-clause-stopped : goal.returns-in_err-other_body-clause-stopped
returns-in_err-other_body-clause-stopped g c =
    let stopped = c.in_err-other_body.ensures.stopped in
    memory_stopped c.from_residual-in_err-other_body.result (2 * (c.args.self.now.plan.now.points + 1))
    (g.W.Progress.passed c.args.watch.now c.body_text-2.new.watch) c.from_residual-in_err-other_body.ensures.1 (
      c.args.self.now.plan.now.points + 1 + stopped.0,
      omega (arith, stopped.1),
      g.met.W.Progress.passed_more _ _ _ _ _ c.in_ok-one_body.ensures.passed stopped.2,
    )

pub returns-clause-tables : goal.returns-clause-tables
returns-clause-tables g c =
    c.put_bodies.ensures (trees_of c.args.self.now.potential.now.slope.energy)
    (rw c.deref.ensures.value c.in_ok-one_body.ensures.body) (rw c.deref-2.ensures.value c.in_ok-other_body.ensures.body)

pub returns-clause-passed : goal.returns-clause-passed
returns-clause-passed g c =
    whatever_value c.put_bodies.result _
    (subst (g.W.Progress.passed c.args.watch.now c.body_text-2.new.watch) (omega arith)
    (g.met.W.Progress.passed_more _ _ _ _ _ c.in_ok-one_body.ensures.passed c.in_ok-other_body.ensures.passed))

pub returns-clause-stopped : goal.returns-clause-stopped
returns-clause-stopped g c =
    all_stopped c.put_bodies.result _ (g.W.Progress.passed c.args.watch.now c.body_text-2.new.watch)
    (subst (g.W.Progress.passed c.args.watch.now c.body_text-2.new.watch) (omega arith)
    (g.met.W.Progress.passed_more _ _ _ _ _ c.in_ok-one_body.ensures.passed c.in_ok-other_body.ensures.passed))
