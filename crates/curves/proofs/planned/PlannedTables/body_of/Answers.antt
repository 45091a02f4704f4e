use Rattle.std.proofs.Common.{arith, subst}
use Rattle.energy_program.specs.Programs.{trees_of}
use Rattle.job.specs.Views.{job_value}
use Rattle.curves.proofs.BoundLaws.{all_rows, more_rows, no_rows}
use Rattle.curves.proofs.ReportLaws.{whatever_error}
use Rattle.curves.proofs.planned.PlannedTables.body_of.Goals as goal

pub loop-i-init : goal.loop-i-init
loop-i-init g c = record {
  rows = no_rows (job_value c.args.self.now.job.now) (trees_of c.args.self.now.potential.now.slope.energy) c.args.self.now.plan.now c.args.pair.now.a
      c.args.pair.now.b c.new-body.result c.new-body.ensures.rows c.new-body.ensures.frac c.new-body.ensures.columns;
  passed = g.met.W.Progress.passed_none c.args.watch.now;
}

pub add-requires : goal.add-requires
add-requires g c =
    let first = c.loop-i.invariant.rows in
    (first.rows, first.has, omega (arith, first.count, c.loop-i-test.true, c.args.self.now.plan.now.few))

pub loop-i-preserved : goal.loop-i-preserved
loop-i-preserved g c = record {
  rows = more_rows (job_value c.args.self.now.job.now) (trees_of c.args.self.now.potential.now.slope.energy) c.args.self.now.plan.now c.args.pair.now.a
      c.args.pair.now.b c.loop-i.i c.loop-i.body c.add.new.self c.in_ok-row.row c.loop-i.invariant.rows c.in_ok-row.ensures
      c.in_ok-add.ensures.rows c.in_ok-add.ensures.frac c.in_ok-add.ensures.columns;
  passed = g.met.W.Progress.passed_more _ _ _ _ _ c.loop-i.invariant.passed c.pass.ensures;
}

pub returns-clause-body : goal.returns-clause-body
returns-clause-body g c =
    all_rows (job_value c.args.self.now.job.now) (trees_of c.args.self.now.potential.now.slope.energy) c.args.self.now.plan.now c.args.pair.now.a c.args.pair.now.b
    c.loop-i.i c.loop-i.body c.loop-i.invariant.rows (omega (arith, c.loop-i.auto.i-end, c.loop-i-test.false))

pub returns-clause-passed : goal.returns-clause-passed
returns-clause-passed g c =
    subst (g.W.Progress.passed c.args.watch.now c.loop-i.watch) (omega (arith, c.loop-i.auto.i-end, c.loop-i-test.false))
    c.loop-i.invariant.passed

pub returns-in_err-row-clause-stopped : goal.returns-in_err-row-clause-stopped
returns-in_err-row-clause-stopped g c =
    whatever_error c.from_residual.result _ (c.loop-i.i, omega (arith, c.loop-i-test.true), c.loop-i.invariant.passed)

pub returns-in_err-add-clause-stopped : goal.returns-in_err-add-clause-stopped
returns-in_err-add-clause-stopped g c =
    whatever_error c.from_residual-in_err-add.result _ (c.loop-i.i, omega (arith, c.loop-i-test.true), c.loop-i.invariant.passed)
