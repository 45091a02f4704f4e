use Rattle.std.proofs.Common.{arith, subst}
use Rattle.kernel_code.specs.Paths.{MissesNothing}
use Rattle.verifier.specs.Searches.{range_of}
use Rattle.verifier.proofs.Reports.{first_verdict, passed_before}
use Rattle.verifier.proofs.Searching.{refused_verdict}
use Rattle.verifier.proofs.searches.Search.certify.Goals as goal

pub returns-in-Err-clause-verdict : goal.returns-in-Err-clause-verdict
returns-in-Err-clause-verdict g c =
    (first_verdict c.args.self.now.code.now c.args.self.now.table.now (range_of c.args.self.now) _ c.in-Err.failure
    (omega (arith, c.parameters.ensures.value, c.globals.ensures.value)) c.in-Err.ensures.first).0

pub returns-in-Err-clause-stopped : goal.returns-in-Err-clause-stopped
returns-in-Err-clause-stopped g c = (
  0,
  (first_verdict c.args.self.now.code.now c.args.self.now.table.now (range_of c.args.self.now) _ c.in-Err.failure
      (omega (arith, c.parameters.ensures.value, c.globals.ensures.value)) c.in-Err.ensures.first).1,
  g.met.W.Progress.passed_none c.args.watch.now,
)

pub returns-in-Err-judge_all-clause-verdict : goal.returns-in-Err-judge_all-clause-verdict
returns-in-Err-judge_all-clause-verdict g c =
    let misses = subst (MissesNothing c.args.self.now.code.now) (omega (arith, c.parameters.ensures.value, c.globals.ensures.value)) c.in-Ok.ensures.well.misses in
    refused_verdict c.args.self.now.code.now c.args.self.now.table.now (range_of c.args.self.now) c.in-Err-judge_all.failure
    c.requires.code misses c.requires.slices c.in-Err-judge_all.ensures.answer

pub returns-in-Err-judge_all-clause-stopped : goal.returns-in-Err-judge_all-clause-stopped
returns-in-Err-judge_all-clause-stopped g c =
    let stopped = c.in-Err-judge_all.ensures.stopped in (
      stopped.0,
      passed_before c.args.self.now.code.now c.args.self.now.table.now (range_of c.args.self.now) stopped.0 c.in-Err-judge_all.failure
          c.requires.code.forward c.requires.slices c.in-Err-judge_all.ensures.answer stopped.1,
      stopped.2,
    )
