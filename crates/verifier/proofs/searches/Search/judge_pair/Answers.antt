use Rattle.verifier.specs.Verdicts.{IsJoint, IsSliceAnswer, range}
use Rattle.verifier.proofs.Reports.{stops_after}
use Rattle.verifier.proofs.Searching.{first_refused, greatest_more, greatest_none, unless_err}
use Rattle.verifier.proofs.searches.Search.judge_pair.Goals as goal

pub loop-slice-init : goal.loop-slice-init
loop-slice-init g c = record { greatest = greatest_none _; passed = g.met.W.Progress.passed_none c.args.watch.now }

pub loop-slice-preserved : goal.loop-slice-preserved
loop-slice-preserved g c =
    let l = c.loop-slice in
    record {
      greatest = greatest_more _ l.slice l.bound c.in-Ok.greatest c.max-bound.result l.invariant.greatest c.in-Ok.ensures
          c.max-bound.ensures;
      passed = g.met.W.Progress.passed_more _ _ _ _ _ l.invariant.passed c.pass.ensures;
    }

pub returns-in-Err-clause-answer : goal.returns-in-Err-clause-answer
returns-in-Err-clause-answer g c =
    let s = c.args.self.now in
    let p = c.args.pair in
    let l = c.loop-slice in
    let A = IsSliceAnswer s.code.now s.table.now (range s.core s.cutoff s.slices s.depth) p.first p.second in
    unless_err (A l.slice) (IsJoint A s.slices) c.in-Err.failure
    (λ f h. first_refused A l.slice s.slices l.bound f l.invariant.greatest c.loop-slice-test.true h)
    c.in-Err.ensures

pub returns-in-Err-clause-stopped : goal.returns-in-Err-clause-stopped
returns-in-Err-clause-stopped g c =
    let s = c.args.self.now in
    let l = c.loop-slice in (
      l.slice,
      stops_after _ l.slice s.slices l.bound c.in-Err.failure l.invariant.greatest c.loop-slice-test.true c.in-Err.ensures,
      l.invariant.passed,
    )
