use Rattle.std.proofs.Common.{ℕ, ◌+◌, ◌*◌, ◌/◌, ◌%◌, length, Err, arith, refl, subst}
use Rattle.verifier.specs.Progress.{StopsAfter}
use Rattle.verifier.specs.Verdicts.{IsFoundOf, IsJoint, IsSliceAnswer, UnlessMemory, pair_answer, range}
use Rattle.verifier.proofs.Repeats.{first_again, second_again}
use Rattle.verifier.proofs.Reports.{pair_stops}
use Rattle.verifier.proofs.Soundness.{some_type}
use Rattle.verifier.proofs.Searching.{first_refused, greatest_more, greatest_none, unless_err}
use Rattle.verifier.proofs.searches.Search.judge_all.Goals as goal
use Rattle.verifier.proofs.searches.Search.judge_all.Goals.{then-is_repeated-via-then-is_repeated, then-is_repeated-via-else-is_repeated+then-is_repeated-2}

pub loop-number-init : goal.loop-number-init
loop-number-init g c = record {
  greatest = greatest_none _;
  passed = subst (g.W.Progress.passed c.args.watch.now c.args.watch.now) (omega arith) (g.met.W.Progress.passed_none c.args.watch.now);
}

pub loop-number-preserved-then-is_repeated : goal.loop-number-preserved-then-is_repeated
loop-number-preserved-then-is_repeated g c =
    let s = c.args.self.now in
    let r = range s.core s.cutoff s.slices s.depth in
    let l = c.loop-number in
    let within = rw c.types-types.ensures.value at c.loop-number-test.true in
    let some = some_type l.number (length s.table.now.rows) within in
    record {
      greatest = elim c.then-is_repeated.branch [
        | then-is_repeated-via-then-is_repeated w ↦
            let again = rw c.types-types.ensures.value at w.if-is_repeated.ensures in
            first_again s.code.now s.table.now r l.number l.bound some l.invariant.greatest (again.0 refl)
        | then-is_repeated-via-else-is_repeated+then-is_repeated-2 w ↦
            let again = rw c.types-types.ensures.value at w.if-is_repeated-2.ensures in
            second_again s.code.now s.table.now r l.number l.bound some l.invariant.greatest (again.0 refl)
      ];
      passed = subst (g.W.Progress.passed c.args.watch.now c.pass.new.self) (omega arith)
          (g.met.W.Progress.passed_more _ _ _ _ _ l.invariant.passed c.pass.ensures);
    }

pub loop-number-preserved : goal.loop-number-preserved
loop-number-preserved g c =
    let s = c.args.self.now in
    let A = pair_answer s.code.now s.table.now (range s.core s.cutoff s.slices s.depth) in
    let l = c.loop-number in
    let answer = rw c.types-types.ensures.value at c.in-Ok.ensures.answer in
    record {
      greatest = greatest_more A l.number l.bound c.in-Ok.greatest c.max-bound.result l.invariant.greatest answer c.max-bound.ensures;
      passed = subst (g.W.Progress.passed c.args.watch.now c.judge_pair.new.watch) (omega arith)
          (g.met.W.Progress.passed_more _ _ _ _ _ l.invariant.passed c.in-Ok.ensures.passed);
    }

pub returns-in-Err-clause-answer : goal.returns-in-Err-clause-answer
returns-in-Err-clause-answer g c =
    let s = c.args.self.now in
    let g = range s.core s.cutoff s.slices s.depth in
    let l = c.loop-number in
    let n = length s.table.now.rows in
    let A = pair_answer s.code.now s.table.now g in
    let B = λ (n : ℕ). IsSliceAnswer s.code.now s.table.now g (l.number / n) (l.number % n) in
    let within = rw c.types-types.ensures.value at c.loop-number-test.true in
    let answer =
    subst (λ (n : ℕ). UnlessMemory (IsJoint (B n) s.slices) (Err c.in-Err.failure)) c.types-types.ensures.value c.in-Err.ensures.answer in
    unless_err (A l.number) (IsFoundOf s.code.now s.table.now g) c.in-Err.failure
    (λ f p. first_refused A l.number (n * n) l.bound f l.invariant.greatest within p)
    answer

pub returns-in-Err-clause-stopped : goal.returns-in-Err-clause-stopped
returns-in-Err-clause-stopped g c =
    let s = c.args.self.now in
    let r = range s.core s.cutoff s.slices s.depth in
    let l = c.loop-number in
    let stopped = c.in-Err.ensures.stopped in
    let within = rw c.types-types.ensures.value at c.loop-number-test.true in
    let stops = subst
    (λ (n : ℕ). StopsAfter (IsSliceAnswer s.code.now s.table.now r (l.number / n) (l.number % n)) s.slices stopped.0 c.in-Err.failure)
    c.types-types.ensures.value stopped.1 in (
      l.number * s.slices + stopped.0,
      pair_stops s.code.now s.table.now r l.number stopped.0 l.bound c.in-Err.failure c.requires.slices l.invariant.greatest within stops,
      g.met.W.Progress.passed_more _ _ _ _ _ l.invariant.passed stopped.2,
    )
