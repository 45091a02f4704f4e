use Rattle.std.proofs.Common.{◌-◌, Err, arith}
use Rattle.std.proofs.lemmas.Int.{ints}
use Rattle.verifier.specs.Verdicts.{IsPieceAnswer, bounded, first, neither, second, single}
use Rattle.verifier.proofs.Searching.{of_halves, unless_err}
use Rattle.verifier.proofs.searches.Search.+judge.Goals as goal

pub returns-in-Ok : goal.returns-in-Ok
returns-in-Ok g t c = single (omega (arith, ints, c.args.distances.now.ordered)) c.in-Ok.ensures

pub returns-in-Err : goal.returns-in-Err
returns-in-Err g t c = single (omega (arith, ints, c.args.distances.now.ordered)) c.in-Err.ensures

pub returns-in-Ok-try_slice : goal.returns-in-Ok-try_slice
returns-in-Ok-try_slice g t c = bounded (omega (arith, ints)) c.in-Ok-try_slice.ensures.bounded

pub returns-in-Err-judge : goal.returns-in-Err-judge
returns-in-Err-judge g t c =
    let code = c.args.self.now.code.now in
    let table = c.args.self.now.table.now in
    let stopped = rw c.in-Err-Refused.field-0-is at c.in-Err-Refused.ensures.stopped in
    unless_err (IsPieceAnswer code table c.args.pair.first c.args.pair.second (c.args.depth - 1) c.halves-lower.result.0) (IsPieceAnswer code table c.args.pair.first c.args.pair.second c.args.depth c.args.distances.now) c.in-Err-judge.failure
    (λ f p. of_halves code table _ _ c.args.depth _ _ _ _ _ (Err f) c.if-depth-eq0.false (omega (arith, ints)) stopped c.halves-lower.ensures.cut (first p))
    c.in-Err-judge.ensures

pub returns-in-Err-judge-2 : goal.returns-in-Err-judge-2
returns-in-Err-judge-2 g t c =
    let code = c.args.self.now.code.now in
    let table = c.args.self.now.table.now in
    let stopped = rw c.in-Err-Refused.field-0-is at c.in-Err-Refused.ensures.stopped in
    unless_err (IsPieceAnswer code table c.args.pair.first c.args.pair.second (c.args.depth - 1) c.halves-lower.result.1) (IsPieceAnswer code table c.args.pair.first c.args.pair.second c.args.depth c.args.distances.now) c.in-Err-judge-2.failure
    (λ f p. of_halves code table _ _ c.args.depth _ _ _ _ _ (Err f) c.if-depth-eq0.false (omega (arith, ints)) stopped c.halves-lower.ensures.cut (second c.in-Ok-judge.ensures p))
    c.in-Err-judge-2.ensures

pub returns-in-Ok-judge-2 : goal.returns-in-Ok-judge-2
returns-in-Ok-judge-2 g t c =
    let stopped = rw c.in-Err-Refused.field-0-is at c.in-Err-Refused.ensures.stopped in
    rw c.max.ensures
    (of_halves _ _ _ _ c.args.depth _ _ _ _ _ _ c.if-depth-eq0.false (omega (arith, ints)) stopped c.halves-lower.ensures.cut (neither c.in-Ok-judge.ensures c.in-Ok-judge-2.ensures))
