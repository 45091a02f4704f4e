use Rattle.std.proofs.Common.{◌≡◌, length, slice_index_or, ap, arith, refl}
use Rattle.verifier.specs.declared.meetings.Meeting.{Meeting}
use Rattle.verifier.proofs.Judgements.{judged_last, some_last}
use Rattle.verifier.proofs.paths.judge.Goals as goal

pub judge_end-requires-clause-some : goal.judge_end-requires-clause-some
judge_end-requires-clause-some c =
    let last : c.loop-here.here ≡ length c.args.code.now = omega (arith, c.loop-here-test.false, c.loop-here.auto.here-end) in
    some_last c.args.code.now c.args.code.now c.args.inputs c.loop-here.here c.loop-here.meetings (slice_index_or c.loop-here.meetings (length c.args.code.now) c.index-meetings-code.result) refl c.requires.code c.loop-here.invariant last (ap (λ (m : Meeting). slice_index_or c.loop-here.meetings (length c.args.code.now) m) c.index-meetings-code.is)

pub returns : goal.returns
returns c =
    let last : c.loop-here.here ≡ length c.args.code.now = omega (arith, c.loop-here-test.false, c.loop-here.auto.here-end) in
    judged_last c.args.code.now c.args.code.now c.args.inputs c.loop-here.here c.loop-here.meetings (slice_index_or c.loop-here.meetings (length c.args.code.now) c.index-meetings-code.result) c.judge_end.result refl c.requires.code c.loop-here.invariant last (ap (λ (m : Meeting). slice_index_or c.loop-here.meetings (length c.args.code.now) m) c.index-meetings-code.is) c.judge_end.ensures
