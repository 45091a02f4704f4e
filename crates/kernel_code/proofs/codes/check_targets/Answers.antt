use Rattle.std.proofs.Common.{below_more, sym, ◌∙◌, arith}
use Rattle.kernel_code.proofs.CodeLaws.{forward_here, bad_target, all_forward}
use Rattle.kernel_code.proofs.codes.check_targets.Goals as goal

pub returns-then-not-goes_forward-clause-fault : goal.returns-then-not-goes_forward-clause-fault
returns-then-not-goes_forward-clause-fault c =
    bad_target c.args.instructions.now c.loop-pc.pc _ c.requires c.loop-pc-test.true c.index-instructions-pc.is (sym c.goes_forward.ensures ∙ c.if-not-goes_forward.true) c.loop-pc.invariant

pub loop-pc-preserved : goal.loop-pc-preserved
loop-pc-preserved c =
    below_more _ _ c.loop-pc.invariant
    (forward_here c.args.instructions.now c.loop-pc.pc _ c.loop-pc-test.true c.index-instructions-pc.is (sym c.goes_forward.ensures ∙ c.if-not-goes_forward.false))

pub returns-clause-forward : goal.returns-clause-forward
returns-clause-forward c = all_forward c.args.instructions.now c.loop-pc.pc (omega arith) c.loop-pc.invariant
