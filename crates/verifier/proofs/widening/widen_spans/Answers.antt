use Rattle.std.proofs.Common.{arith}
use Rattle.verifier.proofs.Joining.{spans_more, spans_all}
use Rattle.verifier.proofs.widening.widen_spans.Goals as goal

pub loop-k-preserved : goal.loop-k-preserved
loop-k-preserved c = spans_more c.loop-k.k _ _ _ _ _ _ c.loop-k.invariant (omega arith) c.index-spans-k.is c.index-others-k.is c.hull.ensures.least

pub returns : goal.returns
returns c = spans_all c.loop-k.k _ _ _ c.loop-k.invariant (omega (arith, c.loop-k.invariant.long))
