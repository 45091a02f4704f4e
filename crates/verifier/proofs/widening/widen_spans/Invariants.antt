use Rattle.verifier.proofs.Joining.{WidensFirst}
use Rattle.verifier.proofs.widening.widen_spans.Given as goal

abbrev pub invariant-loop-k : goal.invariant-loop-k
invariant-loop-k l = WidensFirst l.k l.fn.spans l.others l.spans
