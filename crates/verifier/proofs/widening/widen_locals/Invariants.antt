use Rattle.verifier.proofs.Joining.{WidensFirstLocals}
use Rattle.verifier.proofs.widening.widen_locals.Given as goal

abbrev pub invariant-loop-k : goal.invariant-loop-k
invariant-loop-k l = WidensFirstLocals l.k l.fn.locals l.others l.locals
