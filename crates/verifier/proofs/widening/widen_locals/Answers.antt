use Rattle.std.proofs.Common.{arith, sym, ◌∙◌, None}
use Rattle.std.proofs.lemmas.List.{get_or_default}
use Rattle.verifier.proofs.Joining.{locals_more, locals_all}
use Rattle.verifier.proofs.widening.widen_locals.Goals as goal

pub loop-k-preserved : goal.loop-k-preserved
loop-k-preserved c =
    locals_more c.loop-k.k _ _ _ _ _ _ c.loop-k.invariant (omega arith)
    (get_or_default c.loop-k.locals c.loop-k.k None _ (omega arith) ∙ sym c.index-locals-k.is)
    c.local_span.ensures
    c.widened.ensures

pub returns : goal.returns
returns c = locals_all c.loop-k.k _ _ _ c.loop-k.invariant (omega (arith, c.loop-k.invariant.long))
