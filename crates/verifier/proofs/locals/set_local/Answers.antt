use Rattle.std.proofs.Common.{List, Option, None, ap, ◌∙◌, slice_index_or}
use Rattle.interval_domain.specs.declared.span.Span.{Span}
use Rattle.verifier.proofs.Joining.{unset_more}
use Rattle.verifier.proofs.locals.set_local.Goals as goal

pub loop-locals-preserved : goal.loop-locals-preserved
loop-locals-preserved g c = λ j. ap (λ (l : List (Option Span)). slice_index_or l j None) c.in_ok-push.ensures.items ∙ unset_more c.loop-locals.locals.items j ∙ c.loop-locals.invariant j
