use Rattle.std.proofs.Common.{List, [], ◌∷◌, ◌++◌, Option, None, ap, ◌∙◌, arith, length, length-append, slice_index_or}
use Rattle.verifier.specs.Frames.{SpanFrameView}
use Rattle.verifier.proofs.Joining.{unset_more}
use Rattle.verifier.proofs.abstract_states.AbstractStates.new.Goals as goal

pub loop-init : goal.loop-init
loop-init g c =
    let items = c.in_ok-push.ensures.items ∙ ap (λ (l : List (Option SpanFrameView)). l ++ None ∷ []) c.in_ok-frames.ensures.items in
    record { long = ap length items; none = λ at. ap (λ (l : List (Option SpanFrameView)). slice_index_or l at None) items ∙ unset_more [] at }

pub loop-preserved : goal.loop-preserved
loop-preserved g c =
    let items = c.in_ok-push-2.ensures.items in
    record {
      long = ap length items ∙ length-append c.loop.frames.items (None ∷ []) ∙ omega (arith, c.loop.invariant.long);
      none = λ at. ap (λ (l : List (Option SpanFrameView)). slice_index_or l at None) items ∙ unset_more c.loop.frames.items at ∙ c.loop.invariant.none at;
    }
