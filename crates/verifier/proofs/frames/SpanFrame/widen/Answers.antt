use Rattle.std.proofs.Common.{sym, ap, ◌∙◌, length}
use Rattle.std.proofs.lemmas.List.{with_items_is}
use Rattle.verifier.proofs.Joining.{frame_widens, same_height}
use Rattle.verifier.proofs.frames.SpanFrame.widen.Goals as goal

pub widen_spans-requires : goal.widen_spans-requires
widen_spans-requires g c =
    ap length c.as_mut_slice.ensures.value ∙ same_height c.args.self.now c.args.other.now c.self.inside.stack.items c.other.inside.stack.items c.self.inside.locals.items c.other.inside.locals.items (sym c.self.view_is) (sym c.other.view_is) c.requires ∙ sym (ap length c.as_slice.ensures.value)

pub returns : goal.returns
returns g c =
    let spans = c.as_mut_slice.ensures.value in
    let locals = c.as_mut_slice-2.ensures.value in
    let e = with_items_is c.self.inside.stack c.widen_spans.new.spans (c.widen_spans.auto.spans ∙ ap length spans ∙ sym c.self.inside.stack.ok.0) in
    let f = with_items_is c.self.inside.locals c.widen_locals.new.locals (c.widen_locals.auto.locals ∙ ap length locals ∙ sym c.self.inside.locals.ok.0) in
    rw (e, f)
    (frame_widens c.args.self.now c.args.other.now c.self.inside.stack.items _ c.other.inside.stack.items _ c.widen_spans.new.spans c.self.inside.locals.items _ c.other.inside.locals.items _ c.widen_locals.new.locals (sym c.self.view_is) (sym c.other.view_is)
    spans c.as_slice.ensures.value locals c.as_slice-2.ensures.value c.widen_spans.ensures c.widen_locals.ensures)
