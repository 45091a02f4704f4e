use Rattle.std.proofs.Common.{sym, ◌∙◌, None, Option, List, subst, length, ◌<◌}
use Rattle.std.proofs.lemmas.List.{get_or_default}
use Rattle.verifier.specs.Frames.{SpanFrameView}
use Rattle.verifier.proofs.Joining.{joins_new, joins_wide, met_height}
use Rattle.verifier.proofs.abstract_states.AbstractStates.join.Goals as goal
use Rattle.verifier.proofs.abstract_states.AbstractStates.join.Goals.{in-Some-2, in-None-2}

pub returns-in-None : goal.returns-in-None
returns-in-None g c =
    let same = c.self.view_is in
    let within : c.args.to < length c.self.inside.frames.items = subst (λ (l : List (Option SpanFrameView)). c.args.to < length l) (sym same) c.requires.index in
    let none = c.in-None.ensures.value ∙ c.index_mut.ensures.value ∙ get_or_default c.self.inside.frames.items c.args.to _ None within in
    elim c.match-index_mut.branch [
      | in-Some-2 w ↦ rw w.self-is (joins_new c.args.to c.args.frame c.args.self.now c.self.inside.frames.items _ (sym same) c.requires.index none)
      | in-None-2 w ↦ rw w.self-is (joins_new c.args.to c.args.frame c.args.self.now c.self.inside.frames.items _ (sym same) c.requires.index none)
    ]

pub widen-requires : goal.widen-requires
widen-requires g c =
    let same = c.self.view_is in
    let within : c.args.to < length c.self.inside.frames.items = subst (λ (l : List (Option SpanFrameView)). c.args.to < length l) (sym same) c.requires.index in
    met_height c.args.to _ c.in-Some.earlier c.args.self.now c.self.inside.frames.items (sym same) c.requires.meet (c.in-Some.ensures.value ∙ c.index_mut.ensures.value ∙ get_or_default c.self.inside.frames.items c.args.to _ None within)

pub returns-in-Some : goal.returns-in-Some
returns-in-Some g c =
    let same = c.self.view_is in
    let within : c.args.to < length c.self.inside.frames.items = subst (λ (l : List (Option SpanFrameView)). c.args.to < length l) (sym same) c.requires.index in
    joins_wide c.args.to c.args.frame c.in-Some.earlier c.widen.new.self c.args.self.now c.self.inside.frames.items _ (sym same) c.requires.index (c.in-Some.ensures.value ∙ c.index_mut.ensures.value ∙ get_or_default c.self.inside.frames.items c.args.to _ None within) c.widen.ensures
