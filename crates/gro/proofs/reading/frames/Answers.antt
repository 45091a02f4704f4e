use Rattle.std.proofs.Common.{◌≡◌, ◌++◌, ◌∷◌, [], ◌∙◌, ◌+◌, ℕ, length, map, ap, subst, sym, arith}
use Rattle.std.proofs.lemmas.Result.{err_from_is_err_and}
use Rattle.std.proofs.lemmas.List.{map_push, length-map}
use Rattle.fallible.proofs.FailureLaws.{refused_weaker}
use Rattle.gro.specs.Frames.{atom_view, frame_view}
use Rattle.gro.specs.GroFaults.{AreFrames}
use Rattle.gro.proofs.FrameLaws.{frames_end, frames_more}
use Rattle.gro.proofs.reading.frames.Goals as goal

pub returns-in_err-frame-clause-fault : goal.returns-in_err-frame-clause-fault
returns-in_err-frame-clause-fault g c =
    let p = err_from_is_err_and c.from_residual.result c.from_residual.ensures.1 in
    rw (p.1, p.2)
    (refused_weaker _ _ c.in_err-frame.field-0.0 (λ f h. record {
      frames = map frame_view c.loop-frames.frames.items;
      line = c.loop-frames.number;
      rest = c.loop-frames.rest.now;
      before = c.loop-frames.invariant.before;
      fault = h;
    }) c.in_err-frame.ensures.fault)

pub returns-then-is_all_blank-clause-found : goal.returns-then-is_all_blank-clause-found
returns-then-is_all_blank-clause-found g c =
    let f = c.in_ok-frame.frame in
    let e : map frame_view c.push.new.self.items ≡ map frame_view c.loop-frames.frames.items ++ frame_view f ∷ [] = rw c.in_ok-push.ensures.items (map_push _ c.loop-frames.frames.items f) in
    rw e
    (frames_end 1 c.args.bytes.now (map frame_view c.loop-frames.frames.items) c.loop-frames.number c.loop-frames.rest.now (frame_view f) c.in_ok-frame.after.now c.loop-frames.invariant.before
    c.in_ok-frame.ensures.found (sym c.is_all_blank.ensures ∙ c.if-is_all_blank.true))

pub loop-frames-preserved : goal.loop-frames-preserved
loop-frames-preserved g c =
    let f = c.in_ok-frame.frame in
    let after = c.in_ok-frame.after.now in
    let e : map frame_view c.push.new.self.items ≡ map frame_view c.loop-frames.frames.items ++ frame_view f ∷ [] = rw c.in_ok-push.ensures.items (map_push _ c.loop-frames.frames.items f) in
    let len : length c.as_slice.result.now ≡ length (map atom_view f.atoms.items) = ap length c.as_slice.ensures.value ∙ sym (length-map f.atoms.items atom_view) in
    let next : c.loop-frames.number + length (map atom_view f.atoms.items) + 3 ≡ c.loop-frames.number + (length c.as_slice.result.now + 3) = omega (arith, len) in
    record {
      before = rw e
          (subst (λ (k : ℕ). AreFrames 1 c.args.bytes.now (map frame_view c.loop-frames.frames.items ++ frame_view f ∷ []) k after) next
          (frames_more 1 c.args.bytes.now (map frame_view c.loop-frames.frames.items) c.loop-frames.number c.loop-frames.rest.now (frame_view f) after c.loop-frames.invariant.before
          c.in_ok-frame.ensures.found (sym c.is_all_blank.ensures ∙ c.if-is_all_blank.false)));
      number = omega (arith, ap length c.as_slice.ensures.value, c.in_ok-frame.ensures.shorter, c.loop-frames.invariant.number);
    }
