-- The steps by which the run specification leads from two frames to two others: one past and one future, reversal, and
-- recurrence. They are the model's steps of frames.
use Rattle.std.proofs.Common.{◌≡◌, ℕ, zero, suc, ◌+◌, ◌*◌, ◌^◌, ◌<◌, ◌≤◌, List, [], length, Some, pos, ◌+ℤ◌, ℤ, arith, refl, ap, sym, subst, ◌∙◌, replicate, pow-add}
use Rattle.std.proofs.lemmas.List.{length-replicate}
use Rattle.std.proofs.lemmas.Option.{same_Some}
use Rattle.energy_program.specs.Tree.{Tree}
use Rattle.job.specs.Values.{JobValue}
use Rattle.state.specs.StateText.{StateView}
use Rattle.integrator.specs.Frames.{AreOfSameAtoms, Dynamics, Frame, Frames, frames, steps_in}
use Rattle.integrator.specs.Starts.{as_written}
use Rattle.integrator.specs.States.{frames_of, moved_state, nobody}
use Rattle.integrator.specs.declared.direction.Direction.TheVariants.{Forward}
use Rattle.integrator.proofs.MotionLaws.{returned}
use Rattle.integrator.proofs.StateLaws.{frames_moved}
use Rattle.engine.specs.RunSpecification.{Follows, Lead}
use Rattle.engine.proofs.SpecifiedSteps.{leads, led_to}
use Rattle.run_laws.specs.Motions.{AreAllFollowed, FramesRecur, OneFuture, OnePast, Recur, StepsReverse}
use Rattle.run_laws.proofs.FrameRecurrence.{LeadOn, comes_round, one_start, reversed}

module _ (j : JobValue) (tree : Tree) (sides types : List ℕ) where
  abbrev motion : Dynamics
  motion = as_written j sides tree types

  -- ---- steps of the page are steps of the model

  -- a state with these frames
  abbrev state_at : Frames → ℤ → StateView
  state_at f k = moved_state (record { title = []; step = pos 0; frac = j.frac; sides = sides; atoms = replicate (length f.previous) nobody }) f k

  at_frames : (f : Frames) (k : ℤ) → length f.previous ≡ length f.current → frames_of (state_at f k) ≡ f
  at_frames f k same =
      let size = sym (length-replicate (length f.previous) nobody) in
      frames_moved (record { title = []; step = pos 0; frac = j.frac; sides = sides; atoms = replicate (length f.previous) nobody }) f k size (sym same ∙ size)

  abbrev LeadFrames : ℕ → Frames → Frames → Type 0
  LeadFrames n f g = Lead j tree sides types n f.previous f.current g.previous g.current

  lead_along : (n : ℕ) (f f' g g' : Frames) → f ≡ f' → g ≡ g' → LeadFrames n f g → LeadFrames n f' g'
  lead_along n f f' g g' a b h = subst (λ (x : Frames). LeadFrames n x g') a (subst (LeadFrames n f) b h)

  -- if n steps of the specification lead from f to g, n steps of the model compute g from f
  pub lead_steps : (n : ℕ) (f g : Frames) → length f.previous ≡ length f.current → length g.previous ≡ length g.current → LeadFrames n f g → steps_in Forward motion n f ≡ Some g
  lead_steps n f g same same' h =
      let s = state_at f (pos 0) in
      let t = state_at g (pos 0 +ℤ pos n) in
      let a = at_frames f (pos 0) same in
      let b = at_frames g (pos 0 +ℤ pos n) same' in
      let l = led_to Forward j tree types n s t (lead_along n f (frames_of s) g (frames_of t) (sym a) (sym b) h, refl) in
      ap (steps_in Forward motion n) (sym a) ∙ l.0 ∙ ap Some b

  -- if n steps of the model compute g from f, n steps of the specification lead from f to g
  pub steps_lead : (n : ℕ) (f g : Frames) → length f.previous ≡ length f.current → length g.previous ≡ length g.current → steps_in Forward motion n f ≡ Some g → LeadFrames n f g
  steps_lead n f g same same' h =
      let s = state_at f (pos 0) in
      let t = state_at g (pos 0 +ℤ pos n) in
      let a = at_frames f (pos 0) same in
      let b = at_frames g (pos 0 +ℤ pos n) same' in
      let l = leads Forward j tree types n s t (ap (steps_in Forward motion n) a ∙ h ∙ ap Some (sym b)) refl in
      lead_along n (frames_of s) f (frames_of t) g a b l.0

  -- ---- how many atoms

  sizes : (n : ℕ) (f g : Frames) (r : LeadFrames n f g) (k : ℕ) → k ≤ n → length (r.frame (suc k)) ≡ length (r.frame 1)
  sizes n f g r zero l = refl
  sizes n f g r (suc k) l = (r.steps k (omega (arith, l))).atoms ∙ sizes n f g r k (omega (arith, l))

  -- steps lead to frames of the same atoms
  sized : (n : ℕ) (f g : Frames) → length f.previous ≡ length f.current → LeadFrames n f g → length g.previous ≡ length g.current
  sized zero f g same r = ap length (sym r.ends.0 ∙ r.begins.0) ∙ same ∙ ap length (sym r.begins.1 ∙ r.ends.1)
  sized (suc n) f g same r =
      ap length (sym r.ends.0) ∙ sizes (suc n) f g r n (omega arith) ∙ sym (sizes (suc n) f g r (suc n) (omega arith)) ∙ ap length r.ends.1

  -- ---- reversal

  backwards : (n : ℕ) (f g : Frames) → AreOfSameAtoms f × LeadFrames n f g → AreOfSameAtoms (frames g.current g.previous) × LeadFrames n (frames g.current g.previous) (frames f.current f.previous)
  backwards n f g h =
      let same = sized n f g h.0.alike h.1 in
      let e = lead_steps n f g h.0.alike same h.1 in
      let r = returned Forward motion n f g h.0 e in (
        record { alike = sym r.frames'.alike; previous = r.frames'.current; current = r.frames'.previous },
        steps_lead n (frames g.current g.previous) (frames f.current f.previous) (sym same) (sym h.0.alike) (reversed motion n f g h.0 e),
      )

  -- ---- one step

  abbrev three : Frame → Frame → Frame → ℕ → Frame
  three p c next zero = p
  three p c next (suc zero) = c
  three p c next (suc (suc k)) = next

  one_step : (p c next : Frame) → Follows j tree sides types p c next → (k : ℕ) → k < 1 → Follows j tree sides types (three p c next k) (three p c next (suc k)) (three p c next (suc (suc k)))
  one_step p c next h zero l = h
  one_step p c next h (suc k) l = absurd (omega (arith, l))

  -- if next follows p and c, one step of the model leads from p and c to c and next
  follows_step : (p c next : Frame) → length p ≡ length c → Follows j tree sides types p c next → steps_in Forward motion 1 (frames p c) ≡ Some (frames c next)
  follows_step p c next same h =
      lead_steps 1 (frames p c) (frames c next) same (sym h.atoms) (record { frame = three p c next; begins = (refl, refl); steps = one_step p c next h; ends = (refl, refl) })

  -- if one step of the model leads from p and c to c and next, next follows p and c
  pub step_follows : (p c next : Frame) → length p ≡ length c → length c ≡ length next → steps_in Forward motion 1 (frames p c) ≡ Some (frames c next) → Follows j tree sides types p c next
  step_follows p c next same same' h =
      let r = steps_lead 1 (frames p c) (frames c next) same same' h in
      subst (λ (x : Frame). Follows j tree sides types x c next) r.begins.0
      (subst (λ (y : Frame). Follows j tree sides types (r.frame 0) y next) r.begins.1
      (subst (λ (z : Frame). Follows j tree sides types (r.frame 0) (r.frame 1) z) r.ends.1 (r.steps 0 (omega arith))))

  -- ---- recurrence

  each_on : (n : ℕ) → AreAllFollowed j tree sides types n → LeadOn motion n
  each_on n followed s =
      let f = followed s.at.previous s.at.current s.are s.atoms in
      (frames s.at.current f.0, follows_step s.at.previous s.at.current f.0 s.are.alike f.1)

  recurs : (n : ℕ) (p c : Frame) → AreAllFollowed j tree sides types n → AreOfSameAtoms (frames p c) → length c ≡ n → Recur j tree sides types p c
  recurs n p c followed h size =
      let r = comes_round motion n (each_on n followed) (record { at = frames p c; are = h; atoms = size }) in
      let most = r.at_most in
      let both : 96 * n + 96 * n ≡ 192 * length c = omega (arith, size) in
      let e : 2 ^ (96 * n) * 2 ^ (96 * n) ≡ 2 ^ (192 * length c) = sym (pow-add 2 (96 * n) (96 * n)) ∙ ap (λ m. 2 ^ m) both in
      record {
        steps = r.steps;
        some = r.some;
        at_most = subst (λ m. r.steps ≤ m) e most;
        lead = steps_lead r.steps (frames p c) (frames p c) h.alike h.alike r.back;
      }

-- one past: if n steps lead from two starts to the same frames, the starts are equal
pub one_past : OnePast
one_past j tree sides types n p c p' c' q e h h' r r' =
    let to = frames q e in
    let same = sized j tree sides types n (frames p c) to h.alike r in
    let one = one_start (as_written j sides tree types) n (frames p c) (frames p' c') to h h' (lead_steps j tree sides types n (frames p c) to h.alike same r) (lead_steps j tree sides types n (frames p' c') to h'.alike same r') in
    (ap (λ (f : Frames). f.previous) one, ap (λ (f : Frames). f.current) one)

-- one future: the frames after n steps are unique
pub one_future : OneFuture
one_future j tree sides types n p c q e q' e' same r r' =
    let from = frames p c in
    let there = lead_steps j tree sides types n from (frames q e) same (sized j tree sides types n from (frames q e) same r) r in
    let there' = lead_steps j tree sides types n from (frames q' e') same (sized j tree sides types n from (frames q' e') same r') r' in
    let one = same_Some (frames q e) (frames q' e') (sym there ∙ there') in
    (ap (λ (f : Frames). f.previous) one, ap (λ (f : Frames). f.current) one)

-- reversal: n steps lead from p, c to q, e exactly if n steps lead from e, q to c, p
pub steps_reverse : StepsReverse
steps_reverse j tree sides types n p c q e = (backwards j tree sides types n (frames p c) (frames q e), backwards j tree sides types n (frames e q) (frames c p))

-- if any two frames of n atoms have a next frame, any two recur
pub frames_recur : FramesRecur
frames_recur j tree sides types n p c followed h size = recurs j tree sides types n p c followed h size
