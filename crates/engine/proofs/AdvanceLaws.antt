-- Steps of an engine, one after the other and back.
use Rattle.std.proofs.Common.{◌≡◌, ℕ, zero, suc, ◌+◌, List, length, get_or, Option, Some, None, ℤ, arith, refl, ap, sym, subst, ◌∙◌, zero-add, option_map, slice_index, if◌then◌else◌}
use Rattle.std.specs.Option.{option_and_then}
use Rattle.std.proofs.lemmas.Int.{ints}
use Rattle.std.proofs.lemmas.List.{length-map}
use Rattle.std.proofs.lemmas.Option.{same_Some}
use Rattle.state.specs.StateText.{AtomView, IsState, StateView}
use Rattle.ring_box.specs.Forces.{no_force}
use Rattle.ring_box.specs.declared.vectors.Vector.{Vector}
use Rattle.ring_box.specs.Places.{places_of}
use Rattle.integrator.specs.Frames.{Dynamics, Frame, Frames, frame_forces, frames, moved_frame, next_frame, next_places, opposite, step_in, steps_in}
use Rattle.fixed.specs.Arithmetic.{in_range}
use Rattle.fixed.proofs.IntegerLaws.{in_range_is}
use Rattle.integrator.specs.States.{counter_at, frames_of, moved_state}
use Rattle.integrator.specs.declared.direction.Direction.{Direction}
use Rattle.integrator.specs.declared.direction.Direction.TheVariants.{Back, Forward}
use Rattle.line_text.proofs.StepLaws.{none_is_no_some}
use Rattle.integrator.proofs.CounterLaws.{counter_back, counter_is}
use Rattle.integrator.proofs.StateLaws.{frames_moved, moved_twice}
use Rattle.integrator.proofs.ReturnLaws.{frames_are}
use Rattle.integrator.proofs.NumberLaws.{length-numbers}
use Rattle.integrator.proofs.MotionLaws.{returned}
use Rattle.engine.specs.Engines.{EngineView, Advanced, engine_dynamics}
use Rattle.engine.proofs.SpecifiedTexts.{moved_again}

-- ---- how many atoms

abbrev pub Sized : ℕ → Frames → Type 0
Sized n f = (length f.previous ≡ n) × (length f.current ≡ n)

-- A frame that follows another has the same number of atoms.
pub moved_size : (d : Dynamics) (p c m : Frame) (o : Option (List (Vector ℤ))) → option_map (moved_frame d p c) o ≡ Some m → length m ≡ length c
moved_size d p c m None h = absurd (none_is_no_some m h)
moved_size d p c m (Some forces) h =
    ap length (sym (same_Some (moved_frame d p c forces) m h))
    ∙ length-numbers (λ a. next_places d (slice_index d.masses a) (places_of p a) (places_of c a) (get_or forces a no_force)) 0 (length c)

step_sized : (d : Dynamics) (p c : Frame) (g : Frames) (n : ℕ) (o : Option Frame) → length c ≡ n → next_frame d p c ≡ o → option_map (frames c) o ≡ Some g → Sized n g
step_sized d p c g n None b e h = absurd (none_is_no_some g h)
step_sized d p c g n (Some m) b e h = subst (Sized n) (same_Some (frames c m) g h) (b, moved_size d p c m (frame_forces d c) e ∙ b)

back_sized : (d : Dynamics) (p c : Frame) (g : Frames) (n : ℕ) (o : Option Frame) → length p ≡ n → next_frame d c p ≡ o → option_map (λ n. frames n p) o ≡ Some g → Sized n g
back_sized d p c g n None a e h = absurd (none_is_no_some g h)
back_sized d p c g n (Some m) a e h = subst (Sized n) (same_Some (frames m p) g h) (moved_size d c p m (frame_forces d p) e ∙ a, a)

one_step_sized : (w : Direction) (d : Dynamics) (f g : Frames) (n : ℕ) → Sized n f → step_in w d f ≡ Some g → Sized n g
one_step_sized Forward d f g n s h = step_sized d f.previous f.current g n (next_frame d f.previous f.current) s.1 refl h
one_step_sized Back d f g n s h = back_sized d f.previous f.current g n (next_frame d f.current f.previous) s.0 refl h

steps_sized_at : (w : Direction) (d : Dynamics) (k : ℕ) (f g : Frames) (n : ℕ) (o : Option Frames) → Sized n f → step_in w d f ≡ o → option_and_then (steps_in w d k) o ≡ Some g
    → ((e : Frames) → Sized n e → steps_in w d k e ≡ Some g → Sized n g) → Sized n g
steps_sized_at w d k f g n None s e h more = absurd (none_is_no_some g h)
steps_sized_at w d k f g n (Some m) s e h more = more m (one_step_sized w d f m n s e) h

-- steps keep the number of atoms
pub steps_sized : (w : Direction) (d : Dynamics) (k : ℕ) (f g : Frames) (n : ℕ) → Sized n f → steps_in w d k f ≡ Some g → Sized n g
unfolding steps_in
steps_sized w d zero f g n s h = subst (Sized n) (same_Some f g h) s
steps_sized w d (suc k) f g n s h = steps_sized_at w d k f g n (step_in w d f) s refl h (λ e t i. steps_sized w d k e g n t i)

-- ---- steps and more steps

steps_add_at : (w : Direction) (d : Dynamics) (k m : ℕ) (o : Option Frames) → ((f : Frames) → steps_in w d (k + m) f ≡ option_and_then (steps_in w d m) (steps_in w d k f))
    → option_and_then (steps_in w d (k + m)) o ≡ option_and_then (steps_in w d m) (option_and_then (steps_in w d k) o)
steps_add_at w d k m None more = refl
steps_add_at w d k m (Some f) more = more f

-- k steps and m more are k + m steps
pub steps_added : (w : Direction) (d : Dynamics) (k m : ℕ) (f : Frames) → steps_in w d (k + m) f ≡ option_and_then (steps_in w d m) (steps_in w d k f)
unfolding steps_in
steps_added w d zero m f = ap (λ i. steps_in w d i f) (zero-add m)
steps_added w d (suc k) m f =
    let e : suc k + m ≡ suc (k + m) = omega arith in
    ap (λ i. steps_in w d i f) e ∙ steps_add_at w d k m (step_in w d f) (steps_added w d k m)

-- a counter that many steps further, and then more
pub counters_add : (w : Direction) (z : ℤ) (k m : ℕ) → counter_at w (counter_at w z k) m ≡ counter_at w z (k + m)
counters_add Forward z k m = omega (arith, ints)
counters_add Back z k m = omega (arith, ints)

-- ---- engines

module _ (w : Direction) (n : ℕ) (a b : EngineView) (g : Advanced w n a b) where
  same_motion : engine_dynamics b ≡ engine_dynamics a
  same_motion = ap engine_dynamics g.moved

  step_is : b.state.step ≡ counter_at w a.state.step n
  step_is = ap (λ (e : EngineView). e.state.step) g.moved ∙ (counter_is w a.state.step g.counter n g.counted).0

  arrived : frames_of b.state ≡ g.frames'
  arrived =
      let s = a.state in
      let sized = steps_sized w (engine_dynamics a) n (frames_of s) g.frames' (length s.atoms) (length-map s.atoms (λ (x : AtomView). x.previous), length-map s.atoms (λ (x : AtomView). x.current)) g.stepped in
      ap (λ (e : EngineView). frames_of e.state) g.moved ∙ frames_moved s g.frames' g.counter sized.0 sized.1

-- k steps and m more are k + m
pub steps_add : (w : Direction) (k m : ℕ) (a b c : EngineView) → Advanced w k a b → Advanced w m b c → Advanced w (k + m) a c
steps_add w k m a b c g h =
    let d = engine_dynamics a in
    let fits = λ (z : ℤ). if in_range z then Some z else None in
    record {
      frames' = h.frames';
      stepped =
          steps_added w d k m (frames_of a.state) ∙ ap (option_and_then (steps_in w d m)) g.stepped
          ∙ ap (steps_in w d m) (sym (arrived w k a b g)) ∙ ap (λ (e : Dynamics). steps_in w e m (frames_of b.state)) (sym (same_motion w k a b g)) ∙ h.stepped;
      counter = h.counter;
      counted = ap fits (sym (counters_add w a.state.step k m) ∙ ap (λ z. counter_at w z m) (sym (step_is w k a b g))) ∙ h.counted;
      moved =
          h.moved ∙ ap (λ (e : EngineView). record e { state = moved_state e.state h.frames' h.counter }) g.moved
          ∙ ap (λ (atoms : List AtomView). record a { state = record a.state { step = h.counter; atoms = atoms } }) (moved_twice a.state.atoms g.frames' h.frames');
    }

-- n steps and n back lead to the engine of the start
pub steps_return : (w : Direction) (n : ℕ) (a b : EngineView) → IsState a.state → Advanced w n a b → Advanced (opposite w) n b a
steps_return w n a b fits g =
    let s = a.state in
    let d = engine_dynamics a in
    let back = returned w d n (frames_of s) g.frames' (frames_are s fits) g.stepped in
    let whole : counter_at (opposite w) b.state.step n ≡ s.step = sym (counter_back w s.step b.state.step n (step_is w n a b g)) in
    record {
      frames' = frames_of s;
      stepped = ap (steps_in (opposite w) (engine_dynamics b) n) (arrived w n a b g) ∙ ap (λ (e : Dynamics). steps_in (opposite w) e n g.frames') (same_motion w n a b g) ∙ back.back;
      counter = s.step;
      counted = rw (whole, in_range_is s.step fits.step) refl;
      moved =
          sym (ap (λ (e : EngineView). record e { state = moved_state e.state (frames_of s) s.step }) g.moved
          ∙ ap (λ (atoms : List AtomView). record a { state = record s { atoms = atoms } }) (moved_twice s.atoms g.frames' (frames_of s))
          ∙ ap (λ (t : StateView). record a { state = t }) (sym (moved_again s s refl refl)));
    }
