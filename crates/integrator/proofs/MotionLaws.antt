-- Sequences of steps, and their reversal.
use Rattle.std.proofs.Common.{◌≡◌, ℕ, zero, suc, ◌+◌, List, length, Option, Some, None, ℤ, get_or, arith, refl, ap, sym, ◌∙◌, add-one, option_map, slice_index}
use Rattle.std.specs.Option.{option_and_then}
use Rattle.line_text.proofs.StepLaws.{none_is_no_some}
use Rattle.integrator.specs.Frames.{AreOfSameAtoms, Dynamics, Frame, Frames, frame_forces, frames, moved_frame, next_at, next_frame, next_places, step_in, steps_in, exchanged, opposite}
use Rattle.integrator.specs.Forces.{numbers_from}
use Rattle.integrator.proofs.NumberLaws.{length-numbers, made_of_numbers, number_at}
use Rattle.integrator.proofs.StepLemmas.{there_and_back}
use Rattle.ring_box.specs.Forces.{no_force}
use Rattle.ring_box.specs.Places.{ArePlaces, no_place, places_of}
use Rattle.ring_box.proofs.PlaceLemmas.{place_below}
use Rattle.ring_box.specs.declared.vectors.Place3.{Place3}
use Rattle.ring_box.specs.declared.vectors.Vector.{Vector}
use Rattle.std.specs.List.{All}
use Rattle.std.proofs.lemmas.List.Elements.{All-map}
use Rattle.std.proofs.lemmas.Option.{same_Some}
use Rattle.integrator.specs.declared.direction.Direction.{Direction}
use Rattle.integrator.specs.declared.direction.Direction.TheVariants.{Forward, Back}

-- n steps and one more
more_after : (w : Direction) (d : Dynamics) (n : ℕ) (o : Option Frames)
    → ((f : Frames) → steps_in w d (suc n) f ≡ option_and_then (step_in w d) (steps_in w d n f))
    → option_and_then (steps_in w d (suc n)) o ≡ option_and_then (step_in w d) (option_and_then (steps_in w d n) o)
more_after w d n None h = refl
more_after w d n (Some f) h = h f

only_one : (o : Option Frames) → option_and_then (λ f. Some f) o ≡ o
only_one None = refl
only_one (Some f) = refl

more : (w : Direction) (d : Dynamics) (n : ℕ) (f : Frames) → steps_in w d (suc n) f ≡ option_and_then (step_in w d) (steps_in w d n f)
unfolding steps_in
more w d zero f = only_one (step_in w d f)
more w d (suc n) f = more_after w d n (step_in w d f) (more w d n)

-- n + 1 steps are n steps and one more
pub steps_more : (w : Direction) (d : Dynamics) (n : ℕ) (f : Frames) → steps_in w d (n + 1) f ≡ option_and_then (step_in w d) (steps_in w d n f)
steps_more w d n f = rw add-one (more w d n f)

-- ---- the way back

-- an atom
places_back : (d : Dynamics) (m : ℕ) (p c : Place3) (f : Vector ℤ) → ArePlaces p → next_places d m (next_places d m p c f) c f ≡ p
places_back d m p c f h = simp (there_and_back, h.x, h.y, h.z)

next_on_ring : (d : Dynamics) (p c : Frame) (forces : List (Vector ℤ)) (a : ℕ) → ArePlaces (next_at d p c forces a)
next_on_ring d p c forces a = record { x = place_below _; y = place_below _; z = place_below _ }

-- a frame
moved_on_ring : (d : Dynamics) (p c : Frame) (forces : List (Vector ℤ)) → All ArePlaces (moved_frame d p c forces)
moved_on_ring d p c forces = All-map ArePlaces (next_at d p c forces) (numbers_from 0 (length c)) (λ k e h. next_on_ring d p c forces (get_or (numbers_from 0 (length c)) k e))

length-moved_frame : (d : Dynamics) (p c : Frame) (forces : List (Vector ℤ)) → length (moved_frame d p c forces) ≡ length c
length-moved_frame d p c forces = length-numbers (next_at d p c forces) 0 (length c)

moved_back : (d : Dynamics) (p c : Frame) (forces : List (Vector ℤ)) → length p ≡ length c → All ArePlaces p → moved_frame d (moved_frame d p c forces) c forces ≡ p
moved_back d p c forces same h =
    sym (made_of_numbers (next_at d (moved_frame d p c forces) c forces) no_place (length c) p same (λ a l.
    let m = slice_index d.masses a in
    let v = get_or forces a no_force in
    sym (ap (λ q. next_places d m q (places_of c a) v) (number_at (next_at d p c forces) no_place (length c) a l) ∙ places_back d m (places_of p a) (places_of c a) v (h a no_place (omega arith)))))

-- the frame that a step makes
pub record Followed (d : Dynamics) (p c q : Frame) : Type 0 where
  pub back : next_frame d q c ≡ Some p
  pub alike : length q ≡ length c
  pub on_ring : All ArePlaces q

followed_at : (d : Dynamics) (p c q : Frame) (o : Option (List (Vector ℤ))) → length p ≡ length c → All ArePlaces p
    → option_map (moved_frame d p c) o ≡ Some q
    → (option_map (moved_frame d q c) o ≡ Some p) × (length q ≡ length c) × All ArePlaces q
followed_at d p c q None same h e = absurd (none_is_no_some q e)
followed_at d p c q (Some forces) same h e =
    let made : moved_frame d p c forces ≡ q = same_Some (moved_frame d p c forces) q e in
    rw (← made) (ap Some (moved_back d p c forces same h), length-moved_frame d p c forces, moved_on_ring d p c forces)

followed : (d : Dynamics) (p c q : Frame) → length p ≡ length c → All ArePlaces p → next_frame d p c ≡ Some q → Followed d p c q
followed d p c q same h e =
    let f = followed_at d p c q (frame_forces d c) same h e in
    record { back = f.0; alike = f.1; on_ring = f.2 }

-- ---- the way back, step by step

-- a step's frames are frames again, and one step the other way leads back
pub record Stepped (w : Direction) (d : Dynamics) (f g : Frames) : Type 0 where
  pub back : step_in (opposite w) d g ≡ Some f
  pub frames' : AreOfSameAtoms g
  pub atoms : length g.previous ≡ length f.previous

stepped_at : (d : Dynamics) (p c : Frame) (g : Frames) (o : Option Frame) → AreOfSameAtoms (frames p c) → next_frame d p c ≡ o
    → option_map (frames c) o ≡ Some g → Stepped Forward d (frames p c) g
stepped_at d p c g None h e k = absurd (none_is_no_some g k)
stepped_at d p c g (Some q) h e k =
    let same : frames c q ≡ g = same_Some (frames c q) g k in
    let f = followed d p c q h.alike h.previous e in
    let stepped : Stepped Forward d (frames p c) (frames c q) = record {
      back = ap (option_map (λ n. frames n c)) f.back;
      frames' = record { alike = sym f.alike; previous = h.current; current = f.on_ring };
      atoms = sym h.alike;
    } in
    rw (← same) stepped

backed_at : (d : Dynamics) (p c : Frame) (g : Frames) (o : Option Frame) → AreOfSameAtoms (frames p c) → next_frame d c p ≡ o
    → option_map (λ n. frames n p) o ≡ Some g → Stepped Back d (frames p c) g
backed_at d p c g None h e k = absurd (none_is_no_some g k)
backed_at d p c g (Some q) h e k =
    let same : frames q p ≡ g = same_Some (frames q p) g k in
    let f = followed d c p q (sym h.alike) h.current e in
    let stepped : Stepped Back d (frames p c) (frames q p) = record {
      back = ap (option_map (frames p)) f.back;
      frames' = record { alike = f.alike; previous = f.on_ring; current = h.previous };
      atoms = f.alike;
    } in
    rw (← same) stepped

-- a step from frames leads to frames from which one step the other way leads back
pub stepped : (w : Direction) (d : Dynamics) (f g : Frames) → AreOfSameAtoms f → step_in w d f ≡ Some g → Stepped w d f g
stepped Forward d f g h e = stepped_at d f.previous f.current g (next_frame d f.previous f.current) h refl e
stepped Back d f g h e = backed_at d f.previous f.current g (next_frame d f.current f.previous) h refl e

-- the law of return: n steps one way, and then n the other, lead to the frames of the start
pub record Returned (w : Direction) (d : Dynamics) (n : ℕ) (f g : Frames) : Type 0 where
  pub back : steps_in (opposite w) d n g ≡ Some f
  pub frames' : AreOfSameAtoms g
  pub atoms : length g.previous ≡ length f.previous

return_step : (w : Direction) (d : Dynamics) (n : ℕ) (f g : Frames) (o : Option Frames) → AreOfSameAtoms f → step_in w d f ≡ o → option_and_then (steps_in w d n) o ≡ Some g
    → ((e : Frames) → AreOfSameAtoms e → steps_in w d n e ≡ Some g → Returned w d n e g)
    → Returned w d (suc n) f g
return_step w d n f g None h e k again = absurd (none_is_no_some g k)
return_step w d n f g (Some m) h e k again =
    let t = stepped w d f m h e in
    let r = again m t.frames' k in
    record {
      back = more (opposite w) d n g ∙ ap (option_and_then (step_in (opposite w) d)) r.back ∙ t.back;
      frames' = r.frames';
      atoms = r.atoms ∙ t.atoms;
    }

-- n steps one way from frames lead to frames from which n steps the other way lead back
pub returned : (w : Direction) (d : Dynamics) (n : ℕ) (f g : Frames) → AreOfSameAtoms f → steps_in w d n f ≡ Some g → Returned w d n f g
unfolding steps_in
returned w d zero f g h e =
    let same : f ≡ g = same_Some f g e in
    record { back = ap Some (sym same); frames' = rw (← same) h; atoms = ap (λ (f : Frames). length f.previous) (sym same) }
returned w d (suc n) f g h e = return_step w d n f g (step_in w d f) h refl e (λ m k l. returned w d n m g k l)

-- ---- back is forward with the frames exchanged

exchanged_step_at : (d : Dynamics) (p : Frame) (o : Option Frame) → option_map (λ n. frames n p) o ≡ option_map exchanged (option_map (frames p) o)
exchanged_step_at d p None = refl
exchanged_step_at d p (Some q) = refl

exchanged_steps_at : (d : Dynamics) (n : ℕ) (o : Option Frames) → ((f : Frames) → steps_in Back d n (exchanged f) ≡ option_map exchanged (steps_in Forward d n f))
    → option_and_then (steps_in Back d n) (option_map exchanged o) ≡ option_map exchanged (option_and_then (steps_in Forward d n) o)
exchanged_steps_at d n None h = refl
exchanged_steps_at d n (Some f) h = h f

-- steps back are steps forward with the two frames exchanged
pub exchanged_steps : (d : Dynamics) (n : ℕ) (f : Frames) → steps_in Back d n (exchanged f) ≡ option_map exchanged (steps_in Forward d n f)
unfolding steps_in
exchanged_steps d zero f = refl
exchanged_steps d (suc n) f =
    ap (option_and_then (steps_in Back d n)) (exchanged_step_at d f.current (next_frame d f.previous f.current))
    ∙ exchanged_steps_at d n (step_in Forward d f) (exchanged_steps d n)

-- if n forward steps lead from c, p to e, q, n backward steps lead from p, c to q, e
pub back_from_forward : (d : Dynamics) (n : ℕ) (p c q e : Frame) → steps_in Forward d n (frames c p) ≡ Some (frames e q) → steps_in Back d n (frames p c) ≡ Some (frames q e)
back_from_forward d n p c q e h = exchanged_steps d n (frames c p) ∙ ap (option_map exchanged) h

exchanged_to : (o : Option Frames) (f : Frames) → option_map exchanged o ≡ Some f → o ≡ Some (exchanged f)
exchanged_to None f h = absurd (none_is_no_some f h)
exchanged_to (Some g) f h = ap Some (ap exchanged (same_Some (exchanged g) f h))

-- if n backward steps lead from f to g, n forward steps lead from f with its frames exchanged to g with its frames
-- exchanged
pub forward_from_back : (d : Dynamics) (n : ℕ) (f g : Frames) → steps_in Back d n f ≡ Some g → steps_in Forward d n (exchanged f) ≡ Some (exchanged g)
forward_from_back d n f g h = exchanged_to (steps_in Forward d n (exchanged f)) g (sym (exchanged_steps d n (exchanged f)) ∙ h)
