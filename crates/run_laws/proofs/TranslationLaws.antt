-- Translation invariance: shifting all positions alike keeps differences and forces, and shifts the next frames alike.
use Rattle.std.proofs.Common.{◌≡◌, ℕ, suc, ◌+◌, ◌-◌, ◌*◌, ◌%◌, ◌^◌, ◌<◌, List, length, ℤ, pos, negsuc, arith, refl, ap, sym, subst, ◌∙◌, ◌+ℤ◌, ◌-ℤ◌, ◌*ℤ◌, neg_ℤ}
use Rattle.std.specs.List.{All}
use Rattle.std.proofs.lemmas.Int.{ints}
use Rattle.std.proofs.lemmas.List.{length-map}
use Rattle.std.proofs.lemmas.List.Elements.{All-from_get_or}
use Rattle.fixed.specs.declared.frac.Frac.{Frac}
use Rattle.energy_program.specs.Tree.{Tree}
use Rattle.job.specs.Values.{JobValue}
use Rattle.ring_box.specs.Distances.{square_of}
use Rattle.ring_box.specs.Forces.{acting_distance_of, force_along_of}
use Rattle.ring_box.specs.Places.{ArePlaces, difference, no_place, place_at, places_of, signed}
use Rattle.ring_box.specs.declared.boxes.RingBox.{RingBox}
use Rattle.ring_box.specs.declared.vectors.Place3.{Place3}
use Rattle.ring_box.specs.declared.vectors.Vector.{Vector}
use Rattle.ring_box.proofs.PlaceLemmas.{place_and_turns, place_below}
use Rattle.integrator.specs.Displacement.{next_place_of}
use Rattle.integrator.specs.Frames.{AreOfSameAtoms, frames}
use Rattle.integrator.proofs.ReturnLaws.{frames_are}
use Rattle.engine.specs.RunSpecification.{Follows, Lead, box_of, far, near, next_of, together}
use Rattle.run_laws.specs.Symmetries.{ForcesAreTranslated, RunsAreTranslated, ShiftsAreUndone, StatesAreTranslated, StepsAreTranslated, StepsDrift, TranslatedAreSafe, drifted, place_shifted, shifted, shifted_atom, shifted_frame, shifted_state}
use Rattle.run_laws.proofs.SymmetryLemmas.{follows_along, lead_along, leads_along, place_mapped, run_along, safe_along, state_is, system_mapped}

-- ---- one axis

-- if z = x + turns * 2^32 with x below 2^32, the coordinate of z is x
place_of_turns : (z : ℤ) (x : ℕ) (turns : ℤ) → x < 2 ^ 32 → z ≡ pos x +ℤ turns *ℤ pos (2 ^ 32) → place_at z ≡ x
place_of_turns (pos n) x turns h e = omega (arith, ints)
place_of_turns (negsuc n) x turns h e = omega (arith, ints)

-- two coordinates that are shifted alike keep their difference
rest_shifted : (x y s : ℕ) → x < 2 ^ 32 → y < 2 ^ 32 → ((x + s) % 2 ^ 32 + (2 ^ 32 - (y + s) % 2 ^ 32)) % 2 ^ 32 ≡ (x + (2 ^ 32 - y)) % 2 ^ 32
rest_shifted x y s p q = omega arith

pub difference_shifted : (x y s : ℕ) → x < 2 ^ 32 → y < 2 ^ 32 → difference (place_shifted s x) (place_shifted s y) ≡ difference x y
difference_shifted x y s p q = ap signed (rest_shifted x y s p q)

-- if the coordinates wrap by i, j, k and l turns, 2 c' - p' + d wraps to x' by k + l + j - 2 i turns
turns_left : (p c s t u p' c' x x' : ℕ) (d i j k l : ℤ) → 2 * t ≡ s + u → pos c +ℤ pos t ≡ pos c' +ℤ i *ℤ pos (2 ^ 32) → pos p +ℤ pos s ≡ pos p' +ℤ j *ℤ pos (2 ^ 32)
    → pos (2 * c) -ℤ pos p +ℤ d ≡ pos x +ℤ k *ℤ pos (2 ^ 32) → pos x +ℤ pos u ≡ pos x' +ℤ l *ℤ pos (2 ^ 32)
    → pos (2 * c') -ℤ pos p' +ℤ d ≡ pos x' +ℤ (k +ℤ l +ℤ j -ℤ i -ℤ i) *ℤ pos (2 ^ 32)
turns_left p c s t u p' c' x x' d i j k l m e f g h = omega (arith, ints)

-- If the previous coordinate is shifted by s and the current one by t, the next coordinate is shifted by u, with t the
-- mean of s and u.
next_shifted : (p c s t u : ℕ) (d : ℤ) → 2 * t ≡ s + u → next_place_of (place_shifted s p) (place_shifted t c) d ≡ place_shifted u (next_place_of p c d)
next_shifted p c s t u d m =
    let i = place_and_turns (pos c +ℤ pos t) in
    let j = place_and_turns (pos p +ℤ pos s) in
    let k = place_and_turns (pos (2 * c) -ℤ pos p +ℤ d) in
    let l = place_and_turns (pos (next_place_of p c d) +ℤ pos u) in
    let x = next_place_of p c d in
    place_of_turns (pos (2 * place_shifted t c) -ℤ pos (place_shifted s p) +ℤ d) (place_shifted u x) (k.0 +ℤ l.0 +ℤ j.0 -ℤ i.0 -ℤ i.0) (place_below (pos x +ℤ pos u))
    (turns_left p c s t u (place_shifted s p) (place_shifted t c) x (place_shifted u x) d i.0 j.0 k.0 l.0 m i.1 j.1 k.1 l.1)

back_again : (x s : ℕ) → x < 2 ^ 32 → place_shifted (2 ^ 32 - s % 2 ^ 32) (place_shifted s x) ≡ x
back_again x s h = omega arith

-- each shift is undone by the shift that completes it to a full turn
pub shifts_are_undone : ShiftsAreUndone
shifts_are_undone s = (
  record { x = 2 ^ 32 - s.x % 2 ^ 32; y = 2 ^ 32 - s.y % 2 ^ 32; z = 2 ^ 32 - s.z % 2 ^ 32 },
  λ p h. rw (back_again p.x s.x h.x, back_again p.y s.y h.y, back_again p.z s.z h.z) refl,
)

-- ---- the force of a pair

squares_shifted : (ring : RingBox) (s a b : Place3) → ArePlaces a → ArePlaces b → square_of ring (shifted s a) (shifted s b) ≡ square_of ring a b
squares_shifted ring s a b p q = rw (difference_shifted a.x b.x s.x p.x q.x, difference_shifted a.y b.y s.y p.y q.y, difference_shifted a.z b.z s.z p.z q.z) refl

reached_shifted : (frac : Frac) (ring : RingBox) (core cutoff : ℤ) (s a b : Place3) → ArePlaces a → ArePlaces b
    → acting_distance_of frac ring core cutoff (shifted s a) (shifted s b) ≡ acting_distance_of frac ring core cutoff a b
reached_shifted frac ring core cutoff s a b p q = rw (squares_shifted ring s a b p q) refl

along_shifted : (ring : RingBox) (g : ℤ) (s a b : Place3) → ArePlaces a → ArePlaces b → force_along_of ring g (shifted s a) (shifted s b) ≡ force_along_of ring g a b
along_shifted ring g s a b p q = rw (difference_shifted a.x b.x s.x p.x q.x, difference_shifted a.y b.y s.y p.y q.y, difference_shifted a.z b.z s.z p.z q.z) refl

-- two atoms that are shifted alike have the same force
pub forces_translated : ForcesAreTranslated
forces_translated s j tree sides types pair a b v p q (far e f) = far (reached_shifted j.frac (box_of sides) j.core j.cutoff s a b p q ∙ e) f
forces_translated s j tree sides types pair a b v p q (together e f) = together (squares_shifted (box_of sides) s a b p q ∙ e) f
forces_translated s j tree sides types pair a b v p q (near r g e slope f) =
    near r g (reached_shifted j.frac (box_of sides) j.core j.cutoff s a b p q ∙ e) slope (f ∙ sym (along_shifted (box_of sides) (neg_ℤ g) s a b p q))

-- ---- steps

-- t is the mean of s and u along each axis
record AreEven (s t u : Place3) : Type 0 where
  x : 2 * t.x ≡ s.x + u.x
  y : 2 * t.y ≡ s.y + u.y
  z : 2 * t.z ≡ s.z + u.z

module _ (j : JobValue) (tree : Tree) (sides types : List ℕ) where
  next_along : (s t u : Place3) → AreEven s t u → (m : ℕ) (p c : Place3) (v : Vector ℤ) → next_of j tree sides types m (shifted s p) (shifted t c) v ≡ shifted u (next_of j tree sides types m p c v)
  next_along s t u even m p c v = rw (next_shifted p.x c.x s.x t.x u.x _ even.x, next_shifted p.y c.y s.y t.y u.y _ even.y, next_shifted p.z c.z s.z t.z u.z _ even.z) refl

  next_are_places : (m : ℕ) (p c : Place3) (v : Vector ℤ) → ArePlaces (next_of j tree sides types m p c v)
  next_are_places m p c v = record { x = place_below _; y = place_below _; z = place_below _ }

  frame_is : (p c n : List Place3) → Follows j tree sides types p c n → All ArePlaces n
  frame_is p c n r = All-from_get_or ArePlaces n no_place (λ a l. subst ArePlaces (sym (r.moved a (omega (arith, l, r.atoms)))) (next_are_places _ (places_of p a) (places_of c a) _))

  abbrev AreFrames : List Place3 → List Place3 → Type 0
  AreFrames p c = AreOfSameAtoms (frames p c)

  step_along : (s t u : Place3) → AreEven s t u → (p c n : List Place3) → AreFrames p c → Follows j tree sides types p c n
      → AreFrames c n × Follows j tree sides types (shifted_frame s p) (shifted_frame t c) (shifted_frame u n)
  step_along s t u even p c n are r =
      let alike : length p ≡ length c = are.alike in (
        record { alike = sym r.atoms; previous = are.current; current = frame_is p c n r },
        follows_along j tree sides sides types (shifted s) (shifted t) (shifted u) (λ v. v) (record { next = next_along s t u even; sums = λ force ps a. refl }) p c n
            (λ a l. place_mapped (shifted s) p a (omega (arith, l, alike)))
            (λ q is v h.
            let apart = is.apart in
            let below = is.below in
            forces_translated t j tree sides types q (places_of c q.0) (places_of c q.1) v (are.current q.0 no_place (omega arith)) (are.current q.1 no_place (omega arith)) h)
            r,
      )

  steps_along : (s : Place3) (n : ℕ) (p c q e : List Place3) → AreFrames p c → Lead j tree sides types n p c q e
      → Lead j tree sides types n (shifted_frame s p) (shifted_frame s c) (shifted_frame s q) (shifted_frame s e)
  steps_along s = lead_along j tree sides sides types (λ k. shifted s) AreFrames (λ k. step_along s s s (record { x = omega arith; y = omega arith; z = omega arith }))

  drift_is_even : (s d : Place3) (k : ℕ) → AreEven (drifted s d k) (drifted s d (suc k)) (drifted s d (suc (suc k)))
  drift_is_even s d k = record { x = omega arith; y = omega arith; z = omega arith }

-- if the starting frames are shifted by s, the frames after n steps are shifted by s
pub steps_translated : StepsAreTranslated
steps_translated s j tree sides types n p c q e are l = steps_along j tree sides types s n p c q e are l

-- if the shift grows by d per frame, the frames after n steps are shifted accordingly
pub steps_drift : StepsDrift
steps_drift s d j tree sides types =
    lead_along j tree sides sides types (λ k. shifted (drifted s d k)) (AreFrames j tree sides types)
    (λ k. step_along j tree sides types (drifted s d k) (drifted s d (suc k)) (drifted s d (suc (suc k))) (drift_is_even j tree sides types s d k))

-- if a state is shifted by s, the state after n steps is shifted by s
pub states_translated : StatesAreTranslated
states_translated s w j tree types n before after fits l =
    let are = frames_are before fits in
    leads_along w j tree types n (shifted s) (λ sides. sides) (λ p c. AreOfSameAtoms (frames p c)) before after (steps_along j tree before.sides types s n) are
    (record { alike = sym are.alike; previous = are.current; current = are.previous }) l

-- ---- runs

shifted_are_places : (s p : Place3) → ArePlaces p → ArePlaces (shifted s p)
shifted_are_places s p h = record { x = place_below (pos p.x +ℤ pos s.x); y = place_below (pos p.y +ℤ pos s.y); z = place_below (pos p.z +ℤ pos s.z) }

-- if the starting state is shifted by s, the state that the run writes is shifted by s
pub runs_translated : RunsAreTranslated
runs_translated s job state w n text r =
    run_along job state w n text (shifted s) (λ sides. sides) r (shifted_are_places s) (λ sides h. h) (λ h. h)
    (states_translated s w r.j r.tree r.types n r.before r.after r.state_text'.fits r.leads)

-- if the code is accepted for a state, the code is accepted for the shifted state
pub translated_are_safe : TranslatedAreSafe
translated_are_safe s job state fits =
    safe_along job state (shifted_state s state) fits (state_is (shifted s) (λ sides. sides) state (shifted_are_places s) (λ h. h) fits)
    (λ j. system_mapped j (shifted s) state) (length-map state.atoms (shifted_atom s))
