-- Laws of courses: steps one after the other, and an engine at the frames that its course comes to.
use Rattle.std.proofs.Common.{◌≡◌, ℕ, ◌+◌, ◌<◌, ◌^◌, false, true, List, length, Some, Result, Ok, Err, arith, ap, refl, subst, sym, ◌∙◌, ℤ, pos, negsuc, ◌+ℤ◌, ◌-ℤ◌, rules, to_z, of_z, w64, ltb-true, MatchResult, is_none, option_map}
use mir.Val.{SFits}
use lib.Signed.{mag}
use Rattle.frame_sums.specs.Rounds.{AreForces}
use Rattle.std.specs.Option.{option_and_then}
use Rattle.std.proofs.lemmas.List.{length-map}
use Rattle.fixed.specs.Arithmetic.{in_range}
use Rattle.fixed.proofs.IntegerLaws.{in_range_is}
use Rattle.job.specs.declared.jobs.Job.{Job}
use Rattle.state.specs.StateText.{StateView}
use Rattle.state.specs.StateViews.{atom_view, state_view}
use Rattle.state.specs.declared.states.State.{State}
use Rattle.integrator.specs.States.{counter_after, counter_at, frames_of, moved_state}
use Rattle.integrator.specs.Frames.{Dynamics, Frame, Frames, frames, next_frame, step_in, steps_in}
use Rattle.integrator.specs.declared.direction.Direction.{Direction}
use Rattle.integrator.specs.declared.direction.Direction.TheVariants.{Back, Forward}
use Rattle.integrator.specs.declared.systems.System.{System}
use Rattle.integrator.proofs.CounterLaws.{counter_fits, counter_stays}
use Rattle.integrator.proofs.StateLaws.{frames_moved}
use Rattle.potential.specs.declared.slope_kernels.SlopeKernel.{SlopeKernel}
use Rattle.engine.specs.Counting.{AllFit}
use Rattle.engine.specs.Courses.{HasGone, HasRun, IsSameCourse, frames_in, middle_in}
use Rattle.engine.specs.declared.courses.Course.{Course}
use Rattle.engine.specs.EngineViews.{IsEngine, IsSystemOf, engine_view}
use Rattle.engine.specs.Engines.{Advanced, IsTyped, engine_dynamics}
use Rattle.frame_sums.specs.SafeSystems.{safe_dynamics}
use Rattle.engine.proofs.AdvanceLaws.{Sized, counters_add, steps_added, steps_sized}
use Rattle.engine.proofs.EngineLaws.{typed_on}

same_frames : {A : Type 0} (a b : Course A) → IsSameCourse a b → frames_in b ≡ frames_in a
same_frames a b same = ap (λ (p : Frame). frames p b.frames.current.items) same.previous ∙ ap (frames a.frames.previous.items) same.current

-- ---- steps one after the other

-- no step
pub stays : {A : Type 0} (w : Direction) (c : Course A) → HasGone w 0 c c
unfolding steps_in
stays w c = record { system = refl; stepped = refl; counted = sym (counter_stays w c.step) }

-- k steps, and then m more
pub goes_on : {A : Type 0} (w : Direction) (k m : ℕ) (a b c : Course A) → HasGone w k a b → HasGone w m b c → HasGone w (k + m) a c
goes_on {A} w k m a b c p q =
    let d = safe_dynamics a.system.system in
    record {
      system = q.system ∙ p.system;
      stepped =
          steps_added w d k m (frames_in a) ∙ ap (option_and_then (steps_in w d m)) p.stepped
          ∙ subst (λ (s : System (SlopeKernel A) A). steps_in w (safe_dynamics s) m (frames_in b) ≡ Some (frames_in c)) p.system q.stepped;
      counted = q.counted ∙ ap (λ z. counter_at w z m) p.counted ∙ counters_add w a.step k m;
    }

-- one step in a direction, from the frame that it makes
only_one : (w : Direction) (d : Dynamics) (f g : Frames) → step_in w d f ≡ Some g → steps_in w d 1 f ≡ Some g
unfolding steps_in
only_one w d f g e = rw e refl

pub goes_forward : {A : Type 0} (a b : Course A) (n : Frame) → b.system.system ≡ a.system.system → next_frame (safe_dynamics a.system.system) a.frames.previous.items a.frames.current.items ≡ Some n
    → b.frames.previous.items ≡ a.frames.current.items → b.frames.current.items ≡ n → b.step ≡ counter_at Forward a.step 1 → HasGone Forward 1 a b
goes_forward a b n same e previous current count =
    let d = safe_dynamics a.system.system in
    let p = a.frames.previous.items in
    let c = a.frames.current.items in
    let made : frames c n ≡ frames_in b = ap (λ (q : Frame). frames q n) (sym previous) ∙ ap (frames b.frames.previous.items) (sym current) in
    record { system = same; stepped = only_one Forward d (frames p c) (frames c n) (ap (option_map (frames c)) e) ∙ ap Some made; counted = count }

pub goes_back : {A : Type 0} (a b : Course A) (n : Frame) → b.system.system ≡ a.system.system → next_frame (safe_dynamics a.system.system) a.frames.current.items a.frames.previous.items ≡ Some n
    → b.frames.current.items ≡ a.frames.previous.items → b.frames.previous.items ≡ n → b.step ≡ counter_at Back a.step 1 → HasGone Back 1 a b
goes_back a b n same e current previous count =
    let d = safe_dynamics a.system.system in
    let p = a.frames.previous.items in
    let c = a.frames.current.items in
    let made : frames n p ≡ frames_in b = ap (λ (q : Frame). frames n q) (sym current) ∙ ap (λ (q : Frame). frames q b.frames.current.items) (sym previous) in
    record { system = same; stepped = only_one Back d (frames p c) (frames n p) (ap (option_map (λ n. frames n p)) e) ∙ ap Some made; counted = count }

-- a course that stays the same makes no step
pub same_last : {A : Type 0} (w : Direction) (n : ℕ) (a b c : Course A) → HasGone w n a b → IsSameCourse b c → HasGone w n a c
same_last w n a b c gone same =
    record { system = same.system ∙ gone.system; stepped = gone.stepped ∙ ap Some (sym (same_frames b c same)); counted = same.step ∙ gone.counted }

-- If two courses are the same, forces of the middle frame of one are forces of the middle frame of the other.
pub still_forces : {A : Type 0} (w : Direction) (a b : Course A) (forces : List ℤ) → IsSameCourse a b → AreForces a.system.system (middle_in w a) forces → AreForces b.system.system (middle_in w b) forces
still_forces Forward a b forces same are = rw (same.current, same.system) are
still_forces Back a b forces same are = rw (same.previous, same.system) are

-- a number in range fits 64 bits
pub signed : (z : ℤ) → in_range z ≡ true → SFits w64 z
signed (pos n) h = record { sfits = ltb-true n (2 ^ 63) h }
signed (negsuc n) h = record { sfits = ltb-true n (2 ^ 63) h }

-- the counter after one step, as the code counts
pub counted_up : (z : ℤ) → mag z < 2 ^ 63 → is_none (counter_after Forward z 1) ≡ false → to_z w64 (of_z w64 (to_z w64 (of_z w64 z) +ℤ pos 1)) ≡ counter_at Forward z 1
counted_up z h fits =
    let this : SFits w64 z = record { sfits = h } in
    let next : SFits w64 (z +ℤ pos 1) = signed (z +ℤ pos 1) (counter_fits Forward z 1 fits) in
    let same : to_z w64 (of_z w64 z) ≡ z = search rules in
    rw same (search rules)

pub counted_down : (z : ℤ) → mag z < 2 ^ 63 → is_none (counter_after Back z 1) ≡ false → to_z w64 (of_z w64 (to_z w64 (of_z w64 z) -ℤ pos 1)) ≡ counter_at Back z 1
counted_down z h fits =
    let this : SFits w64 z = record { sfits = h } in
    let next : SFits w64 (z -ℤ pos 1) = signed (z -ℤ pos 1) (counter_fits Back z 1 fits) in
    let same : to_z w64 (of_z w64 z) ≡ z = search rules in
    rw same (search rules)

-- the counter fits after one step more
pub fits_next : {A : Type 0} (w : Direction) (n k : ℕ) (a b : Course A) → AllFit w a.step n → HasGone w k a b → k < n → is_none (counter_after w b.step 1) ≡ false
fits_next w n k a b all gone few =
    let next : counter_at w b.step 1 ≡ counter_at w a.step (k + 1) = ap (λ z. counter_at w z 1) gone.counted ∙ counters_add w a.step k 1 in
    let fits = counter_fits w a.step (k + 1) (all (k + 1) (omega arith)) in
    rw (next, fits) refl

-- ---- engines at the frames of their courses

-- the frames that steps of a state come to have its atoms
reached_sizes : (w : Direction) (d : Dynamics) (n : ℕ) (s : StateView) (g : Frames) → steps_in w d n (frames_of s) ≡ Some g → Sized (length s.atoms) g
reached_sizes w d n s g e = steps_sized w d n (frames_of s) g (length s.atoms) (length-map s.atoms (λ a. a.previous), length-map s.atoms (λ a. a.current)) e

module _ {A : Type 0} (w : Direction) (n : ℕ) (j : Job A) (s : State A) (a b : Course A) (h : IsEngine j s a) (gone : HasGone w n a b) where
  -- the steps of the course, from the frames of the state
  steps_of_state : steps_in w (engine_dynamics (engine_view j s a.system.system)) n (frames_of (state_view s)) ≡ Some (frames_in b)
  steps_of_state =
      ap (λ (d : Dynamics). steps_in w d n (frames_of (state_view s))) (sym h.system.dynamics)
      ∙ ap (steps_in w (safe_dynamics a.system.system) n) (sym h.frames') ∙ gone.stepped

  sizes : Sized (length s.atoms.items) (frames_in b)
  sizes = subst (λ (k : ℕ). Sized k (frames_in b)) (length-map s.atoms.items atom_view) (reached_sizes w (engine_dynamics (engine_view j s a.system.system)) n (state_view s) (frames_in b) steps_of_state)

  -- the engine whose state is set to the course's frames differs in that state only
  view-moved : (t : State A) → state_view t ≡ moved_state (state_view s) (frames_in b) b.step → engine_view j t b.system.system
      ≡ record (engine_view j s a.system.system) { state = moved_state (state_view s) (frames_in b) b.step }
  view-moved t moved =
      ap (λ (y : System (SlopeKernel A) A). engine_view j t y) gone.system
      ∙ ap (λ (v : StateView). record (engine_view j s a.system.system) { state = v }) moved

  -- the state that is set to the course's frames makes an engine with it again
  is_engine : (t : State A) → state_view t ≡ moved_state (state_view s) (frames_in b) b.step → t.ring ≡ s.ring → length t.atoms.items ≡ length s.atoms.items → IsEngine j t b
  is_engine t moved ring atoms =
      let size = reached_sizes w (engine_dynamics (engine_view j s a.system.system)) n (state_view s) (frames_in b) steps_of_state in
      let at : frames_of (state_view t) ≡ (frames_in b) = ap frames_of moved ∙ frames_moved (state_view s) (frames_in b) b.step size.0 size.1 in
      record {
        system = subst (λ (y : System (SlopeKernel A) A). IsSystemOf j t y) (sym gone.system) (rw (ring, atoms) h.system);
        typed = subst IsTyped (sym (view-moved t moved)) (typed_on (engine_view j s a.system.system) (frames_in b) b.step h.typed);
        frames' = sym at;
        step = sym (ap (λ (v : StateView). v.step) moved);
      }

  -- and the engine has gone as far
  has_gone : (t : State A) → state_view t ≡ moved_state (state_view s) (frames_in b) b.step → in_range b.step ≡ true → Advanced w n (engine_view j s a.system.system) (engine_view j t b.system.system)
  has_gone t moved fits =
      let count : b.step ≡ counter_at w s.step n = gone.counted ∙ ap (λ z. counter_at w z n) h.step in
      let inside : in_range (counter_at w s.step n) ≡ true = ap in_range (sym count) ∙ fits in
      record {
        frames' = (frames_in b);
        stepped = steps_of_state;
        counter = b.step;
        counted = rw (inside, count) refl;
        moved = view-moved t moved;
      }

-- ---- runs

-- a run has gone some way, all steps or fewer
some_way : {A : Type 0} (w : Direction) (n : ℕ) (a b : Course A) (r : Result (Unit {0}) ℕ) → HasRun w n a b r → (k : ℕ) × HasGone w k a b
some_way w n a b (Ok _) run = (n, run)
some_way w n a b (Err done) run = (done, run.1)

module _ {A : Type 0} (w : Direction) (n : ℕ) (j : Job A) (s : State A) (a b : Course A) (h : IsEngine j s a) (r : Result (Unit {0}) ℕ) (run : HasRun w n a b r) where
  way : (k : ℕ) × HasGone w k a b
  way = some_way w n a b r run

  pub ran_sizes : Sized (length s.atoms.items) (frames_in b)
  ran_sizes = sizes w way.0 j s a b h way.1

  pub ran_engine : (t : State A) → state_view t ≡ moved_state (state_view s) (frames_in b) b.step → t.ring ≡ s.ring → length t.atoms.items ≡ length s.atoms.items → IsEngine j t b
  ran_engine = is_engine w way.0 j s a b h way.1

-- and the engine has gone as far
pub ran_steps : {A : Type 0} (w : Direction) (n : ℕ) (j : Job A) (s t : State A) (a b : Course A) (r : Result (Unit {0}) ℕ) → IsEngine j s a → state_view t ≡ moved_state (state_view s) (frames_in b) b.step → HasRun w n a b r
    → MatchResult r (λ _. Advanced w n (engine_view j s a.system.system) (engine_view j t b.system.system)) (λ done. (done < n) × Advanced w done (engine_view j s a.system.system) (engine_view j t b.system.system))
ran_steps w n j s t a b (Ok _) h moved run = has_gone w n j s a b h run t moved (in_range_is b.step b.step_fits)
ran_steps w n j s t a b (Err done) h moved run = (run.0, has_gone w done j s a b h run.1 t moved (in_range_is b.step b.step_fits))
