-- Runs of the model: the parts of a start, uniqueness of a run for given texts, and reversal.
use Rattle.std.proofs.Common.{◌≡◌, ℕ, true, List, length, ℤ, Option, Some, None, Result, Ok, Err, inl, inr, refl, ap, sym, ◌∙◌}
use Rattle.std.proofs.lemmas.List.{length-map}
use Rattle.fixed.specs.Arithmetic.{in_range}
use Rattle.fixed.proofs.IntegerLaws.{in_range_is}
use Rattle.job.specs.Faults.{Refusal as Refusal'}
use Rattle.job.specs.JobFaults.{JobReadsAs}
use Rattle.job.specs.JobText.{IsJobText, limits}
use Rattle.job.specs.Values.{JobValue}
use Rattle.job.proofs.OneResult.{job_reads_once}
use Rattle.line_text.specs.Steps.{◌>>=◌}
use Rattle.line_text.proofs.StepLaws.{bind_ok, err_is_no_ok, same_ok}
use Rattle.state.specs.StateFaults.{ReadsAs}
use Rattle.state.specs.StateText.{StateView, state_text}
use Rattle.state.specs.declared.faults.StateFault.{StateFault}
use Rattle.state.proofs.StateLaws.{reads_once}
use Rattle.potential.specs.Energies.{Energy}
use Rattle.integrator.specs.Frames.{opposite, steps_in}
use Rattle.integrator.specs.Starts.{Refusal, system_of}
use Rattle.integrator.specs.States.{counter_after, counter_at, frames_of, moved_state}
use Rattle.integrator.specs.declared.direction.Direction.{Direction}
use Rattle.integrator.proofs.CounterLaws.{counter_back, counter_is}
use Rattle.integrator.proofs.MotionLaws.{returned}
use Rattle.integrator.proofs.ReturnLaws.{frames_are, moved_is, refused_ok, system-moved}
use Rattle.integrator.proofs.StateLaws.{at_home, frames_moved, moved_twice}
use Rattle.run_laws.specs.Runs.{IsAfter, IsRun, Ran}
use Rattle.run_laws.specs.Starts.{Law, Start, StartRefusal, StartsAs, in_counter, job_refused, start_at, start_with, state_refused, step_range, system_refused}

-- ---- the start

-- if the job and the state have a system, the start has this system and the counter after n steps
pub start_by : (law : Law) (w : Direction) (n : ℕ) (j : JobValue) (s : StateView) (system : Energy × List ℕ) → system_of j s ≡ Ok system
    → start_with law w n j s ≡ (in_counter (counter_after w s.step n) >>= λ counter. Ok (start_at law j s system counter))
unfolding start_with
start_by law w n j s system e = rw e refl

-- if the system is refused, the start is refused
pub start_refused : (law : Law) (w : Direction) (n : ℕ) (j : JobValue) (s : StateView) (r : Refusal) → system_of j s ≡ Err r → start_with law w n j s ≡ Err (system_refused r)
unfolding start_with
start_refused law w n j s r e = rw e refl

-- if the job and the state have a system, and the counter is in range, there is a start
pub started : (law : Law) (w : Direction) (n : ℕ) (j : JobValue) (s : StateView) (system : Energy × List ℕ) (counter : ℤ) → system_of j s ≡ Ok system → counter_after w s.step n ≡ Some counter
    → start_with law w n j s ≡ Ok (start_at law j s system counter)
started law w n j s system counter e k = start_by law w n j s system e ∙ rw k refl

module _ (law : Law) (job state : List ℕ) (w : Direction) (n : ℕ) where
  -- the three starts of texts
  pub no_job : (f : Refusal') → JobReadsAs limits job (Err f) → StartsAs law job state w n (Err (job_refused f))
  unfolding StartsAs
  no_job f h = inl (f, h, refl)

  pub no_state : (j : JobValue) (f : StateFault) → IsJobText limits job j → ReadsAs state (Err f) → StartsAs law job state w n (Err (state_refused f))
  unfolding StartsAs
  no_state j f h e = inr (inl (j, f, h, e, refl))

  pub are_read : (j : JobValue) (s : StateView) (r : Result Start StartRefusal) → IsJobText limits job j → ReadsAs state (Ok s) → start_with law w n j s ≡ r → StartsAs law job state w n r
  unfolding StartsAs
  are_read j s r h e is = inr (inr (j, s, h, e, sym is))

  -- texts have one start, or one refusal
  pub starts_once : (r t : Result Start StartRefusal) → StartsAs law job state w n r → StartsAs law job state w n t → r ≡ t
  unfolding StartsAs
  starts_once r t (inl (f, a, e)) (inl (g, b, d)) = let same = job_reads_once limits job (Err f) (Err g) a b in cc
  starts_once r t (inl (f, a, e)) (inr (inl (j, g, b, q, d))) = absurd (err_is_no_ok f j (job_reads_once limits job (Err f) (Ok j) a b))
  starts_once r t (inl (f, a, e)) (inr (inr (j, s, b, q, d))) = absurd (err_is_no_ok f j (job_reads_once limits job (Err f) (Ok j) a b))
  starts_once r t (inr (inl (i, f, a, p, e))) (inl (g, b, d)) = absurd (err_is_no_ok g i (job_reads_once limits job (Err g) (Ok i) b a))
  starts_once r t (inr (inl (i, f, a, p, e))) (inr (inl (j, g, b, q, d))) = let same = reads_once state (Err f) (Err g) p q in cc
  starts_once r t (inr (inl (i, f, a, p, e))) (inr (inr (j, s, b, q, d))) = absurd (err_is_no_ok f s (reads_once state (Err f) (Ok s) p q))
  starts_once r t (inr (inr (i, s, a, p, e))) (inl (g, b, d)) = absurd (err_is_no_ok g i (job_reads_once limits job (Err g) (Ok i) b a))
  starts_once r t (inr (inr (i, s, a, p, e))) (inr (inl (j, g, b, q, d))) = absurd (err_is_no_ok g s (reads_once state (Err g) (Ok s) q p))
  starts_once r t (inr (inr (i, s, a, p, e))) (inr (inr (j, u, b, q, d))) =
      let jobs : i ≡ j = same_ok i j (job_reads_once limits job (Ok i) (Ok j) a b) in
      let states : s ≡ u = same_ok s u (reads_once state (Ok s) (Ok u) p q) in
      cc

-- the parts that a start was made of
pub record Parts (law : Law) (job state : List ℕ) (w : Direction) (n : ℕ) (start : Start) : Type 0 where
  pub j : JobValue
  pub s : StateView
  pub system : Energy × List ℕ
  pub counter : ℤ
  pub job_text : IsJobText limits job j
  pub state_read : ReadsAs state (Ok s)
  pub made : system_of j s ≡ Ok system
  pub counted : counter_after w s.step n ≡ Some counter
  pub start_is : start ≡ start_at law j s system counter

counted_ok : (o : Option ℤ) (k : ℤ) → in_counter o ≡ Ok k → o ≡ Some k
counted_ok (Some z) k e = cc
counted_ok None k e = absurd (err_is_no_ok step_range k e)

-- a start is made of the job and the state of the texts, their system and a counter in range
pub parts_of : (law : Law) (job state : List ℕ) (w : Direction) (n : ℕ) (start : Start) → StartsAs law job state w n (Ok start) → Parts law job state w n start
unfolding StartsAs start_with
parts_of law job state w n start (inl (f, a, e)) = absurd (err_is_no_ok (job_refused f) start (sym e))
parts_of law job state w n start (inr (inl (j, f, a, q, e))) = absurd (err_is_no_ok (state_refused f) start (sym e))
parts_of law job state w n start (inr (inr (j, s, a, q, e))) =
    let c = bind_ok _ _ start (sym e) in
    let k = bind_ok _ _ start c.2 in
    record {
      j = j;
      s = s;
      system = c.0;
      counter = k.0;
      job_text = a;
      state_read = q;
      made = refused_ok system_refused (system_of j s) c.0 c.1;
      counted = counted_ok (counter_after w s.step n) k.0 k.1;
      start_is = sym (same_ok _ start k.2);
    }

-- ---- one run

-- equal starts lead to the same state
pub start_moves : (w : Direction) (n : ℕ) (s t : Start) (a : StateView) → s ≡ t → Ran w n s a → Ran w n t a
start_moves w n s t a e r = rw (← e) r

-- texts that have a run have a start
pub run_starts : (law : Law) (job state : List ℕ) (w : Direction) (n : ℕ) (text : List ℕ) (r : StartRefusal) → IsRun law job state w n text → StartsAs law job state w n (Err r) → ⊥
run_starts law job state w n text r run e = err_is_no_ok r run.start (starts_once law job state w n (Err r) (Ok run.start) e run.starts)

-- texts that have a state after the steps have no run but the one to its text
pub only_run : (law : Law) (job state : List ℕ) (w : Direction) (n : ℕ) (text : List ℕ) (a : StateView) → IsAfter law job state w n a → IsRun law job state w n text → text ≡ state_text a
only_run law job state w n text a h r =
    let same = same_ok h.start r.start (starts_once law job state w n (Ok h.start) (Ok r.start) h.starts r.starts) in
    let ran = start_moves w n h.start r.start a same h.ran in
    let frames : ran.frames' ≡ r.ran.frames' = (let e = sym ran.stepped ∙ r.ran.stepped in cc) in
    let here = ran.moved in
    let there = r.ran.moved in
    let written = r.written in
    cc

-- ---- the way back

counter_returns : (w : Direction) (step k : ℤ) (n : ℕ) → in_range step ≡ true → counter_after w step n ≡ Some k → counter_after (opposite w) k n ≡ Some step
counter_returns w step k n fits e =
    let back : counter_at (opposite w) k n ≡ step = sym (counter_back w step k n (counter_is w step k n e).0) in
    rw (back, fits) refl

-- the reverse run of a run is a run
pub run_back : (law : Law) (job state : List ℕ) (w : Direction) (n : ℕ) (text : List ℕ) → IsRun law job state w n text → IsRun law job text (opposite w) n state
run_back law job state w n text r =
    let p = parts_of law job state w n r.start r.starts in
    let s = p.s in
    let d = law p.j s.sides p.system.0 p.system.1 in
    let f = r.ran.frames' in
    let read = p.state_read in
    let stepped = rw p.start_is at r.ran.stepped in
    let back = returned w d n (frames_of s) f (frames_are s read.0) stepped in
    let previous : length f.previous ≡ length s.atoms = back.atoms ∙ length-map s.atoms (λ a. a.previous) in
    let current : length f.current ≡ length s.atoms = sym back.frames'.alike ∙ previous in
    let reached = counter_is w s.step p.counter n p.counted in
    let after = moved_state s f p.counter in
    let is_after : r.after ≡ after = rw p.start_is at r.ran.moved in
    let again : ReadsAs text (Ok after) = (moved_is s f p.counter read.0 back.frames' previous reached.1, r.written ∙ ap state_text is_after) in
    let start : Start = start_at law p.j after p.system s.step in
    record {
      start = start;
      starts = are_read law job text (opposite w) n p.j after (Ok start) p.job_text again
          (started law (opposite w) n p.j after p.system s.step (system-moved p.j s f p.counter ∙ p.made) (counter_returns w s.step p.counter n (in_range_is s.step read.0.step) p.counted));
      after = s;
      ran = record {
        frames' = frames_of s;
        stepped = ap (steps_in (opposite w) d n) (frames_moved s f p.counter previous current) ∙ back.back;
        moved = ap (λ atoms. record s { atoms = atoms }) (sym (moved_twice s.atoms f (frames_of s) ∙ at_home s.atoms));
      };
      written = read.1;
    }
