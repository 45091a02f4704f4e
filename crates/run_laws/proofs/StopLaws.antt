-- A run that stops doesn't end, so texts that have a run are never refused.
use Rattle.std.proofs.Common.{◌≡◌, ℕ, zero, suc, ◌+◌, ◌<◌, List, length, Some, None, arith, refl, ap, sym, ◌∙◌, ◌-◌, Ok, option_map}
use Rattle.std.specs.Option.{option_and_then}
use Rattle.state.specs.StateText.{StateView}
use Rattle.line_text.proofs.StepLaws.{none_is_no_some, same_ok}
use Rattle.integrator.specs.Frames.{Dynamics, Frame, Frames, frames, moved_frame, next_frame, step, step_in, steps_in, exchanged, pair_force}
use Rattle.run_laws.specs.declared.tested_run.slope_faults.SlopeFault.{SlopeFault}
use Rattle.integrator.specs.declared.direction.Direction.{Direction}
use Rattle.integrator.specs.declared.direction.Direction.TheVariants.{Forward, Back}
use Rattle.integrator.specs.States.{frames_of}
use Rattle.integrator.proofs.MotionLaws.{steps_more, exchanged_steps}
use Rattle.run_laws.specs.Runs.{IsRun, Ran}
use Rattle.run_laws.specs.Starts.{Start}
use Rattle.run_laws.proofs.RunLaws.{run_starts, start_moves, starts_once}
use Rattle.run_laws.specs.Stops.{Faults, StopsAt, first_without_force, middle}
use Rattle.run_laws.specs.TestedStarts.{tested}
use Rattle.run_laws.specs.Refusals.{IsRefusal, IsStop, start_refusal}
use Rattle.run_laws.proofs.AddingLaws.{no_forces}
use Rattle.fallible.specs.Failures.{IfRefused}
use Rattle.fallible.specs.declared.failure.Failure.{Failure}
use Rattle.fallible.specs.declared.failure.Failure.TheVariants.{Memory, Refused}
use Rattle.run_laws.specs.declared.tested_run.faults.KernelFault.{KernelFault}
use Rattle.run_laws.specs.declared.tested_run.faults.TestedFault.{TestedFault}
use Rattle.run_laws.specs.declared.tested_run.faults.TestedFault.TheVariants as fault

-- ---- steps

-- a frame that follows two frames is a step forward of them
pub step_from : (d : Dynamics) (p c n : Frame) → next_frame d p c ≡ Some n → step d (frames p c) ≡ Some (frames c n)
step_from d p c n e = ap (option_map (frames c)) e

-- a run forward that stops is, with its frames exchanged, a run back that stops
pub stops_exchanged : (d : Dynamics) (faults : Faults) (n : ℕ) (p c : Frame) (done : ℕ) (pair : ℕ × ℕ) (why : SlopeFault) → StopsAt Forward d faults n (frames c p) done pair why → StopsAt Back d faults n (frames p c) done pair why
stops_exchanged d faults n p c done pair why h =
    record {
      reached = exchanged h.reached;
      steps = exchanged_steps d done (frames c p) ∙ ap (option_map exchanged) h.steps;
      early = h.early;
      first = h.first;
      why = h.why;
    }

-- ---- a run that stops does not end

no_frame : (d : Dynamics) (p c : Frame) (pair : ℕ × ℕ) → first_without_force (pair_force d c) (length c) ≡ Some pair → next_frame d p c ≡ None
no_frame d p c pair e = ap (option_map (moved_frame d p c)) (no_forces (pair_force d c) (length c) pair e)

no_step : (w : Direction) (d : Dynamics) (f : Frames) (pair : ℕ × ℕ) → first_without_force (pair_force d (middle w f)) (length (middle w f)) ≡ Some pair → step_in w d f ≡ None
no_step Forward d f pair e = ap (option_map (frames f.current)) (no_frame d f.previous f.current pair e)
no_step Back d f pair e = ap (option_map (λ n. frames n f.previous)) (no_frame d f.current f.previous pair e)

stays_none : (w : Direction) (d : Dynamics) (f : Frames) (m k : ℕ) → steps_in w d m f ≡ None → steps_in w d (m + k) f ≡ None
stays_none w d f m zero e = let z : m + zero ≡ m = omega arith in rw z e
stays_none w d f m (suc k) e =
    let s : m + suc k ≡ m + k + 1 = omega arith in
    rw s (steps_more w d (m + k) f ∙ ap (option_and_then (step_in w d)) (stays_none w d f m k e))

never_ends : (w : Direction) (d : Dynamics) (faults : Faults) (n : ℕ) (f : Frames) (done : ℕ) (pair : ℕ × ℕ) (why : SlopeFault) → StopsAt w d faults n f done pair why → steps_in w d n f ≡ None
never_ends w d faults n f done pair why h =
    let next : steps_in w d (done + 1) f ≡ None =
    steps_more w d done f ∙ ap (option_and_then (step_in w d)) h.steps ∙ no_step w d h.reached pair h.first in
    let early : done < n = h.early in
    let size : done + 1 + (n - (done + 1)) ≡ n = omega arith in
    rw size at (stays_none w d f (done + 1) (n - (done + 1)) next)

stopped_or_ran : (w : Direction) (n : ℕ) (s : Start) (faults : Faults) (f : KernelFault) (a : StateView) → IsStop w n s faults f → Ran w n s a → ⊥
stopped_or_ran w n s faults f a p q =
    none_is_no_some q.frames' (sym (never_ends w s.dynamics faults n (frames_of s.state) p.done p.pair (record { pc = f.pc; fault = f.fault }) p.stops) ∙ q.stepped)

-- ---- no refusal if there is a run

-- texts that have a tested run are not refused
pub tested_runs : {A : Type 0} → (job state : List ℕ) (w : Direction) (n : ℕ) (text : List ℕ) (f : TestedFault A) → IsRun tested job state w n text → IsRefusal job state w n f → ⊥
tested_runs job state w n text (fault.Start f) r h = run_starts tested job state w n text (start_refusal f) r h
tested_runs job state w n text (fault.Kernel f) r h =
    let same : r.start ≡ h.start = same_ok r.start h.start (starts_once tested job state w n (Ok r.start) (Ok h.start) r.starts h.starts) in
    stopped_or_ran w n h.start h.faults f r.after h.stopped (start_moves w n r.start h.start r.after same r.ran)

-- if texts have a tested run, its only failure is out of memory
pub tested_lacks : {A : Type 0} → (job state : List ℕ) (w : Direction) (n : ℕ) (text : List ℕ) (failure : Failure (TestedFault A)) → IsRun tested job state w n text → IfRefused failure (IsRefusal job state w n) → failure ≡ Memory
tested_lacks job state w n text (Refused f) r h = absurd (tested_runs job state w n text f r h)
tested_lacks job state w n text Memory r h = refl
