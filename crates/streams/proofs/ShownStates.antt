-- States that a run shows are a stream of one run.
use Rattle.std.proofs.Common.{◌≡◌, ℕ, ℤ, zero, suc, ◌+◌, List, [], ◌++◌, Option, Some, None, Ok, true, if◌then◌else◌, option_and_then, ap, append_assoc, append-nil, arith, refl, subst, sym, ◌∙◌}
use Rattle.std.proofs.Math.Nat.{suc-mul}
use Rattle.fixed.specs.Arithmetic.{in_range}
use Rattle.engine.proofs.EngineLaws.{job_tree_is}
use Rattle.engine.proofs.SafeRuns.{runs_stay_safe}
use Rattle.engine.proofs.SpecifiedRuns.{leads_back, run_counted, told_of}
use Rattle.engine.proofs.AdvanceLaws.{counters_add, steps_added}
use Rattle.engine.specs.Engines.{AreSafe, EngineView, Advanced}
use Rattle.engine.specs.RunSpecification.{IsLevesqueVerletRun}
use Rattle.integrator.proofs.CounterLaws.{counter_is}
use Rattle.integrator.proofs.ReturnLaws.{system-moved}
use Rattle.integrator.proofs.StateLaws.{moved_twice}
use Rattle.integrator.specs.Frames.{opposite, steps_in}
use Rattle.integrator.specs.Starts.{as_written, system_of}
use Rattle.integrator.specs.States.{counter_at, frames_of, moved_state}
use Rattle.integrator.specs.declared.direction.Direction.{Direction}
use Rattle.potential.specs.Energies.{job_tree}
use Rattle.runs.specs.Plans.{PlanView, steps_to}
use Rattle.runs.specs.Visits.{AreJoined, IsShownOfRun}
use Rattle.runs.specs.WholeStates.{ShowsState}
use Rattle.state.specs.StateText.{AtomView, StateView}
use Rattle.streams.specs.OneRun.{IsOneRun, ShownStatesAreReplayed, goes_on, starts}
use Rattle.streams.specs.Streams.{AreAccepted}
use Rattle.streams.proofs.OneReplay.{led, parts}
use Rattle.streams.proofs.OneRunLaws.{one_runs_are_replayed}

-- ---- accepted states

-- If the last state of a run is safe, all are accepted: the same code serves all.
all_accepted : (job front last : List ℕ) → IsOneRun job front last → AreSafe job last → (k : ℕ) (rest : List ℕ) → AreAccepted job k rest
    → (n : ℕ) × AreAccepted job n (front ++ rest)
all_accepted job front last (starts state t is) safe k rest more = (suc k, (state, rest, refl, safe, more))
all_accepted job front last (goes_on earlier before after direction steps one run) safe k rest more =
    let earlier_safe = runs_stay_safe job after (opposite direction) steps before (leads_back job before direction steps after run) safe in
    let all = all_accepted job earlier before one earlier_safe (suc k) (after ++ rest) (after, rest, refl, safe, more) in
    (all.0, subst (AreAccepted job all.0) (sym (append_assoc earlier after rest)) all.1)

-- ---- a run from a run's state

counted_at : (z k : ℤ) → k ≡ z → in_range k ≡ true → ◌≡◌ {A = Option ℤ} (if in_range z then Some z else None) (Some k)
counted_at z k e h = rw (← e, h) refl

-- the last steps of a run are a run from the state before them
module _ (job state : List ℕ) (safe : AreSafe job state) (w : Direction) (a b : ℕ) (x y : List ℕ)
    (r : IsLevesqueVerletRun job state w a x) (q : IsLevesqueVerletRun job state w (a + b) y) where
  abbrev start : StateView
  start = safe.s

  made' : system_of safe.j r.after ≡ Ok safe.it.system
  made' =
      let l = led job state safe w a x r in
      ap (system_of safe.j) l.2 ∙ system-moved safe.j start (frames_of r.after) r.after.step ∙ safe.it.made

  stepped' : steps_in w (as_written safe.j start.sides safe.it.system.0.tree safe.it.system.1) b (frames_of r.after) ≡ Some (frames_of q.after)
  stepped' =
      let d = as_written safe.j start.sides safe.it.system.0.tree safe.it.system.1 in
      sym (ap (option_and_then (steps_in w d b)) (led job state safe w a x r).0)
      ∙ sym (steps_added w d a b (frames_of start)) ∙ (led job state safe w (a + b) y q).0

  sides : start.sides ≡ r.after.sides
  sides = sym (ap (λ (u : StateView). u.sides) (led job state safe w a x r).2)

  counter : q.after.step ≡ counter_at w r.after.step b
  counter =
      (led job state safe w (a + b) y q).1 ∙ sym (counters_add w start.step a b)
      ∙ ap (λ (z : ℤ). counter_at w z b) (sym (led job state safe w a x r).1)

  moved' : q.after ≡ moved_state r.after (frames_of q.after) q.after.step
  moved' =
      let g = frames_of q.after in
      (led job state safe w (a + b) y q).2
      ∙ ap (λ (atoms : List AtomView). record start { step = q.after.step; atoms = atoms }) (sym (moved_twice start.atoms (frames_of r.after) g))
      ∙ sym (ap (λ (u : StateView). moved_state u g q.after.step) (led job state safe w a x r).2)

  abbrev reached : EngineView
  reached = record { job = safe.j; types = safe.it.system.1; state = q.after }

  went : Advanced w b (record { job = safe.j; types = safe.it.system.1; state = r.after }) reached
  went = record {
    frames' = frames_of q.after;
    stepped = subst (λ (sides : List ℕ). steps_in w (as_written safe.j sides (job_tree safe.j) safe.it.system.1) b (frames_of r.after) ≡ Some (frames_of q.after)) sides
        (subst (λ tree. steps_in w (as_written safe.j start.sides tree safe.it.system.1) b (frames_of r.after) ≡ Some (frames_of q.after))
        (sym (job_tree_is safe.j safe.it.system.0 (parts job state safe).energy_read)) stepped');
    counter = q.after.step;
    counted = counted_at (counter_at w r.after.step b) q.after.step counter
        (counter_is w q.before.step q.after.step (a + b) (run_counted job state w (a + b) y q)).1;
    moved = ap (λ (t : StateView). record { job = safe.j; types = safe.it.system.1; state = t }) moved';
  }

  goes : IsLevesqueVerletRun job x w b y
  goes = subst (IsLevesqueVerletRun job x w b) (sym q.after_text.is)
      (told_of job x w b safe.j r.after safe.it.system safe.job_text r.after_text made' reached went)

-- ---- shown states

module _ (plan : PlanView) (job state : List ℕ) (safe : AreSafe job state) where
  -- a shown state is the state of a run
  run_of : (n : ℕ) (text : List ℕ) → IsShownOfRun ShowsState job state plan n text
      → IsLevesqueVerletRun job state plan.direction (steps_to plan n) text
  run_of n text h =
      subst (IsLevesqueVerletRun job state plan.direction (steps_to plan n)) (h.after_text.is ∙ sym h.shown) h.run

  record ShownRun (n : ℕ) (stream : List ℕ) : Type 0 where
    last : List ℕ
    one : IsOneRun job stream last
    run : IsLevesqueVerletRun job state plan.direction (steps_to plan n) last

  shown_run : (n : ℕ) (stream : List ℕ) → AreJoined (IsShownOfRun ShowsState job state plan) (suc n) stream → ShownRun n stream
  shown_run zero stream (front, last, none, shown, split) =
      let is : stream ≡ last = split ∙ ap (λ (x : List ℕ). x ++ last) none in
      record {
        last = last;
        one = subst (λ (x : List ℕ). IsOneRun job x last) (sym is) (starts last shown.after (record { fits = shown.after_text.fits; is = shown.shown }));
        run = run_of 0 last shown;
      }
  shown_run (suc n) stream (front, last, joined, shown, split) =
      let before = shown_run n front joined in
      let run = run_of (suc n) last shown in
      let more : steps_to plan (suc n) ≡ steps_to plan n + plan.every = omega (arith, suc-mul n plan.every) in
      let next = goes job state safe plan.direction (steps_to plan n) plan.every before.last last before.run
      (subst (λ (k : ℕ). IsLevesqueVerletRun job state plan.direction k last) more run) in
      record {
        last = last;
        one = subst (λ (x : List ℕ). IsOneRun job x last) (sym split) (goes_on front before.last last plan.direction plan.every before.one next);
        run = run;
      }

pub shown_states_are_replayed : ShownStatesAreReplayed
shown_states_are_replayed shown plan job state n stream safe joined =
    let r = shown_run shown job state safe n stream joined in
    let last_safe = runs_stay_safe job state shown.direction (steps_to shown n) r.last r.run safe in
    let all = all_accepted job stream r.last r.one last_safe 0 [] refl in
    (r.last, r.one, one_runs_are_replayed plan job all.0 stream r.last r.one (subst (AreAccepted job all.0) (append-nil stream) all.1))
