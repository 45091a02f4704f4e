-- Runs that write the state after all steps, by the contract of runs that show their states.
use Rattle.std.proofs.Common.{◌≡◌, ℕ, suc, ◌+◌, ◌-◌, ◌*◌, ◌≤◌, List, ◌++◌, None, arith, ap, inl, inr, refl, sym, subst, ◌∙◌}
use Rattle.fallible.specs.Out.{Appends, AppendsBeginning, Output, appended}
use Rattle.fallible.proofs.Appends.{appended-nil}
use Rattle.state.specs.StateText.{StateView}
use Rattle.integrator.specs.States.{counter_after}
use Rattle.integrator.specs.declared.direction.Direction.{Direction}
use Rattle.integrator.specs.declared.faults.StepFault.{StepFault}
use Rattle.integrator.specs.declared.faults.StepFault.TheVariants as step
use Rattle.line_text.proofs.StepLaws.{none_is_no_some}
use Rattle.engine.specs.Engines.{AreSafe, HasNoEngineOfTexts}
use Rattle.engine.specs.declared.faults.InputFault.TheVariants as input
use Rattle.engine.specs.RunSpecification.{IsLevesqueVerletRun, WroteLevesqueVerletRun}
use Rattle.engine.proofs.SpecifiedRuns.{run_counted}
use Rattle.engine.proofs.SpecifiedTexts.{one_state}
use Rattle.engine.specs.declared.faults.InputFault.{InputFault}
use Rattle.engine.proofs.OneAnswer.{has_engine}
use Rattle.runs.specs.Plans.{end_plan, last_text, steps_to}
use Rattle.runs.specs.Shown.{AreRejected, HasShown, IsUnshown}
use Rattle.runs.specs.Unwritten.{AreStopped, IsRunUnwritten, IsResourceFault}
use Rattle.runs.specs.Visits.{IsShownOfRun, WroteTexts}
use Rattle.runs.specs.Watching.{Report}
use Rattle.runs.specs.WholeStates.{ShowsState}
use Rattle.runs.specs.declared.faults.RunFault.{RunFault}
use Rattle.runs.specs.declared.faults.RunFault.TheVariants as run
use Rattle.runs.proofs.PlanLaws.{end_text}

-- ---- outputs

same_output : (o m : Output) → m.taken ≡ o.taken → m.failed ≡ o.failed → m ≡ o
same_output o m taken failed =
    ap (λ t. record { taken = t; failed = m.failed }) taken ∙ ap (λ (n : ℕ). record { taken = o.taken; failed = n }) failed

-- an output that took no text is as it was
pub nothing_written : (P : ℕ → List ℕ → Type 0) (o m : Output) → WroteTexts P 0 o m → m ≡ o
nothing_written P o m h = same_output o m (h.appends.taken ∙ ap (appended o.taken) h.texts ∙ appended-nil o.taken) h.appends.failed

-- ---- the one text of the run

no_later : (w : Direction) (n count : ℕ) → count ≤ last_text (end_plan w n) → count ≡ 0
no_later w n count few = let last = end_text w n in omega (arith, few, last)

below : (a b : ℕ) → a ≤ b → (a ≡ b → ⊥) → a ≤ b - 1
below a b few differs = omega (arith, few, differs)

module _ (job state : List ℕ) (w : Direction) (n : ℕ) where
  abbrev IsText : ℕ → List ℕ → Type 0
  IsText = IsShownOfRun ShowsState job state (end_plan w n)

  -- it is the text of the run, and no other is
  run_text : (text : List ℕ) → IsText 0 text
      → IsLevesqueVerletRun job state w n text × ((other : List ℕ) → IsLevesqueVerletRun job state w n other → other ≡ text)
  run_text text h =
      let all : n + 0 * 1 ≡ n = omega arith in
      let same : h.that_text ≡ text = h.after_text.is ∙ sym h.shown in (
        subst (IsLevesqueVerletRun job state w n) same (subst (λ (k : ℕ). IsLevesqueVerletRun job state w k h.that_text) all h.run),
        λ other r. h.only other (subst (λ (k : ℕ). IsLevesqueVerletRun job state w k other) (sym all) r) ∙ same,
      )

  -- If the texts of the plan are written, the text of the run is written.
  pub run_wrote : (done : ℕ) (o m : Output) (told : List Report → Type 0)
      → HasShown IsText (end_plan w n) (suc (last_text (end_plan w n))) done o m told → WroteLevesqueVerletRun job state w n o m
  run_wrote done o m told h =
      let wrote : WroteTexts IsText 1 o m = subst (λ (k : ℕ). WroteTexts IsText (suc k) o m) (end_text w n) h.wrote in
      let is : wrote.text ≡ wrote.texts.1 = wrote.texts.4 ∙ ap (λ (front : List ℕ). front ++ wrote.texts.1) wrote.texts.2 in
      let text = run_text wrote.texts.1 wrote.texts.3 in
      record { text = wrote.texts.1; run = text.0; only = text.1; appends = subst (Appends o m) is wrote.appends }

  -- a whole state has no energy, so only its texts' engine can be missing
  has_no_engine : {A : Type 0} (f : InputFault A) → AreRejected ShowsState job state f → HasNoEngineOfTexts job state f
  has_no_engine f (inl h) = h
  has_no_engine (input.Energy f) (inr h) = absurd h.0
  has_no_engine (input.Job f) (inr h) = absurd h
  has_no_engine (input.State f) (inr h) = absurd h
  has_no_engine (input.System f) (inr h) = absurd h
  has_no_engine input.ForceRange (inr h) = absurd h

  -- If the texts of the plan aren't written, the text of the run isn't written, with the same fault.
  pub run_unwritten : {A : Type 0} (o m : Output) (told : List Report → Type 0) (fault : RunFault (InputFault A))
      → IsUnshown ShowsState job state (end_plan w n) o m told fault → IsRunUnwritten job state w n o m fault
  run_unwritten o m told (run.Rejected f) h = (has_no_engine f h.0, h.1)
  run_unwritten o m told run.Memory h = h.1
  run_unwritten o m told (run.Steps step.StepRange) h = ((h.0.1, h.0.0.0), h.1)
  run_unwritten o m told (run.Steps (step.Memory done)) h =
      let left = h.1 in
      let none = no_later w n left.count left.few in
      let here : steps_to (end_plan w n) left.count ≡ n = ap (steps_to (end_plan w n)) none ∙ omega arith in
      let few : done ≤ n = subst (λ (k : ℕ). done ≤ k) here left.up_to in (
        (below done n few (λ all. left.in_text (all ∙ sym here)), λ _. h.0.1, h.0.0.0),
        nothing_written IsText o m (subst (λ (k : ℕ). WroteTexts IsText k o m) none left.shown.wrote),
      )
  run_unwritten o m told (run.Out f) h =
      let left = h.1 in
      let none = no_later w n left.count left.few in
      let kept : left.between ≡ o = nothing_written IsText o left.between
      (subst (λ (k : ℕ). WroteTexts IsText k o left.between) none left.shown.wrote) in
      let text = run_text left.began.text (subst (λ (k : ℕ). IsText k left.began.text) none left.began.shown) in (
        h.0.0.0,
        record {
          text = left.began.text;
          run = text.0;
          only = text.1;
          beginning = subst
              (λ (x : Output). AppendsBeginning x m left.began.text) kept left.began.beginning;
        },
      )

-- ---- if the texts have a run, and are safe

-- no step is out of the counter's range
only_stops : (job state : List ℕ) (w : Direction) (n : ℕ) (text : List ℕ) (f : StepFault) → IsLevesqueVerletRun job state w n text
    → AreStopped job state w n f → (done : ℕ) × (f ≡ step.Memory done)
only_stops job state w n text step.StepRange r h =
    let out = h.0 in
    let none : counter_after w r.before.step n ≡ None = subst (λ (s : StateView). counter_after w s.step n ≡ None)
    (one_state state out.s r.before out.state_text' r.state_text') out.it in
    absurd (none_is_no_some r.after.step (sym none ∙ run_counted job state w n text r))
only_stops job state w n text (step.Memory done) r h = (done, refl)

-- so the run is written, but for lack of memory or by a failed output
pub run_wants : {A : Type 0} (job state : List ℕ) (w : Direction) (n : ℕ) (text : List ℕ) (before after : Output)
    → IsLevesqueVerletRun job state w n text → AreSafe job state → (fault : RunFault (InputFault A))
    → IsRunUnwritten job state w n before after fault → IsResourceFault fault
run_wants job state w n text before after r safe (run.Rejected f) h = has_engine job state f safe h.0
run_wants job state w n text before after r safe run.Memory h = tt
run_wants job state w n text before after r safe (run.Steps f) h = only_stops job state w n text f r h.0
run_wants job state w n text before after r safe (run.Out f) h = tt
