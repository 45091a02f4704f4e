-- Visits: texts one after another, the reports between them, and both after a run that ended early.
use Rattle.std.proofs.Common.{◌≡◌, ℕ, zero, suc, ◌+◌, ◌-◌, ◌<◌, ◌≤◌, List, [], ◌++◌, arith, refl, ap, inr, sym, subst, ◌∙◌}
use Rattle.std.specs.List.{All}
use Rattle.std.proofs.lemmas.List.{map-append}
use Rattle.std.proofs.lemmas.List.Elements.{All-append, All-nil}
use Rattle.fallible.specs.Failures.{IfRefused}
use Rattle.fallible.specs.Out.{Output}
use Rattle.fallible.specs.declared.failure.Failure.{Failure}
use Rattle.fallible.specs.declared.failure.Failure.TheVariants.{Memory, Refused}
use Rattle.fallible.proofs.Appends.{appends_both, appends_nothing}
use Rattle.job.specs.Values.{JobValue}
use Rattle.potential.specs.declared.faults.EnergyFault.{EnergyFault}
use Rattle.integrator.specs.declared.faults.StepFault.TheVariants as step
use Rattle.engine.specs.EngineEnergies.{HasNoEnergy}
use Rattle.engine.specs.Engines.{CounterFits, CounterLeaves, EngineView, IsEngineOfTexts, Advanced}
use Rattle.engine.specs.declared.faults.InputFault.{InputFault}
use Rattle.engine.proofs.AdvanceLaws.{steps_add}
use Rattle.engine.proofs.EngineLaws.{safe_texts, texts_fit, texts_leave}
use Rattle.engine.proofs.SpecifiedRuns as specified
use Rattle.state.specs.StateText.{state_text}
use Rattle.runs.specs.Faults.{energy_fault, text_fault}
use Rattle.runs.specs.Observations.{HasEnergy}
use Rattle.runs.specs.Plans.{PlanView, last_text, steps_made, steps_to}
use Rattle.runs.specs.Shown.{AreRejected, FitsPlan, HasBegun, HasShown, IsStopped, IsUnshown, IsWayUnshown, LeavesEngine, LeavesPlan, LeftBeginning, LeftWhole, Unshown}
use Rattle.runs.specs.Visits.{AreJoined, FailsText, IsShownOfRun, IsTextOnWay, Showing, WroteText, WroteTexts}
use Rattle.runs.specs.Watching.{IsInTime, Report, counts_of, hundredths_behind, reports_at}
use Rattle.runs.specs.declared.faults.RunFault.{RunFault}
use Rattle.runs.specs.declared.faults.RunFault.TheVariants as run
use Rattle.runs.specs.declared.faults.TextFault.{TextFault}
use Rattle.runs.specs.declared.faults.TextFault.TheVariants as unwritten
use Rattle.runs.proofs.HundredthLaws.{all_reports, counts_at, hundredths-next, hundredths-zero}
use Rattle.runs.proofs.WayLaws.{job_stays, later_text}

-- ---- texts one after the other

-- an output that is as it was has taken no text
no_text : (P : ℕ → List ℕ → Type 0) (o : Output) → WroteTexts P 0 o o
no_text P o = record { text = []; texts = refl; appends = appends_nothing o }

-- n texts, and then the next
one_more : (P : ℕ → List ℕ → Type 0) (n : ℕ) (o m r : Output) → WroteTexts P n o m → WroteText (P n) m r → WroteTexts P (suc n) o r
one_more P n o m r h t = record {
  text = h.text ++ t.text;
  texts = (h.text, t.text, h.texts, t.shown, refl);
  appends = appends_both
      h.appends t.appends;
}

-- ---- texts of some kind that are of another kind as well

module _ (P Q : ℕ → List ℕ → Type 0) (both : (i : ℕ) (t : List ℕ) → P i t → Q i t) where
  joined_map : (n : ℕ) (text : List ℕ) → AreJoined P n text → AreJoined Q n text
  joined_map zero text h = h
  joined_map (suc n) text h = (h.0, h.1, joined_map n h.0 h.2, both n h.1 h.3, h.4)

  wrote_map : (n : ℕ) (o m : Output) → WroteTexts P n o m → WroteTexts Q n o m
  wrote_map n o m h = record { text = h.text; texts = joined_map n h.text h.texts; appends = h.appends }

  in_time_map : (plan : PlanView) (o : Output) (reports : List Report) → All (IsInTime P plan o) reports → All (IsInTime Q plan o) reports
  in_time_map plan o reports all i d below =
      let h = all i d below in
      record { all = h.all; count = h.count; earlier = h.earlier; next = h.next; wrote = wrote_map h.count o _ h.wrote }

  -- If texts of one kind are texts of another, the first texts and their reports are of the other kind too.
  pub shown_map : (plan : PlanView) (count done : ℕ) (o m : Output) (told told' : List Report → Type 0)
      → ((reports : List Report) → told reports → told' reports)
      → HasShown P plan count done o m told → HasShown Q plan count done o m told'
  shown_map plan count done o m told told' to h = record {
    wrote = wrote_map count o m h.wrote;
    reports = h.reports;
    counts = h.counts;
    in_time = in_time_map plan o h.reports h.in_time;
    told' = to h.reports h.told';
  }

  whole_map : (allocates : Type 0) (plan : PlanView) (done : ℕ) (o m : Output) (told told' : List Report → Type 0)
      → ((reports : List Report) → told reports → told' reports) → LeftWhole allocates P plan done o m told
      → LeftWhole allocates Q plan done o m told'
  whole_map allocates plan done o m told told' to h = record {
    count = h.count;
    few = h.few;
    no_more = h.no_more;
    up_to = h.up_to;
    in_text = h.in_text;
    shown = shown_map plan h.count done o m told told' to h.shown;
  }

  beginning_map : (plan : PlanView) (o m : Output) (told told' : List Report → Type 0)
      → ((reports : List Report) → told reports → told' reports)
      → LeftBeginning P plan o m told → LeftBeginning Q plan o m told'
  beginning_map plan o m told told' to h = record {
    count = h.count;
    few = h.few;
    between = h.between;
    shown = shown_map plan h.count (steps_to plan h.count) o h.between told told' to h.shown;
    began = record { text = h.began.text; shown = both h.count h.began.text h.began.shown; beginning = h.began.beginning };
  }

  -- and why not all of it was
  module _ {R : Type 0} (Fails Fails' : Failure R → Type 0) (Leaves Leaves' Begun Begun' allocates : Type 0)
      (plan : PlanView) (o m : Output) (told told' : List Report → Type 0) (a : (f : Failure R) → Fails f → Fails' f)
      (c : Leaves → Leaves') (d : Begun → Begun') (to : (reports : List Report) → told reports → told' reports) where
    unshown_map : (fault : RunFault R) → Unshown Fails Leaves Begun allocates P plan o m told fault
        → Unshown Fails' Leaves' Begun' allocates Q plan o m told' fault
    unshown_map (run.Rejected f) h = (a (Refused f) h.0, h.1, to [] h.2)
    unshown_map run.Memory h = (a Memory h.0, h.1, to [] h.2)
    unshown_map (run.Steps step.StepRange) h = (c h.0, h.1, to [] h.2)
    unshown_map (run.Steps (step.Memory done)) h = (d h.0, whole_map allocates plan done o m told told' to h.1)
    unshown_map (run.Out f) h = (d h.0, beginning_map plan o m told told' to h.1)

-- ---- texts and reports: `told` relates two values of a watcher, and reports can be joined

module _ {W : Type 0} (told : W → W → List Report → Type 0) (nothing : (w : W) → told w w [])
    (both : (u v w : W) (first more : List Report) → told u v first → told v w more → told u w (first ++ more))
    (IsText : ℕ → List ℕ → Type 0) (plan : PlanView) where
  -- before the first text and the first report
  pub nothing_shown : (o : Output) (w : W) → HasShown IsText plan 0 0 o o (told w w)
  nothing_shown o w = record {
    wrote = no_text IsText o;
    reports = [];
    counts = sym (hundredths-zero (steps_made plan) 0);
    in_time = All-nil (IsInTime IsText plan o);
    told' = nothing w;
  }

  -- the reports of a stretch on the way to the next text are in time
  more_reports : (count first k : ℕ) (o m : Output) (u v w : W) → ((i : ℕ) → i < count → steps_to plan i ≤ first)
      → first + k ≤ steps_to plan count
      → HasShown IsText plan count first o m (told u v) → told v w (reports_at m (steps_made plan) (hundredths_behind (steps_made plan) first k))
      → HasShown IsText plan count (first + k) o m (told u w)
  more_reports count first k o m u v w earlier next h t =
      let n = steps_made plan in
      let more = reports_at m n (hundredths_behind n first k) in
      record {
        wrote = h.wrote;
        reports = h.reports ++ more;
        counts =
            map-append (λ (r : Report). r.done) h.reports more ∙ ap (λ (l : List ℕ). l ++ counts_of more) h.counts
            ∙ ap (λ (l : List ℕ). hundredths_behind n 0 first ++ l) (counts_at m n (hundredths_behind n first k))
            ∙ sym (hundredths-next n first k);
        in_time = All-append (IsInTime IsText plan o) h.reports more h.in_time
            (all_reports (IsInTime IsText plan o) m n first k (λ c low high.
            record {
              all = refl;
              count = count;
              earlier = λ i few. let l = earlier i few in omega (arith, l, low);
              next = omega (arith, high, next);
              wrote = h.wrote;
            }));
        told' = both u v w h.reports more h.told' t;
      }

  -- the steps up to the next text were made
  pub up_to_text : (number first : ℕ) (o m : Output) (u v w : W) → first ≤ steps_to plan number
      → ((i : ℕ) → i < number → steps_to plan i ≤ first)
      → HasShown IsText plan number first o m (told u v)
      → told v w (reports_at m (steps_made plan) (hundredths_behind (steps_made plan) first (steps_to plan number - first)))
      → HasShown IsText plan number (steps_to plan number) o m (told u w)
  up_to_text number first o m u v w few earlier h t =
      let all : first + (steps_to plan number - first) ≡ steps_to plan number = omega (arith, few) in
      subst (λ (k : ℕ). HasShown IsText plan number k o m (told u w)) all
      (more_reports number first (steps_to plan number - first) o m u v w earlier (omega (arith, few)) h t)

-- ---- during the run

module _ (Shows : Showing) (plan : PlanView) (e : EngineView) (number : ℕ) where
  abbrev OnWay : ℕ → List ℕ → Type 0
  OnWay = IsTextOnWay Shows plan e

  module _ (f : EngineView) (went : Advanced plan.direction (steps_to plan number) e f) where
    -- the text of an engine that was reached is a text of the run
    on_way : (text : List ℕ) → Shows.texts f.job number f.state text → OnWay number text
    on_way text shown = record {
      reached = f;
      went = went;
      shown = subst (λ (j : JobValue). Shows.texts j number f.state text) (job_stays plan.direction (steps_to plan number) e f went) shown;
    }

    module _ (o m r : Output) (told : List Report → Type 0) (h : HasShown OnWay plan number (steps_to plan number) o m told) where
      -- the next text was written
      pub text_wrote : WroteText (Shows.texts f.job number f.state) m r → HasShown OnWay plan (suc number) (steps_to plan number) o r told
      text_wrote t = record {
        wrote = one_more OnWay number o m r h.wrote (record { text = t.text; shown = on_way t.text t.shown; appends = t.appends });
        reports = h.reports;
        counts = h.counts;
        in_time = h.in_time;
        told' = h.told';
      }

      -- the next text wasn't written
      pub text_failed : (R : Type 0) (fault : TextFault) → number ≤ last_text plan → FitsPlan plan e
          → FailsText (Shows.texts f.job number f.state) Shows.allocates m r fault
          → IsWayUnshown {R = R} Shows plan e o r told (text_fault (steps_to plan number) fault)
      text_failed R unwritten.Memory few fits fails = (
        fits,
        record {
          count = number;
          few = few;
          no_more = λ i less. later_text plan i number (omega (arith, less));
          up_to = omega arith;
          in_text = λ _. fails.0;
          shown = subst (λ (x : Output). HasShown OnWay plan number (steps_to plan number) o x told) (sym fails.1) h;
        },
      )
      text_failed R (unwritten.Out fault) few fits fails = (
        fits,
        record {
          count = number;
          few = few;
          between = m;
          shown = h;
          began = record { text = fails.text; shown = on_way fails.text fails.shown; beginning = fails.beginning };
        },
      )

    -- the engine after a text that wasn't written
    pub text_leaves : (R : Type 0) (fault : TextFault) → number ≤ last_text plan
        → LeavesEngine {R = R} plan e f (text_fault (steps_to plan number) fault)
    text_leaves R unwritten.Memory few = went
    text_leaves R (unwritten.Out fault) few = (number, few, went)

  module _ (first made done : ℕ) (f g : EngineView) (stopped : IsStopped plan.direction first (steps_to plan number - first) made f g done) where
    -- memory ran out on the way to the next text
    pub way_stopped : {W : Type 0} (told : W → W → List Report → Type 0) (nothing : (w : W) → told w w [])
        (both : (u v w : W) (first more : List Report) → told u v first → told v w more → told u w (first ++ more))
        (o m : Output) (u v w : W) → number ≤ last_text plan → FitsPlan plan e → ((i : ℕ) → i < number → steps_to plan i ≤ first)
        → HasShown OnWay plan number first o m (told u v)
        → told v w (reports_at m (steps_made plan) (hundredths_behind (steps_made plan) first made))
        → FitsPlan plan e × LeftWhole Shows.allocates OnWay plan done o m (told u w)
    way_stopped told nothing both o m u v w few fits earlier h t =
        let short = stopped.few in
        let left : LeftWhole Shows.allocates OnWay plan (first + made) o m (told u w) = record {
          count = number;
          few = few;
          no_more = λ i l. let a = earlier i l in omega (arith, a);
          up_to = omega (arith, short);
          in_text = λ all. absurd (omega (arith, short, all));
          shown = more_reports told nothing both OnWay plan number first made o m u v w earlier (omega (arith, short)) h t;
        } in (fits, subst (λ (k : ℕ). LeftWhole Shows.allocates OnWay plan k o m (told u w)) (sym stopped.is) left)

    -- and the engine then
    pub stopped_leaves : Advanced plan.direction first e f → Advanced plan.direction done e g
    stopped_leaves went =
        subst (λ (k : ℕ). Advanced plan.direction k e g) (sym stopped.is) (steps_add plan.direction first made e f g went stopped.went)

-- ---- from bytes

-- the texts of a run of an engine of texts are texts of runs from these
pub shown_on_way : (Shows : Showing) (job state : List ℕ) (plan : PlanView) (e : EngineView) → IsEngineOfTexts job state e
    → (number : ℕ) (text : List ℕ) → IsTextOnWay Shows plan e number text
    → IsShownOfRun Shows job state plan number text
shown_on_way Shows job state plan e t number text h =
    let w = plan.direction in
    let n = steps_to plan number in
    record {
      said = t.j;
      job_text = t.job_text;
      after = h.reached.state;
      that_text = state_text h.reached.state;
      after_text = specified.reached_text job state w n e h.reached t h.went;
      run = specified.told job state w n e h.reached t h.went;
      only = specified.only_told job state w n e h.reached t h.went;
      shown = subst (λ (v : EngineView). Shows.texts v.job number h.reached.state text) t.it.is h.shown;
    }

-- the energy itself has no accepted code
pub energy_unshown : {A : Type 0} (Shows : Showing) (job state : List ℕ) (plan : PlanView) (e : EngineView) → IsEngineOfTexts job state e
    → (o : Output) (told : List Report → Type 0) → told [] → (failure : Failure (EnergyFault A))
    → IfRefused failure (λ f. Shows.observes × HasNoEnergy e f) → IsUnshown Shows job state plan o o told (energy_fault failure)
energy_unshown Shows job state plan e t o told none (Refused f) h =
    (inr (h.0, record { engine = e; opens = t; why = h.1 }), refl, none)
energy_unshown Shows job state plan e t o told none Memory h = (tt, refl, none)

-- A fault that explains missing texts of the engine of a job and a state explains missing texts of their runs.
pub texts_unshown : {A : Type 0} (Shows : Showing) (job state : List ℕ) (plan : PlanView) (e : EngineView) (o r : Output)
    (told : List Report → Type 0) → IsEngineOfTexts job state e → (Shows.observes → HasEnergy e) → (fault : RunFault (InputFault A))
    → IsWayUnshown Shows plan e o r told fault → IsUnshown Shows job state plan o r told fault
texts_unshown {A} Shows job state plan e o r told t energy =
    let begun : HasBegun Shows job state =
    (safe_texts job state e t, λ observes. record { engine = e; opens = t; has = energy observes }) in
    let Fails : Failure (InputFault A) → Type 0 = λ failure. IfRefused failure (AreRejected Shows job state) in
    unshown_map (IsTextOnWay Shows plan e) (IsShownOfRun Shows job state plan) (shown_on_way Shows job state plan e t)
    {R = InputFault A} (λ _. ⊥) Fails (LeavesPlan plan e) (HasBegun Shows job state × CounterLeaves job state plan.direction plan.steps)
    (FitsPlan plan e) (HasBegun Shows job state × CounterFits job state plan.direction plan.steps) Shows.allocates plan o r told told
    (λ _ none. absurd none) (λ leaves. (begun, texts_leave job state plan.direction plan.steps e t leaves))
    (λ fits. (begun, texts_fit job state plan.direction plan.steps e t fits)) (λ _ t. t)

-- a statement about the reports of a watcher implies each weaker one
pub unshown_told : {A : Type 0} (Shows : Showing) (job state : List ℕ) (plan : PlanView) (o r : Output)
    (told told' : List Report → Type 0) → ((reports : List Report) → told reports → told' reports) → (fault : RunFault (InputFault A))
    → IsUnshown Shows job state plan o r told fault → IsUnshown Shows job state plan o r told' fault
unshown_told {A} Shows job state plan o r told told' to =
    let Fails : Failure (InputFault A) → Type 0 = λ failure. IfRefused failure (AreRejected Shows job state) in
    let Leaves : Type 0 = HasBegun Shows job state × CounterLeaves job state plan.direction plan.steps in
    let Begun : Type 0 = HasBegun Shows job state × CounterFits job state plan.direction plan.steps in
    unshown_map (IsShownOfRun Shows job state plan) (IsShownOfRun Shows job state plan) (λ _ _ shown. shown) {R = InputFault A}
    Fails Fails Leaves Leaves Begun Begun Shows.allocates plan o r told told' (λ _ h. h) (λ h. h) (λ h. h) to
