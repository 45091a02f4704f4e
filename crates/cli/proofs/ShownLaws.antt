-- Ends of the commands that show states of a run: their output, and their progress reports.
use Rattle.std.proofs.Common.{◌≡◌, ◌∙◌, ◌≤◌, ◌*◌, ◌/◌, ◌-◌, ℕ, suc, List, [], ◌∷◌, Bool, true, false, ap, ap₂, arith, codes, inl, inr, map, refl, subst, sym, zero-add, Option, Some, None, Result, Ok, Err}
use Rattle.std.specs.List.{All}
use Rattle.std.proofs.lemmas.List.Elements.{All-head, All-tail}
use Rattle.std.proofs.Math.Nat.{mul-le-mul_right}
use Rattle.command_line.specs.Commands.{RunView, VisitsView}
use Rattle.command_line.specs.Commands as command
use Rattle.fallible.specs.Out.{Output}
use Rattle.integrator.specs.declared.faults.StepFault.TheVariants as step
use Rattle.engine.specs.declared.faults.InputFault.{InputFault}
use Rattle.engine.specs.declared.faults.InputFault.TheVariants as input
use Rattle.runs.specs.Plans.{PlanView, end_plan, last_text, steps_made, steps_to}
use Rattle.runs.specs.Shown.{HasShown, IsUnshown}
use Rattle.runs.specs.Visits.{IsShownOfRun, Showing, WroteTexts}
use Rattle.runs.specs.Watching.{Report, counts_of}
use Rattle.runs.specs.WholeStates.{ShowsState}
use Rattle.runs.specs.declared.faults.RunFault.{RunFault}
use Rattle.runs.specs.declared.faults.RunFault.TheVariants as run
use Rattle.runs.proofs.PlanLaws.{end_text, made_of_end, made_of_visits}
use Rattle.runs.proofs.RunLaws.{run_wrote}
use Rattle.runs.proofs.VisitLaws.{unshown_told}
use Rattle.cli.specs.Actions.{EndOfRun, FirstLines, Held, Paths, StatesOfRun, Task, Work, action_of, of_two, progress_line, report_line, steps_work, visits_action, visits_work}
use Rattle.cli.specs.Command.{HasPrinted, PrintsLines, PrintsRun, PrintsVisits, ReportsAll, ReportsDone, plan_of}
use Rattle.cli.specs.CommandFailure.{ReportsTexts}
use Rattle.cli.specs.Failures.{fault_of_run}
use Rattle.cli.specs.Performed.{Performs, PrintsShown, ShowsFiles, StopsShown}
use Rattle.cli.specs.Progress.{Reports, ReportsBefore, ReportsSteps}
use Rattle.cli.specs.Refusals.{IsRunUndone, IsTaskUndone}
use Rattle.cli.specs.declared.faults.CommandFault.{CommandFault}
use Rattle.cli.proofs.ProgressLaws.{files_told, lines_also, whole_told}

-- ---- standard output

-- the run of a fault, whatever was reported
run_undone : {A : Type 0} (Shows : Showing) (job state : List ℕ) (plan : PlanView) (before after : Output) (told : List Report → Type 0)
    (f : CommandFault A) → StopsShown Shows job state plan before after told f → IsRunUndone Shows job state plan before after f
run_undone Shows job state plan before after told f (g, is, h) =
    (g, is, unshown_told Shows job state plan before after told (λ reports. Unit {0}) (λ reports t. tt) g h)

-- the result of an action that shows states is that of its task
ends : {T A : Type 0} (r : Result T (CommandFault A)) (held : Held) (requested requested' : Paths) (job state : List ℕ)
    (task : List ℕ → List ℕ → Task) (Shows : Showing) (progress : Bool) (plan : PlanView) (out out' err err' : Output)
    → ((j s : List ℕ) → PrintsShown Shows j s plan out out' (ReportsSteps progress err err') → HasPrinted (task j s) out out')
    → ((j s : List ℕ) (f : CommandFault A) → IsRunUndone Shows j s plan out out' f → IsTaskUndone held (task j s) out out' f)
    → ShowsFiles held requested requested' job state Shows progress plan out out' err err' r
    → Performs held requested requested' (of_two job state task) out out' r
ends (Ok x) held requested requested' job state task Shows progress plan out out' err err' done undone (all, (a, known, (b, known', h))) =
    (all, (a, known, (b, known', done a b h)))
ends (Err f) held requested requested' job state task Shows progress plan out out' err err' done undone (inl h) = inl (h.0, h.1.0)
ends (Err f) held requested requested' job state task Shows progress plan out out' err err' done undone
    (inr (all, (a, known, (b, known', h)))) =
    inr (
      all,
      (
        a,
        known,
        (
          b,
          known',
          undone a b f
              (run_undone Shows a b plan out out' (ReportsSteps progress err err') f h),
        ),
      ),
    )

-- of a run
prints_run : (run : RunView) (job state : List ℕ) (before after : Output) (told : List Report → Type 0)
    → PrintsShown ShowsState job state (end_plan run.direction run.steps) before after told → PrintsRun job state run before after
prints_run run job state before after told (safe, fits, shown) =
    (safe, run_wrote job state run.direction run.steps _ before after told shown)

-- of frames, states and table rows
prints_visits : (Shows : Showing) (v : VisitsView) (job state : List ℕ) (before after : Output) (told : List Report → Type 0)
    → PrintsShown Shows job state (plan_of v) before after told → PrintsVisits Shows job state v before after
prints_visits Shows v job state before after told (safe, fits, shown) =
    let all : v.run.steps - 0 ≡ v.run.steps = omega arith in
    let last : last_text (plan_of v) ≡ v.run.steps / v.every = ap (λ (n : ℕ). n / v.every) all in
    (safe, fits, subst (λ (n : ℕ). WroteTexts (IsShownOfRun Shows job state (plan_of v)) (suc n) before after) last shown.wrote)

pub ends_run : {T A : Type 0} (r : Result T (CommandFault A)) (held : Held) (requested requested' : Paths) (run : RunView) (out out' err err' : Output)
    → ShowsFiles held requested requested' run.job run.state ShowsState run.progress (end_plan run.direction run.steps) out out' err err' r
    → Performs held requested requested' (action_of (command.Run run)) out out' r
ends_run r held requested requested' run out out' err err' =
    ends r held requested requested' run.job run.state (λ job state. EndOfRun job state run) ShowsState run.progress
    (end_plan run.direction run.steps) out out' err err' (λ j s. prints_run run j s out out' _) (λ j s f h. h)

pub ends_visits : {T A : Type 0} (r : Result T (CommandFault A)) (held : Held) (requested requested' : Paths) (Shows : Showing) (v : VisitsView)
    (out out' err err' : Output)
    → ShowsFiles held requested requested' v.run.job v.run.state Shows v.run.progress (plan_of v) out out' err err' r
    → Performs held requested requested' (visits_action Shows v) out out' r
ends_visits r held requested requested' Shows v out out' err err' =
    ends r held requested requested' v.run.job v.run.state (λ job state. StatesOfRun Shows job state v) Shows v.run.progress (plan_of v)
    out out' err err' (λ j s. prints_visits Shows v j s out out' _) (λ j s f h. h)

-- ---- progress

-- the number of all steps of a plan
abbrev Made : PlanView → ℕ → Type 0
Made plan all = all ≡ steps_made plan

-- without reports no progress is printed
nothing : (progress : Bool) (before after : Output) → ReportsSteps progress before after [] → after ≡ before
nothing true before after told = told
nothing false before after told = told

-- the lines of reports that are all of n steps
lines_of : (n : ℕ) (reports : List Report) → All (λ (r : Report). r.all ≡ n) reports
    → map report_line reports ≡ map (progress_line (codes "steps") n) (counts_of reports)
lines_of n [] all = refl
lines_of n (r ∷ rs) all = ap₂ (λ line lines. line ∷ lines) (ap (λ k. progress_line (codes "steps") k r.done) (All-head (λ (x : Report). x.all ≡ n) r rs all))
    (lines_of n rs (All-tail (λ (x : Report). x.all ≡ n) r rs all))

-- the reports up to some step
steps_told : (progress : Bool) (IsText : ℕ → List ℕ → Type 0) (plan : PlanView) (count done : ℕ) (out out' before after : Output)
    → done ≤ steps_made plan → HasShown IsText plan count done out out' (ReportsSteps progress before after)
    → PrintsLines progress (FirstLines (codes "steps") (Made plan) done) before after
steps_told true IsText plan count done out out' before after few h = (
  map report_line h.reports,
  (
    steps_made plan,
    refl,
    few,
    lines_of (steps_made plan) h.reports (λ i d below. (h.in_time i d below).all)
        ∙ ap (map (progress_line (codes "steps") (steps_made plan))) h.counts,
  ),
  h.told',
)
steps_told false IsText plan count done out out' before after few h = h.told'

-- Progress up to any text of a plan is the progress of the work if its output fails.
abbrev ReportsToText : Work → PlanView → (before after : Output) → Type 0
ReportsToText work plan before after = (count : ℕ) → count ≤ last_text plan
    → ReportsDone work (steps_to plan count) before after → ReportsTexts work before after

-- the progress before the fault of a run, whose work has the steps of the plan
stops_told : {A : Type 0} (Shows : Showing) (job state : List ℕ) (progress : Bool) (plan : PlanView) (every : Option ℕ) (n : ℕ)
    (out out' err err' : Output) (g : RunFault (InputFault A)) → steps_made plan ≡ n
    → ReportsToText (steps_work progress n every) plan err err'
    → IsUnshown Shows job state plan out out' (ReportsSteps progress err err') g
    → ReportsBefore (steps_work progress n every) err err' (fault_of_run g)
stops_told Shows job state progress plan every n out out' err err' (run.Rejected (input.Job f)) made texts h =
    nothing progress err err' h.2
stops_told Shows job state progress plan every n out out' err err' (run.Rejected (input.State f)) made texts h =
    nothing progress err err' h.2
stops_told Shows job state progress plan every n out out' err err' (run.Rejected (input.Energy f)) made texts h =
    inl (λ x. x, nothing progress err err' h.2)
stops_told Shows job state progress plan every n out out' err err' (run.Rejected (input.System f)) made texts h =
    nothing progress err err' h.2
stops_told Shows job state progress plan every n out out' err err' (run.Rejected input.ForceRange) made texts h =
    nothing progress err err' h.2
stops_told Shows job state progress plan every n out out' err err' run.Memory made texts h =
    inr (inl (λ x. x, nothing progress err err' h.2))
stops_told Shows job state progress plan every n out out' err err' (run.Steps step.StepRange) made texts h =
    nothing progress err err' h.2
stops_told Shows job state progress plan every n out out' err err' (run.Steps (step.Memory done)) made texts h =
    let left = h.1 in
    let most = mul-le-mul_right plan.every left.few in
    let up_to = left.up_to in
    subst (λ k. ReportsDone (steps_work progress k every) done err err') made
    (steps_told progress _ plan left.count done out out' err err' (omega (arith, most, up_to)) left.shown)
stops_told Shows job state progress plan every n out out' err err' (run.Out o) made texts h =
    let left = h.1 in
    let most = mul-le-mul_right plan.every left.few in
    texts left.count left.few
    (subst (λ k. ReportsDone (steps_work progress k every) (steps_to plan left.count) err err') made
    (steps_told progress _ plan left.count (steps_to plan left.count) out left.between err err' (omega (arith, most)) left.shown))

-- the progress of what shows states
reports_shown : {T A : Type 0} (r : Result T (CommandFault A)) (held : Held) (requested requested' : Paths) (job state : List ℕ)
    (Shows : Showing) (progress : Bool) (plan : PlanView) (every : Option ℕ) (n : ℕ) (out out' err err' : Output)
    → steps_made plan ≡ n → ReportsToText (steps_work progress n every) plan err err'
    → ShowsFiles held requested requested' job state Shows progress plan out out' err err' r
    → Reports (steps_work progress n every) err err' r
reports_shown (Ok x) held requested requested' job state Shows progress plan every n out out' err err' made texts (all, (a, known, (b, known', h))) =
    let most : steps_made plan ≤ steps_made plan = omega arith in
    subst (λ k. ReportsAll (steps_work progress k every) err err') made
    (whole_told progress (codes "steps") (Made plan) (steps_made plan) err err' (λ n is. is)
    (steps_told progress _ plan (suc (last_text plan)) (steps_made plan) out out' err err' most h.2))
reports_shown (Err f) held requested requested' job state Shows progress plan every n out out' err err' made texts (inl h) =
    subst (λ o. ReportsBefore (steps_work progress n every) err o f) (sym h.1.1)
    (files_told held (steps_work progress n every) err (job ∷ state ∷ []) requested requested' f (inl (λ x. x)) h.0)
reports_shown (Err f) held requested requested' job state Shows progress plan every n out out' err err' made texts
    (inr (all, (a, known, (b, known', h)))) =
    subst (ReportsBefore (steps_work progress n every) err err') (sym h.1)
    (stops_told Shows a b progress plan every n out out' err err' h.0 made texts h.2)

-- the plan of a run
abbrev end_of : RunView → PlanView
end_of run = end_plan run.direction run.steps

-- a run reports all its steps before its text
pub reports_run : {T A : Type 0} (r : Result T (CommandFault A)) (held : Held) (requested requested' : Paths) (run : RunView) (out out' err err' : Output)
    → ShowsFiles held requested requested' run.job run.state ShowsState run.progress (end_of run) out out' err err' r
    → Reports (steps_work run.progress run.steps None) err err' r
reports_run r held requested requested' run out out' err err' h =
    reports_shown r held requested requested' run.job run.state ShowsState run.progress (end_of run) None run.steps out out' err err'
    made texts h
  where
    made : steps_made (end_of run) ≡ run.steps
    made = made_of_end run.direction run.steps

    texts : ReportsToText (steps_work run.progress run.steps None) (end_of run) err err'
    texts count few told =
        let none : last_text (end_of run) ≡ 0 = end_text run.direction run.steps in
        let last : count ≡ last_text (end_of run) = omega (arith, few, none) in
        let all : steps_to (end_of run) count ≡ run.steps = ap (steps_to (end_of run)) last ∙ made in
        whole_told run.progress (codes "steps") (λ n. n ≡ run.steps) run.steps err err' (λ n is. is)
        (subst (λ (k : ℕ). ReportsDone (steps_work run.progress run.steps None) k err err') all told)

-- likewise for states on the way
pub reports_visits : {T A : Type 0} (r : Result T (CommandFault A)) (held : Held) (requested requested' : Paths) (Shows : Showing)
    (v : VisitsView) (out out' err err' : Output)
    → ShowsFiles held requested requested' v.run.job v.run.state Shows v.run.progress (plan_of v) out out' err err' r
    → Reports (visits_work v) err err' r
reports_visits r held requested requested' Shows v out out' err err' h =
    reports_shown r held requested requested' v.run.job v.run.state Shows v.run.progress (plan_of v) (Some v.every)
    (v.run.steps / v.every * v.every) out out' err err' (made_of_visits v.run.direction v.run.steps v.every) texts h
  where
    texts : ReportsToText (visits_work v) (plan_of v) err err'
    texts count few told =
        let same : steps_to (plan_of v) count ≡ count * v.every = zero-add (count * v.every) in
        lines_also v.run.progress ((visits_work v).part (count * v.every)) (visits_work v).texts err err' (λ lines h. (count, h))
        (subst (λ (k : ℕ). ReportsDone (visits_work v) k err err') same told)
