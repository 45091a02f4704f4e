-- Results of commands: the output on success, or the fault and the output on failure.
use Rattle.std.specs.Prelude.{◌≡◌, ◌⊎◌, ℕ, suc, Bool, List, [], ◌∷◌, Result}
use Rattle.std.specs.Result.{MatchResult}
use Rattle.clap.specs.declared.error.kind.ErrorKind.{ErrorKind}
use Rattle.clap.specs.declared.error.kind.ErrorKind.TheVariants.{DisplayHelp, DisplayVersion}
use Rattle.command_line.specs.Commands.{CommandView}
use Rattle.command_line.specs.CommandLine.{IsCommand}
use Rattle.curves.specs.Tables.{IsCurve}
use Rattle.curves.specs.Writing.{WroteSome}
use Rattle.curves.specs.declared.plans.CurvePlan.{CurvePlan}
use Rattle.engine.specs.Engines.{AreSafe, CounterFits}
use Rattle.engine.specs.declared.faults.InputFault.{InputFault}
use Rattle.fallible.specs.Out.{Appends, Output}
use Rattle.job.specs.Values.{JobValue}
use Rattle.runs.specs.Plans.{PlanView, last_text, steps_made}
use Rattle.runs.specs.Shown.{HasShown, IsUnshown}
use Rattle.runs.specs.Visits.{IsShownOfRun, Showing}
use Rattle.runs.specs.Watching.{Report}
use Rattle.runs.specs.declared.faults.RunFault.{RunFault}
use Rattle.cli.specs.Actions.{Action, Contents, Held, OfFiles, Paths, action_of, all_requested, work_of}
use Rattle.cli.specs.Command.{HasPrinted, PrintsSome, version_line}
use Rattle.cli.specs.Failures.{fault_of_run}
use Rattle.cli.specs.Progress.{ReportsBefore, ReportsSteps}
use Rattle.cli.specs.Refusals.{AreTablesUnwritten, IsTaskUndone, IsTextUnwritten, IsUnanswered, IsUndone, IsUnreadOf}
use Rattle.cli.specs.declared.faults.CommandFault.{CommandFault}
use Rattle.cli.specs.declared.faults.CommandFault.TheVariants as fault

-- The result of writing a text (`HasText`). On success the whole text was written. Otherwise there was no text to write
-- (`Why`) and the output is unchanged, or a write failed after a prefix of the text.
abbrev pub WritesText : {T A : Type 0} → (CommandFault A → Type 0) → ((List ℕ → Type 0) → Type 0) → (before after : Output)
    → Result T (CommandFault A) → Type 0
WritesText Why HasText before after result =
    MatchResult result (λ _. HasText (Appends before after)) (IsTextUnwritten Why HasText before after)

-- The result of writing the tables of a job's potential; `Of` says of which job and plan. On success all of them were written.
abbrev pub WritesTables : {T A : Type 0} → (Why : CommandFault A → Type 0) → (Of : (JobValue → CurvePlan → Type 0) → Type 0)
    → (before after : Output) → Result T (CommandFault A) → Type 0
WritesTables Why Of before after result =
    MatchResult result (λ _. Of (λ j plan. WroteSome (IsCurve j plan) (Appends before after))) (AreTablesUnwritten Why Of before after)

-- the result of writing this text, for which memory may run out before the write
abbrev pub WritesLine : {T A : Type 0} → List ℕ → (before after : Output) → Result T (CommandFault A) → Type 0
WritesLine text before after result = WritesText (λ f. f ≡ fault.Memory) (λ Wrote. Wrote text) before after result

-- All texts of a plan were printed, for the states of a run, with all reports of progress (`told`), each in time.
abbrev pub PrintsShown : Showing → (job state : List ℕ) → PlanView → (before after : Output)
    → (told : List Report → Type 0) → Type 0
PrintsShown Shows job state plan before after told = AreSafe job state × CounterFits job state plan.direction plan.steps
    × HasShown (IsShownOfRun Shows job state plan) plan (suc (last_text plan)) (steps_made plan) before after told

-- The fault of a run of these texts, not all of whose texts were printed; and the reports before it.
abbrev pub StopsShown : {A : Type 0} → Showing → (job state : List ℕ) → PlanView → (before after : Output)
    → (told : List Report → Type 0) → CommandFault A → Type 0
StopsShown {A} Shows job state plan before after told f =
    (g : RunFault (InputFault A)) × (f ≡ fault_of_run g) × IsUnshown Shows job state plan before after told g

-- The result of what requests these files. On success it requested all of them, and `Done` holds of their contents.
-- Otherwise one of them wasn't read, and the outputs are unchanged (`Kept`); or all were, and `Undone` holds of their
-- contents and the fault.
abbrev pub EndsWith : {T A : Type 0} → Held → (paths : List (List ℕ)) → (requested requested' : Paths) → (Kept : Type 0)
    → (Done : Contents paths → Type 0) → (Undone : Contents paths → CommandFault A → Type 0)
    → Result T (CommandFault A) → Type 0
EndsWith held paths requested requested' Kept Done Undone result = MatchResult result
    (λ _. (requested' ≡ all_requested requested paths) × OfFiles held paths Done)
    (λ f. (IsUnreadOf held paths requested requested' f × Kept)
    ⊎ ((requested' ≡ all_requested requested paths) × OfFiles held paths (λ contents. Undone contents f)))

-- The result of an action. On success it requested all its files and printed the output of its task. Otherwise the
-- fault explains why not.
abbrev pub Performs : {T A : Type 0} → Held → (requested requested' : Paths) → Action → (before after : Output)
    → Result T (CommandFault A) → Type 0
Performs held requested requested' action before after result = EndsWith held action.files requested requested' (after ≡ before)
    (λ contents. HasPrinted (action.task contents) before after)
    (λ contents f. IsTaskUndone held (action.task contents) before after f) result

-- The result of a command that shows states of a run, from the job and the state at two paths: it printed all texts of
-- its plan, or the run explains the fault.
abbrev pub ShowsFiles : {T A : Type 0} → Held → (requested requested' : Paths) → (job state : List ℕ) → Showing
    → (progress : Bool) → PlanView → (out out' err err' : Output) → Result T (CommandFault A) → Type 0
ShowsFiles held requested requested' job state Shows progress plan out out' err err' result =
    EndsWith held (job ∷ state ∷ []) requested requested' ((out' ≡ out) × (err' ≡ err))
    (λ c. PrintsShown Shows c.0 c.1.0 plan out out' (ReportsSteps progress err err'))
    (λ c f. StopsShown Shows c.0 c.1.0 plan out out' (ReportsSteps progress err err') f) result

-- help or the version was printed to standard output, as the kind of the parser's error requests
abbrev pub HasAnswered : ErrorKind → (before after : Output) → Type 0
HasAnswered kind before after =
    ((kind ≡ DisplayHelp) × PrintsSome before after) ⊎ ((kind ≡ DisplayVersion) × Appends before after version_line)

-- Why the arguments weren't carried out, and the reports on standard error before the fault.
abbrev pub EndsIn : {A : Type 0} → List (List ℕ) → Held → (requested requested' : Paths) → (out out' err err' : Output)
    → CommandFault A → Type 0
EndsIn words held requested requested' out out' err err' f =
    (IsUnanswered words out out' f × (requested' ≡ requested) × (err' ≡ err))
    ⊎ ((c : CommandView) × IsCommand words c × IsUndone held requested requested' (action_of c) out out' f
    × ReportsBefore (work_of held out out' c) err err' f)
