-- Progress lines: which ones a command prints before it ends, with success or with a fault.
use Rattle.std.specs.Prelude.{◌≡◌, ◌⊎◌, ◌+◌, ◌≤◌, ℕ, List, [], ◌∷◌, ◌++◌, Bool, true, false, Result, codes, map}
use Rattle.std.proofs.Common.{arith, refl, subst, sym}
use Rattle.std.proofs.lemmas.List.{map-append}
use Rattle.std.specs.Result.{MatchResult}
use Rattle.engine.specs.declared.faults.InputFault.{InputFault}
use Rattle.engine.specs.declared.faults.InputFault.TheVariants as input
use Rattle.curves.specs.Tables.{IsCurve, curve_parts}
use Rattle.curves.specs.Writing.{IsCurveUnwritten, WroteSome}
use Rattle.curves.specs.declared.faults.CurveFault.{CurveFault}
use Rattle.curves.specs.declared.plans.CurvePlan.{CurvePlan}
use Rattle.fallible.specs.Out.{Appends, Output}
use Rattle.integrator.specs.declared.faults.StepFault.TheVariants as step
use Rattle.job.specs.Values.{JobValue}
use Rattle.command_line.specs.Commands.{CommandView}
use Rattle.command_line.specs.CommandLine.{IsCommand}
use Rattle.cli.specs.Actions.{Held, Work, report_line, work_of}
use Rattle.cli.specs.Command.{PrintsEach, PrintsIfCounted, PrintsLines, PrintsProgress, ReportsAll, ReportsDone}
use Rattle.cli.specs.CommandFailure.{ReportsCode, ReportsMemory, ReportsRead, ReportsReplayed, ReportsTexts}
use Rattle.cli.specs.Reports.{IsReported}
use Rattle.runs.specs.Watching.{Report, hundredths, hundredths_behind}
use Rattle.runs.proofs.HundredthLaws.{hundredths-add, hundredths-zero}
use Rattle.streams.specs.Watched.{IsUnrun}
use Rattle.cli.specs.declared.faults.CommandFault.{CommandFault}
use Rattle.cli.specs.declared.faults.CommandFault.TheVariants as fault
use Rattle.cli.specs.declared.progress.Counted.{Counted}
use Rattle.cli.specs.declared.progress.Counted.TheVariants as counted

-- ---- before a fault

-- Progress lines before the state with this number, from 1, is rejected with this fault: of a replay, those before the line
-- of the segment to it. If it is the first state, or is rejected before its segment is run, they are those before a state
-- is read.
abbrev pub ReportsState : {A : Type 0} → Work → (before after : Output) → (number : ℕ) → InputFault A → Type 0
ReportsState work before after number f = ReportsReplayed work before after
    (PrintsLines work.progress (λ lines. (((number ≡ 1) ⊎ IsUnrun f) × work.read lines) ⊎ work.texts lines) before after)

-- Progress lines of a work before this fault. If memory ran out after some steps, the output failed, code was rejected,
-- or a stream can't be read on, the lines are as the command specification says. A stream that isn't of one run ends after
-- all lines of its replay. Before any other fault, except of a state of a stream, the output is unchanged.
abbrev pub ReportsBefore : {A : Type 0} → Work → (before after : Output) → CommandFault A → Type 0
ReportsBefore work before after (fault.Steps (step.Memory done)) = ReportsDone work done before after
ReportsBefore work before after (fault.Out o) = ReportsTexts work before after
ReportsBefore work before after (fault.Rejected (input.Energy f)) = ReportsCode work before after
ReportsBefore work before after fault.Memory = ReportsMemory work before after
ReportsBefore work before after (fault.CannotRead path) = ReportsRead work before after
ReportsBefore work before after (fault.InState number (input.Energy f)) = ReportsCode work before after
ReportsBefore work before after (fault.InState number f) = ReportsState work before after number f
ReportsBefore work before after (fault.NotOneRun segments) = ReportsReplayed work before after (ReportsAll work before after)
ReportsBefore work before after _ = after ≡ before

-- the progress lines of a work that ended with this result: all of them on success, otherwise those before the fault
abbrev pub Reports : {T A : Type 0} → Work → (before after : Output) → Result T (CommandFault A) → Type 0
Reports work before after result = MatchResult result (λ _. ReportsAll work before after) (ReportsBefore work before after)

-- Standard error before the text of a fault, with standard output before and after: only the progress lines of the
-- command. Standard error is unchanged if the arguments name no command, and may be unchanged if memory ran out before
-- any output.
abbrev pub IsBegun : {A : Type 0} → List (List ℕ) → Held → (out out' : Output) → CommandFault A → (before after : Output) → Type 0
IsBegun words held out out' f before after =
    ((after ≡ before) × (((f ≡ fault.Memory) × (out' ≡ out)) ⊎ ((c : CommandView) → IsCommand words c → ⊥)))
    ⊎ ((c : CommandView) × IsCommand words c × ReportsBefore (work_of held out out' c) before after f)

-- standard error after a fault: the progress lines before the fault (`IsBegun`), then this text
abbrev pub SaysBehind : {A : Type 0} → List (List ℕ) → Held → (out out' : Output) → CommandFault A → (before after : Output) → List ℕ
    → Type 0
SaysBehind words held out out' f before after text =
    (between : Output) × IsBegun words held out out' f before between × PrintsIfCounted between after text

-- the fault was reported with this status and a text on standard error, after the progress lines before it
abbrev pub IsTold : {A : Type 0} → List (List ℕ) → Held → (out out' : Output) → CommandFault A → ℕ → (before after : Output) → Type 0
IsTold words held out out' f result before after = IsReported f result (SaysBehind words held out out' f before after)

-- ---- watchers

-- a progress line was printed for each of these numbers of parts if the flag is true; otherwise the output is unchanged
abbrev pub ReportsIf : (progress : Bool) → (word : List ℕ) → (all : ℕ) → (before after : Output) → (counts : List ℕ) → Type 0
ReportsIf true word all before after counts = PrintsProgress word all before after counts
ReportsIf false word all before after counts = after ≡ before

-- the progress lines of a work of this number of parts: all on success, otherwise those of the parts before the failure,
-- whose number satisfies `IsBefore`
abbrev pub ReportsParts : {T F : Type 0} → (progress : Bool) → (word : List ℕ) → (all : ℕ) → (IsBefore : F → ℕ → Type 0)
    → (before after : Output) → Result T F → Type 0
ReportsParts progress word all IsBefore before after result =
    MatchResult result (λ _. ReportsIf progress word all before after (hundredths all))
    (λ f. (done : ℕ) × (done ≤ all) × IsBefore f done × ReportsIf progress word all before after (hundredths_behind all 0 done))

-- The tables of a job's potential were written according to a plan, and the progress lines of all parts; or they weren't
-- because of the fault, and the lines are those of the parts before it.
abbrev pub ReportsTables : {T A : Type 0} → (progress : Bool) → JobValue → CurvePlan → (out out' before after : Output)
    → Result T (CurveFault A) → Type 0
ReportsTables progress j plan out out' before after result = MatchResult result
    (λ _. WroteSome (IsCurve j plan) (Appends out out')
    × ReportsIf progress (codes "parts") (curve_parts j plan) before after (hundredths (curve_parts j plan)))
    (λ f. (n : ℕ) × IsCurveUnwritten j plan out out' f n × (n ≤ curve_parts j plan)
    × ReportsIf progress (codes "parts") (curve_parts j plan) before after (hundredths_behind (curve_parts j plan) 0 n))

-- without reports the output is unchanged
pub reports_none : (progress : Bool) (word : List ℕ) (all : ℕ) (o : Output) → ReportsIf progress word all o o []
reports_none true word all o = refl
reports_none false word all o = refl

-- progress lines, followed by more progress lines of the same work, are the progress lines of both lists
pub prints_more : (word : List ℕ) (all : ℕ) (first more : List ℕ) (before between after : Output)
    → PrintsProgress word all before between first → PrintsProgress word all between after more
    → PrintsProgress word all before after (first ++ more)
prints_more word all [] more before between after begun ended =
    subst (λ o. PrintsProgress word all o after more) begun ended
prints_more word all (r ∷ rs) more before between after begun ended =
    (begun.0, begun.1, prints_more word all rs more begun.0 between after begun.2 ended)

reports_both : (progress : Bool) (word : List ℕ) (all : ℕ) (first more : List ℕ) (before between after : Output)
    → ReportsIf progress word all before between first → ReportsIf progress word all between after more
    → ReportsIf progress word all before after (first ++ more)
reports_both true word all first more before between after begun ended = prints_more word all first more before between after begun ended
reports_both false word all first more before between after begun ended = subst (λ o. after ≡ o) begun ended

-- the lines of these reports were printed if the flag is true; otherwise the output is unchanged
abbrev pub ReportsSteps : (progress : Bool) → (before after : Output) → List Report → Type 0
ReportsSteps true before after reports = PrintsEach (map report_line reports) before after
ReportsSteps false before after reports = after ≡ before

-- without reports the output is unchanged
pub no_steps : (progress : Bool) (o : Output) → ReportsSteps progress o o []
no_steps true o = refl
no_steps false o = refl

-- lines, and then more lines
pub each_more : (first more : List (List ℕ)) (before between after : Output) → PrintsEach first before between
    → PrintsEach more between after → PrintsEach (first ++ more) before after
each_more [] more before between after begun ended = subst (λ o. PrintsEach more o after) begun ended
each_more (line ∷ lines) more before between after begun ended =
    (begun.0, begun.1, each_more lines more begun.0 between after begun.2 ended)

steps_both : (progress : Bool) (first more : List Report) (before between after : Output) → ReportsSteps progress before between first
    → ReportsSteps progress between after more → ReportsSteps progress before after (first ++ more)
steps_both true first more before between after begun ended =
    subst (λ lines. PrintsEach lines before after) (sym (map-append report_line first more))
    (each_more (map report_line first) (map report_line more) before between after begun ended)
steps_both false first more before between after begun ended = subst (λ o. after ≡ o) begun ended

-- the same for equal flags
pub reports_more : (progress progress' : Bool) (first more : List Report) (before between after : Output) → progress' ≡ progress
    → ReportsSteps progress before between first → ReportsSteps progress' between after more
    → ReportsSteps progress before after (first ++ more)
reports_more progress progress' first more before between after same begun ended =
    steps_both progress first more before between after begun (subst (λ p. ReportsSteps p between after more) same ended)

-- the word for these parts in a progress line
abbrev pub word_for : Counted → List ℕ
word_for counted.Steps = codes "steps"
word_for counted.Slices = codes "slices"
word_for counted.Parts = codes "parts"

-- Further parts were reported after the first `done`, and `done'` parts are complete then: the hundredths among them were
-- printed. Parts beyond the number of all parts aren't reported.
abbrev pub Passes : Bool → (word : List ℕ) → (all done done' : ℕ) → (before after : Output) → (parts : ℕ) → Type 0
Passes progress word all done done' before after parts = done + parts ≤ all
    → (done' ≡ done + parts) × ReportsIf progress word all before after (hundredths_behind all done parts)

-- without further parts the output is unchanged
pub passes_none : (progress : Bool) (word : List ℕ) (all done : ℕ) (o : Output) → Passes progress word all done done o o 0
passes_none progress word all done o within = (
  omega arith,
  subst (ReportsIf progress word all o o) (sym (hundredths-zero all done)) (reports_none progress word all o),
)

passes_both : (progress : Bool) (word : List ℕ) (all done done' done'' first more : ℕ) (before between after : Output)
    → Passes progress word all done done' before between first → Passes progress word all done' done'' between after more
    → Passes progress word all done done'' before after (first + more)
passes_both progress word all done done' done'' first more before between after begun ended within =
    let one = begun (omega (arith, within)) in
    let reached : done' ≡ done + first = one.0 in
    let two = ended (omega (arith, within, reached)) in
    let last : done'' ≡ done' + more = two.0 in (
      omega (arith, reached, last),
      subst (ReportsIf progress word all before after) (sym (hundredths-add all done first more))
          (reports_both progress word all (hundredths_behind all done first) (hundredths_behind all (done + first) more)
          before between after one.1
          (subst (λ n. ReportsIf progress word all between after (hundredths_behind all n more)) reached two.1)),
    )

-- the same for equal flags, words and numbers of all parts
pub passes_more : (progress progress' : Bool) (kind kind' : Counted) (all all' done done' done'' first more : ℕ)
    (before between after : Output)
    → progress' ≡ progress → kind' ≡ kind → all' ≡ all → Passes progress (word_for kind) all done done' before between first
    → Passes progress' (word_for kind') all' done' done'' between after more
    → Passes progress (word_for kind) all done done'' before after (first + more)
passes_more progress progress' kind kind' all all' done done' done'' first more before between after same same' same'' begun ended =
    passes_both progress (word_for kind) all done done' done'' first more before between after begun
    (subst (λ n. Passes progress (word_for kind) n done' done'' between after more) same''
    (subst (λ k. Passes progress (word_for k) all' done' done'' between after more) same'
    (subst (λ p. Passes p (word_for kind') all' done' done'' between after more) same ended)))
