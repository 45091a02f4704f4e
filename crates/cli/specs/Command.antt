-- The command specification on one page: `IsAnswer` relates the arguments of the program, its files, its two outputs
-- before and after, and its exit status. It consists of relations, and names no fault of a command.
--
-- It depends on the meaning of arguments (`IsCommand`), on the run specification (`IsLevesqueVerletRun`), on the texts
-- of jobs, states, GRO files and listings (`IsJobText`, `IsTextOf`, `IsGroText`, `IsListed`), and, in files beside this
-- one, on the printed texts. Acceptance of code (`AreSafe`), room in the counter (`CounterFits`), and an engine's
-- energy and forces (`IsEngineOfTexts`) are stated with the job and the state whose texts these are.
--
-- Names. `words` are the arguments after the program's own name. `out` is standard output and `err` standard error,
-- each before and after (with a prime). `requested` are the paths of the files that the program has requested, readable or
-- not. Slope code is the compiled derivative dU/dr of a job's energy. `--steps` gives n, and `--every` gives k.
use Rattle.std.specs.Prelude.{◌≡◌, ◌≢◌, ◌⊎◌, ◌≤◌, ◌<◌, ◌-◌, ◌/◌, ◌^◌, ℕ, suc, List, [], ◌∷◌, ◌++◌, Bool, true, false, map, codes}
use Rattle.command_line.specs.Commands.{CommandView, RunView, VisitsView}
use Rattle.command_line.specs.CommandLine.{AsksForHelp, AsksForVersion, IsCommand, IsMisuse}
use Rattle.curves.specs.Tables.{IsCurve}
use Rattle.curves.specs.Writing.{WroteSome}
use Rattle.engine.specs.Engines.{AreSafe, CounterFits}
use Rattle.engine.specs.RunSpecification.{IsLevesqueVerletRun, WroteLevesqueVerletRun}
use Rattle.runs.specs.Plans.{PlanView, visits_plan}
use Rattle.runs.specs.Visits.{IsShownOfRun, Showing, WroteTexts}
use Rattle.streams.specs.Streams.{WritesStates}
use Rattle.streams.specs.Texts.{IsQuantityText}
use Rattle.fallible.specs.Out.{Appends, AppendsBeginning, Output}
use Rattle.line_text.specs.Parts.{lacks}
use Rattle.cli.specs.Actions.{AsksFor, CodeText, EndOfRun, Explanation, FrameText, Held, ListingVerdict, OfKnownTask, OfTask, OneText, Paths, QuantityText, SlopeVerdict, StartText, StatesOfRun, StatesOfStream, TablesOfJob, Task, Text, Work, requested_by, progress_line, work_of}
use Rattle.cli.specs.Conversions.{IsCodeText, IsFrameText, IsStartText}
use Rattle.cli.specs.CurveTexts.{HasNamedTypes, OfTables}
use Rattle.cli.specs.Explained.{IsExplanation}
use Rattle.cli.specs.StreamTexts.{HasStream, shown_quantity}
use Rattle.cli.specs.Verdicts.{HasEnergyCode, IsListingVerdict, IsSlopeVerdict}
use Rattle.command_line.specs.declared.commands.Quantity.TheVariants as quantity

-- ---- standard output on success

-- The text of the state after the steps was printed, which is the only text of this run. The verifier accepts the job's
-- slope code, and the force on each atom fits 64 bits (`AreSafe`).
abbrev pub PrintsRun : (job state : List ℕ) → RunView → (before after : Output) → Type 0
PrintsRun job state run before after = AreSafe job state × WroteLevesqueVerletRun job state run.direction run.steps before after

-- the plan of a command that shows states of a run: those after 0, k, 2k, .. steps
abbrev pub plan_of : VisitsView → PlanView
plan_of v = visits_plan v.run.direction v.run.steps v.every

-- A frame, a whole state or a table row (`Shows`) was printed for each state after 0, k, 2k, .. steps, in order. Each
-- of these states has the only text of a run with that number of steps. The verifier accepts the job's slope code, the
-- force on each atom fits 64 bits, and the step counter fits 64 bits after all n steps.
abbrev pub PrintsVisits : Showing → (job state : List ℕ) → VisitsView → (before after : Output) → Type 0
PrintsVisits Shows job state v before after =
    AreSafe job state × CounterFits job state v.run.direction v.run.steps
    × WroteTexts (IsShownOfRun Shows job state (plan_of v)) (suc (v.run.steps / v.every)) before after

-- The text was written:
-- - `start`: the state that starts at a frame of the GRO file;
-- - `frame`, `energy`, `forces` and `velocities`: the current frame of the state, its energy, and the force on each
--   atom or its velocity;
-- - `check`: the verdict line of accepted code, the job's slope code or that of a listing;
-- - `code`: the listing of the job's slope code, or with `--energy` of the code of the energy itself;
-- - `explain`: the explanation for the code of an error, or without a code the overview of all codes.
-- If an energy, forces or velocities were printed, the job's slope code is accepted too, since only an engine has them
-- (`IsEngineOf.safe`).
abbrev pub HasText : Text → (Wrote : List ℕ → Type 0) → Type 0
HasText (StartText job gro frame) Wrote = IsStartText job gro frame Wrote
HasText (FrameText state) Wrote = IsFrameText state Wrote
HasText (QuantityText q job state) Wrote = IsQuantityText (shown_quantity q) job state Wrote
HasText (SlopeVerdict job) Wrote = IsSlopeVerdict job Wrote
HasText (ListingVerdict job listing) Wrote = IsListingVerdict job listing Wrote
HasText (CodeText job energy) Wrote = IsCodeText job energy Wrote
HasText (Explanation code) Wrote = IsExplanation code Wrote

-- The output of a task was printed, the same with `--progress` as without:
-- - its text;
-- - `curve`: the tables of the job's potential, with bounds on its errors, or the columns and types requested;
-- - the state after n steps;
-- - a frame, a whole state or a table row every k steps;
-- - with `--each`: a text for each state of a stream of one or more, in their order, each as its command shows it;
-- - `replay`: a line for each replayed segment of a stream of one state or more, in their order. None differs.
abbrev pub HasPrinted : Task → (before after : Output) → Type 0
HasPrinted (OneText text) before after = HasText text (Appends before after)
HasPrinted (TablesOfJob job c) before after = OfTables job c (λ j plan. WroteSome (IsCurve j plan) (Appends before after))
HasPrinted (EndOfRun job state run) before after = PrintsRun job state run before after
HasPrinted (StatesOfRun Shows job state v) before after = PrintsVisits Shows job state v before after
HasPrinted (StatesOfStream o states job bytes) before after = WritesStates o bytes before after

-- a text that isn't empty was printed
abbrev pub PrintsSome : (before after : Output) → Type 0
PrintsSome before after = (text : List ℕ) × (text ≢ []) × Appends before after text

-- the line with the program's name and its version
abbrev pub version_line : List ℕ
version_line = codes "pairmd 1.8.1\n"

-- The arguments were carried out. Help or the version was printed, and no file was requested; or a command requested
-- all its files in order and printed its output for them.
abbrev pub IsDone : List (List ℕ) → Held → (requested requested' : Paths) → (before after : Output) → Type 0
IsDone words held requested requested' before after = (AsksForHelp words × (requested' ≡ requested) × PrintsSome before after)
    ⊎ (AsksForVersion words × (requested' ≡ requested) × Appends before after version_line)
    ⊎ ((c : CommandView) × IsCommand words c × (requested' ≡ requested_by requested c)
    × OfTask held c (λ task. HasPrinted task before after))

-- ---- standard error

-- all of the text was printed; or a write failed, and a prefix of the text was printed
abbrev pub Prints : (before after : Output) → List ℕ → Type 0
Prints before after text = Appends before after text ⊎ AppendsBeginning before after text

-- The text was printed, or a prefix if a write failed. An output that has counted 2^64 - 1 failed writes, of progress
-- lines say, may be unchanged.
abbrev pub PrintsIfCounted : (before after : Output) → List ℕ → Type 0
PrintsIfCounted before after text = Prints before after text ⊎ ((after ≡ before) × (2 ^ 64 - 1 ≤ before.failed))

-- the texts were printed one after another, each as far as the output accepted it (`PrintsIfCounted`)
abbrev pub PrintsEach : List (List ℕ) → (before after : Output) → Type 0
PrintsEach [] before after = after ≡ before
PrintsEach (text ∷ texts) before after = (between : Output) × PrintsIfCounted before between text × PrintsEach texts between after

-- a progress line was printed for each of these numbers of parts, in order
abbrev pub PrintsProgress : (word : List ℕ) → (all : ℕ) → (before after : Output) → List ℕ → Type 0
PrintsProgress word all before after counts = PrintsEach (map (progress_line word all) counts) before after

-- If the flag is true, progress lines that satisfy `Are` were printed, in order. Otherwise the output is unchanged.
abbrev pub PrintsLines : Bool → (Are : List (List ℕ) → Type 0) → (before after : Output) → Type 0
PrintsLines true Are before after = (lines : List (List ℕ)) × Are lines × PrintsEach lines before after
PrintsLines false Are before after = after ≡ before

-- all progress lines of a work were printed, if its progress is reported; otherwise the output is unchanged
abbrev pub ReportsAll : Work → (before after : Output) → Type 0
ReportsAll work before after = PrintsLines work.progress work.whole before after

-- likewise the progress lines of the first `done` parts of a work
abbrev pub ReportsDone : Work → (done : ℕ) → (before after : Output) → Type 0
ReportsDone work done before after = PrintsLines work.progress (work.part done) before after

-- Standard error on success, with standard output before and after: a command with `--progress` printed all its progress
-- lines. Otherwise standard error is unchanged.
abbrev pub IsQuiet : List (List ℕ) → Held → (out out' : Output) → (before after : Output) → Type 0
IsQuiet words held out out' before after = ((AsksForHelp words ⊎ AsksForVersion words) × (after ≡ before))
    ⊎ ((c : CommandView) × IsCommand words c × ReportsAll (work_of held out out' c) before after)

-- the line of an error with this text
abbrev pub line : List ℕ → List ℕ
line text = codes "pairmd: " ++ text ++ 10 ∷ []

-- a text that isn't empty, without a line feed
abbrev pub IsOneLine : List ℕ → Type 0
IsOneLine text = (text ≢ []) × (lacks 10 text ≡ true)

-- the text that a file at this path can't be read
abbrev pub cannot_read : (path : List ℕ) → List ℕ
cannot_read path = codes "O1 CannotRead " ++ path

-- The text of an error with this status is exactly one line, which starts with `pairmd: ` and says why. If a file can't
-- be read (5), the line ends with a path: a line feed in the path makes two lines. This page doesn't fix which path. With
-- status 2, for arguments that name no command, it is the parser's own text, which isn't empty, and which this page
-- doesn't fix.
abbrev pub IsSaid : (status : ℕ) → List ℕ → Type 0
IsSaid status text = ((status ≡ 2) × (text ≢ []))
    ⊎ ((why : List ℕ) × IsOneLine why × (text ≡ line why))
    ⊎ ((status ≡ 5) × ((path : List ℕ) × (text ≡ line (cannot_read path))))

-- Progress may come before an error with this status: memory ran out (4), or a file or the output failed (5); in `check`
-- and `curve` also if code was rejected (3); in `replay` also if data were rejected (1), since states are read on the way.
abbrev pub IsLate : (status : ℕ) → Work → Type 0
IsLate status work = (status ≡ 4) ⊎ (status ≡ 5) ⊎ ((status ≡ 3) × work.verifies) ⊎ ((status ≡ 1) × work.replays)

-- A command with `--progress` printed its progress lines, all or up to some part of its work. Its error has this status.
pub record ReportsReached (words : List (List ℕ)) (held : Held) (out out' : Output) (status : ℕ) (before after : Output) : Type 0 where
  pub c : CommandView
  pub named : IsCommand words c
  pub late : IsLate status (work_of held out out' c)
  pub wanted : (work_of held out out' c).progress ≡ true
  pub lines : List (List ℕ)
  pub reached : (work_of held out out' c).whole lines ⊎ ((made : ℕ) × (work_of held out out' c).part made lines)
  pub told : PrintsEach lines before after

-- Standard error on failure: the text of the error, as far as it was accepted. A command with `--progress` may have
-- printed progress lines before the text (`IsLate`), but not before an error that rejects arguments or, except of a
-- replayed stream, data. Rejected code is reported after the progress of its verification in `check` and `curve`, and
-- without progress in others.
abbrev pub PrintsError : List (List ℕ) → Held → (out out' : Output) → (status : ℕ) → (before after : Output) → List ℕ → Type 0
PrintsError words held out out' status before after text = Prints before after text
    ⊎ ((between : Output) × ReportsReached words held out out' status before between × PrintsIfCounted between after text)

-- ---- the answer of the program

-- the output is unchanged, or a write to it failed
abbrev pub IsKept : (before after : Output) → Type 0
IsKept before after = (after ≡ before) ⊎ (before.failed < after.failed)

-- the program succeeded (0), memory ran out (4), or a write to the output failed (5)
abbrev pub IsNotRefused : (status : ℕ) → (before after : Output) → Type 0
IsNotRefused status before after = (status ≡ 0) ⊎ (status ≡ 4) ⊎ ((status ≡ 5) × (before.failed < after.failed))

-- any text
abbrev pub Any : List ℕ → Type 0
Any text = Unit {0}

-- the run specification relates a text to the run, and the job's slope code is accepted for the state
abbrev pub HasRun : (job state : List ℕ) → RunView → Type 0
HasRun job state run =
    (text : List ℕ) × IsLevesqueVerletRun job state run.direction run.steps text × AreSafe job state

-- The verifier accepts the job's slope code for the state. If the output has energies, the verifier accepts the code of
-- the energy itself too: for every pair of types and every distance, also for distances that no pair of a state has.
abbrev pub HasCode : (Energies : Type 0) → (job state : List ℕ) → Type 0
HasCode Energies job state = AreSafe job state × (Energies → HasEnergyCode job)

-- This page gives the text, with all its conditions met.
abbrev pub GivesText : Text → Type 0
GivesText (QuantityText q job state) = HasCode (q ≡ quantity.Energy) job state
GivesText (Explanation code) = Unit {0}
GivesText text = HasText text Any

-- This page gives an output for the task, with all its conditions met. `curve` needs both codes and the types that
-- `--types` names. The step counter fits 64 bits after all steps. No state of a stream that is replayed differs from the
-- run of the state before.
abbrev pub HasOutput : Task → Type 0
HasOutput (OneText text) = GivesText text
HasOutput (TablesOfJob job c) = IsSlopeVerdict job Any × HasEnergyCode job × HasNamedTypes job c.types
HasOutput (EndOfRun job state run) = HasRun job state run
HasOutput (StatesOfRun Shows job state v) = HasCode Shows.observes job state × CounterFits job state v.run.direction v.run.steps
HasOutput (StatesOfStream o states job bytes) = HasStream o job bytes

-- Whole texts may be printed before an error with this status: tables and the states of a run if memory ran out (4), and
-- the states of a stream.
abbrev pub PrintsBefore : (status : ℕ) → Task → Type 0
PrintsBefore status (TablesOfJob job c) = status ≡ 4
PrintsBefore status (StatesOfRun Shows job state v) = status ≡ 4
PrintsBefore status (StatesOfStream o states job bytes) = Unit {0}
PrintsBefore status _ = ⊥

-- The answer of the program: its arguments, its files, the requested paths before and after, standard output before and
-- after, standard error before and after, and its exit status.
pub record IsAnswer (words : List (List ℕ)) (held : Held) (requested requested' : Paths) (out out' err err' : Output)
    (status : ℕ) : Type 0 where
  pub most : status ≤ 5
  -- Status 0 means success: the arguments were carried out, and standard error has at most progress lines.
  pub done : status ≡ 0 → IsDone words held requested requested' out out'
  pub quiet : status ≡ 0 → IsQuiet words held out out' err err'
  -- Any other status means failure: the text of an error was printed, as far as standard error accepted it. Standard
  -- output is unchanged, unless a write to it failed, or memory ran out (4) in a command that prints frames, states,
  -- table rows or tables, or the command reads a stream. What is printed in these cases is stated by the second half,
  -- `IsFailure`.
  pub said : status ≢ 0 → (text : List ℕ) × IsSaid status text × PrintsError words held out out' status err err' text
  pub kept : status ≢ 0 → IsKept out out' ⊎ ((c : CommandView) × IsCommand words c × OfTask held c (PrintsBefore status))
  -- Status 2 means that the arguments name no command, and aren't answered with help or the version. Standard output is
  -- unchanged.
  pub misuse : status ≡ 2 → IsMisuse words × (out' ≡ out)
  -- Arguments that name no command, and request neither help nor the version, end with status 2, unless memory runs
  -- out (4). After the word `help` the parser's contract leaves both answers open: help, and that a command of the name
  -- that follows doesn't exist. The program prints help if the name is a command's.
  pub misused : IsMisuse words → (AsksForHelp words ⊎ AsksForVersion words → ⊥) → (status ≡ 2) ⊎ (status ≡ 4)
  -- The program requests no file, or only files of its command, in their order.
  pub reads : (requested' ≡ requested) ⊎ ((c : CommandView) × IsCommand words c × AsksFor c requested requested')
  -- The program doesn't reject a command whose files it accepts, nor a request for help or the version.
  pub only : (c : CommandView) → IsCommand words c → OfKnownTask held c HasOutput → IsNotRefused status out out'
  pub answered : AsksForHelp words ⊎ AsksForVersion words → (IsMisuse words → ⊥) → IsNotRefused status out out'
