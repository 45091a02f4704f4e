-- The second half of the command specification: how the program fails. `IsFailure` states for each exit status other
-- than 0 why the program ended with it, which files it requested, and the state of both outputs. Like the first half it
-- consists of relations, and names no fault of a command.
--
-- Names. Paths, files and outputs are named as in the first half. `between` is standard error before the text of the
-- error: with the progress lines, if any, that came before.
use Rattle.std.specs.Prelude.{◌≡◌, ◌≢◌, ◌⊎◌, ◌<◌, ◌≤◌, ◌-◌, ◌^◌, ℕ, Bool, List, [], length, Option, None, Err}
use Rattle.command_line.specs.Commands.{CommandView}
use Rattle.command_line.specs.CommandLine.{AsksForHelp, AsksForVersion, IsCommand, IsMisuse}
use Rattle.energy_program.specs.Faults.{Refusal}
use Rattle.engine.specs.Engines.{AreSafe, CounterFits, CounterLeaves, OfSlope, OfTexts}
use Rattle.engine.specs.RunSpecification.{IsTextOf}
use Rattle.engine.specs.Ranges.{PassesRange}
use Rattle.curves.specs.Writing.{IsCurveCut}
use Rattle.fallible.specs.Out.{AppendsBeginning, Output}
use Rattle.fallible.specs.declared.failure.Failure.TheVariants.{Memory, Refused}
use Rattle.fallible.specs.declared.output.OutFault.{OutFault}
use Rattle.integrator.specs.Starts.{energy_refused, system_of}
use Rattle.integrator.specs.StartViews.{system_refusal}
use Rattle.integrator.specs.declared.direction.Direction.{Direction}
use Rattle.integrator.specs.declared.faults.StepFault.TheVariants as step
use Rattle.integrator.specs.declared.faults.SystemFault.{SystemFault}
use Rattle.job.specs.JobText.{IsJobText, limits}
use Rattle.job.specs.Values.{JobValue}
use Rattle.kernel_code.specs.Listing.{IsListed, listing_of}
use Rattle.kernel_code.specs.declared.instructions.Instr.{Instr}
use Rattle.potential.specs.Energies.{energy_of}
use Rattle.potential.specs.EnergyKernels.{IsCodeRefused, OfEnergy}
use Rattle.potential.specs.Verdicts.{IsRefused, IsSlopeKernel, IsSlopeRefused}
use Rattle.line_text.specs.declared.name.Name.{Name}
use Rattle.state.specs.StateText.{StateView}
use Rattle.runs.specs.Shown.{HasBegun, LeftBeginning, LeftWhole}
use Rattle.runs.specs.Unwritten.{AreStopped, BeganLevesqueVerletRun}
use Rattle.runs.specs.Visits.{IsShownOfRun}
use Rattle.verifier.specs.Kernels.{Kernel}
use Rattle.verifier.specs.declared.faults.VerifyFault.{VerifyFault}
use Rattle.state.specs.Sources.{StartsNoState}
use Rattle.streams.specs.Streams.{OfFirst}
use Rattle.cli.specs.Actions.{CodeText, EndOfRun, Explanation, FrameText, Held, ListingVerdict, OfJob, OfTask, OneText, Paths, QuantityText, SlopeVerdict, StartText, StatesOfRun, StatesOfStream, TablesOfJob, Task, Text, UpTo, Work, also_requested, requested_by, files_of, work_of}
use Rattle.cli.specs.Command.{Any, HasText, IsSaid, PrintsIfCounted, PrintsLines, ReportsDone, plan_of, version_line}
use Rattle.cli.specs.Conversions.{IsStartText, listed_code_of}
use Rattle.cli.specs.CurveTexts.{HasPair, LacksPair, OfTables}
use Rattle.cli.specs.StreamTexts.{BeginsNext, PrintsFirst, StreamPart}
use Rattle.command_line.specs.declared.commands.Quantity.TheVariants as quantity

-- ---- rejected data (status 1)

-- the text is no job's
abbrev pub IsNoJob : List ℕ → Type 0
IsNoJob job = (said : JobValue) → IsJobText limits job said → ⊥

-- the text is no state's
abbrev pub IsNoState : List ℕ → Type 0
IsNoState state = (said : StateView) → IsTextOf state said → ⊥

-- the text is no listing's
abbrev pub IsNoListing : List ℕ → Type 0
IsNoListing text = (code : List Instr) → IsListed code → text ≡ listing_of code → ⊥

-- The job and the state don't fit each other: their fraction bits differ, an atom has no type, or the cutoff is too long
-- for the box; or the slope code is accepted, and the force on an atom might not fit 64 bits.
abbrev pub DoNotFit : JobValue → StateView → Type 0
DoNotFit j s = ((f : SystemFault) × (system_of j s ≡ Err (system_refusal f)))
    ⊎ OfSlope j s (λ code. PassesRange j code (length s.atoms))

-- one of the texts isn't a job's or a state's, or both don't fit each other
abbrev pub HaveNoEngine : (job state : List ℕ) → Type 0
HaveNoEngine job state = IsNoJob job ⊎ IsNoState state ⊎ OfTexts job state DoNotFit

-- the texts have no engine, or they do and the step counter would leave 64 bits
abbrev pub HaveNoRun : (job state : List ℕ) → Direction → (steps : ℕ) → Type 0
HaveNoRun job state direction steps =
    HaveNoEngine job state ⊎ (AreSafe job state × CounterLeaves job state direction steps)

-- The text can't be made of the data of the command's files.
abbrev pub LacksData : Text → Type 0
LacksData (StartText job gro frame) = IsStartText job gro frame Any → ⊥
LacksData (FrameText state) = IsNoState state
LacksData (QuantityText q job state) = HaveNoEngine job state
LacksData (SlopeVerdict job) = IsNoJob job
LacksData (ListingVerdict job listing) = IsNoJob job ⊎ IsNoListing listing
LacksData (CodeText job energy) = IsNoJob job
LacksData (Explanation code) = ⊥

-- The job's text is none; or the bytes behind a part of a stream start with no state's text, or with that of a state that
-- doesn't fit the job. A stream ends without an error only after one or more states.
abbrev pub RejectsNext : (job : List ℕ) → StreamPart → Type 0
RejectsNext job part = ((part.count ≡ 0) ⊎ (part.rest ≢ []))
    × (IsNoJob job ⊎ StartsNoState part.rest ⊎ OfFirst part.rest (λ state. OfTexts job state DoNotFit))

-- The whole stream was read, one state or more, and some of them differ from the run of the state before.
abbrev pub IsNotOneRun : StreamPart → Type 0
IsNotOneRun part = (0 < part.count) × (0 < part.differing) × (part.rest ≡ [])

-- The data of the command's files are rejected, and the output is unchanged. A state of a stream, or its job, is
-- rejected after the texts of the states before; a stream that isn't of one run, after all its texts.
abbrev pub RejectsData : Task → (before after : Output) → Type 0
RejectsData (OneText text) before after = LacksData text × (after ≡ before)
RejectsData (TablesOfJob job c) before after = (IsNoJob job ⊎ OfJob job (λ j. LacksPair j c.types)) × (after ≡ before)
RejectsData (EndOfRun job state run) before after = HaveNoRun job state run.direction run.steps × (after ≡ before)
RejectsData (StatesOfRun Shows job state v) before after =
    (HaveNoEngine job state ⊎ (HasBegun Shows job state × CounterLeaves job state v.run.direction v.run.steps)) × (after ≡ before)
RejectsData (StatesOfStream o states job bytes) before after = PrintsFirst o bytes before after
    (λ part between after. (RejectsNext job part ⊎ IsNotOneRun part) × (after ≡ between))

-- ---- rejected code (status 3)

-- the job's energy has no slope code, or the verifier rejects the code
abbrev pub HasNoSlope : JobValue → Type 0
HasNoSlope j = ((r : Refusal) × (energy_of j ≡ Err r)) ⊎ ((f : VerifyFault) × (types : Option (Name × Name)) × IsSlopeRefused j f types)

-- the same for a job and a state whose atoms all have types, and whose box is wide enough
abbrev pub HasNoSlopeFor : JobValue → StateView → Type 0
HasNoSlopeFor j s = ((r : Refusal) × (system_of j s ≡ Err (energy_refused r)))
    ⊎ OfSlope j s (λ code. (f : VerifyFault) × (types : Option (Name × Name)) × IsRefused j code f types)

-- the energy itself has no code, or the verifier rejects the code
abbrev pub HasNoEnergyCode : JobValue → Type 0
HasNoEnergyCode j =
    OfEnergy j (λ answer. ((r : Refusal) × (answer ≡ Err r))
    ⊎ ((f : VerifyFault) × (types : Option (Name × Name)) × IsCodeRefused j answer f types))

-- both texts are a job's and a state's, and the slope code is rejected
abbrev pub LackSlope : (job state : List ℕ) → Type 0
LackSlope job state = OfTexts job state HasNoSlopeFor

-- The slope code is rejected; or, if the output has energies, it is accepted for the state, and the code of the energy
-- itself is rejected.
abbrev pub LackCode : (Energies : Type 0) → (job state : List ℕ) → Type 0
LackCode Energies job state =
    LackSlope job state ⊎ (Energies × AreSafe job state × OfTexts job state (λ j s. HasNoEnergyCode j))

-- the text is a listing's, and the verifier rejects its code under the job
abbrev pub IsListingRejected : List ℕ → JobValue → Type 0
IsListingRejected text j =
    (code : List Instr) × IsListed code × (text ≡ listing_of code)
    × ((f : VerifyFault) × (types : Option (Name × Name)) × IsRefused j code f types)

-- the job's energy has no slope code, or with `--energy` no code of its own
abbrev pub HasNoCode : (energy : Bool) → JobValue → Type 0
HasNoCode energy j = (r : Refusal) × (listed_code_of energy j ≡ Err r)

-- the slope code is rejected; or it is accepted, and the code of the energy itself is rejected
abbrev pub LacksCode : JobValue → Type 0
LacksCode j = HasNoSlope j ⊎ (((k : Kernel) × IsSlopeKernel j k) × HasNoEnergyCode j)

-- The text can't be made, since the energy of the job or code is rejected.
abbrev pub LacksTextCode : Text → Type 0
LacksTextCode (QuantityText q job state) = LackCode (q ≡ quantity.Energy) job state
LacksTextCode (SlopeVerdict job) = OfJob job HasNoSlope
LacksTextCode (ListingVerdict job listing) = OfJob job (IsListingRejected listing)
LacksTextCode (CodeText job energy) = OfJob job (HasNoCode energy)
LacksTextCode _ = ⊥

-- The energy of the job is rejected, or code: of a stream, the code that the text of the first state needs.
abbrev pub RejectsCode : Task → Type 0
RejectsCode (OneText text) = LacksTextCode text
RejectsCode (TablesOfJob job c) = OfJob job (λ j. HasPair j c.types × LacksCode j)
RejectsCode (EndOfRun job state run) = LackSlope job state
RejectsCode (StatesOfRun Shows job state v) = LackCode Shows.observes job state
RejectsCode (StatesOfStream o states job bytes) = OfFirst bytes (LackCode o.observes job)

-- ---- files that can't be read (status 5)

-- the file at this path was requested, and can't be read, so its bytes are unknown
abbrev pub IsUnreadable : Held → List ℕ → (requested requested' : Paths) → Type 0
IsUnreadable held path requested requested' = (requested' ≡ also_requested requested path) × (held path ≡ None)

-- A file of the command can't be read, and the command requested no file after it.
abbrev pub LacksFile : Held → CommandView → (requested requested' : Paths) → Type 0
LacksFile held c requested requested' = UpTo (IsUnreadable held) (files_of c) requested requested'

-- A stream can't be read on, so its bytes are unknown; or 2^64 - 1 of its states were read. The texts of the states
-- before were printed.
abbrev pub LosesStream : Held → Task → (before after : Output) → Type 0
LosesStream held (StatesOfStream o states job bytes) before after = PrintsFirst o bytes before after
    (λ part between after. ((held states ≡ None) ⊎ (2 ^ 64 - 1 ≤ part.count)) × (after ≡ between))
LosesStream held _ before after = ⊥

-- ---- outputs that end early

-- A prefix of the output of a task was printed, and then a write failed. Of tables, those before the tables of two types
-- were printed, each whole, and then a prefix of the tables of these two. Of the states of a run or of a stream, whole
-- texts were printed, and then a prefix of the next.
abbrev pub BeginsOutput : Task → (before after : Output) → Type 0
BeginsOutput (OneText text) before after = HasText text (AppendsBeginning before after)
BeginsOutput (TablesOfJob job c) before after =
    (f : OutFault) × OfTables job c (λ j plan. (n : ℕ) × IsCurveCut j plan before after (Refused f) n)
BeginsOutput (EndOfRun job state run) before after =
    AreSafe job state × BeganLevesqueVerletRun job state run.direction run.steps before after
BeginsOutput (StatesOfRun Shows job state v) before after =
    HasBegun Shows job state × CounterFits job state v.run.direction v.run.steps
    × LeftBeginning (IsShownOfRun Shows job state (plan_of v)) (plan_of v) before after (λ reports. Unit {0})
BeginsOutput (StatesOfStream o states job bytes) before after = PrintsFirst o bytes before after (BeginsNext o)

-- Memory ran out after `done` steps of a run, after the tables before those of two types, or after the texts of some first
-- states of a stream. `run` and `back` printed no text; the other commands printed whole texts, and of a run or of tables
-- never all.
abbrev pub LeavesTexts : Task → (done : ℕ) → (before after : Output) → Type 0
LeavesTexts (OneText text) done before after = ⊥
LeavesTexts (TablesOfJob job c) done before after = OfTables job c (λ j plan. (n : ℕ) × IsCurveCut j plan before after Memory n)
LeavesTexts (EndOfRun job state run) done before after =
    AreStopped job state run.direction run.steps (step.Memory done) × (after ≡ before)
LeavesTexts (StatesOfRun Shows job state v) done before after =
    HasBegun Shows job state × CounterFits job state v.run.direction v.run.steps
    × LeftWhole Shows.allocates (IsShownOfRun Shows job state (plan_of v)) (plan_of v) done before after (λ reports. Unit {0})
LeavesTexts (StatesOfStream o states job bytes) done before after =
    PrintsFirst o bytes before after (λ part between after. after ≡ between)

-- a prefix of a text that isn't empty was printed, and then a write failed
abbrev pub BeginsSome : (before after : Output) → Type 0
BeginsSome before after = (text : List ℕ) × (text ≢ []) × AppendsBeginning before after text

-- a prefix of the help or of the version was printed, and then a write failed
abbrev pub BeginsWish : List (List ℕ) → (before after : Output) → Type 0
BeginsWish words before after = (AsksForHelp words × BeginsSome before after)
    ⊎ (AsksForVersion words × AppendsBeginning before after version_line)

-- ---- progress before an error

-- Progress lines before a write that failed: those before the write of some text (`Work.texts`).
abbrev pub ReportsTexts : Work → (before after : Output) → Type 0
ReportsTexts work before after = PrintsLines work.progress work.texts before after

-- the progress lines of some number of parts
abbrev pub ReportsPart : Work → (before after : Output) → Type 0
ReportsPart work before after = (done : ℕ) × ReportsDone work done before after

-- Progress lines before code is rejected: of a work that verifies code, such as that of `check` or `curve`, exactly those
-- of the parts before the error. The other commands printed none.
abbrev pub ReportsCode : Work → (before after : Output) → Type 0
ReportsCode work before after = ((work.verifies → ⊥) × (after ≡ before))
    ⊎ (work.verifies × ((done : ℕ) × work.rejects done × ReportsDone work done before after))

-- In a work that replays a stream, `Printed` holds of its progress lines. The other commands printed none.
abbrev pub ReportsReplayed : Work → (before after : Output) → (Printed : Type 0) → Type 0
ReportsReplayed work before after Printed = ((work.replays → ⊥) × (after ≡ before)) ⊎ (work.replays × Printed)

-- Progress lines before data are rejected: of a replay, those before a state is read, or those before the line of the
-- segment to it. A replay whose standard output has lines can't have dropped their progress.
abbrev pub ReportsData : Work → (before after : Output) → Type 0
ReportsData work before after =
    ReportsReplayed work before after (PrintsLines work.progress (λ lines. work.read lines ⊎ work.texts lines) before after)

-- progress lines before a file can't be read: of a replay, those before a state is read
abbrev pub ReportsRead : Work → (before after : Output) → Type 0
ReportsRead work before after = ReportsReplayed work before after (PrintsLines work.progress work.read before after)

-- Progress lines before memory runs out in a work that counts no steps: of one that verifies code, those of some number
-- of parts, or none; of a replay, those of some number of parts.
abbrev pub ReportsMemory : Work → (before after : Output) → Type 0
ReportsMemory work before after = (work.verifies × ReportsPart work before after)
    ⊎ ReportsReplayed work before after (ReportsPart work before after)

-- ---- the five failures

-- One use of the program up to the text of its error: arguments, files, requested paths before and after, standard
-- output before and after, and standard error before and with its progress lines.
module _ (words : List (List ℕ)) (held : Held) (requested requested' : Paths) (out out' err between : Output) where
  -- The command requested all its files, and rejects their data. It printed no progress, except of a replayed stream.
  abbrev pub IsRejected : Type 0
  IsRejected = (c : CommandView) × IsCommand words c × OfTask held c (λ task. RejectsData task out out')
      × (requested' ≡ requested_by requested c) × ReportsData (work_of held out out' c) err between

  -- The arguments name no command. No file was requested, and nothing printed.
  abbrev pub IsMisused : Type 0
  IsMisused = IsMisuse words × (requested' ≡ requested) × (out' ≡ out) × (between ≡ err)

  -- The command requested all its files, and rejects code. Only progress lines were printed.
  abbrev pub IsCodeRejected : Type 0
  IsCodeRejected = (c : CommandView) × IsCommand words c × OfTask held c RejectsCode
      × (requested' ≡ requested_by requested c) × (out' ≡ out) × ReportsCode (work_of held out out' c) err between

  -- A write to standard output failed: in a command, or in the text of the help or the version.
  abbrev pub IsOutputFailed : Type 0
  IsOutputFailed = (BeginsWish words out out' × (requested' ≡ requested) × (between ≡ err))
      ⊎ ((c : CommandView) × IsCommand words c × (requested' ≡ requested_by requested c)
      × OfTask held c (λ task. BeginsOutput task out out') × ReportsTexts (work_of held out out' c) err between)

  -- Memory ran out: after some steps of a run or of a replay, or after some tables; or in the work of `check` or `curve`;
  -- or before any step and any output; or for the text of another error, of which a failed write has left a prefix of the
  -- output.
  abbrev pub IsOutOfMemory : Type 0
  IsOutOfMemory = ((c : CommandView) × IsCommand words c × (requested' ≡ requested_by requested c)
      × ((done : ℕ) × OfTask held c (λ task. LeavesTexts task done out out') × ReportsDone (work_of held out out' c) done err between))
      ⊎ ((out' ≡ out) × ((between ≡ err)
      ⊎ ((c : CommandView) × IsCommand words c × ReportsMemory (work_of held out out' c) err between)))
      ⊎ IsOutputFailed

  -- A file of the command can't be read, and nothing was printed; or a stream can't be read on, behind the texts of the
  -- states that were; or a write to standard output failed. A replay may have printed progress lines: the bytes of a stream
  -- that can't be read on are unknown, so this page can't tell it from a file that can't be read.
  abbrev pub IsFileFailed : Type 0
  IsFileFailed = ((c : CommandView) × IsCommand words c × LacksFile held c requested requested' × (out' ≡ out)
      × ReportsRead (work_of held out out' c) err between)
      ⊎ ((c : CommandView) × IsCommand words c × (requested' ≡ requested_by requested c)
      × OfTask held c (λ task. LosesStream held task out out') × ReportsRead (work_of held out out' c) err between)
      ⊎ IsOutputFailed

-- How the program fails, by its exit status. The text of the error was printed after the progress lines, as far as
-- standard error accepted it.
pub record IsFailure (words : List (List ℕ)) (held : Held) (requested requested' : Paths) (out out' err err' : Output)
    (status : ℕ) : Type 0 where
  pub between : Output
  pub text : List ℕ
  pub said : IsSaid status text
  pub printed : PrintsIfCounted between err' text
  pub input : status ≡ 1 → IsRejected words held requested requested' out out' err between
  pub misuse : status ≡ 2 → IsMisused words held requested requested' out out' err between
  pub code : status ≡ 3 → IsCodeRejected words held requested requested' out out' err between
  pub memory : status ≡ 4 → IsOutOfMemory words held requested requested' out out' err between
  pub file : status ≡ 5 → IsFileFailed words held requested requested' out out' err between
