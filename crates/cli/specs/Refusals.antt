-- Faults of commands: each fault as a statement about the contents of the command's files, and the content of standard
-- output after the fault. `Memory` implies no statement about the files.
use Rattle.std.specs.Prelude.{◌≡◌, ◌≢◌, ◌⊎◌, ◌<◌, ℕ, Bool, List, length, Option, Some, None, Ok, Err}
use Rattle.std.specs.Borrow.{Bor}
use Rattle.clap.specs.declared.error.Error.{Error}
use Rattle.clap.specs.declared.error.kind.ErrorKind.{ErrorKind}
use Rattle.clap.specs.declared.error.kind.ErrorKind.TheVariants.{DisplayHelp, DisplayVersion, OutOfMemory}
use Rattle.command_line.specs.Commands.{CommandView, CurveView}
use Rattle.command_line.specs.CommandLine.{IsCommand, IsMisuse}
use Rattle.curves.specs.Tables.{HasNoCurve}
use Rattle.curves.specs.Writing.{IsCurveCut}
use Rattle.curves.specs.declared.plans.CurvePlan.{CurvePlan}
use Rattle.energy_program.specs.Faults as energies
use Rattle.engine.specs.Engines.{HasNoEngineOfTexts, IsOfEnergy}
use Rattle.engine.specs.EngineEnergies.{HasNoEnergyOfTexts}
use Rattle.potential.specs.Verdicts.{HasNoKernel, HasNoSlopeKernel}
use Rattle.potential.specs.declared.faults.EnergyFault.TheVariants as energy
use Rattle.engine.specs.declared.faults.InputFault.{InputFault}
use Rattle.engine.specs.declared.faults.InputFault.TheVariants as input
use Rattle.runs.specs.declared.faults.RunFault.{RunFault}
use Rattle.fallible.specs.Out.{AppendsBeginning, Output}
use Rattle.fallible.specs.declared.failure.Failure.TheVariants.{Memory, Refused}
use Rattle.fallible.specs.declared.output.OutFault.{OutFault}
use Rattle.gro.specs.Frames.{FrameView}
use Rattle.gro.specs.GroFaults.{IsTextFault}
use Rattle.gro.specs.GroText.{IsGroText}
use Rattle.gro.specs.declared.faults.GroFault.TheVariants.{NoSuchFrame}
use Rattle.job.specs.JobFaults.{JobReadsAs}
use Rattle.job.specs.JobText.{IsJobText, limits}
use Rattle.job.specs.Values.{JobValue}
use Rattle.job.specs.Views as jobs
use Rattle.kernel_code.specs.Listing.{ParsesAs}
use Rattle.kernel_code.specs.declared.instructions.Instr.{Instr}
use Rattle.ring_box.specs.declared.faults.BoxFault.{BoxFault}
use Rattle.state.specs.Starts.{start_of_frame}
use Rattle.state.specs.StateFaults.{ReadsAs}
use Rattle.runs.specs.Plans.{PlanView, end_plan}
use Rattle.runs.specs.Shown.{IsUnshown}
use Rattle.runs.specs.Visits.{Showing}
use Rattle.runs.specs.WholeStates.{ShowsState}
use Rattle.streams.specs.Streams.{Breaks, StreamOutput}
use Rattle.streams.specs.declared.faults.StreamFault.{StreamFault}
use Rattle.cli.specs.Actions.{Action, CodeText, EndOfRun, Explanation, FrameText, Held, ListingVerdict, OfFiles, OneText, Paths, QuantityText, SlopeVerdict, StartText, StatesOfRun, StatesOfStream, TablesOfJob, Task, Text, UpTo, action_of, all_requested, also_requested}
use Rattle.cli.specs.Command.{HasText, plan_of, version_line}
use Rattle.cli.specs.CommandFailure.{BeginsSome, BeginsWish}
use Rattle.cli.specs.Conversions.{IsFrameOf, listed_code_of}
use Rattle.cli.specs.CurveTexts.{HasPair, IsFirstLacking, Names, OfTables}
use Rattle.cli.specs.Failures.{fault_of_run, fault_of_stream}
use Rattle.cli.specs.declared.faults.CommandFault.{CommandFault}
use Rattle.cli.specs.declared.faults.CommandFault.TheVariants as fault
use Rattle.command_line.specs.declared.commands.Quantity.{Quantity}
use Rattle.command_line.specs.declared.commands.Quantity.TheVariants as quantity
use Rattle.state.specs.declared.sources.ReadFault.{ReadFault}
use Rattle.state.specs.declared.sources.ReadFault.TheVariants as read

-- ---- why texts are rejected

-- the text of a job is rejected with this fault, or memory ran out
abbrev pub RefusesJob : {A : Type 0} → List ℕ → CommandFault A → Type 0
RefusesJob job (fault.Rejected (input.Job f)) = JobReadsAs limits job (Err (jobs.refusal_of f))
RefusesJob job fault.Memory = Unit {0}
RefusesJob job _ = ⊥

-- the text of a job is rejected with this fault; or the text denotes a job, and `Refuses'` explains the fault under it
abbrev pub RefusesUnder : {A : Type 0} → List ℕ → (JobValue → CommandFault A → Type 0) → CommandFault A → Type 0
RefusesUnder job Refuses' f = RefusesJob job f ⊎ ((said : JobValue) × IsJobText limits job said × Refuses' said f)

-- the GRO text is valid, and has no frame with this number
pub record HasNoFrame (gro : List ℕ) (number : ℕ) : Type 0 where
  pub frames : List FrameView
  pub gro_text : IsGroText gro frames
  pub none : (number ≡ 0) ⊎ (length frames < number)

-- the GRO text has a frame with this number, and no state starts at it under the job, because of the sides of its box
pub record HasNoBox (gro : List ℕ) (number : ℕ) (job : JobValue) (f : BoxFault) : Type 0 where
  pub frames : List FrameView
  pub frame : FrameView
  pub gro_text : IsGroText gro frames
  pub picked : IsFrameOf frames number frame
  pub refused : start_of_frame job.frac job.time_step frame ≡ Err f

-- No state starts at the frame with this number, since the GRO text is invalid, it has no such frame, or the sides of
-- the frame's box are unusable. The first of these gives the fault. Or memory ran out.
abbrev pub RefusesFrame : {A : Type 0} → List ℕ → ℕ → JobValue → CommandFault A → Type 0
RefusesFrame gro number job (fault.Gro f) = IsTextFault gro f ⊎ ((f ≡ NoSuchFrame) × HasNoFrame gro number)
RefusesFrame gro number job (fault.Box f) = HasNoBox gro number job f
RefusesFrame gro number job fault.Memory = Unit {0}
RefusesFrame gro number job _ = ⊥

-- the text of a state is rejected with this fault, or memory ran out
abbrev pub RefusesState : {A : Type 0} → List ℕ → CommandFault A → Type 0
RefusesState state (fault.Rejected (input.State f)) = ReadsAs state (Err f)
RefusesState state fault.Memory = Unit {0}
RefusesState state _ = ⊥

-- the job has no slope code, or with `--energy` no code of the energy itself, because its energy is rejected with this
-- fault; or memory ran out
abbrev pub RefusesCode : {A : Type 0} → (of_energy : Bool) → JobValue → CommandFault A → Type 0
RefusesCode of_energy job (fault.Rejected (input.Energy (energy.Energy f))) = listed_code_of of_energy job ≡ Err (energies.refusal_of f)
RefusesCode of_energy job fault.Memory = Unit {0}
RefusesCode of_energy job _ = ⊥

-- the job has no accepted slope code, because of this fault; or memory ran out
abbrev pub RefusesSlope : {A : Type 0} → JobValue → CommandFault A → Type 0
RefusesSlope job (fault.Rejected (input.Energy f)) = HasNoSlopeKernel job f
RefusesSlope job fault.Memory = Unit {0}
RefusesSlope job _ = ⊥

-- the fault has the first of the names that no type of the job has
abbrev pub RefusesTypes : {A : Type 0} → Names → JobValue → CommandFault A → Type 0
RefusesTypes names job (fault.NoSuchType name) = IsFirstLacking job names name.now
RefusesTypes names job _ = ⊥

-- The job has no such table: a type that the arguments name doesn't exist; or they all exist, and one of the job's two
-- codes, of the slope and then of the energy itself, isn't accepted, because of this fault; or memory ran out.
abbrev pub RefusesCurve : {A : Type 0} → CurveView → JobValue → CommandFault A → Type 0
RefusesCurve c job (fault.Rejected (input.Energy f)) = HasPair job c.types × HasNoCurve job f
RefusesCurve c job fault.Memory = Unit {0}
RefusesCurve c job f = RefusesTypes c.types job f

-- the text of a listing is rejected with this fault, or the verifier rejects its code under the job, or memory ran out
abbrev pub RefusesListing : {A : Type 0} → List ℕ → JobValue → CommandFault A → Type 0
RefusesListing listing job (fault.Listing f) = ParsesAs listing (Err f)
RefusesListing listing job (fault.Rejected (input.Energy f)) =
    (code : List Instr) × ParsesAs listing (Ok code) × HasNoKernel job code f
RefusesListing listing job fault.Memory = Unit {0}
RefusesListing listing job _ = ⊥

-- the code that `check` judges isn't accepted, because of this fault: of the listing if one is given, otherwise of the
-- job's slope code
abbrev pub RefusesVerdict : {A : Type 0} → (listing : Option (List ℕ)) → JobValue → CommandFault A → Type 0
RefusesVerdict None job f = RefusesSlope job f
RefusesVerdict (Some listing) job f = RefusesListing listing job f

-- a job and a state have no engine, or the quantity is the energy and the energy itself has no accepted code, because of
-- this fault; or memory ran out
abbrev pub RefusesQuantity : {A : Type 0} → Quantity → (job state : List ℕ) → CommandFault A → Type 0
RefusesQuantity q job state (fault.Rejected f) =
    HasNoEngineOfTexts job state f ⊎ IsOfEnergy (λ g. (q ≡ quantity.Energy) × HasNoEnergyOfTexts job state g) f
RefusesQuantity q job state fault.Memory = Unit {0}
RefusesQuantity q job state _ = ⊥

-- The text can't be made of the contents of the command's files, because of this fault. The explanation of `explain`
-- exists.
abbrev pub RefusesText : {A : Type 0} → Text → CommandFault A → Type 0
RefusesText (StartText job gro frame) f = RefusesUnder job (RefusesFrame gro frame) f
RefusesText (FrameText state) f = RefusesState state f
RefusesText (QuantityText q job state) f = RefusesQuantity q job state f
RefusesText (SlopeVerdict job) f = RefusesUnder job RefusesSlope f
RefusesText (ListingVerdict job listing) f = RefusesUnder job (RefusesListing listing) f
RefusesText (CodeText job energy) f = RefusesUnder job (RefusesCode energy) f
RefusesText (Explanation code) f = ⊥

-- ---- the output after a fault

-- The output is unchanged, and `Why` explains the fault. Or there was a text to write, and a write failed after a
-- prefix of it.
abbrev pub IsTextUnwritten : {A : Type 0} → (CommandFault A → Type 0) → ((List ℕ → Type 0) → Type 0)
    → (before after : Output) → CommandFault A → Type 0
IsTextUnwritten Why HasText before after f = (Why f × (after ≡ before))
    ⊎ ((o : OutFault) × (f ≡ fault.Out o) × HasText (AppendsBeginning before after))

-- Why not all tables were written, and the output's content. If there are no tables to write (`Why`), the output is
-- unchanged. If memory ran out, it may hold the tables before those of two types, each whole. If the output failed, it
-- holds such tables and a prefix of the tables of these two. `Of` says of which job and plan.
abbrev pub AreTablesUnwritten : {A : Type 0} → (Why : CommandFault A → Type 0)
    → (Of : (JobValue → CurvePlan → Type 0) → Type 0) → (before after : Output) → CommandFault A → Type 0
AreTablesUnwritten Why Of before after f = (Why f × (after ≡ before))
    ⊎ ((f ≡ fault.Memory) × Of (λ j plan. (n : ℕ) × IsCurveCut j plan before after Memory n))
    ⊎ ((o : OutFault) × (f ≡ fault.Out o) × Of (λ j plan. (n : ℕ) × IsCurveCut j plan before after (Refused o) n))

-- Why not all texts of a run were printed, and the output's content: the run has the same fault (`IsUnshown` of the
-- crate `runs`). If memory ran out in the run, the output holds whole texts, possibly none. If the output failed, it
-- holds whole texts and a prefix of the next. After any other fault the output is unchanged.
abbrev pub IsRunUndone : {A : Type 0} → Showing → (job state : List ℕ) → PlanView → Output → Output
    → CommandFault A → Type 0
IsRunUndone {A} Shows job state plan before after f =
    (g : RunFault (InputFault A)) × (f ≡ fault_of_run g) × IsUnshown Shows job state plan before after (λ reports. Unit {0}) g

-- Why a stream has no whole output, or isn't of one run, and the output's content: the stream has the same fault (`Breaks`
-- of the crate `streams`). The output holds the texts of the states before; of a stream that isn't of one run, all texts.
abbrev pub IsStreamUndone : {A : Type 0} → StreamOutput → Held → (states job bytes : List ℕ) → Output → Output
    → CommandFault A → Type 0
IsStreamUndone {A} o held states job bytes before after f = (g : StreamFault (InputFault A)) × (borrowed : Bor (List ℕ))
    × (borrowed.now ≡ states) × (f ≡ fault_of_stream borrowed g) × Breaks o job (held states) bytes before after g

-- Why the output of a task wasn't printed, or not all of it, and the output's content.
abbrev pub IsTaskUndone : {A : Type 0} → Held → Task → (before after : Output) → CommandFault A → Type 0
IsTaskUndone held (OneText text) before after f = IsTextUnwritten (RefusesText text) (HasText text) before after f
IsTaskUndone held (TablesOfJob job c) before after f =
    AreTablesUnwritten (RefusesUnder job (RefusesCurve c)) (OfTables job c) before after f
IsTaskUndone held (EndOfRun job state run) before after f =
    IsRunUndone ShowsState job state (end_plan run.direction run.steps) before after f
IsTaskUndone held (StatesOfRun Shows job state v) before after f = IsRunUndone Shows job state (plan_of v) before after f
IsTaskUndone held (StatesOfStream o states job bytes) before after f = IsStreamUndone o held states job bytes before after f

-- ---- files that can't be read

-- the fault of a command whose file at this path wasn't read
abbrev pub unread : {A : Type 0} → ReadFault → Bor (List ℕ) → CommandFault A
unread read.CannotRead path = fault.CannotRead path
unread read.Memory path = fault.Memory

-- The file at this path wasn't read, and was the last file to be requested. If the file's bytes are known, the fault is
-- `Memory`.
pub record IsUnread {A : Type 0} (held : Held) (path : List ℕ) (requested_before requested_after : Paths) (f : CommandFault A)
    : Type 0 where
  pub why : ReadFault
  pub borrowed : Bor (List ℕ)
  pub is : f ≡ unread why borrowed
  pub path' : borrowed.now ≡ path
  pub requested : requested_after ≡ also_requested requested_before path
  pub untold : why ≡ read.CannotRead → held path ≡ None

-- one of these files wasn't read, after those before it were
abbrev pub IsUnreadOf : {A : Type 0} → Held → List (List ℕ) → (requested_before requested_after : Paths) → CommandFault A → Type 0
IsUnreadOf held paths requested_before requested_after f =
    UpTo (λ path requested requested'. IsUnread held path requested requested' f) paths requested_before requested_after

-- ---- faults of arguments

-- Why an action wasn't carried out. Either one of its files wasn't read, and the output is unchanged; or all were read,
-- and the fault is one of the task that their contents give.
abbrev pub IsUndone : {A : Type 0} → Held → (requested_before requested_after : Paths) → Action → (before after : Output)
    → CommandFault A → Type 0
IsUndone held requested_before requested_after action before after f =
    (IsUnreadOf held action.files requested_before requested_after f × (after ≡ before))
    ⊎ ((requested_after ≡ all_requested requested_before action.files)
    × OfFiles held action.files (λ contents. IsTaskUndone held (action.task contents) before after f))

-- a prefix of the help or the version, which the kind of the parser's error requests, was printed; then a write failed
abbrev pub BeginsAnswer : ErrorKind → Output → Output → Type 0
BeginsAnswer kind before after = ((kind ≡ DisplayHelp) × BeginsSome before after)
    ⊎ ((kind ≡ DisplayVersion) × AppendsBeginning before after version_line)

-- Why standard output has no help and no version after a parser error of this kind: the error isn't a request for help
-- or the version and memory didn't run out; or the output failed; or memory ran out.
abbrev pub WhyNotAnswered : {A : Type 0} → ErrorKind → Output → Output → CommandFault A → Type 0
WhyNotAnswered kind before after f =
    ((e : Error) × (f ≡ fault.CommandLine e) × (kind ≢ OutOfMemory) × (kind ≢ DisplayHelp) × (kind ≢ DisplayVersion)
    × (after ≡ before))
    ⊎ ((o : OutFault) × (f ≡ fault.Out o) × BeginsAnswer kind before after)
    ⊎ ((f ≡ fault.Memory) × (after ≡ before))

-- Why standard output has no help and no version for arguments that name no command: they request neither (`IsMisuse`);
-- or they request one of them, and the output failed; or memory ran out.
abbrev pub IsUnanswered : {A : Type 0} → List (List ℕ) → Output → Output → CommandFault A → Type 0
IsUnanswered words before after f = ((e : Error) × (f ≡ fault.CommandLine e) × IsMisuse words × (after ≡ before))
    ⊎ ((o : OutFault) × (f ≡ fault.Out o) × BeginsWish words before after)
    ⊎ ((f ≡ fault.Memory) × (after ≡ before))

-- why the arguments weren't carried out: the fault, the requested files, and the content of standard output
abbrev pub IsFaultOf : {A : Type 0} → List (List ℕ) → Held → (requested_before requested_after : Paths) → (before after : Output)
    → CommandFault A → Type 0
IsFaultOf words held requested_before requested_after before after f =
    (IsUnanswered words before after f × (requested_after ≡ requested_before))
    ⊎ ((c : CommandView) × IsCommand words c × IsUndone held requested_before requested_after (action_of c) before after f)
