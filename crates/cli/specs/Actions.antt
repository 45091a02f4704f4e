-- What each command does, in two tables: `action_of`, the files that a command requests and the task that their
-- contents give it; and `work_of`, the work whose progress a command reports. A new command is a row.
--
-- The specification of commands (`Command`, `CommandFailure`, `Refusals`) consists of statements about tasks and works,
-- so it has no other table of commands.
use Rattle.std.specs.Prelude.{◌≡◌, ◌⊎◌, ◌≤◌, ◌+◌, ◌*◌, ◌/◌, ℕ, List, [], ◌∷◌, ◌++◌, Bool, false, Option, Some, None, IfSome, Result, Ok, Err, codes, decimal, map}
use Rattle.command_line.specs.Commands.{CommandView, CurveView, ReplayView, RunView, VisitsView}
use Rattle.command_line.specs.Commands as command
use Rattle.command_line.specs.declared.commands.Quantity.{Quantity}
use Rattle.curves.specs.Tables.{curve_parts}
use Rattle.curves.specs.Writing.{IsCurveCut}
use Rattle.curves.specs.declared.plans.CurvePlan.{CurvePlan}
use Rattle.energy_program.specs.Faults.{Refusal}
use Rattle.fallible.specs.Out.{AppendsBeginning, Output}
use Rattle.fallible.specs.declared.failure.Failure.TheVariants.{Refused}
use Rattle.fallible.specs.declared.output.OutFault.{OutFault}
use Rattle.job.specs.JobText.{IsJobText, limits}
use Rattle.job.specs.Values.{JobValue}
use Rattle.kernel_code.specs.Listing.{ParsesAs}
use Rattle.kernel_code.specs.declared.instructions.Instr.{Instr}
use Rattle.potential.specs.Energies.{energy_code_of, slope_code_of}
use Rattle.potential.specs.Progress.{IsPassedUnder, slices_of}
use Rattle.potential.specs.Verdicts.{IsSlopeKernel, IsVerdictUnder}
use Rattle.runs.specs.Frames.{ShowsFrame}
use Rattle.runs.specs.Observations.{ShowsTable}
use Rattle.runs.specs.Visits.{Showing}
use Rattle.runs.specs.Watching.{Report, hundredths, hundredths_behind}
use Rattle.runs.specs.WholeStates.{ShowsState}
use Rattle.cli.specs.CurveTexts.{OfTables}
use Rattle.streams.specs.Replays.{replayed_by}
use Rattle.streams.specs.Streams.{StreamOutput, shown_by}
use Rattle.streams.specs.Watched.{AreAllWatched, AreFirstWatched, AreWatchedTo, AreWatchedUpTo}
use Rattle.verifier.specs.Kernels.{Kernel}
use Rattle.verifier.specs.declared.faults.VerifyFault.{VerifyFault}
use Rattle.cli.specs.StreamTexts.{columns_of, plan_of_replay, shows_of}

-- ---- files

-- The bytes of the file at each path, if known. The bytes of the system's own files are unknown.
abbrev pub Held : Type 0
Held = List ℕ → Option (List ℕ)

-- These are the bytes of the file at this path. If the file's bytes are unknown, this holds for any bytes, so that
-- statements about such a file are almost empty.
abbrev pub IsHeld : Held → List ℕ → List ℕ → Type 0
IsHeld held path bytes = IfSome (held path) (λ told. bytes ≡ told)

-- the contents of the files at these paths, one after another
abbrev pub Contents : List (List ℕ) → Type 0
Contents [] = Unit {0}
Contents (path ∷ more) = List ℕ × Contents more

-- The statement `Holds` is true of the contents of these files. Of files with unknown bytes, it is true of some bytes.
abbrev pub OfFiles : Held → (paths : List (List ℕ)) → (Contents paths → Type 0) → Type 0
OfFiles held [] Holds = Holds tt
OfFiles held (path ∷ more) Holds =
    (bytes : List ℕ) × IsHeld held path bytes × OfFiles held more (λ rest. Holds (bytes, rest))

-- the statement `Holds` is true of the bytes of this file, or of some bytes if they are unknown
abbrev pub OfFile : Held → List ℕ → (List ℕ → Type 0) → Type 0
OfFile held path Holds = (bytes : List ℕ) × IsHeld held path bytes × Holds bytes

-- These files are known to have contents of which the statement `Holds` is true.
abbrev pub OfKnownFiles : Held → (paths : List (List ℕ)) → (Contents paths → Type 0) → Type 0
OfKnownFiles held [] Holds = Holds tt
OfKnownFiles held (path ∷ more) Holds =
    (bytes : List ℕ) × (held path ≡ Some bytes) × OfKnownFiles held more (λ rest. Holds (bytes, rest))

-- the paths of the files that were requested, in order, if known
abbrev pub Paths : Type 0
Paths = Option (List (List ℕ))

-- the paths after one more file is requested
abbrev pub also_requested : Paths → List ℕ → Paths
also_requested None path = None
also_requested (Some paths) path = Some (paths ++ path ∷ [])

-- the paths after these files are requested, in this order
abbrev pub all_requested : Paths → List (List ℕ) → Paths
all_requested paths [] = paths
all_requested paths (path ∷ more) = all_requested (also_requested paths path) more

-- Files were requested in this order, up to one of them. `IsLast` holds of its path, and of the requested paths before
-- and after it.
abbrev pub UpTo : (IsLast : List ℕ → Paths → Paths → Type 0) → List (List ℕ) → (requested requested' : Paths) → Type 0
UpTo IsLast [] requested requested' = ⊥
UpTo IsLast (path ∷ more) requested requested' =
    IsLast path requested requested' ⊎ UpTo IsLast more (also_requested requested path) requested'

-- ---- commands

-- a text that a command prints of the contents of its files
pub data Text : Type 0 where
  StartText : (job gro : List ℕ) → (frame : ℕ) → Text
  FrameText : (state : List ℕ) → Text
  QuantityText : Quantity → (job state : List ℕ) → Text
  SlopeVerdict : (job : List ℕ) → Text
  ListingVerdict : (job listing : List ℕ) → Text
  CodeText : (job : List ℕ) → (energy : Bool) → Text
  Explanation : (code : Option (List ℕ)) → Text

-- What a command prints of the contents of its files: one text; the tables of a job's potential; the state after the steps
-- of a run; the states of a run on its way; or the output of a stream of states, the file at the path `states`.
pub data Task : Type 1 where
  OneText : Text → Task
  TablesOfJob : (job : List ℕ) → CurveView → Task
  EndOfRun : (job state : List ℕ) → RunView → Task
  StatesOfRun : Showing → (job state : List ℕ) → VisitsView → Task
  StatesOfStream : StreamOutput → (states job bytes : List ℕ) → Task

-- what a command does: the files that it requests, in this order, and the task that their contents give it
pub record Action : Type 1 where
  pub files : List (List ℕ)
  pub task : Contents files → Task

-- an action that requests no file
abbrev pub of_none : Task → Action
of_none task = record { files = []; task = λ contents. task }

-- an action that requests the file at this path
abbrev pub of_one : List ℕ → (List ℕ → Task) → Action
of_one path task = record { files = path ∷ []; task = λ contents. task contents.0 }

-- an action that requests the files at these paths
abbrev pub of_two : (first second : List ℕ) → (List ℕ → List ℕ → Task) → Action
of_two first second task =
    record { files = first ∷ second ∷ []; task = λ contents. task contents.0 contents.1.0 }

-- `trajectory`, `states` and `observe` print a frame, a whole state or a table row (`Shows`) every k steps.
abbrev pub visits_action : Showing → VisitsView → Action
visits_action Shows v = of_two v.run.job v.run.state (λ job state. StatesOfRun Shows job state v)

-- `replay`, and a command with `--each`, print an output of a stream of states under a job, whose text determines it.
abbrev pub stream_action : (output : (job : List ℕ) → StreamOutput) → (job states : List ℕ) → Action
stream_action output job states = of_two job states (λ job bytes. StatesOfStream (output job) states job bytes)

-- `energy`, `forces` and `velocities` print a quantity of a state under a job.
abbrev pub quantity_action : Quantity → (job state : List ℕ) → Action
quantity_action q job state = of_two job state (λ job state. OneText (QuantityText q job state))

-- `check` prints the verdict line of the listing if one is given, otherwise of the job's slope code.
abbrev pub check_action : List ℕ → Option (List ℕ) → Action
check_action path None = of_one path (λ job. OneText (SlopeVerdict job))
check_action path (Some code) = of_two path code (λ job listing. OneText (ListingVerdict job listing))

-- what each command does
abbrev pub action_of : CommandView → Action
action_of (command.Start job gro frame) = of_two job gro (λ job gro. OneText (StartText job gro frame))
action_of (command.Run run) = of_two run.job run.state (λ job state. EndOfRun job state run)
action_of (command.Trajectory v) = visits_action ShowsFrame v
action_of (command.States v) = visits_action ShowsState v
action_of (command.Replay r) = stream_action (replayed_by (plan_of_replay r)) r.job r.states
action_of (command.Observe v table) = visits_action (ShowsTable (columns_of table)) v
action_of (command.Frame state) = of_one state (λ state. OneText (FrameText state))
action_of (command.Measure q job state) = quantity_action q job state
action_of (command.Each e) = stream_action (shown_by (shows_of e.shown)) e.job e.states
action_of (command.Check job listing progress) = check_action job listing
action_of (command.Code job energy) = of_one job (λ job. OneText (CodeText job energy))
action_of (command.Curve c) = of_one c.job (λ job. TablesOfJob job c)
action_of (command.Explain code) = of_none (OneText (Explanation code))

-- the paths of the files of a command, in the order in which they are requested
abbrev pub files_of : CommandView → List (List ℕ)
files_of c = (action_of c).files

-- The statement `Holds` is true of the command's task. Of files with unknown bytes, it is true for some bytes.
abbrev pub OfTask : Held → CommandView → (Task → Type 0) → Type 0
OfTask held c Holds = OfFiles held (files_of c) (λ contents. Holds ((action_of c).task contents))

-- The command's files are known, and the statement `Holds` is true of its task.
abbrev pub OfKnownTask : Held → CommandView → (Task → Type 0) → Type 0
OfKnownTask held c Holds = OfKnownFiles held (files_of c) (λ contents. Holds ((action_of c).task contents))

-- the paths after a command has requested all its files, in their order
abbrev pub requested_by : Paths → CommandView → Paths
requested_by paths c = all_requested paths (files_of c)

-- a command requested all its files in their order, or only the files up to one of them
abbrev pub AsksFor : CommandView → Paths → Paths → Type 0
AsksFor c before after =
    (after ≡ requested_by before c)
    ⊎ UpTo (λ path requested requested'. requested' ≡ also_requested requested path) (files_of c) before after

-- ---- work and its progress

-- a statement about the job of a text
abbrev pub OfJob : List ℕ → (JobValue → Type 0) → Type 0
OfJob job Holds = (said : JobValue) × IsJobText limits job said × Holds said

-- the number of slices of all ordered pairs of types of the job
abbrev pub AreSlices : (job : List ℕ) → ℕ → Type 0
AreSlices job all = OfJob job (λ j. all ≡ slices_of j)

-- The number n of slices that are reported before this code of a job is rejected: none if there is no code, otherwise the
-- slices before the verifier's error (`IsPassedUnder`). The verifier has only one answer on the code.
abbrev pub RejectsAfter : JobValue → (made : Result (List Instr) Refusal) → (n : ℕ) → Type 0
RejectsAfter j made n = (((r : Refusal) × (made ≡ Err r)) × (n ≡ 0))
    ⊎ ((code : List Instr) × (made ≡ Ok code) × ((f : VerifyFault) × IsVerdictUnder j code (Err f) × IsPassedUnder j code f n))

-- likewise for the code that `check` verifies: of the listing if one is given, otherwise the job's slope code
abbrev pub RejectsChecked : (listing : Option (List ℕ)) → JobValue → (n : ℕ) → Type 0
RejectsChecked None j n = RejectsAfter j (slope_code_of j) n
RejectsChecked (Some listing) j n = (code : List Instr) × ParsesAs listing (Ok code) × RejectsAfter j (Ok code) n

-- likewise for the codes of `curve`: of the slope; or, after all slices of the slope's accepted code, of the energy itself
abbrev pub RejectsCurve : JobValue → (n : ℕ) → Type 0
RejectsCurve j n = RejectsAfter j (slope_code_of j) n
    ⊎ (((k : Kernel) × IsSlopeKernel j k) × ((more : ℕ) × RejectsAfter j (energy_code_of j) more × (n ≡ slices_of j + more)))

-- the progress line after `made` of all parts of a work, which `word` names
abbrev pub progress_line : (word : List ℕ) → (all made : ℕ) → List ℕ
progress_line word all made = codes "pairmd: " ++ decimal made ++ codes " of " ++ decimal all ++ codes " " ++ word ++ codes "\n"

-- the progress line of a report on steps
abbrev pub report_line : Report → List ℕ
report_line r = progress_line (codes "steps") r.all r.done

-- These are all progress lines of a work, whose number of parts satisfies `IsAll`: one after each part that completes
-- another hundredth.
abbrev pub AllLines : (word : List ℕ) → (IsAll : ℕ → Type 0) → (lines : List (List ℕ)) → Type 0
AllLines word IsAll lines = (all : ℕ) × IsAll all × (lines ≡ map (progress_line word all) (hundredths all))

-- likewise for the first `done` parts of the work
abbrev pub FirstLines : (word : List ℕ) → (IsAll : ℕ → Type 0) → (done : ℕ) → (lines : List (List ℕ)) → Type 0
FirstLines word IsAll done lines =
    (all : ℕ) × IsAll all × (done ≤ all) × (lines ≡ map (progress_line word all) (hundredths_behind all 0 done))

-- The work of a command, whose progress it may report: whether it does; which are all its progress lines; which those of
-- its first `done` parts; which those before the write of a text of its output; which those before a state of a stream is
-- read; whether it verifies code; after how many parts it rejects code; and whether it replays a stream.
pub record Work : Type 1 where
  pub progress : Bool
  pub whole : (lines : List (List ℕ)) → Type 0
  pub part : (done : ℕ) → (lines : List (List ℕ)) → Type 0
  pub texts : (lines : List (List ℕ)) → Type 0
  pub read : (lines : List (List ℕ)) → Type 0
  pub verifies : Type 0
  pub rejects : (done : ℕ) → Type 0
  pub replays : Type 0

-- The progress lines of a run of n steps before it writes a text: those of all steps, or with a text every k steps those
-- of the steps up to some text.
abbrev pub TextLines : (every : Option ℕ) → (n : ℕ) → (lines : List (List ℕ)) → Type 0
TextLines None n = AllLines (codes "steps") (λ all. all ≡ n)
TextLines (Some k) n = λ lines. (count : ℕ) × FirstLines (codes "steps") (λ all. all ≡ n) (count * k) lines

-- the work of a run of n steps, with a text every k steps or only after the last
abbrev pub steps_work : (progress : Bool) → (n : ℕ) → (every : Option ℕ) → Work
steps_work progress n every = record {
  progress = progress;
  whole = AllLines (codes "steps") (λ all. all ≡ n);
  part = FirstLines (codes "steps") (λ all. all ≡ n);
  texts = TextLines every n;
  read = λ lines. lines ≡ [];
  verifies = ⊥;
  rejects = λ done. ⊥;
  replays = ⊥;
}

-- the work of a run up to its last frame, state or table row
abbrev pub visits_work : VisitsView → Work
visits_work v = steps_work v.run.progress (v.run.steps / v.every * v.every) (Some v.every)

-- A work that verifies code, whose parts this word names, and that prints texts after these progress lines. `Rejects` holds
-- of the number of parts before code is rejected.
abbrev pub printing_work : (progress : Bool) → (word : List ℕ) → (AreAll Rejects : ℕ → Type 0) → (AreTexts : List (List ℕ) → Type 0)
    → Work
printing_work progress word AreAll Rejects AreTexts = record {
  progress = progress;
  whole = AllLines word AreAll;
  part = FirstLines word AreAll;
  texts = AreTexts;
  read = λ lines. lines ≡ [];
  verifies = Unit {0};
  rejects = Rejects;
  replays = ⊥;
}

-- a work that verifies code, whose parts this word names, and that prints a text after all parts
abbrev pub parts_work : (progress : Bool) → (word : List ℕ) → (AreAll Rejects : ℕ → Type 0) → Work
parts_work progress word AreAll Rejects = printing_work progress word AreAll Rejects (AllLines word AreAll)

-- the statement `Holds` is true of the bytes of the listing, if one is given
abbrev pub OfListing : Held → (path : Option (List ℕ)) → (Option (List ℕ) → Type 0) → Type 0
OfListing held None Holds = Holds None
OfListing held (Some path) Holds = OfFile held path (λ bytes. Holds (Some bytes))

-- the work of `check`, whose parts are the slices that it verifies
abbrev pub check_work : Held → (job : List ℕ) → (listing : Option (List ℕ)) → (progress : Bool) → Work
check_work held job listing progress = parts_work progress (codes "slices") (λ all. OfFile held job (λ text. AreSlices text all))
    (λ done. OfFile held job (λ text. OfListing held listing (λ code. OfJob text (λ j. RejectsChecked code j done))))

-- a statement about the lines of reports on a replay of these files
abbrev pub OfReports : Held → ReplayView → ((job bytes : List ℕ) → List Report → Type 0) → (lines : List (List ℕ)) → Type 0
OfReports held r Are lines = OfFile held r.job (λ job. OfFile held r.states
    (λ bytes. (reports : List Report) × Are job bytes reports × (lines ≡ map report_line reports)))

-- the output is unchanged, or a write failed after a prefix of a line
abbrev pub MayBegin : (before after : Output) → Type 0
MayBegin before after = (after ≡ before) ⊎ ((line : List ℕ) × AppendsBeginning before after line)

-- The work of `replay`, whose standard output was `out`, and is `out'`: the hundredths of each replayed segment, one
-- segment after another.
-- - `part`: of the segments whose lines were printed, or of these and of the first `done` steps of the next segment;
-- - `texts`: of the segments whose lines were printed, and of the whole next segment, whose line may be begun;
-- - `read`: of the segments whose lines were printed.
abbrev pub replay_work : Held → (out out' : Output) → ReplayView → Work
replay_work held out out' r = record {
  progress = r.progress;
  whole = OfReports held r (λ job bytes. AreAllWatched (plan_of_replay r) job out bytes out');
  part = λ done. OfReports held r (λ job bytes reports.
      (now : Output) × MayBegin now out' × AreWatchedTo (plan_of_replay r) job out bytes now done reports);
  texts = OfReports held r (λ job bytes reports. (now : Output) × MayBegin now out'
      × ((steps : ℕ) × AreWatchedUpTo (plan_of_replay r) job out bytes now steps steps reports));
  read = OfReports held r (λ job bytes. AreFirstWatched (plan_of_replay r) job out bytes out');
  verifies = ⊥;
  rejects = λ done. ⊥;
  replays = Unit {0};
}

-- The progress lines of a curve before a write to standard output failed: those of all parts up to the last row of the
-- tables of two types that the write belongs to. The output has the whole tables before, and a prefix of these.
abbrev pub AreTableLines : JobValue → CurvePlan → (before after : Output) → (lines : List (List ℕ)) → Type 0
AreTableLines j plan before after lines = (f : OutFault) × (n : ℕ) × IsCurveCut j plan before after (Refused f) n
    × FirstLines (codes "parts") (λ all. all ≡ curve_parts j plan) n lines

-- The work of a curve: the slices of the slope's code, then of the energy's, then the rows. `Of` says of which job and plan.
abbrev pub tables_work : (progress : Bool) → (Of : (JobValue → CurvePlan → Type 0) → Type 0) → (out out' : Output) → Work
tables_work progress Of out out' = printing_work progress (codes "parts") (λ all. Of (λ j plan. all ≡ curve_parts j plan))
    (λ done. Of (λ j plan. RejectsCurve j done)) (λ lines. Of (λ j plan. AreTableLines j plan out out' lines))

-- the work of `curve`
abbrev pub curve_work : Held → (out out' : Output) → CurveView → Work
curve_work held out out' c = tables_work c.progress (λ Holds. OfFile held c.job (λ job. OfTables job c Holds)) out out'

-- the work of each command, whose standard output was `out`, and is `out'`; the others report no progress
abbrev pub work_of : Held → (out out' : Output) → CommandView → Work
work_of held out out' (command.Run run) = steps_work run.progress run.steps None
work_of held out out' (command.Trajectory v) = visits_work v
work_of held out out' (command.States v) = visits_work v
work_of held out out' (command.Replay r) = replay_work held out out' r
work_of held out out' (command.Observe v table) = visits_work v
work_of held out out' (command.Check job listing progress) = check_work held job listing progress
work_of held out out' (command.Curve c) = curve_work held out out' c
work_of held out out' _ = steps_work false 0 None
