-- Progress of replays: the reports to the watcher of a replay. Each segment has its own hundredths.
use Rattle.std.specs.Prelude.{◌≡◌, ◌⊎◌, ◌≤◌, ℕ, ℤ, suc, List, [], ◌++◌, Some, Result, OnOk, IfErr}
use Rattle.engine.specs.Engines.{AreSafe, IsOfState}
use Rattle.engine.specs.declared.faults.InputFault.{InputFault}
use Rattle.engine.specs.declared.faults.InputFault.TheVariants as input
use Rattle.fallible.specs.Out.{Appends, AppendsBeginning, Output}
use Rattle.integrator.specs.States.{counter_after}
use Rattle.integrator.specs.declared.direction.Direction.{Direction}
use Rattle.integrator.specs.declared.faults.SystemFault.TheVariants as system
use Rattle.runs.specs.Watching.{Report, hundredths_behind, reports_at}
use Rattle.state.specs.Sources.{Left}
use Rattle.streams.specs.Plans.{IsReplayed, ReplayPlanView}
use Rattle.streams.specs.Replays.{AreReplayed, OfCounters, replayed_by}
use Rattle.streams.specs.Streams.{OfFirst, OfLeft, WritesStream}
use Rattle.streams.specs.declared.faults.StreamFault.{StreamFault}
use Rattle.streams.specs.declared.faults.StreamFault.TheVariants as stream

-- ---- reports of one segment

-- The reports of a run from one counter to another when `made` of its steps are made: one for each of these that
-- completes a hundredth of all its steps, in order, and all with the same output.
pub record AreOfRun (from to : ℤ) (o : Output) (steps made : ℕ) (reports : List Report) : Type 0 where
  pub direction : Direction
  pub counted : counter_after direction from steps ≡ Some to
  pub few : made ≤ steps
  pub are : reports ≡ reports_at o steps (hundredths_behind steps 0 made)

-- likewise of the segment with this number, from 0, and these counters: none if it isn't to be replayed
pub data AreOfSegment (plan : ReplayPlanView) (number : ℕ) (from to : ℤ) (o : Output) : (steps made : ℕ) → List Report → Type 0 where
  passed : (IsReplayed plan number from to → ⊥) → AreOfSegment plan number from to o 0 0 []
  replayed : (steps made : ℕ) (reports : List Report) → IsReplayed plan number from to → AreOfRun from to o steps made reports
      → AreOfSegment plan number from to o steps made reports

-- ---- reports of a stream

-- The reports of the segments of the first `count` states of a stream, whose texts are `front`; `last` is the last text.
-- When the reports of a segment come, the lines of the segments before have been written, and no others.
pub data AreWatched (plan : ReplayPlanView) (job : List ℕ) (o : Output)
    : (count : ℕ) → (front last : List ℕ) → List Report → Type 0 where
  begins : (state : List ℕ) → AreSafe job state → AreWatched plan job o 1 state state []
  goes_on : (number differing steps : ℕ) (front before text after : List ℕ) (between : Output) (reports more : List Report)
      → AreWatched plan job o (suc number) front before reports
      → AreReplayed plan job (suc number) differing front before text → Appends o between text
      → OfCounters before after (λ from to. AreOfSegment plan number from to between steps steps more)
      → AreWatched plan job o (suc (suc number)) (front ++ after) after (reports ++ more)

-- The segments of the first `count` states of a stream, whose texts are `front`, were replayed, and `differing` of them
-- differ; `last` is the last text. Between the outputs `o` and `now` their lines were written, and no others. These are
-- their reports.
pub record AreDone (plan : ReplayPlanView) (job : List ℕ) (o now : Output) (count differing : ℕ) (front last : List ℕ)
    (reports : List Report) : Type 0 where
  pub text : List ℕ
  pub lines : AreReplayed plan job count differing front last text
  pub appends : Appends o now text
  pub are : AreWatched plan job o count front last reports

-- The output is `o` before a replay of a stream, and `now` when the watcher has got some reports.
module _ (plan : ReplayPlanView) (job : List ℕ) (o : Output) (bytes : List ℕ) (now : Output) where
  -- all segments of the stream were replayed
  abbrev pub AreAllWatched : List Report → Type 0
  AreAllWatched reports =
      (count : ℕ) × (differing : ℕ) × (last : List ℕ) × AreDone plan job o now count differing bytes last reports

  -- the segments of some first states were replayed, or nothing came before the first state
  abbrev pub AreFirstWatched : List Report → Type 0
  AreFirstWatched reports = ((now ≡ o) × (reports ≡ []))
      ⊎ ((count : ℕ) × (differing : ℕ) × (front : List ℕ) × (rest : List ℕ) × (last : List ℕ)
      × (bytes ≡ front ++ rest) × AreDone plan job o now count differing front last reports)

  -- the segments of some first states were replayed, and `made` steps of the segment to the next state, without its line
  pub record AreWatchedUpTo (steps made : ℕ) (reports : List Report) : Type 0 where
    pub number : ℕ
    pub differing : ℕ
    pub front : List ℕ
    pub before : List ℕ
    pub rest : List ℕ
    pub earlier : List Report
    pub more : List Report
    pub split : bytes ≡ front ++ rest
    pub done : AreDone plan job o now (suc number) differing front before earlier
    pub next : OfFirst rest (λ after. OfCounters before after (λ from to. AreOfSegment plan number from to now steps made more))
    pub reports' : reports ≡ earlier ++ more

  -- the segments of some first states were replayed, and perhaps `made` steps of the next segment
  abbrev pub AreWatchedTo : (made : ℕ) → List Report → Type 0
  AreWatchedTo made reports = AreFirstWatched reports ⊎ ((steps : ℕ) × AreWatchedUpTo steps made reports)

-- A state with this fault is rejected before the segment to it is run: its text is no state's, or it has another number
-- of fraction bits than the job.
abbrev pub IsUnrun : {A : Type 0} → InputFault A → Type 0
IsUnrun (input.State f) = Unit {0}
IsUnrun (input.System system.BitsDiffer) = Unit {0}
IsUnrun _ = ⊥

-- The reports before a fault, and the output then. The segments of the states before the fault were replayed. If a line
-- wasn't written whole, its segment was run. If a state is rejected, the segment to it was run, if it is to be replayed;
-- unless it is the first state, or is rejected before the run (`IsUnrun`). If memory ran out, some steps of the segment
-- were made.
abbrev pub AreWatchedBefore : {A : Type 0} → ReplayPlanView → (job : List ℕ) → (before : Output) → (bytes : List ℕ)
    → (after : Output) → StreamFault (InputFault A) → List Report → Type 0
AreWatchedBefore plan job o bytes after (stream.Rejected f) reports = (after ≡ o) × (reports ≡ [])
AreWatchedBefore plan job o bytes after (stream.State n f) reports = IsOfState f
    × ((((n ≡ 1) ⊎ IsUnrun f) × AreFirstWatched plan job o bytes after reports)
    ⊎ ((steps : ℕ) × AreWatchedUpTo plan job o bytes after steps steps reports))
AreWatchedBefore plan job o bytes after (stream.Differ n) reports = AreAllWatched plan job o bytes after reports
AreWatchedBefore plan job o bytes after stream.CannotRead reports = AreFirstWatched plan job o bytes after reports
AreWatchedBefore plan job o bytes after (stream.Out f) reports = (now : Output) × (line : List ℕ) × AppendsBeginning now after line
    × ((steps : ℕ) × AreWatchedUpTo plan job o bytes now steps steps reports)
AreWatchedBefore plan job o bytes after stream.Memory reports = (made : ℕ) × AreWatchedTo plan job o bytes after made reports

-- The reports of a replay, and the output: of all its segments, or those before a fault. `told` is the statement that the
-- watcher got these reports.
pub record IsWatched {X A : Type 0} (plan : ReplayPlanView) (job : List ℕ) (left : Left) (before after : Output)
    (told : List Report → Type 0) (result : Result X (StreamFault (InputFault A))) : Type 0 where
  pub all : OnOk result (OfLeft left
      (λ bytes. (reports : List Report) × AreAllWatched plan job before bytes after reports × told reports))
  pub some : IfErr result (λ f. OfLeft left
      (λ bytes. (reports : List Report) × AreWatchedBefore plan job before bytes after f reports × told reports))

-- The contract of a replay: the lines that it writes, and the reports to its watcher.
pub record ReplaysStream {X A : Type 0} (plan : ReplayPlanView) (job : List ℕ) (left : Left) (before after : Output)
    (told : List Report → Type 0) (result : Result X (StreamFault (InputFault A))) : Type 0 where
  pub writes : WritesStream (replayed_by plan job) job left before after result
  pub watched : IsWatched plan job left before after told result
