-- Streams of one run, and laws of replays: a stream has at most one replay, which shows whether the stream is of one
-- run.
use Rattle.std.specs.Prelude.{◌≡◌, suc, ◌<◌, ◌≤◌, ◌^◌, ℕ, pos, neg_ℤ, ◌-◌, List, ◌++◌, Option}
use Rattle.engine.specs.Engines.{AreSafe}
use Rattle.engine.specs.RunSpecification.{IsLevesqueVerletRun, IsTextOf}
use Rattle.integrator.specs.declared.direction.Direction.{Direction}
use Rattle.runs.specs.Plans.{PlanView}
use Rattle.runs.specs.Visits.{AreJoined, IsShownOfRun}
use Rattle.runs.specs.WholeStates.{ShowsState}
use Rattle.state.specs.StateText.{StateView}
use Rattle.streams.specs.Plans.{ReplayPlanView}
use Rattle.streams.specs.Replays.{AreReplayed, IsLineOf}
use Rattle.streams.specs.Streams.{AreAccepted}
use Rattle.streams.specs.declared.differences.Difference.{Difference}

-- The stream of these texts, one after another, is of one run: each text but the first is the text of a run of some
-- steps, forward or back, from the text before. `last` is the last text.
pub data IsOneRun (job : List ℕ) : (stream last : List ℕ) → Type 0 where
  starts : (state : List ℕ) (s : StateView) → IsTextOf state s → IsOneRun job state state
  goes_on : (stream before after : List ℕ) (direction : Direction) (steps : ℕ) → IsOneRun job stream before
      → IsLevesqueVerletRun job before direction steps after → IsOneRun job (stream ++ after) after

-- the stream, whose last text is `last`, was replayed with the plan, and no replayed segment differs
abbrev pub IsReplayedSame : ReplayPlanView → (job stream last : List ℕ) → Type 0
IsReplayedSame plan job stream last = (count : ℕ) × (text : List ℕ) × AreReplayed plan job count 0 stream last text

-- the plan to replay a part of all segments, whatever their counters
abbrev pub part_of_all : (part parts : ℕ) → ReplayPlanView
part_of_all part parts =
    record { part = part; parts = parts; from = neg_ℤ (pos (2 ^ 63)); to = pos (2 ^ 63 - 1) }

-- If each part of all segments was replayed, and no segment differs, the stream is of one run. With one part, that is
-- one replay of all segments.
abbrev pub SameStreamsAreOneRun : Type 0
SameStreamsAreOneRun = (parts : ℕ) (job stream last : List ℕ) → 0 < parts
    → ((part : ℕ) → 0 < part → part ≤ parts → IsReplayedSame (part_of_all part parts) job stream last)
    → IsOneRun job stream last

-- If the states of a stream of one run are accepted, each plan has a replay of the stream, and no segment differs.
abbrev pub OneRunsAreReplayed : Type 0
OneRunsAreReplayed = (plan : ReplayPlanView) (job : List ℕ) (count : ℕ) (stream last : List ℕ) → IsOneRun job stream last
    → AreAccepted job count stream → IsReplayedSame plan job stream last

-- States of a run that are shown by their texts are a stream of one run, which each plan of a replay finds the same.
abbrev pub ShownStatesAreReplayed : Type 0
ShownStatesAreReplayed = (shown : PlanView) (plan : ReplayPlanView) (job state : List ℕ) (n : ℕ) (stream : List ℕ)
    → AreSafe job state → AreJoined (IsShownOfRun ShowsState job state shown) (suc n) stream
    → (last : List ℕ) × IsOneRun job stream last × IsReplayedSame plan job stream last

-- If a replayed segment differs, the stream isn't of one run.
abbrev pub DifferingAreNoRun : Type 0
DifferingAreNoRun = (plan : ReplayPlanView) (job : List ℕ) (count differing : ℕ) (stream last text other : List ℕ)
    → AreReplayed plan job count differing stream last text → 0 < differing → IsOneRun job stream other → ⊥

-- Any two replays of a stream, even with different plans, have the same number of states and the same last text.
abbrev pub StatesAreOne : Type 0
StatesAreOne = (plan other : ReplayPlanView) (job : List ℕ) (count count' differing differing' : ℕ)
    (stream last last' text text' : List ℕ) → AreReplayed plan job count differing stream last text
    → AreReplayed other job count' differing' stream last' text' → (count ≡ count') × (last ≡ last')

-- A segment whose first state is safe has at most one line: so a failed write leaves a beginning of this line.
abbrev pub LinesAreOne : Type 0
LinesAreOne = (job before after : List ℕ) (difference difference' : Option Difference) (line line' : List ℕ) → AreSafe job before
    → IsLineOf job before after difference line → IsLineOf job before after difference' line'
    → (difference ≡ difference') × (line ≡ line')

-- A stream has at most one replay with a plan: the lines, and the number of segments that differ.
abbrev pub ReplaysAreOne : Type 0
ReplaysAreOne = (plan : ReplayPlanView) (job : List ℕ) (count count' differing differing' : ℕ)
    (stream last last' text text' : List ℕ) → AreReplayed plan job count differing stream last text
    → AreReplayed plan job count' differing' stream last' text' → (differing ≡ differing') × (text ≡ text')
