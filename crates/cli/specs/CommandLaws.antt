-- Laws that relate one use of the program to another.
use Rattle.std.specs.Prelude.{◌≡◌, ◌⊎◌, ◌<◌, ◌≤◌, ◌-◌, ◌^◌, ℕ, suc, List, ◌++◌, Some}
use Rattle.integrator.specs.Frames.{opposite}
use Rattle.integrator.specs.declared.direction.Direction.{Direction}
use Rattle.fallible.specs.Out.{Appends, Output}
use Rattle.command_line.specs.Commands.{ReplayView, RunView}
use Rattle.command_line.specs.CommandLine.{IsCommand}
use Rattle.command_line.specs.Commands as command
use Rattle.cli.specs.Actions.{Held, Paths}
use Rattle.cli.specs.Command.{IsAnswer, IsNotRefused}
use Rattle.cli.specs.StreamTexts.{plan_of_replay}
use Rattle.streams.specs.OneRun.{IsOneRun, part_of_all}
use Rattle.streams.specs.Plans.{ReplayPlanView}
use Rattle.streams.specs.Streams.{AreAccepted}

-- The arguments name a run of n steps in this direction, `run` or `back`. Its two files are known to hold these texts.
pub record NamesRun (words : List (List ℕ)) (held : Held) (job state : List ℕ) (direction : Direction) (n : ℕ) : Type 0 where
  pub run : RunView
  pub named : IsCommand words (command.Run run)
  pub way : run.direction ≡ direction
  pub count : run.steps ≡ n
  pub job_held : held run.job ≡ Some job
  pub state_held : held run.state ≡ Some state

-- one use of the program: its arguments, the files, the requested paths and both outputs before and after, and the exit
-- status
pub record Use : Type 0 where
  pub words : List (List ℕ)
  pub held : Held
  pub requested : Paths
  pub requested' : Paths
  pub out : Output
  pub out' : Output
  pub err : Output
  pub err' : Output
  pub status : ℕ

-- the program answered in this use as the command specification states
abbrev pub IsAnswered : Use → Type 0
IsAnswered u = IsAnswer u.words u.held u.requested u.requested' u.out u.out' u.err u.err' u.status

-- the use succeeded, and appended this text to standard output, whose earlier bytes are known
pub record PrintedText (u : Use) (text : List ℕ) : Type 0 where
  pub done : u.status ≡ 0
  pub bytes : List ℕ
  pub taken : u.out.taken ≡ Some bytes
  pub taken' : u.out'.taken ≡ Some (bytes ++ text)

-- A first use makes n steps in a direction from a state file, and prints a text. A second use makes n steps in the
-- opposite direction from a file with that text, under the same job. Then the second use prints the first state file
-- and ends with status 0, unless memory runs out (4) or its standard output fails (5).
abbrev pub PrintedRunsReturn : Type 0
PrintedRunsReturn = (first second : Use) (job state text : List ℕ) (direction : Direction) (n : ℕ)
    → IsAnswered first → NamesRun first.words first.held job state direction n → PrintedText first text
    → IsAnswered second → NamesRun second.words second.held job text (opposite direction) n
    → ((second.status ≡ 0) × Appends second.out second.out' state) ⊎ (second.status ≡ 4)
    ⊎ ((second.status ≡ 5) × (second.out.failed < second.out'.failed))

-- The arguments name `replay` with this plan. Its two files are known to hold the text of a job, and a stream.
pub record NamesReplay (words : List (List ℕ)) (held : Held) (job stream : List ℕ) (plan : ReplayPlanView) : Type 0 where
  pub replay : ReplayView
  pub named : IsCommand words (command.Replay replay)
  pub planned : plan_of_replay replay ≡ plan
  pub job_held : held replay.job ≡ Some job
  pub stream_held : held replay.states ≡ Some stream

-- If each part of all segments of a stream was replayed with status 0, the stream is of one run.
abbrev pub ReplayedStreamsAreOneRun : Type 0
ReplayedStreamsAreOneRun = (use_of : (part : ℕ) → Use) (job stream : List ℕ) (parts : ℕ) → 0 < parts
    → ((part : ℕ) → 0 < part → part ≤ parts → IsAnswered (use_of part) × ((use_of part).status ≡ 0)
    × NamesReplay (use_of part).words (use_of part).held job stream (part_of_all part parts))
    → (last : List ℕ) × IsOneRun job stream last

-- A replay doesn't reject a stream of one run whose states are accepted, fewer than 2^64 - 1: it ends with status 0,
-- unless memory runs out (4) or its standard output fails (5).
abbrev pub OneRunsAreNotRefused : Type 0
OneRunsAreNotRefused = (u : Use) (job stream last : List ℕ) (n : ℕ) (plan : ReplayPlanView) → IsAnswered u
    → NamesReplay u.words u.held job stream plan → IsOneRun job stream last → AreAccepted job (suc n) stream
    → suc n < 2 ^ 64 - 1 → IsNotRefused u.status u.out u.out'
