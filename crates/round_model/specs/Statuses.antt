-- The workers' progress as a round keeps it, and the state of the machine that it represents.
use Rattle.std.specs.Prelude.{◌≡◌, ℕ, ◌+◌, ◌*◌, ◌<◌, ◌≤◌, List, [], ◌++◌, length, map, drop, slice_get, sum_by, Option, Some, None, Result, Ok, Err, ℤ}
use Rattle.std.specs.Int.{w64, cast_signed, cast_unsigned}
use Rattle.rounds.specs.Tiles.{Addition, additions_of, tile_of, pairs_at, IsPairOf}
use Rattle.rounds.specs.Interleaving.{Stage, State}
use Rattle.rounds.specs.Interleaving.Stage.{doing, ended}
use Rattle.rounds.specs.declared.work.PairAdd.{PairAdd}
use Rattle.rounds.specs.declared.faults.RoundFault.{RoundFault}
use Rattle.rounds.specs.declared.faults.RoundFault.TheVariants.{NoSuchWorker, Stopped as StoppedFault}
use Rattle.round_model.specs.declared.statuses.Task.{Task}
use Rattle.round_model.specs.declared.statuses.WorkerStatus.{WorkerStatus}
use Rattle.round_model.specs.declared.statuses.WorkerStatus.TheVariants.{Resting, Adding, Stopped}

-- a round over these tiles, and its current state
pub record Progress : Type 0 where
  pub tiles : List (List Addition)
  pub state : State

module _ (plan : List (List (Option PairAdd))) where
  -- the additions of the tile's pairs after the current one
  abbrev pub later : Task → List Addition
  later task = tile_of (drop task.next (pairs_at plan task.tile))

  -- the machine's progress of a worker
  abbrev pub stage_of : WorkerStatus → Stage
  stage_of Resting = doing []
  stage_of (Adding task) = doing (drop task.part (additions_of (Some task.add)) ++ later task)
  stage_of Stopped = ended

  abbrev pub stages_of : List WorkerStatus → List Stage
  stages_of statuses = map stage_of statuses

-- the rest of the worker's tile, or the reason why its events are rejected
abbrev pub task_at : Option WorkerStatus → Result (Option Task) RoundFault
task_at None = Err NoSuchWorker
task_at (Some Stopped) = Err StoppedFault
task_at (Some Resting) = Ok None
task_at (Some (Adding task)) = Ok (Some task)

-- 1 for a worker that has stopped
abbrev pub stops : Stage → ℕ
stops (doing _) = 0
stops ended = 1

module _ (atoms : ℕ) (plan : List (List (Option PairAdd))) where
  -- a task within the plan, with an addition of the current pair left
  pub record IsTask (task : Task) : Type 0 where
    pub pair : IsPairOf atoms task.add
    pub part : task.part < 6
    pub tile : task.tile < length plan
    pub next : task.next ≤ length (pairs_at plan task.tile)

  abbrev pub IsWorkerStatus : WorkerStatus → Type 0
  IsWorkerStatus (Adding task) = IsTask task
  IsWorkerStatus _ = Unit {0}

  -- the invariant of a round
  pub record IsSound (drawn : List ℕ) (room : ℕ) (statuses : List WorkerStatus) (sums : List ℤ) : Type 0 where
    -- the workers' tasks are within the plan
    pub within : (w : ℕ) (p : WorkerStatus) → slice_get statuses w ≡ Some p → IsWorkerStatus p
    -- there are three sums for each atom, each a signed number of 64 bits
    pub wide : 3 * atoms ≤ length sums
    pub signed : map (cast_signed w64) (map (cast_unsigned w64) sums) ≡ sums
    -- there is capacity for every ticket that can be drawn
    pub few : length drawn ≤ length plan + sum_by stops (stages_of plan statuses)
    pub enough : length plan + length statuses ≤ room
