-- A round as a state machine: its state, and the effect of each event. A list of events is an interleaving of the
-- workers' steps.
use Rattle.std.specs.Prelude.{ℕ, zero, suc, ◌+◌, ◌%◌, ◌^◌, List, [], ◌∷◌, ◌++◌, length, slice_get, slice_set, slice_index, replicate, if◌then◌else◌, nat_lt, Option, Some, None, Result, Ok, Err}
use Rattle.rounds.specs.Tiles.{Addition, tile_at}
use Rattle.rounds.specs.declared.events.Event.{Event}
use Rattle.rounds.specs.declared.events.Event.TheVariants.{Claim, Deposit}
use Rattle.rounds.specs.declared.events.Outcome.{Outcome}
use Rattle.rounds.specs.declared.events.Outcome.TheVariants.{Drew, Ended, Added}
use Rattle.rounds.specs.declared.faults.RoundFault.{RoundFault}
use Rattle.rounds.specs.declared.faults.RoundFault.TheVariants.{NoSuchWorker, Stopped, Busy, Idle}

-- the progress of a worker: the additions that it has left to make, or that it has stopped
pub data Stage : Type 0 where
  doing : List Addition → Stage
  ended : Stage

-- the worker that drew each ticket so far, the progress of each worker, and the sums
pub record State : Type 0 where
  pub drawn : List ℕ
  pub stages : List Stage
  pub sums : List ℕ

-- word 0 is the number of tickets drawn, and word 1 + k is entry k of the sums
abbrev pub word : State → ℕ → ℕ
word s zero = length s.drawn
word s (suc k) = slice_index s.sums k

-- the opening state: no ticket drawn, no worker busy, all sums zero
abbrev pub opening : ℕ → ℕ → State
opening workers entries = record {
  drawn = [];
  stages = replicate workers (doing []);
  sums = replicate entries 0;
}

module _ (tiles : List (List Addition)) where
  -- the progress of a worker that has just drawn ticket t
  abbrev pub stage_at : ℕ → Stage
  stage_at t = if nat_lt t (length tiles) then doing (tile_at tiles t) else ended

  -- the outcome of a claim that draws ticket t
  abbrev pub outcome_at : ℕ → Outcome
  outcome_at t = if nat_lt t (length tiles) then Drew t else Ended

  -- the state after the worker w has drawn the next ticket
  abbrev pub claimed : State → ℕ → State
  claimed s w = record {
    drawn = s.drawn ++ w ∷ [];
    stages = slice_set s.stages w (stage_at (length s.drawn));
    sums = s.sums;
  }

  -- the state after the worker w has made the addition a, with the rest left to make
  abbrev pub deposited : State → ℕ → Addition → List Addition → State
  deposited s w a rest = record {
    drawn = s.drawn;
    stages = slice_set s.stages w (doing rest);
    sums = slice_set s.sums a.0 ((slice_index s.sums a.0 + a.1) % 2 ^ 64);
  }

  -- a claim of the worker w, according to its progress
  abbrev pub on_claim : State → ℕ → Option Stage → State × Result Outcome RoundFault
  on_claim s w None = (s, Err NoSuchWorker)
  on_claim s w (Some ended) = (s, Err Stopped)
  on_claim s w (Some (doing (a ∷ rest))) = (s, Err Busy)
  on_claim s w (Some (doing [])) = (claimed s w, Ok (outcome_at (length s.drawn)))

  -- a deposit of the worker w, according to its progress
  abbrev pub on_deposit : State → ℕ → Option Stage → State × Result Outcome RoundFault
  on_deposit s w None = (s, Err NoSuchWorker)
  on_deposit s w (Some ended) = (s, Err Stopped)
  on_deposit s w (Some (doing [])) = (s, Err Idle)
  on_deposit s w (Some (doing (a ∷ rest))) = (deposited s w a rest, Ok (Added (1 + a.0)))

  -- one event: the state after it, and the result
  abbrev pub step : State → Event → State × Result Outcome RoundFault
  step s (Claim w) = on_claim s w (slice_get s.stages w)
  step s (Deposit w) = on_deposit s w (slice_get s.stages w)

  -- the state after a list of events
  abbrev pub run : State → List Event → State
  run s [] = s
  run s (e ∷ es) = run (step s e).0 es
