-- The table of words as the state machine of a round: each step of a worker is an event that the machine accepts.
use Rattle.std.specs.Prelude.{◌≡◌, ℕ, suc, ◌+◌, ◌*◌, ◌%◌, ◌^◌, ◌<◌, List, [], ◌∷◌, ◌++◌, length, take, drop, replicate, slice_get, slice_set, slice_index, Some, Ok}
use mathlib.Core.Option.{some}
use lib.ListN.{get_elem?}
use Rattle.rounds.specs.Tiles.{Addition}
use Rattle.rounds.specs.Interleaving.{State, Stage, opening, step, run}
use Rattle.rounds.specs.Interleaving.Stage.{doing, ended}
use Rattle.rounds.specs.declared.events.Event.{Event}
use Rattle.rounds.specs.declared.events.Event.TheVariants.{Claim, Deposit}
use Rattle.rounds.specs.declared.events.Outcome.{Outcome}
use Rattle.rounds.specs.declared.rule.Worker.{Worker}
use Rattle.rounds.specs.Workers.{Each, additions, drew, added, IsReady, HasPending, HasStopped}
use Rattle.rounds.specs.Rule.{IsPool, fresh_workers}

-- the words of a state: the number of tickets, then the sums
abbrev pub words_of : State → List ℕ
words_of s = length s.drawn ∷ s.sums

module _ (tiles : List (List Addition)) where
  -- the worker's history agrees with its progress: of its tickets' tiles it has these additions left, or it has stopped
  abbrev pub IsAtStage : Worker → Stage → Type 0
  IsAtStage w (doing left) = Each (λ t. t < length tiles) w.tickets × (additions tiles w.tickets ≡ w.deposits ++ left)
  IsAtStage w ended = HasStopped tiles w

  -- the state has a progress for the worker's number that agrees with its history
  abbrev pub StandsIn : State → Worker → Type 0
  StandsIn s w = (stage : Stage) × (slice_get s.stages w.number ≡ Some stage) × IsAtStage w stage

  -- the table represents a state of the machine: its words are the state's, and views and state agree on each worker
  pub record IsRound (atoms workers : ℕ) (s : State) (words : List ℕ) (views : List (List Worker)) : Type 0 where
    pub rule : IsPool tiles atoms workers words views
    pub same : words ≡ words_of s
    pub stages : Each (Each (StandsIn s)) views

  -- the machine accepts the event, and these words and views represent the state after it
  pub record Accepts (s : State) (e : Event) (words : List ℕ) (views : List (List Worker)) : Type 0 where
    pub outcome : (o : Outcome) × ((step tiles s e).1 ≡ Ok o)
    pub same : words ≡ words_of (step tiles s e).0
    pub stages : Each (Each (StandsIn (step tiles s e).0)) views

  -- some list of events leads the machine from its opening to a state that these words and views represent
  pub record IsReached (atoms workers : ℕ) (words : List ℕ) (views : List (List Worker)) : Type 0 where
    pub events : List Event
    pub same : words ≡ words_of (run tiles (opening workers (3 * atoms)) events)
    pub stages : Each (Each (StandsIn (run tiles (opening workers (3 * atoms)) events))) views

  -- the invariant of words and views between any two steps
  pub record IsRunning (atoms workers : ℕ) (words : List ℕ) (views : List (List Worker)) : Type 0 where
    pub rule : IsPool tiles atoms workers words views
    pub reached : IsReached atoms workers words views

  -- the new table represents the opening state
  abbrev pub Opens : Type 0
  Opens = (workers entries : ℕ) → (replicate (entries + 1) 0 ≡ words_of (opening workers entries))
      × Each (Each (StandsIn (opening workers entries))) (fresh_workers workers ∷ [])

  -- drawing a ticket is a claim, if the worker may draw
  abbrev pub ClaimsAccepted : Type 0
  ClaimsAccepted = (atoms workers : ℕ) (s : State) (words : List ℕ) (views : List (List Worker)) (id : ℕ) (w : Worker)
      → IsRound atoms workers s words views → get_elem? views id ≡ some (w ∷ []) → IsReady tiles w
      → Accepts s (Claim w.number) (slice_set words 0 (suc (slice_index words 0))) (slice_set views id (drew w (slice_index words 0) ∷ []))

  -- the addition that the worker owes next is a deposit
  abbrev pub DepositsAccepted : Type 0
  DepositsAccepted = (atoms workers : ℕ) (s : State) (words : List ℕ) (views : List (List Worker)) (id : ℕ) (w : Worker)
      (entry amount : ℕ) (rest : List Addition) → IsRound atoms workers s words views → get_elem? views id ≡ some (w ∷ [])
      → HasPending tiles w ((entry, amount) ∷ rest)
      → Accepts s (Deposit w.number) (slice_set words (suc entry) ((slice_index words (suc entry) + amount) % 2 ^ 64))
      (slice_set views id (added w ((entry, amount) ∷ []) ∷ []))

  -- splitting a view in two, and joining two views, are no events
  abbrev pub CutsKeep : Type 0
  CutsKeep = (s : State) (views : List (List Worker)) (id : ℕ) (v : List Worker) → Each (Each (StandsIn s)) views
      → get_elem? views id ≡ some v
      → Each (Each (StandsIn s)) (slice_set views id (drop 1 v) ++ take 1 v ∷ [])

  abbrev pub JoinsKeep : Type 0
  JoinsKeep = (s : State) (views : List (List Worker)) (id other : ℕ) (v w : List Worker) → Each (Each (StandsIn s)) views
      → get_elem? views id ≡ some v → ¬ (other ≡ id) → get_elem? (slice_set views id (v ++ w)) other ≡ some w
      → Each (Each (StandsIn s)) (slice_set (slice_set views id (v ++ w)) other [])
