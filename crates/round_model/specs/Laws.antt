-- Laws of every list of events.
use Rattle.std.specs.Prelude.{◌≡◌, ℕ, suc, ◌+◌, ◌*◌, ◌%◌, ◌^◌, ◌<◌, ◌==◌, if◌then◌else◌, List, [], ◌∷◌, ◌++◌, length, slice_get, Option, Some, Result, Ok, Err, Contains}
use Rattle.rounds.specs.Tiles.{Addition, on_entry, total}
use Rattle.rounds.specs.ExactSums.{ComesOut}
use Rattle.rounds.specs.declared.work.PairAdd.{PairAdd}
use Rattle.rounds.specs.Interleaving.{State, Stage, run, step, word}
use Rattle.rounds.specs.Interleaving.Stage.{doing, ended}
use Rattle.rounds.specs.declared.events.Event.{Event}
use Rattle.rounds.specs.declared.events.Event.TheVariants.{Claim, Deposit}
use Rattle.rounds.specs.declared.events.Outcome.{Outcome}
use Rattle.rounds.specs.declared.events.Outcome.TheVariants.{Drew}
use Rattle.rounds.specs.declared.faults.RoundFault.{RoundFault}

-- 1 for an accepted event, and 0 for a rejected one
abbrev pub accepted : Result Outcome RoundFault → ℕ
accepted (Ok _) = 1
accepted (Err _) = 0

-- the worker w, if the result is that w drew the tile
abbrev pub drawer_of : ℕ → ℕ → Result Outcome RoundFault → List ℕ
drawer_of tile w (Ok (Drew t)) = if t == tile then w ∷ [] else []
drawer_of tile w _ = []

-- the next addition of a worker with this progress
abbrev pub next_of : Option Stage → List Addition
next_of (Some (doing (a ∷ rest))) = a ∷ []
next_of _ = []

-- the addition that an event makes, if any
abbrev pub deposits_in : State → Event → List Addition
deposits_in s (Claim w) = []
deposits_in s (Deposit w) = next_of (slice_get s.stages w)

module _ (tiles : List (List Addition)) where
  -- 1 for an accepted claim, and 0 for any other event
  abbrev pub claims_in : State → Event → ℕ
  claims_in s (Claim w) = accepted (step tiles s (Claim w)).1
  claims_in s (Deposit w) = 0

  -- the number of accepted claims
  abbrev pub claims : State → List Event → ℕ
  claims s [] = 0
  claims s (e ∷ es) = claims_in s e + claims (step tiles s e).0 es

  abbrev pub drawers_in : ℕ → State → Event → List ℕ
  drawers_in tile s (Claim w) = drawer_of tile w (step tiles s (Claim w)).1
  drawers_in tile s (Deposit w) = drawer_of tile w (step tiles s (Deposit w)).1

  -- the workers that drew the tile, one for each time that it was drawn
  abbrev pub drawers : ℕ → State → List Event → List ℕ
  drawers tile s [] = []
  drawers tile s (e ∷ es) = drawers_in tile s e ++ drawers tile (step tiles s e).0 es

  -- the additions made, in order
  abbrev pub deposits : State → List Event → List Addition
  deposits s [] = []
  deposits s (e ∷ es) = deposits_in s e ++ deposits (step tiles s e).0 es

  -- each word after the first is the sum of the additions made, modulo 2^64
  abbrev pub SumsDeposits : State → List Event → Type 0
  SumsDeposits s es = (k : ℕ) → k < length s.sums
      → word (run tiles s es) (suc k) ≡ on_entry k (deposits s es) % 2 ^ 64

  -- each tile was drawn by one worker, once, and each word after the first is the total over all tiles, modulo 2^64
  pub record IsWhole (s : State) (es : List Event) : Type 0 where
    pub drawn : (t : ℕ) → t < length tiles → (w : ℕ) × (drawers t s es ≡ w ∷ [])
    pub totals : (k : ℕ) → k < length s.sums → word (run tiles s es) (suc k) ≡ total tiles k % 2 ^ 64

-- the worker w has stopped
abbrev pub HasStopped : State → ℕ → Type 0
HasStopped s w = slice_get s.stages w ≡ Some ended

-- some worker has stopped, and so has each worker that ever drew a ticket
abbrev pub IsOver : State → Type 0
IsOver s = ((w : ℕ) × HasStopped s w) × ((v : ℕ) → Contains s.drawn v → HasStopped s v)

-- the word of each component of these atoms is the exact force, if that fits
abbrev pub WordsComeOut : List (List (Option PairAdd)) → ℕ → State → Type 0
WordsComeOut plan atoms s = (atom axis : ℕ) → atom < atoms → axis < 3
    → ComesOut plan atom axis (word s (suc (3 * atom + axis)))
