-- The rule of the table of words, which holds between any two steps, and the effect of each step. A view is the list of
-- the workers that a seat represents.
use Rattle.std.specs.Prelude.{◌≡◌, ℕ, zero, suc, ◌+◌, ◌*◌, ◌%◌, ◌^◌, ◌<◌, ◌≤◌, ◌==◌, if◌then◌else◌, nat_lt, List, [], ◌∷◌, length, slice_index, sum_by, Option}
use Rattle.atomic_table.specs.Table.{Me, Step}
use Rattle.atomic_table.specs.Seated.{TableId}
use Rattle.rounds.specs.Tiles.{Addition, on_entry}
use Rattle.rounds.specs.declared.work.PairAdd.{PairAdd}
use Rattle.rounds.specs.declared.rule.Worker.{Worker}
use Rattle.rounds.specs.Workers.{Each, IsInOrder, HasAdded, fresh, drew, added}

-- the sum of f over the workers in all views
abbrev pub over_views : (Worker → ℕ) → List (List Worker) → ℕ
over_views f views = sum_by (λ v. sum_by f v) views

-- 1 if x is n, otherwise 0
abbrev pub same : ℕ → ℕ → ℕ
same n x = if x == n then 1 else 0

-- the number of times that n is in the list
abbrev pub count : ℕ → List ℕ → ℕ
count n xs = sum_by (same n) xs

-- 1 below the bound, otherwise 0
abbrev pub once_below : ℕ → ℕ → ℕ
once_below bound n = if nat_lt n bound then 1 else 0

module _ (tiles : List (List Addition)) (atoms workers : ℕ) where
  pub record IsPool (words : List ℕ) (views : List (List Worker)) : Type 0 where
    -- there is a word for the tickets, then three for each atom
    pub wide : length words ≡ 3 * atoms + 1
    -- the tickets in all views are the numbers below the first word, each once
    pub tickets : (t : ℕ) → over_views (λ w. count t w.tickets) views ≡ once_below (slice_index words 0) t
    -- each worker's tickets ascend, and at most the last is past the last tile
    pub order : Each (Each (IsInOrder tiles)) views
    -- each worker's deposits are the additions of its tickets' tiles in order, complete except for the last one's, of
    -- which they are a prefix
    pub deposits : Each (Each (HasAdded tiles)) views
    -- each word after the first is the sum of the deposits in all views, modulo 2^64
    pub sums : (k : ℕ) → k < 3 * atoms → slice_index words (1 + k) ≡ over_views (λ w. on_entry k w.deposits) views % 2 ^ 64
    -- the workers' numbers in all views are those below the number of workers, each once
    pub numbers : (n : ℕ) → over_views (λ w. same n w.number) views ≡ once_below workers n

-- the workers with the numbers below n, the highest first
abbrev pub fresh_workers : ℕ → List Worker
fresh_workers zero = []
fresh_workers (suc n) = fresh n ∷ fresh_workers n

-- the first worker of a view
abbrev pub first_of : List Worker → Worker
first_of [] = fresh 0
first_of (w ∷ ws) = w

-- the knowledge of a seat: its view, and the slots that it holds, which are none
abbrev pub Seen : Type 0
Seen = Me (Unit {0}) (List Worker)

-- the knowledge of a seat that represents only this worker
abbrev pub alone : Worker → Seen
alone w = (w ∷ [], [])

-- the word's old value is the ticket, and it is greater than this worker's earlier tickets
abbrev pub draws : Step (Unit {0}) → Seen → ℕ → Seen → Type 0
draws s me n now = (now ≡ (drew (first_of me.0) n ∷ [], me.1)) × Each (λ t. t < n) (first_of me.0).tickets

-- the worker's history gains the addition of the operand to the word's entry
abbrev pub adds : Step (Unit {0}) → Seen → ℕ → Seen → Type 0
adds s me n now = (k : ℕ) → s.word ≡ 1 + k → now ≡ (added (first_of me.0) ((k, s.first) ∷ []) ∷ [], me.1)

-- a table with a word for the tickets and three for each atom, whose count of tickets can't wrap
pub record IsSized (table : TableId) (atoms workers tiles : ℕ) : Type 0 where
  pub width : table.words ≡ 3 * atoms + 1
  pub few : atoms < 2 ^ 32
  pub tickets : tiles + workers < 2 ^ 64

-- the table is made for this work; `plan` has its tiles and `atoms_of` its number of atoms
pub record IsFor {X : Type 0} (plan : X → List (List (Option PairAdd))) (atoms_of : X → ℕ)
    (table : TableId) (made_for : X) (atoms workers : ℕ) (work : X) : Type 0 where
  pub this : made_for ≡ work
  pub sized : IsSized table atoms workers (length (plan made_for))
  pub enough : atoms_of work ≤ atoms
