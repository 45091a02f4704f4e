-- The history of one worker: its tickets and additions, and its progress.
use Rattle.std.specs.Prelude.{◌≡◌, ◌⊎◌, ℕ, ◌<◌, ◌≤◌, List, [], ◌∷◌, ◌++◌, length, flat_map}
use Rattle.rounds.specs.Tiles.{Addition, tile_at}
use Rattle.rounds.specs.declared.rule.Worker.{Worker}

-- P holds for each element
abbrev pub Each : {A : Type 0} → (A → Type 0) → List A → Type 0
Each P [] = Unit {0}
Each P (x ∷ xs) = P x × Each P xs

-- P holds for each element but the last
abbrev pub AllButLast : {A : Type 0} → (A → Type 0) → List A → Type 0
AllButLast P [] = Unit {0}
AllButLast P (x ∷ []) = Unit {0}
AllButLast P (x ∷ y ∷ ys) = P x × AllButLast P (y ∷ ys)

-- each number is below those after it
abbrev pub Ascends : List ℕ → Type 0
Ascends [] = Unit {0}
Ascends (t ∷ ts) = Each (λ u. t < u) ts × Ascends ts

-- a worker that has neither drawn nor added anything
abbrev pub fresh : ℕ → Worker
fresh n = record { number = n; tickets = []; deposits = [] }

-- the worker after it has drawn the ticket
abbrev pub drew : Worker → ℕ → Worker
drew w t = record { number = w.number; tickets = w.tickets ++ t ∷ []; deposits = w.deposits }

-- the worker after it has made these additions
abbrev pub added : Worker → List Addition → Worker
added w xs = record { number = w.number; tickets = w.tickets; deposits = w.deposits ++ xs }

module _ (tiles : List (List Addition)) where
  -- the additions of the tickets' tiles, in order
  abbrev pub additions : List ℕ → List Addition
  additions ts = flat_map (tile_at tiles) ts

  -- the tickets ascend, and at most the last is past the last tile
  pub record IsInOrder (w : Worker) : Type 0 where
    pub ascends : Ascends w.tickets
    pub inside : AllButLast (λ t. t < length tiles) w.tickets

  -- the tiles of all tickets except the last are done, and of the last one's tile these additions are left
  pub record HasPending (w : Worker) (left : List Addition) : Type 0 where
    pub earlier : List ℕ
    pub last : ℕ
    pub made : List Addition
    pub tickets : w.tickets ≡ earlier ++ last ∷ []
    pub deposits : w.deposits ≡ additions earlier ++ made
    pub tile : made ++ left ≡ tile_at tiles last

  -- no ticket was drawn, no addition made; or the deposits are the additions of the tickets' tiles in order, complete
  -- except for the last tile, with a prefix of its additions
  abbrev pub HasAdded : Worker → Type 0
  HasAdded w = ((w.tickets ≡ []) × (w.deposits ≡ [])) ⊎ ((left : List Addition) × HasPending w left)

  -- the worker may draw: each ticket is a tile's, and all their additions are made
  pub record IsReady (w : Worker) : Type 0 where
    pub tickets : Each (λ t. t < length tiles) w.tickets
    pub deposits : w.deposits ≡ additions w.tickets

  -- the ticket was drawn last; all additions of the earlier tickets are made, and none of this ticket's
  pub record HasDrawn (w : Worker) (ticket : ℕ) : Type 0 where
    pub earlier : List ℕ
    pub tickets : w.tickets ≡ earlier ++ ticket ∷ []
    pub inside : Each (λ t. t < length tiles) earlier
    pub deposits : w.deposits ≡ additions earlier

  -- a ticket past the last tile was drawn last, and all additions are made
  pub record HasStopped (w : Worker) : Type 0 where
    pub earlier : List ℕ
    pub last : ℕ
    pub tickets : w.tickets ≡ earlier ++ last ∷ []
    pub past : length tiles ≤ last
    pub deposits : w.deposits ≡ additions w.tickets
