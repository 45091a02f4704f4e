-- The additions that a worker owes after it has drawn a ticket, and after it has made additions.
use Rattle.std.proofs.Common.{◌≡◌, ℕ, suc, ◌<◌, ◌≤◌, List, [], ◌∷◌, ◌++◌, length, take, drop, Option, Some, slice_get, refl, sym, ap, subst, ◌∙◌, append-nil, append_assoc}
use Rattle.std.proofs.lemmas.Grind.{flat_map-append}
use Rattle.std.proofs.lemmas.List.{get_or_past}
use Rattle.rounds.specs.Tiles.{Addition, tile_at, additions_of, additions_of_all, tile_of, tiles_of, pairs_at, AreNextActing}
use Rattle.rounds.specs.declared.work.PairAdd.{PairAdd}
use Rattle.rounds.proofs.ActingLemmas.{tile_at-tiles_of}
use Rattle.rounds.specs.declared.rule.Worker.{Worker}
use Rattle.rounds.specs.Workers.{Each, HasPending, IsReady, HasDrawn, HasStopped, additions, fresh, drew, added}
use Rattle.rounds.specs.Rule.{Seen, first_of, alone}
use Rattle.rounds.proofs.CountLemmas.{each_append, each_last}
use Rattle.rounds.proofs.TakeLemmas.{split_at, row_adds, row_split, adds_split}

added_twice : (h : Worker) (xs ys : List Addition) → added (added h xs) ys ≡ added h (xs ++ ys)
added_twice h xs ys = ap (λ (ds : List Addition). let k : Worker = record { number = h.number; tickets = h.tickets; deposits = ds } in k) (append_assoc h.deposits xs ys)

-- If a seat represents one worker only, it represents only its first worker.
pub is_alone : (me : Seen) (h : Worker) → me ≡ alone h → me ≡ alone (first_of me.0)
is_alone me h e = let P : Seen → Type 0 = λ m. m ≡ alone (first_of m.0) in subst P (sym e) refl

-- If a seat represents one worker only, its first worker is this worker.
pub first_is : (me : Seen) (h : Worker) → me ≡ alone h → first_of me.0 ≡ h
first_is me h e = ap (λ (m : Seen). first_of m.0) e

-- additions after one another are made as one
pub added_on : (me next last : Seen) (xs ys : List Addition) → next ≡ alone (added (first_of me.0) xs) → last ≡ alone (added (first_of next.0) ys) → last ≡ alone (added (first_of me.0) (xs ++ ys))
added_on me next last xs ys e f = f ∙ ap alone (ap (λ h. added h ys) (first_is next (added (first_of me.0) xs) e) ∙ added_twice (first_of me.0) xs ys)

-- a worker keeps its number
pub keeps_number : (me next last : Seen) (xs : List Addition) (t : ℕ) → next ≡ alone (added (first_of me.0) xs) → last ≡ alone (drew (first_of next.0) t) → (first_of last.0).number ≡ (first_of me.0).number
keeps_number me next last xs t e f = ap (λ (h : Worker). h.number) (first_is last (drew (first_of next.0) t) f) ∙ ap (λ (h : Worker). h.number) (first_is next (added (first_of me.0) xs) e)

module _ (tiles : List (List Addition)) where
  pub owes_rest : (h : Worker) (xs rest : List Addition) → HasPending tiles h (xs ++ rest) → HasPending tiles (added h xs) rest
  owes_rest h xs rest o = record {
    earlier = o.earlier;
    last = o.last;
    made = o.made ++ xs;
    tickets = o.tickets;
    deposits = ap (λ ds. ds ++ xs) o.deposits ∙ append_assoc (additions tiles o.earlier) o.made xs;
    tile = append_assoc o.made xs rest ∙ o.tile;
  }

  -- once a beginning of the additions is made, the rest is owed
  pub owes : (me next : Seen) (all made rest more : List Addition) → HasPending tiles (first_of me.0) (all ++ more) → all ≡ made ++ rest → next ≡ alone (added (first_of me.0) made) → HasPending tiles (first_of next.0) (rest ++ more)
  owes me next all made rest more o split e =
      let whole : all ++ more ≡ made ++ (rest ++ more) = ap (λ xs. xs ++ more) split ∙ append_assoc made rest more in
      let P : Worker → Type 0 = λ h. HasPending tiles h (rest ++ more) in
      subst P (sym (first_is next (added (first_of me.0) made) e)) (owes_rest (first_of me.0) made (rest ++ more) (subst (λ xs. HasPending tiles (first_of me.0) xs) whole o))

  -- a worker between two tickets
  pub begins : (me : Seen) (n : ℕ) → me ≡ alone (fresh n) → IsReady tiles (first_of me.0)
  begins me n e = let P : Worker → Type 0 = λ h. IsReady tiles h in subst P (sym (first_is me (fresh n) e)) record { tickets = tt; deposits = refl }

  -- a worker that was ready and drew a ticket owes all of that ticket's tile
  pub just_drew : (h : Worker) (t : ℕ) → IsReady tiles h → HasDrawn tiles (drew h t) t
  just_drew h t ready = record { earlier = h.tickets; tickets = refl; inside = ready.tickets; deposits = ready.deposits }

  pub has_drawn : (me next : Seen) (t : ℕ) → IsReady tiles (first_of me.0) → next ≡ alone (drew (first_of me.0) t) → HasDrawn tiles (first_of next.0) t
  has_drawn me next t ready e =
      let P : Worker → Type 0 = λ h. HasDrawn tiles h t in
      subst P (sym (first_is next (drew (first_of me.0) t) e)) (just_drew (first_of me.0) t ready)

  -- the additions of the ticket's tile are owed
  pub drawn_owes : (h : Worker) (t : ℕ) → HasDrawn tiles h t → HasPending tiles h (tile_at tiles t)
  drawn_owes h t d = record {
    earlier = d.earlier;
    last = t;
    made = [];
    tickets = d.tickets;
    deposits = d.deposits ∙ sym (append-nil (additions tiles d.earlier));
    tile = refl;
  }

  -- the additions of one ticket more are those so far and then its tile's
  pub additions_push : (ts : List ℕ) (t : ℕ) → additions tiles (ts ++ t ∷ []) ≡ additions tiles ts ++ tile_at tiles t
  additions_push ts t = flat_map-append (tile_at tiles) ts (t ∷ []) ∙ ap (λ xs. additions tiles ts ++ xs) (append-nil (tile_at tiles t))

  ready_added : (h : Worker) (t : ℕ) → HasDrawn tiles h t → t < length tiles → IsReady tiles (added h (tile_at tiles t))
  ready_added h t d lt = record {
    tickets = subst (Each (λ u. u < length tiles)) (sym d.tickets) (each_append (λ u. u < length tiles) d.earlier (t ∷ []) d.inside (lt, tt));
    deposits = ap (λ xs. xs ++ tile_at tiles t) d.deposits ∙ (sym (additions_push d.earlier t) ∙ ap (additions tiles) (sym d.tickets));
  }

  -- a worker that has drawn a ticket and made all additions of its tile is ready for the next
  pub ready_after : (me next : Seen) (t : ℕ) → HasDrawn tiles (first_of me.0) t → t < length tiles → next ≡ alone (added (first_of me.0) (tile_at tiles t)) → IsReady tiles (first_of next.0)
  ready_after me next t d lt e =
      let P : Worker → Type 0 = λ h. IsReady tiles h in
      subst P (sym (first_is next (added (first_of me.0) (tile_at tiles t)) e)) (ready_added (first_of me.0) t d lt)

  -- a worker that has drawn a ticket past the tiles has stopped
  pub stops : (me : Seen) (t : ℕ) → HasDrawn tiles (first_of me.0) t → length tiles ≤ t → HasStopped tiles (first_of me.0)
  stops me t d past =
      let none : tile_at tiles t ≡ [] = get_or_past tiles t [] past in
      record {
        earlier = d.earlier;
        last = t;
        tickets = d.tickets;
        past = past;
        deposits = d.deposits ∙ sym (ap (additions tiles) d.tickets ∙ (additions_push d.earlier t ∙ (ap (λ xs. additions tiles d.earlier ++ xs) none ∙ append-nil (additions tiles d.earlier))));
      }

  -- the next ticket is greater
  pub rises : (me next : Seen) (xs : List Addition) (t n : ℕ) → HasDrawn tiles (first_of me.0) t → next ≡ alone (added (first_of me.0) xs) → Each (λ u. u < n) (first_of next.0).tickets → t < n
  rises me next xs t n d e later =
      let same : (first_of next.0).tickets ≡ d.earlier ++ t ∷ [] = ap (λ (h : Worker). h.tickets) (first_is next (added (first_of me.0) xs) e) ∙ d.tickets in
      each_last (λ u. u < n) d.earlier t (subst (Each (λ u. u < n)) same later)

-- the loop over the additions of a pair, which began at `me`
module _ (p : PairAdd) (me : Seen) where
  -- Once the first k additions of a pair are made, the next addition and all later ones are owed.
  pub part_owes : (tiles : List (List Addition)) (now : Seen) (k : ℕ) (a : Addition) (rest : List Addition) → HasPending tiles (first_of me.0) (additions_of (Some p) ++ rest) → slice_get (additions_of (Some p)) k ≡ Some a
      → now ≡ alone (added (first_of me.0) (take k (additions_of (Some p)))) → HasPending tiles (first_of now.0) (a ∷ drop (suc k) (additions_of (Some p)) ++ rest)
  part_owes tiles now k a rest o at e = owes tiles me now (additions_of (Some p)) (take k (additions_of (Some p))) (a ∷ drop (suc k) (additions_of (Some p))) rest o (split_at (additions_of (Some p)) k a at) e

-- the loop over pairs that act, which began at `me`
module _ (adds : List PairAdd) (me : Seen) where
  -- Once the additions of the first k pairs are made, the additions of the next pair and of all later pairs are owed.
  pub pair_owes : (tiles : List (List Addition)) (now : Seen) (k : ℕ) (add : PairAdd) (rest : List Addition) → HasPending tiles (first_of me.0) (additions_of_all adds ++ rest) → slice_get adds k ≡ Some add
      → now ≡ alone (added (first_of me.0) (additions_of_all (take k adds))) → HasPending tiles (first_of now.0) (additions_of (Some add) ++ (additions_of_all (drop (suc k) adds) ++ rest))
  pair_owes tiles now k add rest o at e =
      let behind = additions_of_all (drop (suc k) adds) in
      subst
      (λ xs. HasPending tiles (first_of now.0) xs)
      (append_assoc (additions_of (Some add)) behind rest)
      (owes tiles me now (additions_of_all adds) (additions_of_all (take k adds)) (additions_of (Some add) ++ behind) rest o (adds_split adds k add at) e)

-- the loop over the pairs of a tile, which began at `me`
module _ (plan : List (List (Option PairAdd))) (t : ℕ) (me : Seen) where
  abbrev Pairs : List (Option PairAdd)
  Pairs = pairs_at plan t

  -- the next pairs that act
  pub row_owes : (now : Seen) (k n : ℕ) (adds : List PairAdd) → HasDrawn (tiles_of plan) (first_of me.0) t → AreNextActing Pairs k adds n → now ≡ alone (added (first_of me.0) (tile_of (take k Pairs)))
      → (rest : List Addition) × HasPending (tiles_of plan) (first_of now.0) (additions_of_all adds ++ rest)
  row_owes now k n adds d row e =
      let whole : tile_at (tiles_of plan) t ≡ tile_of Pairs ++ [] = tile_at-tiles_of plan t ∙ sym (append-nil (tile_of Pairs)) in
      let o : HasPending (tiles_of plan) (first_of me.0) (tile_of Pairs ++ []) = subst (λ xs. HasPending (tiles_of plan) (first_of me.0) xs) whole (drawn_owes (tiles_of plan) (first_of me.0) t d) in
      let rest = tile_of (drop n Pairs) in
      let left = owes (tiles_of plan) me now (tile_of Pairs) (tile_of (take k Pairs)) (additions_of_all adds ++ rest) [] o (row_split Pairs k n adds row) e in
      (rest, subst (λ xs. HasPending (tiles_of plan) (first_of now.0) xs) (append-nil (additions_of_all adds ++ rest)) left)

  -- The additions of the first k pairs, and then of the next interacting pairs, are the additions of the first n pairs.
  pub row_leads : (now next : Seen) (k n : ℕ) (adds : List PairAdd) → AreNextActing Pairs k adds n → now ≡ alone (added (first_of me.0) (tile_of (take k Pairs))) → next ≡ alone (added (first_of now.0) (additions_of_all adds))
      → next ≡ alone (added (first_of me.0) (tile_of (take n Pairs)))
  row_leads now next k n adds row e f =
      added_on me now next (tile_of (take k Pairs)) (additions_of_all adds) e f
      ∙ ap (λ (xs : List Addition). alone (added (first_of me.0) xs)) (sym (row_adds Pairs k n adds row))

  -- all of the tile, as its ticket names it
  pub tile_added : (next : Seen) → next ≡ alone (added (first_of me.0) (tile_of Pairs)) → next ≡ alone (added (first_of me.0) (tile_at (tiles_of plan) t))
  tile_added next e = e ∙ ap (λ (xs : List Addition). alone (added (first_of me.0) xs)) (sym (tile_at-tiles_of plan t))
