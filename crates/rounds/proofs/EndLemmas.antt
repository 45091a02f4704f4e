-- The table as it opens, how its seats are cut and joined, and its words once all workers have stopped.
use Rattle.std.proofs.Common.{◌≡◌, ℕ, zero, suc, ◌+◌, ◌*◌, ◌%◌, ◌^◌, ◌<◌, List, [], ◌∷◌, ◌++◌, length, take, drop, set, replicate, slice_index, sum_by, refl, sym, ap, subst, ◌∙◌, inl, ⊎_elim, arith, zero-add}
use Rattle.std.proofs.lemmas.Bool.Decides.{nat_tests}
use Rattle.std.proofs.lemmas.List.Sums.{sum_by-cons, sum_by-append, sum_by_push, sum_by-take-drop}
use Rattle.std.proofs.Math.ListN.{length-replicate}
use mathlib.Core.Option.{some}
use lib.ListN.{get_elem?}
use Rattle.atomic_table.specs.Table.{Splits, Joins}
use Rattle.atomic_table.proofs.Lists.{at_set}
use Rattle.rounds.specs.Tiles.{Addition, amount_on, on_entry, total, tile_at}
use Rattle.rounds.proofs.AmountLemmas.{all_alike}
use Rattle.rounds.proofs.SumLemmas.{below_tiles}
use Rattle.rounds.specs.declared.rule.Worker.{Worker}
use Rattle.rounds.specs.Workers.{Each, IsInOrder, HasAdded, HasStopped, fresh}
use Rattle.rounds.specs.Rule.{IsPool, over_views, same, count, once_below, fresh_workers}
use Rattle.rounds.proofs.CountLemmas.{sum_of_ones, sum_le_each, each_at, each_set, each_append, each_last, each_first, each_rest, past, below_none, all_below, once_more, sum_flat_map}
use Rattle.rounds.proofs.StepLemmas.{Holds, over_set, over_tickets, over_numbers}

fresh_none : (f : Worker → ℕ) → ((w : ℕ) → f (fresh w) ≡ 0) → (n : ℕ) → sum_by f (fresh_workers n) ≡ 0
fresh_none f z zero = refl
fresh_none f z (suc n) = let e = fresh_none f z n in let h = z n in omega (arith, sum_by-cons f (fresh n) (fresh_workers n))

fresh_numbers : (m n : ℕ) → sum_by (λ w. same m w.number) (fresh_workers n) ≡ once_below n m
fresh_numbers m zero = nothing_yet m
  where
    nothing_yet : (k : ℕ) → 0 ≡ once_below 0 k
    nothing_yet k = grind (arith, nat_tests)
fresh_numbers m (suc n) =
    let e : sum_by (λ w. same m w.number) (fresh_workers n) ≡ once_below n m = fresh_numbers m n in
    let c : sum_by (λ w. same m w.number) (fresh n ∷ fresh_workers n) ≡ same m n + sum_by (λ w. same m w.number) (fresh_workers n) = sum_by-cons (λ (w : Worker). same m w.number) (fresh n) (fresh_workers n) in
    omega (arith, once_more n m)

module _ (tiles : List (List Addition)) (atoms workers : ℕ) where
  fresh_order : (n : ℕ) → Each (IsInOrder tiles) (fresh_workers n)
  fresh_order zero = tt
  fresh_order (suc n) = (record { ascends = tt; inside = tt }, fresh_order n)

  fresh_added : (n : ℕ) → Each (HasAdded tiles) (fresh_workers n)
  fresh_added zero = tt
  fresh_added (suc n) = (inl (refl, refl), fresh_added n)

  -- The rule holds of the table as it opens: all words are zero, and one seat represents all workers.
  pub opens : IsPool tiles atoms workers (replicate (3 * atoms + 1) zero) (fresh_workers workers ∷ [])
  opens = record {
    wide = length-replicate (3 * atoms + 1) zero;
    tickets = λ t.
        zero-add (sum_by (λ w. count t w.tickets) (fresh_workers workers))
        ∙ (fresh_none (λ w. count t w.tickets) (λ w. refl) workers ∙ (fresh_numbers t 0 ∙ sym (ap (λ n. once_below n t) (all_alike zero (3 * atoms + 1) 0))));
    order = (fresh_order workers, tt);
    deposits = (fresh_added workers, tt);
    sums = λ k lt. all_alike zero (3 * atoms + 1) (1 + k) ∙ sym (ap (λ x. x % 2 ^ 64) (zero-add (sum_by (λ w. on_entry k w.deposits) (fresh_workers workers)) ∙ fresh_none (λ w. on_entry k w.deposits) (λ w. refl) workers));
    numbers = λ n. zero-add (sum_by (λ w. same n w.number) (fresh_workers workers)) ∙ fresh_numbers n workers;
  }

  -- other views of the same workers meet the rule of the same words
  same_workers : (words : List ℕ) (views views' : List (List Worker)) → IsPool tiles atoms workers words views → ((f : Worker → ℕ) → over_views f views' ≡ over_views f views)
      → Each (Each (IsInOrder tiles)) views' → Each (Each (HasAdded tiles)) views' → IsPool tiles atoms workers words views'
  same_workers words views views' kept weighs order made = record {
    wide = kept.wide;
    tickets = λ t. weighs (λ w. count t w.tickets) ∙ kept.tickets t;
    order = order;
    deposits = made;
    sums = λ k lt. kept.sums k lt ∙ ap (λ x. x % 2 ^ 64) (sym (weighs (λ w. on_entry k w.deposits)));
    numbers = λ n. weighs (λ w. same n w.number) ∙ kept.numbers n;
  }

  over_push : (f : Worker → ℕ) (views : List (List Worker)) (v : List Worker) → over_views f (views ++ v ∷ []) ≡ over_views f views + sum_by f v
  over_push f views v = sum_by_push (λ u. sum_by f u) views v

  -- a property of each worker holds when a view is cut, and when two are joined
  pub each_cut : (P : Worker → Type 0) (views : List (List Worker)) (id : ℕ) (v : List Worker) → get_elem? views id ≡ some v → Each (Each P) views → Each (Each P) (set views id (drop 1 v) ++ take 1 v ∷ [])
  each_cut P views id v at h =
      let of : Each P v = each_at (Each P) views id v h at in
      each_append (Each P) (set views id (drop 1 v)) (take 1 v ∷ []) (each_set (Each P) views id (drop 1 v) h (each_rest P v of)) (each_first P v of, tt)

  -- a property of each worker in all views stays one when a view takes over another's workers
  pub each_joined : (P : Worker → Type 0) (views : List (List Worker)) (id other : ℕ) (v w : List Worker) → get_elem? views id ≡ some v → ¬ (other ≡ id) → get_elem? (set views id (v ++ w)) other ≡ some w
      → Each (Each P) views → Each (Each P) (set (set views id (v ++ w)) other [])
  each_joined P views id other v w at apart there h =
      let one : Each P v = each_at (Each P) views id v h at in
      let two : Each P w = ⊎_elim (λ t. absurd (apart t.0)) (λ t. each_at (Each P) views other w h t.1) (at_set views id other (v ++ w) w there) in
      each_set (Each P) (set views id (v ++ w)) other [] (each_set (Each P) views id (v ++ w) h (each_append P v w one two)) tt

  -- the rule is kept when a seat is cut into its first worker and the others
  pub splits : (id : ℕ) (v : List Worker) → Splits (Holds tiles atoms workers) id v (drop 1 v) (take 1 v)
  splits id v s kept at =
      same_workers s.words s.views (set s.views id (drop 1 v) ++ take 1 v ∷ []) kept
      (λ f. let a = over_push f (set s.views id (drop 1 v)) (take 1 v) in let b = over_set f s.views id v (drop 1 v) at in let c = sum_by-take-drop f v 1 in omega arith)
      (each_cut (IsInOrder tiles) s.views id v at kept.order)
      (each_cut (HasAdded tiles) s.views id v at kept.deposits)

  -- the rule is kept when a seat takes over the workers of another
  pub joins : (id : ℕ) (v : List Worker) (other : ℕ) (w : List Worker) → Joins (Holds tiles atoms workers) id v other w (v ++ w) []
  joins id v other w s kept at apart there =
      same_workers s.words s.views (set (set s.views id (v ++ w)) other []) kept
      (λ f. let a = over_set f s.views id v (v ++ w) at in let b = over_set f (set s.views id (v ++ w)) other w [] there in let c = sum_by-append f v w in omega arith)
      (each_joined (IsInOrder tiles) s.views id other v w at apart there kept.order)
      (each_joined (HasAdded tiles) s.views id other v w at apart there kept.deposits)

  -- If no view has a worker, every sum over the views is 0.
  over_nobody : (f : Worker → ℕ) (views : List (List Worker)) → over_views (λ _. 1) views ≡ 0 → over_views f views ≡ 0
  over_nobody f [] e = refl
  over_nobody f ([] ∷ views) e =
      let a : over_views (λ _. 1) ([] ∷ views) ≡ 0 + over_views (λ _. 1) views = sum_by-cons (λ (u : List Worker). sum_by (λ _. 1) u) [] views in
      let b : over_views f ([] ∷ views) ≡ 0 + over_views f views = sum_by-cons (λ (u : List Worker). sum_by f u) [] views in
      let rest : over_views f views ≡ 0 = over_nobody f views (omega arith) in
      omega arith
  over_nobody f ((h ∷ hs) ∷ views) e =
      let a : over_views (λ _. 1) ((h ∷ hs) ∷ views) ≡ sum_by (λ _. 1) (h ∷ hs) + over_views (λ _. 1) views = sum_by-cons (λ (u : List Worker). sum_by (λ _. 1) u) (h ∷ hs) views in
      let b : sum_by (λ _. 1) (h ∷ hs) ≡ length (h ∷ hs) = sum_of_ones (h ∷ hs) in
      absurd (omega arith)

  module _ (words : List ℕ) (views : List (List Worker)) (id : ℕ) (v : List Worker) (kept : IsPool tiles atoms workers words views) (at : get_elem? views id ≡ some v) where
    -- A view whose length is the number of workers has all workers.
    all_here : length v ≡ workers → (f : Worker → ℕ) → over_views f views ≡ sum_by f v
    all_here full f =
        let ones : Worker → ℕ = λ _. 1 in
        let number : over_views ones views ≡ workers = over_numbers tiles atoms workers words views kept in
        let out : over_views ones (set views id []) + sum_by ones v ≡ over_views ones views + 0 = over_set ones views id v [] at in
        let own : sum_by ones v ≡ length v = sum_of_ones v in
        let none' : over_views f (set views id []) ≡ 0 = over_nobody f (set views id []) (omega arith) in
        let out_f : over_views f (set views id []) + sum_by f v ≡ over_views f views + 0 = over_set f views id v [] at in
        omega arith

    each_below : (vs : List Worker) (n : ℕ) → sum_by (λ w. sum_by (past n) w.tickets) vs ≡ 0 → Each (λ w. Each (λ t. t < n) w.tickets) vs
    each_below [] n z = tt
    each_below (h ∷ hs) n z =
        let c : sum_by (λ w. sum_by (past n) w.tickets) (h ∷ hs) ≡ sum_by (past n) h.tickets + sum_by (λ w. sum_by (past n) w.tickets) hs = sum_by-cons (λ (k : Worker). sum_by (past n) k.tickets) h hs in
        (all_below n h.tickets (omega arith), each_below hs n (omega arith))

    first_stopped : (vs : List Worker) (n : ℕ) → 0 < length vs → Each (HasStopped tiles) vs → Each (λ w. Each (λ t. t < n) w.tickets) vs → length tiles < n
    first_stopped [] n some_one stopped low = absurd (omega arith)
    first_stopped (h ∷ hs) n some_one (s, rest) low =
        let lt : s.last < n = each_last (λ t. t < n) s.earlier s.last (subst (Each (λ t. t < n)) s.tickets low.0) in
        let past' = s.past in
        omega arith

    -- the first word is past the tiles
    all_drawn : 0 < workers → length v ≡ workers → Each (HasStopped tiles) v → length tiles < slice_index words 0
    all_drawn some_one full stopped =
        let n : ℕ = slice_index words 0 in
        let z : over_views (λ w. sum_by (past n) w.tickets) views ≡ 0 = over_tickets tiles atoms workers words views kept (past n) ∙ below_none n n (omega arith) in
        let s : sum_by (λ w. sum_by (past n) w.tickets) v ≡ 0 = sym (all_here full (λ w. sum_by (past n) w.tickets)) ∙ z in
        first_stopped v n (omega arith) stopped (each_below v n s)

    stopped_sum : (k : ℕ) (h : Worker) → HasStopped tiles h → on_entry k h.deposits ≡ sum_by (λ t. on_entry k (tile_at tiles t)) h.tickets
    stopped_sum k h s = ap (on_entry k) s.deposits ∙ sum_flat_map (amount_on k) (tile_at tiles) h.tickets

    -- once all workers are in one view and have stopped, each word after the first is the total of its entry, modulo
    -- 2^64
    pub ends : 0 < workers → length v ≡ workers → Each (HasStopped tiles) v → (k : ℕ) → k < 3 * atoms → slice_index words (1 + k) ≡ total tiles k % 2 ^ 64
    ends some_one full stopped k lt =
        let drawn = all_drawn some_one full stopped in
        let of_tickets : Worker → ℕ = λ w. sum_by (λ t. on_entry k (tile_at tiles t)) w.tickets in
        let made : Worker → ℕ = λ w. on_entry k w.deposits in
        let most = sum_le_each (HasStopped tiles) made of_tickets v (λ w s. omega (arith, stopped_sum k w s)) stopped in
        let least = sum_le_each (HasStopped tiles) of_tickets made v (λ w s. omega (arith, stopped_sum k w s)) stopped in
        let by_worker : sum_by made v ≡ sum_by of_tickets v = omega arith in
        let sum : over_views (λ w. on_entry k w.deposits) views ≡ total tiles k =
        all_here full made ∙ (by_worker ∙ (sym (all_here full of_tickets)
        ∙ (over_tickets tiles atoms workers words views kept (λ t. on_entry k (tile_at tiles t)) ∙ below_tiles (on_entry k) tiles (slice_index words 0) refl (omega arith)))) in
        kept.sums k lt ∙ ap (λ x. x % 2 ^ 64) sum
