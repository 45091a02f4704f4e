-- Each step keeps the rule.
use Rattle.std.proofs.Common.{◌≡◌, ℕ, suc, ◌+◌, ◌*◌, ◌%◌, ◌^◌, ◌<◌, ◌≤◌, List, [], ◌∷◌, ◌++◌, length, set, slice_index, sum_by, refl, sym, ap, ◌∙◌, inr, arith, flat_map, get_or-set_same, get_or-set_other, mod-eq_of_lt, length-set}
use Rattle.std.proofs.lemmas.List.Sums.{sum_by-cons, sum_by_push}
use mathlib.Core.Option.{some}
use lib.ListN.{get_elem?}
use Rattle.atomic_table.specs.Table.{State}
use Rattle.rounds.specs.Tiles.{Addition, amount_on, on_entry, tile_at}
use Rattle.rounds.proofs.SumLemmas.{below}
use Rattle.rounds.proofs.AmountLemmas.{amount_here, amount_else, word_after}
use Rattle.rounds.specs.declared.rule.Worker.{Worker}
use Rattle.rounds.specs.Workers.{Each, IsInOrder, HasPending, HasAdded, IsReady, drew, added}
use Rattle.rounds.specs.Rule.{IsPool, over_views, same, count, once_below}
use Rattle.rounds.proofs.OweLemmas.{drawn_owes, just_drew, owes_rest}
use Rattle.rounds.proofs.CountLemmas.{sum_at, sum_le_each, each_at, each_set, earlier_push, sum_flat_map, past, below_none, below_past, below_ones, all_below, none_past, one_past, ascends_push, once_more, summed}

-- the sum after a change of one view
pub over_set : (f : Worker → ℕ) (views : List (List Worker)) (id : ℕ) (v w : List Worker) → get_elem? views id ≡ some v → over_views f (set views id w) + sum_by f v ≡ over_views f views + sum_by f w
over_set f views id v w at = sum_at (λ u. sum_by f u) views id v w at

-- the sum after a change of a view with one worker
over_one : (f : Worker → ℕ) (views : List (List Worker)) (id : ℕ) (h k : Worker) → get_elem? views id ≡ some (h ∷ []) → over_views f (set views id (k ∷ [])) + f h ≡ over_views f views + f k
over_one f views id h k at = let e = over_set f views id (h ∷ []) (k ∷ []) at in omega arith

over_same : (f : Worker → ℕ) (views : List (List Worker)) (id : ℕ) (h k : Worker) → get_elem? views id ≡ some (h ∷ []) → f k ≡ f h → over_views f (set views id (k ∷ [])) ≡ over_views f views
over_same f views id h k at e = let w = over_one f views id h k at in omega arith

-- If the lists of all views have each number below n once and no other, a sum over the lists is a sum over the numbers.
pub over_once : (items : Worker → List ℕ) (views : List (List Worker)) (n : ℕ) → ((t : ℕ) → over_views (λ w. count t (items w)) views ≡ once_below n t)
    → (f : ℕ → ℕ) → over_views (λ w. sum_by f (items w)) views ≡ below f n
over_once items views n once f = sym (in_a_row f) ∙ summed (flat_map (λ v. flat_map items v) views) n (λ t. in_a_row (same t) ∙ once t) f
  where
    in_a_row : (g : ℕ → ℕ) → sum_by g (flat_map (λ v. flat_map items v) views) ≡ over_views (λ w. sum_by g (items w)) views
    in_a_row g = sum_flat_map g (λ v. flat_map items v) views ∙ (λ i. sum_by (λ v. sum_flat_map g items v i) views)

module _ (tiles : List (List Addition)) (atoms workers : ℕ) where
  -- the rule holds of a table's words and views
  abbrev pub Holds : State (Unit {0}) (List Worker) → Type 0
  Holds s = IsPool tiles atoms workers s.words s.views

  -- a sum over all tickets
  pub over_tickets : (words : List ℕ) (views : List (List Worker)) → IsPool tiles atoms workers words views → (f : ℕ → ℕ) → over_views (λ w. sum_by f w.tickets) views ≡ below f (slice_index words 0)
  over_tickets words views kept f = over_once (λ w. w.tickets) views (slice_index words 0) kept.tickets f

  -- The number of workers in all views is the table's number of workers.
  pub over_numbers : (words : List ℕ) (views : List (List Worker)) → IsPool tiles atoms workers words views → over_views (λ _. 1) views ≡ workers
  over_numbers words views kept = over_once (λ w. w.number ∷ []) views workers (λ n. ap (λ f. over_views f views) (λ i w. one_number n w i) ∙ kept.numbers n) (λ _. 1) ∙ below_ones workers
    where
      one_number : (n : ℕ) (w : Worker) → count n (w.number ∷ []) ≡ same n w.number
      one_number n w = omega (arith, sum_by-cons (same n) w.number [])

  -- each ticket of a view is below the first word
  pub tickets_below : (words : List ℕ) (views : List (List Worker)) (id : ℕ) (h : Worker) → IsPool tiles atoms workers words views → get_elem? views id ≡ some (h ∷ []) → Each (λ t. t < slice_index words 0) h.tickets
  tickets_below words views id h kept at =
      let n : ℕ = slice_index words 0 in
      let f : Worker → ℕ = λ k. sum_by (past n) k.tickets in
      let all : over_views f views ≡ below (past n) n = over_tickets words views kept (past n) in
      let none' = below_none n n (omega arith) in
      let out = over_set f views id (h ∷ []) [] at in
      all_below n h.tickets (omega arith)

  order_at : (words : List ℕ) (views : List (List Worker)) (id : ℕ) (h : Worker) → IsPool tiles atoms workers words views → get_elem? views id ≡ some (h ∷ []) → IsInOrder tiles h
  order_at words views id h kept at = (each_at (Each (IsInOrder tiles)) views id (h ∷ []) kept.order at).0

  -- If a worker has no ticket past the tiles, the ticket counter has room for one ticket more.
  room : (words : List ℕ) (views : List (List Worker)) (id : ℕ) (h : Worker) → IsPool tiles atoms workers words views → get_elem? views id ≡ some (h ∷ [])
      → Each (λ t. t < length tiles) h.tickets → slice_index words 0 < length tiles + workers
  room words views id h kept at inside =
      let n : ℕ = slice_index words 0 in
      let f : Worker → ℕ = λ k. sum_by (past (length tiles)) k.tickets in
      let g : Worker → ℕ = λ _. 1 in
      let all : over_views f views ≡ below (past (length tiles)) n = over_tickets words views kept (past (length tiles)) in
      let number : over_views g views ≡ workers = over_numbers words views kept in
      let far = below_past (length tiles) n in
      let none' : f h ≡ 0 = none_past (length tiles) h.tickets inside in
      let out_f : over_views f (set views id []) + sum_by f (h ∷ []) ≡ over_views f views + 0 = over_set f views id (h ∷ []) [] at in
      let out_g : over_views g (set views id []) + 1 ≡ over_views g views + 0 = over_set g views id (h ∷ []) [] at in
      let others : Each (Each (IsInOrder tiles)) (set views id []) = each_set (Each (IsInOrder tiles)) views id [] kept.order tt in
      let le : over_views f (set views id []) ≤ over_views g (set views id []) = sum_le_each (Each (IsInOrder tiles)) (λ u. sum_by f u) (λ u. sum_by g u) (set views id [])
      (λ u os. sum_le_each (IsInOrder tiles) f g u (λ k o. one_past (length tiles) k.tickets o.inside) os) others in
      omega arith

  drew_order : (h : Worker) (n : ℕ) → IsInOrder tiles h → IsReady tiles h → Each (λ t. t < n) h.tickets → IsInOrder tiles (drew h n)
  drew_order h n is ready lower = record {
    ascends = ascends_push h.tickets n is.ascends lower;
    inside = earlier_push (λ t. t < length tiles) h.tickets n ready.tickets;
  }

  -- the rule is kept when a worker that is ready draws the next ticket
  pub claim_keeps : (words : List ℕ) (views : List (List Worker)) (id : ℕ) (h : Worker) → length tiles + workers < 2 ^ 64 → IsReady tiles h → IsPool tiles atoms workers words views → get_elem? views id ≡ some (h ∷ [])
      → IsPool tiles atoms workers (set words 0 (suc (slice_index words 0))) (set views id (drew h (slice_index words 0) ∷ []))
  claim_keeps words views id h fits ready kept at =
      let n : ℕ = slice_index words 0 in
      let lower : Each (λ t. t < n) h.tickets = tickets_below words views id h kept at in
      let w : List Worker = drew h n ∷ [] in
      record {
        wide = length-set words 0 (suc n) ∙ kept.wide;
        tickets = λ t.
            let moved = over_one (λ k. count t k.tickets) views id h (drew h n) at in
            let more : count t (h.tickets ++ n ∷ []) ≡ count t h.tickets + same t n = sum_by_push (same t) h.tickets n in
            let was = kept.tickets t in
            let once : once_below (suc n) t ≡ once_below n t + same t n = once_more n t in
            let here : slice_index (set words 0 (suc n)) 0 ≡ suc n = get_or-set_same words 0 (suc n) 0 (let e = kept.wide in omega arith) in
            let now : over_views (λ k. count t k.tickets) (set views id w) ≡ once_below (suc n) t = omega arith in
            now ∙ ap (λ m. once_below m t) (sym here);
        order = each_set (Each (IsInOrder tiles)) views id w kept.order (drew_order h n (order_at words views id h kept at) ready lower, tt);
        deposits = each_set (Each (HasAdded tiles)) views id w kept.deposits (inr (tile_at tiles n, drawn_owes tiles (drew h n) n (just_drew tiles h n ready)), tt);
        sums = λ k lt.
            get_or-set_other words 0 (1 + k) (suc n) 0 (λ e. omega arith)
            ∙ (kept.sums k lt ∙ ap (λ x. x % 2 ^ 64) (sym (over_same (λ u. on_entry k u.deposits) views id h (drew h n) at refl)));
        numbers = λ m. over_same (λ u. same m u.number) views id h (drew h n) at refl ∙ kept.numbers m;
      }

  -- the ticket counter does not wrap
  pub claim_counts : (words : List ℕ) (views : List (List Worker)) (id : ℕ) (h : Worker) → length tiles + workers < 2 ^ 64 → IsReady tiles h → IsPool tiles atoms workers words views → get_elem? views id ≡ some (h ∷ [])
      → suc (slice_index words 0) ≡ (slice_index words 0 + 1) % 2 ^ 64
  claim_counts words views id h fits ready kept at =
      let free : slice_index words 0 < length tiles + workers = room words views id h kept at ready.tickets in
      let n : ℕ = slice_index words 0 in
      let up : (n + 1) % 2 ^ 64 ≡ n + 1 = mod-eq_of_lt (omega arith) in
      omega arith

  -- the rule is kept when a worker makes the addition that it owes next
  pub deposit_keeps : (words : List ℕ) (views : List (List Worker)) (id : ℕ) (h : Worker) (at amount : ℕ) (rest : List Addition) → at < 3 * atoms → HasPending tiles h ((at, amount) ∷ rest)
      → IsPool tiles atoms workers words views → get_elem? views id ≡ some (h ∷ [])
      → IsPool tiles atoms workers (set words (1 + at) ((slice_index words (1 + at) + amount) % 2 ^ 64)) (set views id (added h ((at, amount) ∷ []) ∷ []))
  deposit_keeps words views id h at amount rest inside owes kept here =
      let x : ℕ = (slice_index words (1 + at) + amount) % 2 ^ 64 in
      let k : Worker = added h ((at, amount) ∷ []) in
      let was = order_at words views id h kept here in
      record {
        wide = length-set words (1 + at) x ∙ kept.wide;
        tickets = λ t.
            over_same (λ u. count t u.tickets) views id h k here refl
            ∙ (kept.tickets t ∙ ap (λ m. once_below m t) (sym (get_or-set_other words (1 + at) 0 x 0 (λ e. omega arith))));
        order = each_set (Each (IsInOrder tiles)) views id (k ∷ []) kept.order (record { ascends = was.ascends; inside = was.inside }, tt);
        deposits = each_set (Each (HasAdded tiles)) views id (k ∷ []) kept.deposits (inr (rest, owes_rest tiles h ((at, amount) ∷ []) rest owes), tt);
        sums = λ j lt.
            let moved = over_one (λ u. on_entry j u.deposits) views id h k here in
            let more : on_entry j k.deposits ≡ on_entry j h.deposits + amount_on j (at, amount) = sum_by_push (amount_on j) h.deposits (at, amount) in
            let wide = kept.wide in
            word_after words (1 + at) (1 + j) (over_views (λ u. on_entry j u.deposits) views) (over_views (λ u. on_entry j u.deposits) (set views id (k ∷ []))) amount (omega arith) (kept.sums j lt)
            (λ e. let y = amount_here j (at, amount) (omega arith) in omega arith)
            (λ ne. let y = amount_else j (at, amount) (λ e. ne (omega arith)) in omega arith);
        numbers = λ m. over_same (λ u. same m u.number) views id h k here refl ∙ kept.numbers m;
      }
