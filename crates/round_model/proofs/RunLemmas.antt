-- Each event preserves the machine's laws.
use Rattle.std.proofs.Common.{◌≡◌, ℕ, zero, suc, ◌+◌, ◌%◌, ◌^◌, ◌<◌, ◌≤◌, ◌≢◌, ◌⊎◌, List, [], ◌∷◌, ◌++◌, length, get_or, set, replicate, Option, Some, None, Result, Ok, Err, slice_get, slice_index, sum_by, Contains, refl, sym, ap, ap₂, subst, ◌∙◌, inl, inr, ⊎_elim, append-nil, append_assoc, arith, rules, if◌then◌else◌, ◌==◌}
use Rattle.std.proofs.lemmas.Option.{slice_get-get_or, slice_get_within, get_or_from_slice_get}
use Rattle.std.proofs.lemmas.List.{get_or_past}
use Rattle.std.proofs.lemmas.List.Folds.{sum_by-replicate}
use Rattle.std.proofs.lemmas.List.Sums.{sum_by-cons, sum_by_push, sum_by-set}
use Rattle.std.proofs.lemmas.List.Elements.{Contains-append_left, Contains-append_right}
use Rattle.std.proofs.lemmas.Bool.{cases_lt}
use Rattle.std.proofs.lemmas.Bool.Decides.{nat_tests}
use Rattle.std.proofs.Math.ListN.{length-set, length-append, length-replicate}
use Rattle.rounds.specs.Tiles.{Addition, amount_on, on_entry, total, tile_at}
use Rattle.rounds.specs.Interleaving.{State, Stage, opening, stage_at, outcome_at, claimed, deposited, on_claim, on_deposit, step, run}
use Rattle.rounds.specs.Interleaving.Stage.{doing, ended}
use Rattle.round_model.specs.Laws.{accepted, drawer_of, next_of, claims_in, drawers_in, deposits_in, claims, drawers, deposits, HasStopped, IsOver, IsWhole}
use Rattle.round_model.specs.Statuses.{stops}
use Rattle.rounds.specs.declared.events.Event.{Event}
use Rattle.rounds.specs.declared.events.Event.TheVariants.{Claim, Deposit}
use Rattle.rounds.specs.declared.events.Outcome.{Outcome}
use Rattle.rounds.specs.declared.events.Outcome.TheVariants.{Drew, Ended, Added}
use Rattle.rounds.specs.declared.faults.RoundFault.{RoundFault}
use Rattle.rounds.specs.declared.faults.RoundFault.TheVariants.{NoSuchWorker, Stopped, Busy, Idle}
use Rattle.rounds.proofs.SumLemmas.{below, below_tiles}
use Rattle.rounds.proofs.AmountLemmas.{all_alike, amount_here, amount_else, word_after, stand_below, stand_past}

-- the additions that a worker has left
abbrev pub left_of : Stage → List Addition
left_of (doing xs) = xs
left_of ended = []

-- After a write at i, the element at j is the written one if j is i, otherwise the old one.
pub at_set : {A : Type 0} (xs : List A) (i j : ℕ) (x y : A) → slice_get (set xs i x) j ≡ Some y → ((j ≡ i) × (x ≡ y)) ⊎ ((j ≢ i) × (slice_get xs j ≡ Some y))
at_set [] i j x y e = absurd (cc e)
at_set (z ∷ zs) zero zero x y e = inl (refl, cc)
at_set (z ∷ zs) zero (suc j) x y e = inr ((λ h. omega arith), e)
at_set (z ∷ zs) (suc i) zero x y e = inr ((λ h. omega arith), e)
at_set (z ∷ zs) (suc i) (suc j) x y e = ⊎_elim (λ t. inl (ap suc t.0, t.1)) (λ t. let n = t.0 in inr ((λ h. n (omega arith)), t.1)) (at_set zs i j x y e)

-- each element of a list of copies is the copy
pub replicated : {A : Type 0} (n i : ℕ) (x y : A) → slice_get (replicate n x) i ≡ Some y → x ≡ y
replicated n i x y e = sym (all_alike x n i) ∙ get_or_from_slice_get (replicate n x) i y x e

module _ {A : Type 0} where
  -- A write changes a sum by the new element's value less the old element's value.
  pub sum_at_set : (f : A → ℕ) (xs : List A) (i : ℕ) (x y : A) → slice_get xs i ≡ Some x → sum_by f (set xs i y) + f x ≡ sum_by f xs + f y
  sum_at_set f xs i x y at =
      let s = sum_by-set f xs i y x (slice_get_within xs i x at) in
      let e : get_or xs i x ≡ x = get_or_from_slice_get xs i x x at in
      rw e at s

  -- A sum is 0 if each element's value is 0.
  pub sum_none : (f : A → ℕ) (xs : List A) → ((i : ℕ) (x : A) → slice_get xs i ≡ Some x → f x ≡ 0) → sum_by f xs ≡ 0
  sum_none f [] h = refl
  sum_none f (x ∷ xs) h =
      let rest : sum_by f xs ≡ 0 = sum_none f xs (λ i y at. h (suc i) y at) in
      let here : f x ≡ 0 = h 0 x refl in
      omega (arith, sum_by-cons f x xs)

-- how many sums and workers there are
abbrev pub sizes : State → ℕ × ℕ
sizes s = (length s.sums, length s.stages)

-- the drawer of a ticket, as a list of one
abbrev pub one_of : Option ℕ → List ℕ
one_of None = []
one_of (Some w) = w ∷ []

-- the worker that drew the ticket, if one did
abbrev pub drawer_at : List ℕ → ℕ → List ℕ
drawer_at drawn t = one_of (slice_get drawn t)

-- The worker if the ticket is the tile's, otherwise no worker.
abbrev pub picked : ℕ → ℕ → ℕ → List ℕ
picked n t w = if n == t then w ∷ [] else []

picked_else : (n t w : ℕ) → n ≢ t → picked n t w ≡ []
picked_else n t w ne = grind (arith, nat_tests)

picked_next : (n t w : ℕ) → picked n t w ≡ picked (suc n) (suc t) w
picked_next n t w = grind (arith, nat_tests)

drawer_at-push : (drawn : List ℕ) (w t : ℕ) → drawer_at (drawn ++ w ∷ []) t ≡ drawer_at drawn t ++ picked (length drawn) t w
drawer_at-push [] w zero = refl
drawer_at-push [] w (suc t) = sym (picked_else 0 (suc t) w (λ e. omega arith))
drawer_at-push (x ∷ xs) w zero = ap (λ ws. x ∷ ws) (sym (picked_else (length (x ∷ xs)) 0 w (λ e. omega arith)))
drawer_at-push (x ∷ xs) w (suc t) = drawer_at-push xs w t ∙ ap (λ ws. drawer_at xs t ++ ws) (picked_next (length xs) t w)

-- no more workers have stopped than there are
pub stops_most : (stages : List Stage) → sum_by stops stages ≤ length stages
stops_most [] = omega arith
stops_most (s ∷ ss) =
    let rest = stops_most ss in
    let cons = sum_by-cons stops s ss in
    let one : stops s ≤ 1 = elim s as (λ x. stops x ≤ 1) [ doing xs ↦ omega arith | ended ↦ omega arith ] in
    omega arith

module _ (tiles : List (List Addition)) where
  -- the facts of a state, reached by the additions `done`, between any two events
  pub record Holds (s : State) (done : List Addition) : Type 0 where
    pub sums : (k : ℕ) → k < length s.sums → slice_index s.sums k ≡ on_entry k done % 2 ^ 64
    pub drawn_sums : (k : ℕ) → on_entry k done + sum_by (λ h. on_entry k (left_of h)) s.stages ≡ below (λ t. on_entry k (tile_at tiles t)) (length s.drawn)
    pub stopped : (w : ℕ) → HasStopped s w → length tiles < length s.drawn
    pub busy : (w : ℕ) (a : Addition) (rest : List Addition) → slice_get s.stages w ≡ Some (doing (a ∷ rest)) → Contains s.drawn w
    pub few : length s.drawn ≤ length tiles + sum_by stops s.stages

  -- a ticket of a tile is answered as drawn
  pub outcome_below : (t : ℕ) → t < length tiles → outcome_at tiles t ≡ Drew t
  outcome_below t lt = grind (arith, nat_tests)

  -- a ticket past the tiles is answered as the end
  pub outcome_past : (t : ℕ) → length tiles ≤ t → outcome_at tiles t ≡ Ended
  outcome_past t le = grind (arith, nat_tests)

  left_is : (t : ℕ) → left_of (stage_at tiles t) ≡ tile_at tiles t
  left_is t = ⊎_elim (λ lt. ap left_of (stand_below tiles t lt)) (λ le. ap left_of (stand_past tiles t le) ∙ sym (get_or_past tiles t [] le)) (cases_lt t (length tiles))

  ends_past : (t : ℕ) → stage_at tiles t ≡ ended → length tiles ≤ t
  ends_past t e = ⊎_elim (λ lt. let b = stand_below tiles t lt in absurd (cc)) (λ le. le) (cases_lt t (length tiles))

  stops_at : (t : ℕ) → t < length tiles ⊎ (stops (stage_at tiles t) ≡ 1)
  stops_at t = ⊎_elim inl (λ le. inr (ap stops (stand_past tiles t le))) (cases_lt t (length tiles))

  -- there is a ticket for each tile, and one for each worker that has stopped
  pub claim_few : (s : State) (w : ℕ) → slice_get s.stages w ≡ Some (doing []) → length s.drawn ≤ length tiles + sum_by stops s.stages
      → length (claimed tiles s w).drawn ≤ length tiles + sum_by stops (claimed tiles s w).stages
  claim_few s w at few =
      let moved : sum_by stops (claimed tiles s w).stages + 0 ≡ sum_by stops s.stages + stops (stage_at tiles (length s.drawn)) = sum_at_set stops s.stages w (doing []) (stage_at tiles (length s.drawn)) at in
      let longer = length-append s.drawn (w ∷ []) in
      ⊎_elim (λ lt. omega arith) (λ one. omega arith) (stops_at (length s.drawn))

  -- a deposit stops no worker
  pub deposit_stops : (s : State) (w : ℕ) (a : Addition) (rest : List Addition) → slice_get s.stages w ≡ Some (doing (a ∷ rest)) → sum_by stops (deposited tiles s w a rest).stages ≡ sum_by stops s.stages
  deposit_stops s w a rest at = let moved : sum_by stops (set s.stages w (doing rest)) + 0 ≡ sum_by stops s.stages + 0 = sum_at_set stops s.stages w (doing (a ∷ rest)) (doing rest) at in omega arith

  claim_keeps : (s : State) (done : List Addition) (w : ℕ) → Holds s done → slice_get s.stages w ≡ Some (doing []) → Holds (claimed tiles s w) done
  claim_keeps s done w h at = record {
    sums = h.sums;
    drawn_sums = λ k.
        let f : Stage → ℕ = λ x. on_entry k (left_of x) in
        let moved : sum_by f (set s.stages w (stage_at tiles (length s.drawn))) + 0 ≡ sum_by f s.stages + f (stage_at tiles (length s.drawn)) = sum_at_set f s.stages w (doing []) (stage_at tiles (length s.drawn)) at in
        let left : f (stage_at tiles (length s.drawn)) ≡ on_entry k (tile_at tiles (length s.drawn)) = ap (on_entry k) (left_is (length s.drawn)) in
        let was = h.drawn_sums k in
        let longer : length (s.drawn ++ w ∷ []) ≡ suc (length s.drawn) = omega (arith, length-append s.drawn (w ∷ [])) in
        let goal : on_entry k done + sum_by f (set s.stages w (stage_at tiles (length s.drawn))) ≡ below (λ t. on_entry k (tile_at tiles t)) (suc (length s.drawn)) = omega arith in
        goal ∙ ap (below (λ t. on_entry k (tile_at tiles t))) (sym longer);
    stopped = λ v e. let longer = length-append s.drawn (w ∷ []) in
        ⊎_elim (λ t. let p = ends_past (length s.drawn) (cc t.1) in omega arith) (λ t. let p = h.stopped v t.1 in omega arith) (at_set s.stages w v (stage_at tiles (length s.drawn)) ended e);
    busy = λ v a rest e. ⊎_elim (λ t. subst (λ u. Contains (s.drawn ++ w ∷ []) u) (sym t.0) (Contains-append_right s.drawn (w ∷ []) w (search rules)))
        (λ t. Contains-append_left s.drawn (w ∷ []) v (h.busy v a rest t.1)) (at_set s.stages w v (stage_at tiles (length s.drawn)) (doing (a ∷ rest)) e);
    few = claim_few s w at h.few;
  }

  deposit_keeps : (s : State) (done : List Addition) (w : ℕ) (a : Addition) (rest : List Addition) → Holds s done → slice_get s.stages w ≡ Some (doing (a ∷ rest)) → Holds (deposited tiles s w a rest) (done ++ a ∷ [])
  deposit_keeps s done w a rest h at = record {
    sums = λ k lt.
        let lt' : k < length s.sums = omega (arith, length-set s.sums a.0 ((slice_index s.sums a.0 + a.1) % 2 ^ 64)) in
        let more : on_entry k (done ++ a ∷ []) ≡ on_entry k done + amount_on k a = sum_by_push (amount_on k) done a in
        word_after s.sums a.0 k (on_entry k done) (on_entry k (done ++ a ∷ [])) a.1 lt' (h.sums k lt')
        (λ e. let y = amount_here k a e in omega arith) (λ ne. let y = amount_else k a ne in omega arith);
    drawn_sums = λ k.
        let f : Stage → ℕ = λ x. on_entry k (left_of x) in
        let moved : sum_by f (set s.stages w (doing rest)) + on_entry k (a ∷ rest) ≡ sum_by f s.stages + on_entry k rest = sum_at_set f s.stages w (doing (a ∷ rest)) (doing rest) at in
        let cons : on_entry k (a ∷ rest) ≡ amount_on k a + on_entry k rest = sum_by-cons (amount_on k) a rest in
        let more : on_entry k (done ++ a ∷ []) ≡ on_entry k done + amount_on k a = sum_by_push (amount_on k) done a in
        let was = h.drawn_sums k in
        omega arith;
    stopped = λ v e. ⊎_elim (λ t. absurd (cc t.1)) (λ t. h.stopped v t.1) (at_set s.stages w v (doing rest) ended e);
    busy = λ v b bs e. ⊎_elim (λ t. subst (λ u. Contains s.drawn u) (sym t.0) (h.busy w a rest at)) (λ t. h.busy v b bs t.1) (at_set s.stages w v (doing rest) (doing (b ∷ bs)) e);
    few = let same = deposit_stops s w a rest at in let few = h.few in omega arith;
  }

  -- A property of each refused claim and of each accepted claim is a property of each claim.
  by_claim : (s : State) (w : ℕ) (P : State × Result Outcome RoundFault → Type 0) → ((f : RoundFault) → P (s, Err f))
      → (slice_get s.stages w ≡ Some (doing []) → P (claimed tiles s w, Ok (outcome_at tiles (length s.drawn)))) → P (step tiles s (Claim w))
  by_claim s w P refused accepted' = go (slice_get s.stages w) refl
    where
      go : (o : Option Stage) → slice_get s.stages w ≡ o → P (on_claim tiles s w o)
      go None at = refused NoSuchWorker
      go (Some ended) at = refused Stopped
      go (Some (doing (a ∷ rest))) at = refused Busy
      go (Some (doing [])) at = accepted' at

  -- A property of each refused deposit, with no addition, and of each accepted one is a property of each deposit.
  by_deposit : (s : State) (w : ℕ) (P : List Addition → State × Result Outcome RoundFault → Type 0) → ((f : RoundFault) → P [] (s, Err f))
      → ((a : Addition) (rest : List Addition) → slice_get s.stages w ≡ Some (doing (a ∷ rest)) → P (a ∷ []) (deposited tiles s w a rest, Ok (Added (1 + a.0))))
      → P (deposits_in s (Deposit w)) (step tiles s (Deposit w))
  by_deposit s w P refused accepted' = go (slice_get s.stages w) refl
    where
      go : (o : Option Stage) → slice_get s.stages w ≡ o → P (next_of o) (on_deposit tiles s w o)
      go None at = refused NoSuchWorker
      go (Some ended) at = refused Stopped
      go (Some (doing [])) at = refused Idle
      go (Some (doing (a ∷ rest))) at = accepted' a rest at

  step_keeps : (s : State) (done : List Addition) (e : Event) → Holds s done → Holds (step tiles s e).0 (done ++ deposits_in s e)
  step_keeps s done (Claim w) h = by_claim s w (λ r. Holds r.0 (done ++ [])) (λ f. rw append-nil h) (λ at. rw append-nil (claim_keeps s done w h at))
  step_keeps s done (Deposit w) h = by_deposit s w (λ xs r. Holds r.0 (done ++ xs)) (λ f. rw append-nil h) (λ a rest at. deposit_keeps s done w a rest h at)

  -- these facts are kept by every list of events, with the additions that they make
  pub run_keeps : (s : State) (done : List Addition) (es : List Event) → Holds s done → Holds (run tiles s es) (done ++ deposits tiles s es)
  run_keeps s done [] h = rw append-nil h
  run_keeps s done (e ∷ es) h =
      let k : Holds (run tiles s (e ∷ es)) ((done ++ deposits_in s e) ++ deposits tiles (step tiles s e).0 es) = run_keeps (step tiles s e).0 (done ++ deposits_in s e) es (step_keeps s done e h) in
      rw (← append_assoc) k

  -- these facts hold of the opening, with no additions made
  pub opens : (workers entries : ℕ) → Holds (opening workers entries) []
  opens workers entries = record {
    sums = λ k lt. all_alike zero entries k;
    drawn_sums = λ k. let none : on_entry k [] ≡ 0 = refl in omega (arith, sum_by-replicate (λ h. on_entry k (left_of h)) workers (doing []));
    stopped = λ w e. let p = replicated workers w (doing []) ended e in absurd (cc p);
    busy = λ w a rest e. let p = replicated workers w (doing []) (doing (a ∷ rest)) e in absurd (cc p);
    few = omega arith;
  }

  sizes_at : (s : State) (e : Event) → sizes (step tiles s e).0 ≡ sizes s
  sizes_at s (Claim w) = by_claim s w (λ r. sizes r.0 ≡ sizes s) (λ f. refl) (λ at. ap (λ n. (length s.sums, n)) (length-set s.stages w (stage_at tiles (length s.drawn))))
  sizes_at s (Deposit w) = by_deposit s w (λ xs r. sizes r.0 ≡ sizes s) (λ f. refl)
      (λ a rest at. ap₂ (λ m n. (m, n)) (length-set s.sums a.0 ((slice_index s.sums a.0 + a.1) % 2 ^ 64)) (length-set s.stages w (doing rest)))

  -- events keep how many sums and workers there are
  pub sizes_after : (s : State) (es : List Event) → sizes (run tiles s es) ≡ sizes s
  sizes_after s [] = refl
  sizes_after s (e ∷ es) = sizes_after (step tiles s e).0 es ∙ sizes_at s e

  drawn_at : (s : State) (e : Event) → length (step tiles s e).0.drawn ≡ length s.drawn + claims_in tiles s e
  drawn_at s (Claim w) = by_claim s w (λ r. length r.0.drawn ≡ length s.drawn + accepted r.1) (λ f. omega arith) (λ at. length-append s.drawn (w ∷ []))
  drawn_at s (Deposit w) = by_deposit s w (λ xs r. length r.0.drawn ≡ length s.drawn + 0) (λ f. omega arith) (λ a rest at. omega arith)

  -- Events draw one ticket for each accepted claim among them.
  pub drawn_after : (s : State) (es : List Event) → length (run tiles s es).drawn ≡ length s.drawn + claims tiles s es
  drawn_after s [] = omega arith
  drawn_after s (e ∷ es) = let a = drawn_after (step tiles s e).0 es in let b = drawn_at s e in omega arith

  -- An event adds to a tile's drawers the worker that drew the tile with this event, if any.
  drawers_at : (t : ℕ) → t < length tiles → (s : State) (e : Event) → drawer_at (step tiles s e).0.drawn t ≡ drawer_at s.drawn t ++ drawers_in tiles t s e
  drawers_at t lt s (Claim w) =
      by_claim s w (λ r. drawer_at r.0.drawn t ≡ drawer_at s.drawn t ++ drawer_of t w r.1) (λ f. sym (append-nil (drawer_at s.drawn t)))
      (λ at. drawer_at-push s.drawn w t ∙ ap (λ ws. drawer_at s.drawn t ++ ws) (⊎_elim below' past (cases_lt (length s.drawn) (length tiles))))
    where
      below' : length s.drawn < length tiles → picked (length s.drawn) t w ≡ drawer_of t w (Ok (outcome_at tiles (length s.drawn)))
      below' h = sym (ap (λ (x : Outcome). drawer_of t w (Ok x)) (outcome_below (length s.drawn) h))

      past : length tiles ≤ length s.drawn → picked (length s.drawn) t w ≡ drawer_of t w (Ok (outcome_at tiles (length s.drawn)))
      past h =
          picked_else (length s.drawn) t w (λ same. omega arith) ∙ sym (ap (λ (x : Outcome). drawer_of t w (Ok x)) (outcome_past (length s.drawn) h))
  drawers_at t lt s (Deposit w) =
      by_deposit s w (λ xs r. drawer_at r.0.drawn t ≡ drawer_at s.drawn t ++ drawer_of t w r.1) (λ f. sym (append-nil (drawer_at s.drawn t))) (λ a rest at. sym (append-nil (drawer_at s.drawn t)))

  -- A tile's drawers after events are its drawers before, then the workers that drew the tile in these events.
  pub drawers_after : (t : ℕ) → t < length tiles → (s : State) (es : List Event) → drawer_at (run tiles s es).drawn t ≡ drawer_at s.drawn t ++ drawers tiles t s es
  drawers_after t lt s [] = sym (append-nil (drawer_at s.drawn t))
  drawers_after t lt s (e ∷ es) =
      drawers_after t lt (step tiles s e).0 es
      ∙ (ap (λ ws. ws ++ drawers tiles t (step tiles s e).0 es) (drawers_at t lt s e)
      ∙ append_assoc (drawer_at s.drawn t) (drawers_in tiles t s e) (drawers tiles t (step tiles s e).0 es))

  nothing_left : (s : State) (done : List Addition) → Holds s done → IsOver s → (i : ℕ) (x : Stage) → slice_get s.stages i ≡ Some x → left_of x ≡ []
  nothing_left s done h over i ended at = refl
  nothing_left s done h over i (doing []) at = refl
  nothing_left s done h over i (doing (a ∷ rest)) at = let p = over.1 i (h.busy i a rest at) in absurd (cc)

  -- once a round is over, a ticket past the tiles was drawn, and so were all tiles
  pub past_tiles : (s : State) (done : List Addition) → Holds s done → IsOver s → length tiles < length s.drawn
  past_tiles s done h over = h.stopped over.0.0 over.0.1

  -- once a round is over, each sum is the total of its entry, modulo 2^64
  pub totals : (s : State) (done : List Addition) → Holds s done → IsOver s → (k : ℕ) → k < length s.sums → slice_index s.sums k ≡ total tiles k % 2 ^ 64
  totals s done h over k lt =
      let none : sum_by (λ x. on_entry k (left_of x)) s.stages ≡ 0 = sum_none (λ x. on_entry k (left_of x)) s.stages (λ i x at. ap (on_entry k) (nothing_left s done h over i x at)) in
      let past = past_tiles s done h over in
      let drew = h.drawn_sums k in
      let tiled : below (λ t. on_entry k (tile_at tiles t)) (length s.drawn) ≡ total tiles k = below_tiles (on_entry k) tiles (length s.drawn) refl (omega arith) in
      let same : on_entry k done ≡ total tiles k = omega arith in
      h.sums k lt ∙ ap (λ x. x % 2 ^ 64) same

  -- after any list of events
  module _ (workers entries : ℕ) (es : List Event) where
    -- these facts hold after any list of events on the opening
    pub held : Holds (run tiles (opening workers entries) es) ([] ++ deposits tiles (opening workers entries) es)
    held = run_keeps (opening workers entries) [] es (opens workers entries)

    -- after these events no more tickets are drawn than there are tiles and workers
    pub few_after : length (run tiles (opening workers entries) es).drawn ≤ length tiles + workers
    few_after =
        let s = run tiles (opening workers entries) es in
        let few = held.few in
        let most = stops_most s.stages in
        let same = ap (λ (n : ℕ × ℕ). n.1) (sizes_after (opening workers entries) es) in
        let all = length-replicate workers (doing []) in
        omega arith

    -- after these events each sum is the sum of the additions made, modulo 2^64
    pub summed : (k : ℕ) → k < length (opening workers entries).sums → slice_index (run tiles (opening workers entries) es).sums k ≡ on_entry k (deposits tiles (opening workers entries) es) % 2 ^ 64
    summed k lt = let same = ap (λ (n : ℕ × ℕ). n.0) (sizes_after (opening workers entries) es) in held.sums k (omega arith)

    -- once these events end the round, each tile was drawn once, and each sum is its entry's total
    pub whole : IsOver (run tiles (opening workers entries) es) → IsWhole tiles (opening workers entries) es
    whole over = record {
      drawn = λ t lt.
          let s = run tiles (opening workers entries) es in
          let past = past_tiles s _ held over in
          let at = slice_get-get_or s.drawn t 0 (omega arith) in
          (get_or s.drawn t 0, sym (drawers_after t lt (opening workers entries) es) ∙ ap one_of at);
      totals = λ k lt. let same = ap (λ (n : ℕ × ℕ). n.0) (sizes_after (opening workers entries) es) in totals _ _ held over k (omega arith);
    }
