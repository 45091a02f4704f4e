-- The statuses that a round keeps of its workers are the machine's state.
use Rattle.std.proofs.Common.{◌≡◌, ℕ, ◌+◌, ◌*◌, ◌%◌, ◌^◌, ◌<◌, ◌≤◌, List, [], ◌∷◌, ◌++◌, map, drop, length, get_or, set, replicate, Option, Some, None, Ok, Err, slice_get, slice_index, sum_by, ℤ, pos, refl, sym, ap, subst, ◌∙◌, ⊎_elim, arith, option_map}
use Rattle.std.proofs.lemmas.Option.{get_or_from_slice_get, slice_get-get_or, slice_get-map, slice_get_within}
use Rattle.std.proofs.lemmas.List.{drop_more, get_or-map, length-map, map-set}
use Rattle.std.proofs.lemmas.List.Concat.{flat_map-cons}
use Rattle.std.specs.Int.{w64, cast_signed, cast_unsigned}
use lib.LanesLaws.{map-replicate}
use Rattle.rounds.specs.declared.work.PairAdd.{PairAdd}
use Rattle.std.proofs.lemmas.Int.{of_z-to_z}
use Rattle.std.proofs.lemmas.Nat.{mod_below}
use Rattle.std.proofs.Math.ListN.{length-set, length-replicate}
use Rattle.rounds.specs.declared.events.Outcome.{Outcome}
use Rattle.rounds.specs.declared.events.Outcome.TheVariants.{Drew, Ended, Added}
use Rattle.rounds.specs.declared.faults.RoundFault.TheVariants.{Busy, Idle}
use Rattle.round_model.specs.declared.statuses.Task.{Task}
use Rattle.round_model.specs.declared.statuses.WorkerStatus.{WorkerStatus}
use Rattle.round_model.specs.declared.statuses.WorkerStatus.TheVariants.{Resting, Adding, Stopped}
use Rattle.rounds.specs.Tiles.{Addition, additions_of, tile_of, tiles_of, pairs_at}
use Rattle.rounds.specs.Interleaving.{State, Stage, opening, stage_at, outcome_at, on_claim, on_deposit}
use Rattle.round_model.specs.Statuses.{Progress}
use Rattle.rounds.specs.Interleaving.Stage.{doing, ended}
use Rattle.round_model.specs.Statuses.{task_at, later, stage_of, stages_of, stops, IsWorkerStatus, IsSound, IsTask}
use Rattle.rounds.proofs.ActingLemmas.{entry_inside, tile_at-tiles_of}
use Rattle.round_model.proofs.RunLemmas.{at_set, replicated, sum_at_set, outcome_below, outcome_past, stops_most, claim_few, deposit_stops}
use Rattle.rounds.proofs.AmountLemmas.{stand_below, stand_past}

-- From the position of an element on, a list is this element followed by the elements after it.
pub drop_at : {A : Type 0} (xs : List A) (i : ℕ) (x : A) → slice_get xs i ≡ Some x → drop i xs ≡ x ∷ drop (i + 1) xs
drop_at xs i x e = drop_more xs i x (slice_get_within xs i x e) ∙ ap (λ y. y ∷ drop (i + 1) xs) (get_or_from_slice_get xs i x x e)

-- If the pairs from `first` to before k have no additions, the additions from `first` on begin with pair k.
pub passed : (pairs : List (Option PairAdd)) (first k : ℕ) (o : Option PairAdd) → slice_get pairs k ≡ Some o → tile_of (drop k pairs) ≡ tile_of (drop first pairs) → additions_of o ++ tile_of (drop (k + 1) pairs) ≡ tile_of (drop first pairs)
passed pairs first k o e before = sym (ap tile_of (drop_at pairs k o e) ∙ flat_map-cons additions_of o (drop (k + 1) pairs)) ∙ before

stops_fewer : (stages : List Stage) (w : ℕ) (xs : List Addition) → slice_get stages w ≡ Some (doing xs) → sum_by stops stages < length stages
stops_fewer stages w xs at =
    let moved : sum_by stops (set stages w ended) + 0 ≡ sum_by stops stages + 1 = sum_at_set stops stages w (doing xs) ended at in
    omega (arith, stops_most (set stages w ended), length-set stages w ended)

read_map : {A B : Type 0} (f : A → B) (xs : List A) (k : ℕ) (x : A) (d : B) → k < length xs → x ≡ get_or xs k x → f x ≡ get_or (map f xs) k d
read_map f xs k x d lt e = ap f e ∙ sym (get_or-map f xs k x d lt)

-- a sum that has grown by an amount, and stays a number of 64 bits
module _ (sums : List ℤ) (k amount : ℕ) (old : ℤ) (lt : k < length sums) (read : old ≡ get_or sums k old) where
  -- adding to a kept sum adds to its 64-bit word, modulo 2^64
  pub sum_added : map (cast_unsigned w64) (set sums k (cast_signed w64 ((cast_unsigned w64 old + amount) % 2 ^ 64))) ≡ set (map (cast_unsigned w64) sums) k ((slice_index (map (cast_unsigned w64) sums) k + amount) % 2 ^ 64)
  sum_added =
      map-set (cast_unsigned w64) sums k (cast_signed w64 ((cast_unsigned w64 old + amount) % 2 ^ 64))
      ∙ ap (set (map (cast_unsigned w64) sums) k)
      (of_z-to_z w64 ((cast_unsigned w64 old + amount) % 2 ^ 64) (mod_below (cast_unsigned w64 old + amount) (2 ^ 64) (omega arith))
      ∙ ap (λ n. (n + amount) % 2 ^ 64) (read_map (cast_unsigned w64) sums k old 0 lt read))

sum_signed : (sums : List ℤ) (k n : ℕ) → n < 2 ^ 64 → map (cast_signed w64) (map (cast_unsigned w64) sums) ≡ sums → map (cast_signed w64) (map (cast_unsigned w64) (set sums k (cast_signed w64 n))) ≡ set sums k (cast_signed w64 n)
sum_signed sums k n lt signed =
    ap (map (cast_signed w64)) (map-set (cast_unsigned w64) sums k (cast_signed w64 n))
    ∙ (map-set (cast_signed w64) (map (cast_unsigned w64) sums) k (cast_unsigned w64 (cast_signed w64 n))
    ∙ (ap (λ xs. set xs k (cast_signed w64 (cast_unsigned w64 (cast_signed w64 n)))) signed
    ∙ ap (λ m. set sums k (cast_signed w64 m)) (of_z-to_z w64 n lt)))

-- a sum as the code stores it
module _ (sums : List ℤ) (k amount bits : ℕ) (old result : ℤ) (lt : k < length sums) (read : old ≡ get_or sums k old) (signed : map (cast_signed w64) (map (cast_unsigned w64) sums) ≡ sums)
    (bits_is : bits ≡ cast_unsigned w64 (cast_signed w64 (cast_unsigned w64 old))) (result_is : result ≡ cast_signed w64 ((bits + amount) % 2 ^ 64)) where
  old_signed : cast_signed w64 (cast_unsigned w64 old) ≡ old
  old_signed =
      read_map (cast_signed w64) (map (cast_unsigned w64) sums) k (cast_unsigned w64 old) old (omega (arith, length-map sums (cast_unsigned w64))) (read_map (cast_unsigned w64) sums k old (cast_unsigned w64 old) lt read)
      ∙ (ap (λ xs. get_or xs k old) signed ∙ sym read)

  stored : cast_signed w64 (cast_unsigned w64 result) ≡ cast_signed w64 ((cast_unsigned w64 old + amount) % 2 ^ 64)
  stored =
      ap (λ z. cast_signed w64 (cast_unsigned w64 z)) result_is
      ∙ (ap (cast_signed w64) (of_z-to_z w64 ((bits + amount) % 2 ^ 64) (mod_below (bits + amount) (2 ^ 64) (omega arith)))
      ∙ ap (λ n. cast_signed w64 ((n + amount) % 2 ^ 64)) (bits_is ∙ ap (cast_unsigned w64) old_signed))

  -- Storing a sum from its word adds the amount to the word, modulo 2^64.
  pub stored_added : map (cast_unsigned w64) (set sums k (cast_signed w64 (cast_unsigned w64 result))) ≡ set (map (cast_unsigned w64) sums) k ((slice_index (map (cast_unsigned w64) sums) k + amount) % 2 ^ 64)
  stored_added = ap (λ z. map (cast_unsigned w64) (set sums k z)) stored ∙ sum_added sums k amount old lt read

  -- sums stay signed 64-bit numbers when one is stored from its word
  pub stored_signed : map (cast_signed w64) (map (cast_unsigned w64) (set sums k (cast_signed w64 (cast_unsigned w64 result)))) ≡ set sums k (cast_signed w64 (cast_unsigned w64 result))
  stored_signed =
      let n = (cast_unsigned w64 old + amount) % 2 ^ 64 in
      ap (λ z. map (cast_signed w64) (map (cast_unsigned w64) (set sums k z))) stored
      ∙ (sum_signed sums k n (mod_below (cast_unsigned w64 old + amount) (2 ^ 64) (omega arith)) signed ∙ ap (set sums k) (sym stored))

-- a worker that may go on and has no task rests
pub rests_at : (o : Option WorkerStatus) → task_at o ≡ Ok None → o ≡ Some Resting
rests_at None is = absurd (cc is)
rests_at (Some Stopped) is = absurd (cc is)
rests_at (Some Resting) is = refl
rests_at (Some (Adding task)) is = absurd (cc is)

-- a worker that has a task is adding
pub adds_at : (o : Option WorkerStatus) (task : Task) → task_at o ≡ Ok (Some task) → o ≡ Some (Adding task)
adds_at None task is = absurd (cc is)
adds_at (Some Stopped) task is = absurd (cc is)
adds_at (Some Resting) task is = absurd (cc is)
adds_at (Some (Adding other)) task is = ap (λ (t : Task). Some (Adding t)) (let same : other ≡ task = cc is in same)

-- the task of a worker of a sound round is within the plan
pub is_task : {atoms room : ℕ} {plan : List (List (Option PairAdd))} {drawn : List ℕ} {statuses : List WorkerStatus} {sums : List ℤ} → IsSound atoms plan drawn room statuses sums
    → (w : ℕ) (task : Task) → task_at (slice_get statuses w) ≡ Ok (Some task) → IsTask atoms plan task
is_task {statuses = statuses} sound w task is = sound.within w (Adding task) (adds_at (slice_get statuses w) task is)

-- there is a sum for the entry of its next addition
pub has_sum : {atoms room : ℕ} {plan : List (List (Option PairAdd))} {drawn : List ℕ} {statuses : List WorkerStatus} {sums : List ℤ} → IsSound atoms plan drawn room statuses sums
    → (w : ℕ) (task : Task) → task_at (slice_get statuses w) ≡ Ok (Some task) → (a : Addition) → slice_get (additions_of (Some task.add)) task.part ≡ Some a → a.0 < length sums
has_sum {atoms} sound w task is a next =
    let inside = entry_inside atoms task.add task.part a (is_task sound w task is).pair next in
    let wide = sound.wide in
    omega arith

module _ (plan : List (List (Option PairAdd))) where
  -- the machine's state
  abbrev pub state_of : List ℕ → List WorkerStatus → List ℤ → State
  state_of drawn statuses sums = record { drawn = drawn; stages = stages_of plan statuses; sums = map (cast_unsigned w64) sums }

  -- A worker's entry in the machine's state is `stage_of` of its status.
  pub standing : (statuses : List WorkerStatus) (w : ℕ) (o : Option WorkerStatus) → slice_get statuses w ≡ o → slice_get (stages_of plan statuses) w ≡ option_map (stage_of plan) o
  standing statuses w o e = slice_get-map (stage_of plan) statuses w ∙ ap (option_map (stage_of plan)) e

  -- the view of a round
  abbrev pub progress_of : List ℕ → List WorkerStatus → List ℤ → Progress
  progress_of drawn statuses sums = record { tiles = tiles_of plan; state = state_of drawn statuses sums }

  -- refusals of a worker that has additions left, and of one that has none
  pub claim_busy : (now : Progress) (drawn : List ℕ) (statuses : List WorkerStatus) (sums : List ℤ) (w : ℕ) (a : Addition) (rest : List Addition) → progress_of drawn statuses sums ≡ now
      → slice_get (stages_of plan statuses) w ≡ Some (doing (a ∷ rest)) → (now.state, Err Busy) ≡ on_claim now.tiles now.state w (slice_get now.state.stages w)
  claim_busy now drawn statuses sums w a rest seen at =
      let stages : slice_get now.state.stages w ≡ Some (doing (a ∷ rest)) = ap (λ (v : Progress). slice_get v.state.stages w) (sym seen) ∙ at in
      sym (ap (on_claim now.tiles now.state w) stages)

  -- A deposit of a worker at rest is refused as idle.
  pub deposit_idle : (now : Progress) (drawn : List ℕ) (statuses : List WorkerStatus) (sums : List ℤ) (w : ℕ) → progress_of drawn statuses sums ≡ now
      → slice_get statuses w ≡ Some Resting → (now.state, Err Idle) ≡ on_deposit now.tiles now.state w (slice_get now.state.stages w)
  deposit_idle now drawn statuses sums w seen at =
      let stages : slice_get now.state.stages w ≡ Some (doing []) = ap (λ (v : Progress). slice_get v.state.stages w) (sym seen) ∙ standing statuses w (Some Resting) at in
      sym (ap (on_deposit now.tiles now.state w) stages)

  -- a worker that drew the next ticket, of a tile: its status, and the answer
  pub drew_tile : (drawn : List ℕ) (t : ℕ) (p : WorkerStatus) → t ≡ length drawn → t < length plan → stage_of plan p ≡ doing (tile_of (drop 0 (pairs_at plan t)))
      → (stage_of plan p ≡ stage_at (tiles_of plan) (length drawn)) × (Drew t ≡ outcome_at (tiles_of plan) (length drawn))
  drew_tile drawn t p next lt e =
      let below : t < length (tiles_of plan) = omega (arith, length-map plan tile_of) in (
        e ∙ (ap doing (sym (tile_at-tiles_of plan t)) ∙ (sym (stand_below (tiles_of plan) t below) ∙ ap (stage_at (tiles_of plan)) next)),
        sym (outcome_below (tiles_of plan) t below) ∙ ap (outcome_at (tiles_of plan)) next,
      )

  -- a worker that drew a ticket past the tiles
  pub drew_none : (drawn : List ℕ) → length plan ≤ length drawn → (stage_of plan Stopped ≡ stage_at (tiles_of plan) (length drawn)) × (Ended ≡ outcome_at (tiles_of plan) (length drawn))
  drew_none drawn le =
      let past : length (tiles_of plan) ≤ length drawn = omega (arith, length-map plan tile_of) in
      (sym (stand_past (tiles_of plan) (length drawn) past), sym (outcome_past (tiles_of plan) (length drawn) past))

  -- a claim of a worker at rest
  pub claims_so : (drawn drawn' : List ℕ) (statuses : List WorkerStatus) (sums : List ℤ) (w : ℕ) (p : WorkerStatus) (outcome : Outcome)
      → drawn' ≡ drawn ++ w ∷ [] → slice_get statuses w ≡ Some Resting → stage_of plan p ≡ stage_at (tiles_of plan) (length drawn) → outcome ≡ outcome_at (tiles_of plan) (length drawn)
      → (state_of drawn' (set statuses w p) sums, Ok outcome) ≡ on_claim (tiles_of plan) (state_of drawn statuses sums) w (slice_get (stages_of plan statuses) w)
  claims_so drawn drawn' statuses sums w p outcome longer at stage is =
      let stages : stages_of plan (set statuses w p) ≡ set (stages_of plan statuses) w (stage_at (tiles_of plan) (length drawn)) = map-set (stage_of plan) statuses w p ∙ ap (set (stages_of plan statuses) w) stage in
      (λ i. (record { drawn = longer i; stages = stages i; sums = map (cast_unsigned w64) sums }, Ok (is i)))
      ∙ sym (ap (on_claim (tiles_of plan) (state_of drawn statuses sums) w) (standing statuses w (Some Resting) at))

  -- the additions that a worker has left once its task's next one is made
  abbrev pub rest_of : Task → List Addition
  rest_of task = drop (task.part + 1) (additions_of (Some task.add)) ++ later plan task

  -- A worker with a task is before its next addition and the rest of the task.
  pub stands_before : (statuses : List WorkerStatus) (w : ℕ) (task : Task) (a : Addition) → slice_get statuses w ≡ Some (Adding task) → slice_get (additions_of (Some task.add)) task.part ≡ Some a
      → slice_get (stages_of plan statuses) w ≡ Some (doing (a ∷ rest_of task))
  stands_before statuses w task a at next =
      standing statuses w (Some (Adding task)) at
      ∙ ap (λ (xs : List Addition). Some (doing (xs ++ later plan task))) (drop_at (additions_of (Some task.add)) task.part a next)

  -- a deposit of a worker with a task
  pub deposits_so : (drawn : List ℕ) (statuses : List WorkerStatus) (sums sums' : List ℤ) (w : ℕ) (task : Task) (p : WorkerStatus) (a : Addition)
      → slice_get statuses w ≡ Some (Adding task) → slice_get (additions_of (Some task.add)) task.part ≡ Some a → stage_of plan p ≡ doing (rest_of task)
      → map (cast_unsigned w64) sums' ≡ set (map (cast_unsigned w64) sums) a.0 ((slice_index (map (cast_unsigned w64) sums) a.0 + a.1) % 2 ^ 64)
      → (state_of drawn (set statuses w p) sums', Ok (Added (1 + a.0))) ≡ on_deposit (tiles_of plan) (state_of drawn statuses sums) w (slice_get (stages_of plan statuses) w)
  deposits_so drawn statuses sums sums' w task p a at next stage added =
      let stages : stages_of plan (set statuses w p) ≡ set (stages_of plan statuses) w (doing (rest_of task)) = map-set (stage_of plan) statuses w p ∙ ap (set (stages_of plan statuses) w) stage in
      (λ i. (record { drawn = drawn; stages = stages i; sums = added i }, Ok (Added (1 + a.0))))
      ∙ sym (ap (on_deposit (tiles_of plan) (state_of drawn statuses sums) w) (stands_before statuses w task a at next))

  module _ (atoms : ℕ) where
    within_set : (statuses : List WorkerStatus) (w : ℕ) (p : WorkerStatus) → IsWorkerStatus atoms plan p → ((v : ℕ) (q : WorkerStatus) → slice_get statuses v ≡ Some q → IsWorkerStatus atoms plan q)
        → (v : ℕ) (q : WorkerStatus) → slice_get (set statuses w p) v ≡ Some q → IsWorkerStatus atoms plan q
    within_set statuses w p is within v q e = ⊎_elim (λ t. subst (IsWorkerStatus atoms plan) t.1 is) (λ t. within v q t.1) (at_set statuses w v p q e)

    -- there is room for the ticket of a worker at rest
    pub has_room : (drawn : List ℕ) (room : ℕ) (statuses : List WorkerStatus) (sums : List ℤ) (w : ℕ) → IsSound atoms plan drawn room statuses sums → slice_get statuses w ≡ Some Resting → length drawn < room
    has_room drawn room statuses sums w sound at =
        let few = sound.few in
        let enough = sound.enough in
        let fewer = stops_fewer (stages_of plan statuses) w [] (standing statuses w (Some Resting) at) in
        let same = length-map statuses (stage_of plan) in
        omega arith

    -- a round is sound still once a worker at rest has drawn a ticket
    pub claim_sound : (drawn drawn' : List ℕ) (room room' : ℕ) (statuses : List WorkerStatus) (sums : List ℤ) (w : ℕ) (p : WorkerStatus) → IsSound atoms plan drawn room statuses sums → slice_get statuses w ≡ Some Resting → IsWorkerStatus atoms plan p
        → drawn' ≡ drawn ++ w ∷ [] → room' ≡ room → stage_of plan p ≡ stage_at (tiles_of plan) (length drawn) → IsSound atoms plan drawn' room' (set statuses w p) sums
    claim_sound drawn drawn' room room' statuses sums w p sound at is longer same stage = record {
      within = within_set statuses w p is sound.within;
      wide = sound.wide;
      signed = sound.signed;
      few =
          let s = state_of drawn statuses sums in
          let before : length drawn ≤ length (tiles_of plan) + sum_by stops (stages_of plan statuses) = let few = sound.few in omega (arith, length-map plan tile_of) in
          let after : length (drawn ++ w ∷ []) ≤ length (tiles_of plan) + sum_by stops (set (stages_of plan statuses) w (stage_at (tiles_of plan) (length drawn))) = claim_few (tiles_of plan) s w (standing statuses w (Some Resting) at) before in
          let stages : stages_of plan (set statuses w p) ≡ set (stages_of plan statuses) w (stage_at (tiles_of plan) (length drawn)) = map-set (stage_of plan) statuses w p ∙ ap (set (stages_of plan statuses) w) stage in
          let left = ap length longer in
          let right = ap (sum_by stops) stages in
          omega (arith, length-map plan tile_of);
      enough = let enough = sound.enough in omega (arith, length-set statuses w p);
    }

    -- a round is sound still once a worker has made its task's next addition
    pub deposit_sound : (drawn : List ℕ) (room : ℕ) (statuses : List WorkerStatus) (sums sums' : List ℤ) (w : ℕ) (task : Task) (p : WorkerStatus) (a : Addition) → IsSound atoms plan drawn room statuses sums → slice_get statuses w ≡ Some (Adding task) → IsWorkerStatus atoms plan p
        → slice_get (additions_of (Some task.add)) task.part ≡ Some a → stage_of plan p ≡ doing (rest_of task)
        → length sums' ≡ length sums → map (cast_signed w64) (map (cast_unsigned w64) sums') ≡ sums' → IsSound atoms plan drawn room (set statuses w p) sums'
    deposit_sound drawn room statuses sums sums' w task p a sound at is next stage same signed = record {
      within = within_set statuses w p is sound.within;
      wide = let wide = sound.wide in omega arith;
      signed = signed;
      few =
          let stages : stages_of plan (set statuses w p) ≡ set (stages_of plan statuses) w (doing (rest_of task)) = map-set (stage_of plan) statuses w p ∙ ap (set (stages_of plan statuses) w) stage in
          let right = ap (sum_by stops) stages in
          let kept = deposit_stops (tiles_of plan) (state_of drawn statuses sums) w a (rest_of task) (stands_before statuses w task a at next) in
          let few = sound.few in
          omega arith;
      enough = let enough = sound.enough in omega (arith, length-set statuses w p);
    }

    -- a worker with a task has an addition left
    pub stands_adding : (drawn : List ℕ) (room : ℕ) (statuses : List WorkerStatus) (sums : List ℤ) (w : ℕ) (task : Task) → IsSound atoms plan drawn room statuses sums → slice_get statuses w ≡ Some (Adding task)
        → (a : Addition) × (slice_get (stages_of plan statuses) w ≡ Some (doing (a ∷ rest_of task)))
    stands_adding drawn room statuses sums w task sound at =
        let part = (sound.within w (Adding task) at).part in
        (get_or (additions_of (Some task.add)) task.part (0, 0), stands_before statuses w task _ at (slice_get-get_or (additions_of (Some task.add)) task.part (0, 0) (omega arith)))

  -- the opening of a round
  module _ (atoms workers entries room : ℕ) (drawn : List ℕ) (statuses : List WorkerStatus) (sums : List ℤ) (drawn_is : drawn ≡ []) (statuses_are : statuses ≡ replicate workers Resting) (sums_are : sums ≡ replicate entries (pos 0)) where
    -- a round as it is made is the machine's opening
    pub opens_so : state_of drawn statuses sums ≡ opening workers entries
    opens_so =
        let stages : stages_of plan statuses ≡ replicate workers (doing []) = ap (stages_of plan) statuses_are ∙ map-replicate (stage_of plan) workers Resting in
        let zeros : map (cast_unsigned w64) sums ≡ replicate entries 0 = ap (map (cast_unsigned w64)) sums_are ∙ map-replicate (cast_unsigned w64) entries (pos 0) in
        λ i. record { drawn = drawn_is i; stages = stages i; sums = zeros i }

    -- A new round is sound if it has sums for all atoms and room for all tickets.
    pub opening_sound : 3 * atoms ≤ entries → length plan + workers ≤ room → IsSound atoms plan drawn room statuses sums
    opening_sound wide enough = record {
      within = λ w p e.
          let rests : Resting ≡ p = replicated workers w Resting p (ap (λ ps. slice_get ps w) (sym statuses_are) ∙ e) in
          subst (IsWorkerStatus atoms plan) rests tt;
      wide = let size = ap length sums_are in omega (arith, length-replicate entries (pos 0));
      signed =
          ap (map (cast_signed w64)) (ap (map (cast_unsigned w64)) sums_are ∙ map-replicate (cast_unsigned w64) entries (pos 0))
          ∙ (map-replicate (cast_signed w64) entries 0 ∙ sym sums_are);
      few = let none = ap length drawn_is in omega arith;
      enough = let size = ap length statuses_are in omega (arith, length-replicate workers Resting);
    }
