-- Each step on the table is an event that the machine accepts.
use Rattle.std.proofs.Common.{◌≡◌, ℕ, zero, suc, ◌+◌, ◌%◌, ◌^◌, ◌<◌, ◌≤◌, ◌≢◌, List, [], ◌∷◌, ◌++◌, length, set, replicate, slice_get, slice_index, sum_by, Some, Ok, refl, sym, ap, subst, ◌∙◌, ⊎_elim, append_assoc, add-one, arith}
use Rattle.std.proofs.lemmas.Bool.{cases_lt}
use Rattle.std.proofs.lemmas.List.{get_or-set_same, append_cancel_left, nil_from_length}
use Rattle.std.proofs.lemmas.Option.{slice_get_read, slice_get_within}
use Rattle.std.proofs.lemmas.List.Sums.{sum_by-cons}
use Rattle.std.proofs.Math.ListN.{length-append, length-replicate, length-set}
use mathlib.Core.Option.{some}
use lib.ListN.{get_elem?}
use Rattle.rounds.specs.Tiles.{Addition, tile_at}
use Rattle.rounds.specs.Interleaving.{State, Stage, opening, step, stage_at, outcome_at, claimed, deposited, on_claim, on_deposit}
use Rattle.rounds.specs.Interleaving.Stage.{doing, ended}
use Rattle.rounds.specs.declared.events.Event.TheVariants.{Claim, Deposit}
use Rattle.rounds.specs.declared.events.Outcome.TheVariants.{Added}
use Rattle.rounds.proofs.AmountLemmas.{all_alike, stand_below, stand_past}
use Rattle.rounds.specs.declared.rule.Worker.{Worker}
use Rattle.rounds.specs.Workers.{Each, additions, drew, added, IsReady, HasPending}
use Rattle.rounds.specs.Rule.{IsPool, alone, over_views, same, once_below, fresh_workers}
use Rattle.rounds.specs.Events.{words_of, IsAtStage, StandsIn, Opens, ClaimsAccepted, DepositsAccepted, CutsKeep, JoinsKeep}
use Rattle.rounds.proofs.CountLemmas.{each_of, each_at, each_set, each_append, each_last, same_here, once_most}
use Rattle.rounds.proofs.StepLemmas.{over_set}
use Rattle.rounds.proofs.OweLemmas.{additions_push, just_drew, stops}
use Rattle.rounds.proofs.EndLemmas.{each_cut, each_joined}

module _ {A : Type 0} where
  each_put : (P : A → Type 0) (vs : List (List A)) (id : ℕ) (new : List A) → Each (Each P) (set vs id []) → Each P new → Each (Each P) (set vs id new)
  each_put P [] id new h n = tt
  each_put P (v ∷ vs) zero new h n = (n, h.1)
  each_put P (v ∷ vs) (suc id) new h n = (h.0, each_put P vs id new h.1 n)

  each_both : (P Q R : A → Type 0) (xs : List A) → ((x : A) → P x → Q x → R x) → Each P xs → Each Q xs → Each R xs
  each_both P Q R [] f p q = tt
  each_both P Q R (x ∷ xs) f p q = (f x p.0 q.0, each_both P Q R xs f p.1 q.1)

  each_nothing : (f : A → ℕ) (xs : List A) → sum_by f xs ≡ 0 → Each (λ x. f x ≡ 0) xs
  each_nothing f [] e = tt
  each_nothing f (x ∷ xs) e = let c = sum_by-cons f x xs in (omega arith, each_nothing f xs (omega arith))

  get_set_here : (xs : List A) (i : ℕ) (x y : A) → slice_get xs i ≡ Some y → slice_get (set xs i x) i ≡ Some x
  get_set_here xs i x y at =
      let lt : i < length xs = slice_get_within xs i y at in
      slice_get_read (set xs i x) (length xs) i x (sym (length-set xs i x)) lt (sym (get_or-set_same xs i x x lt))

  get_set_else : (xs : List A) (i j : ℕ) (x : A) → j ≢ i → slice_get (set xs i x) j ≡ slice_get xs j
  get_set_else [] i j x ne = refl
  get_set_else (z ∷ zs) zero zero x ne = absurd (ne refl)
  get_set_else (z ∷ zs) zero (suc j) x ne = refl
  get_set_else (z ∷ zs) (suc i) zero x ne = refl
  get_set_else (z ∷ zs) (suc i) (suc j) x ne = get_set_else zs i j x (λ e. ne (ap suc e))

  get_replicate : (n i : ℕ) (x : A) → i < n → slice_get (replicate n x) i ≡ Some x
  get_replicate n i x lt = slice_get_read (replicate n x) n i x (sym (length-replicate n x)) lt (sym (all_alike x n i))

module _ (tiles : List (List Addition)) where
  -- The new table represents the machine's opening state.
  pub opens : Opens tiles
  opens workers entries = (ap (λ n. replicate n zero) (add-one entries), (fresh_stand workers (omega arith), tt))
    where
      fresh_stand : (n : ℕ) → n ≤ workers → Each (StandsIn tiles (opening workers entries)) (fresh_workers n)
      fresh_stand zero le = tt
      fresh_stand (suc n) le = ((doing [], get_replicate workers n (doing []) (omega arith), (tt, refl)), fresh_stand n (omega arith))

  -- no other worker has this one's number
  others : (atoms workers : ℕ) (words : List ℕ) (views : List (List Worker)) (id : ℕ) (w : Worker) → IsPool tiles atoms workers words views → get_elem? views id ≡ some (w ∷ [])
      → Each (Each (λ u. u.number ≢ w.number)) (set views id [])
  others atoms workers words views id w kept at =
      let f : Worker → ℕ = λ u. same w.number u.number in
      let own : f w ≡ 1 = same_here w.number w.number refl in
      let out : over_views f (set views id []) + sum_by f (w ∷ []) ≡ over_views f views + 0 = over_set f views id (w ∷ []) [] at in
      let all : over_views f views ≡ once_below workers w.number = kept.numbers w.number in
      let most = once_most workers w.number in
      let none' : over_views f (set views id []) ≡ 0 = omega (arith, sum_by-cons f w []) in
      each_of (λ v. sum_by f v ≡ 0) (Each (λ u. u.number ≢ w.number)) (set views id [])
      (λ v z. each_of (λ u. f u ≡ 0) (λ u. u.number ≢ w.number) v (λ u z' e. let one = same_here w.number u.number e in absurd (omega arith)) (each_nothing f v z))
      (each_nothing (λ v. sum_by f v) (set views id []) none')

  -- If a worker's view and its entry in the machine's state change alike, all views agree with the new state.
  stands_after : (atoms workers : ℕ) (words : List ℕ) (views : List (List Worker)) (id : ℕ) (w w' : Worker) (s s' : State) (before now : Stage) → IsPool tiles atoms workers words views → get_elem? views id ≡ some (w ∷ [])
      → w'.number ≡ w.number → s'.stages ≡ set s.stages w.number now → slice_get s.stages w.number ≡ Some before → Each (Each (StandsIn tiles s)) views → IsAtStage tiles w' now
      → Each (Each (StandsIn tiles s')) (set views id (w' ∷ []))
  stands_after atoms workers words views id w w' s s' before now kept at number moved was stages as_now =
      let apart = others atoms workers words views id w kept at in
      let stay : Each (Each (StandsIn tiles s)) (set views id []) = each_set (Each (StandsIn tiles s)) views id [] stages tt in
      let rest : Each (Each (StandsIn tiles s')) (set views id []) = each_both (Each (λ u. u.number ≢ w.number)) (Each (StandsIn tiles s)) (Each (StandsIn tiles s')) (set views id [])
      (λ v a b. each_both (λ u. u.number ≢ w.number) (StandsIn tiles s) (StandsIn tiles s') v
      (λ u ne i. (i.0, ap (λ xs. slice_get xs u.number) moved ∙ (get_set_else s.stages w.number u.number now ne ∙ i.1), i.2)) a b) apart stay in
      let own : slice_get s'.stages w'.number ≡ Some now =
      ap (λ n. slice_get s'.stages n) number ∙ (ap (λ xs. slice_get xs w.number) moved ∙ get_set_here s.stages w.number now before was) in
      each_put (StandsIn tiles s') views id (w' ∷ []) rest ((now, own, as_now), tt)

  ready_rests : (w : Worker) (stage : Stage) → IsReady tiles w → IsAtStage tiles w stage → stage ≡ doing []
  ready_rests w (doing left) ready as_now =
      let e : length (additions tiles w.tickets) ≡ length (w.deposits ++ left) = ap length as_now.1 in
      let d : length w.deposits ≡ length (additions tiles w.tickets) = ap length ready.deposits in
      ap doing (nil_from_length left (omega (arith, length-append w.deposits left)))
  ready_rests w ended ready as_now =
      let lt : as_now.last < length tiles = each_last (λ t. t < length tiles) as_now.earlier as_now.last (subst (Each (λ t. t < length tiles)) as_now.tickets ready.tickets) in
      let le = as_now.past in
      absurd (omega arith)

  drew_stands : (w : Worker) (t : ℕ) → IsReady tiles w → IsAtStage tiles (drew w t) (stage_at tiles t)
  drew_stands w t ready = ⊎_elim inside past' (cases_lt t (length tiles))
    where
      inside : t < length tiles → IsAtStage tiles (drew w t) (stage_at tiles t)
      inside lt =
          subst (IsAtStage tiles (drew w t)) (sym (stand_below tiles t lt))
          (each_append (λ u. u < length tiles) w.tickets (t ∷ []) ready.tickets (lt, tt), additions_push tiles w.tickets t ∙ ap (λ xs. xs ++ tile_at tiles t) (sym ready.deposits))

      past' : length tiles ≤ t → IsAtStage tiles (drew w t) (stage_at tiles t)
      past' le =
          subst (IsAtStage tiles (drew w t)) (sym (stand_past tiles t le)) (stops tiles (alone (drew w t)) t (just_drew tiles w t ready) le)

  -- a worker that may draw and does is a claim that the machine accepts
  pub claims : ClaimsAccepted tiles
  claims atoms workers s words views id w round at ready =
      let own : StandsIn tiles s w = (each_at (Each (StandsIn tiles s)) views id (w ∷ []) round.stages at).0 in
      let is : slice_get s.stages w.number ≡ Some (doing []) = own.1 ∙ ap Some (ready_rests w own.0 ready own.2) in
      let stepped : step tiles s (Claim w.number) ≡ (claimed tiles s w.number, Ok (outcome_at tiles (length s.drawn))) = ap (on_claim tiles s w.number) is in
      let after : State = claimed tiles s w.number in
      let t : slice_index words 0 ≡ length s.drawn = ap (λ ws. slice_index ws 0) round.same in
      let words_after : set words 0 (suc (slice_index words 0)) ≡ words_of after =
      ap (λ ws. set ws 0 (suc (slice_index ws 0))) round.same ∙ ap (λ n. n ∷ s.sums) (let e = length-append s.drawn (w.number ∷ []) in let r : suc (length s.drawn) ≡ length (s.drawn ++ w.number ∷ []) = omega arith in r) in
      let stages : Each (Each (StandsIn tiles after)) (set views id (drew w (slice_index words 0) ∷ [])) =
      stands_after atoms workers words views id w (drew w (slice_index words 0)) s after (doing []) (stage_at tiles (length s.drawn)) round.rule at refl refl is round.stages
      (subst (λ n. IsAtStage tiles (drew w (slice_index words 0)) (stage_at tiles n)) t (drew_stands w (slice_index words 0) ready)) in
      record {
        outcome = (outcome_at tiles (length s.drawn), ap (λ p. p.1) stepped);
        same = words_after ∙ ap (λ p. words_of p.0) (sym stepped);
        stages = subst (λ x. Each (Each (StandsIn tiles x)) (set views id (drew w (slice_index words 0) ∷ []))) (ap (λ p. p.0) (sym stepped)) stages;
      }

  -- all additions of the tickets are those made and those owed
  owed : (w : Worker) (left : List Addition) → HasPending tiles w left → additions tiles w.tickets ≡ w.deposits ++ left
  owed w left o =
      ap (additions tiles) o.tickets
      ∙ (additions_push tiles o.earlier o.last
      ∙ (ap (λ xs. additions tiles o.earlier ++ xs) (sym o.tile) ∙ (sym (append_assoc (additions tiles o.earlier) o.made left) ∙ ap (λ ds. ds ++ left) (sym o.deposits))))

  owes_stands : (w : Worker) (a : Addition) (rest : List Addition) (stage : Stage) → HasPending tiles w (a ∷ rest) → IsAtStage tiles w stage → (stage ≡ doing (a ∷ rest)) × Each (λ t. t < length tiles) w.tickets
  owes_stands w a rest (doing left) o as_now = (ap doing (append_cancel_left w.deposits left (a ∷ rest) (sym as_now.1 ∙ owed w (a ∷ rest) o)), as_now.0)
  owes_stands w a rest ended o as_now =
      let e : length (additions tiles w.tickets) ≡ length (w.deposits ++ a ∷ rest) = ap length (owed w (a ∷ rest) o) in
      let d : length w.deposits ≡ length (additions tiles w.tickets) = ap length as_now.deposits in
      absurd (omega (arith, length-append w.deposits (a ∷ rest)))

  -- a worker that makes the addition which it owes next is a deposit that the machine accepts
  pub deposits : DepositsAccepted tiles
  deposits atoms workers s words views id w entry amount rest round at o =
      let a : Addition = (entry, amount) in
      let own : StandsIn tiles s w = (each_at (Each (StandsIn tiles s)) views id (w ∷ []) round.stages at).0 in
      let found = owes_stands w a rest own.0 o own.2 in
      let is : slice_get s.stages w.number ≡ Some (doing (a ∷ rest)) = own.1 ∙ ap Some found.0 in
      let stepped : step tiles s (Deposit w.number) ≡ (deposited tiles s w.number a rest, Ok (Added (1 + entry))) = ap (on_deposit tiles s w.number) is in
      let after : State = deposited tiles s w.number a rest in
      let words_after : set words (suc entry) ((slice_index words (suc entry) + amount) % 2 ^ 64) ≡ words_of after =
      ap (λ ws. set ws (suc entry) ((slice_index ws (suc entry) + amount) % 2 ^ 64)) round.same in
      let stages : Each (Each (StandsIn tiles after)) (set views id (added w (a ∷ []) ∷ [])) =
      stands_after atoms workers words views id w (added w (a ∷ [])) s after (doing (a ∷ rest)) (doing rest) round.rule at refl refl is round.stages
      (found.1, owed w (a ∷ rest) o ∙ sym (append_assoc w.deposits (a ∷ []) rest)) in
      record {
        outcome = (Added (1 + entry), ap (λ p. p.1) stepped);
        same = words_after ∙ ap (λ p. words_of p.0) (sym stepped);
        stages = subst (λ x. Each (Each (StandsIn tiles x)) (set views id (added w (a ∷ []) ∷ []))) (ap (λ p. p.0) (sym stepped)) stages;
      }

  -- a view that is cut in two is no event
  pub cuts : CutsKeep tiles
  cuts s views id v stages at = each_cut tiles 0 0 (StandsIn tiles s) views id v at stages

  -- two views that are made one are no event
  pub joins : JoinsKeep tiles
  joins s views id other v w stages at apart there = each_joined tiles 0 0 (StandsIn tiles s) views id other v w at apart there stages
