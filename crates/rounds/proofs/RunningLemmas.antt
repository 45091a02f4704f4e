-- The invariant between any two steps is kept by each: the rule, and that words and views are a state that the machine
-- reaches.
use Rattle.std.proofs.Common.{◌≡◌, ℕ, zero, suc, ◌+◌, ◌*◌, ◌%◌, ◌^◌, ◌<◌, List, [], ◌∷◌, ◌++◌, length, take, drop, set, replicate, slice_index, refl, sym, ap, subst, ◌∙◌, arith}
use mathlib.Core.Option.{none}
use Rattle.atomic_table.specs.Table.{State as Table, step as table_step, Allows, Splits, Joins}
use Rattle.atomic_table.specs.Table.Act.{keeps}
use Rattle.rounds.specs.Tiles.{Addition}
use Rattle.rounds.specs.Interleaving.{State, opening, step, run}
use Rattle.rounds.specs.declared.events.Event.{Event}
use Rattle.rounds.specs.declared.events.Event.TheVariants.{Claim, Deposit}
use Rattle.rounds.specs.declared.rule.Worker.{Worker}
use Rattle.rounds.specs.Workers.{Each, IsReady, HasPending, drew, added}
use Rattle.rounds.specs.Rule.{first_of, alone, draws, adds, fresh_workers, Seen}
use Rattle.rounds.specs.Events.{words_of, StandsIn, IsRound, Accepts, IsReached, IsRunning}
use Rattle.rounds.proofs.StepLemmas.{claim_keeps, claim_counts, deposit_keeps, tickets_below}
use Rattle.rounds.proofs.EndLemmas.{opens as rule_opens, splits as rule_splits, joins as rule_joins}
use Rattle.rounds.proofs.EventLemmas.{opens as round_opens, claims as claim_accepted, deposits as deposit_accepted, cuts, joins as round_joins}

run_more : (tiles : List (List Addition)) (s : State) (es : List Event) (e : Event) → run tiles s (es ++ e ∷ []) ≡ (step tiles (run tiles s es) e).0
run_more tiles s [] e = refl
run_more tiles s (x ∷ es) e = run_more tiles (step tiles s x).0 es e

module _ (tiles : List (List Addition)) (atoms workers : ℕ) where
  -- the facts of a table's words and views between any two steps
  abbrev pub Holds : Table (Unit {0}) (List Worker) → Type 0
  Holds s = IsRunning tiles atoms workers s.words s.views

  abbrev StateOf : List Event → State
  StateOf es = run tiles (opening workers (3 * atoms)) es

  goes_on : (words words' : List ℕ) (views views' : List (List Worker)) (e : Event) → (r : IsReached tiles atoms workers words views) → Accepts tiles (StateOf r.events) e words' views' → IsReached tiles atoms workers words' views'
  goes_on words words' views views' e r accepted =
      let more : StateOf (r.events ++ e ∷ []) ≡ (step tiles (StateOf r.events) e).0 = run_more tiles (opening workers (3 * atoms)) r.events e in
      record {
        events = r.events ++ e ∷ [];
        same = accepted.same ∙ ap words_of (sym more);
        stages = subst (λ x. Each (Each (StandsIn tiles x)) views') (sym more) accepted.stages;
      }

  round_of : (words : List ℕ) (views : List (List Worker)) → (kept : IsRunning tiles atoms workers words views) → IsRound tiles atoms workers (StateOf kept.reached.events) words views
  round_of words views kept = record { rule = kept.rule; same = kept.reached.same; stages = kept.reached.stages }

  claims : (slots id : ℕ) (h : Worker) → length tiles + workers < 2 ^ 64 → IsReady tiles h
      → Allows Holds slots id (alone h) 0 (λ n. (n + 1) % 2 ^ 64) (draws (table_step slots 0 1 0 none) (alone h))
  claims slots id h fits ready s kept deep at small =
      let n : ℕ = slice_index s.words 0 in
      let w : List Worker = drew h n ∷ [] in
      let after : IsRunning tiles atoms workers (set s.words 0 (suc n)) (set s.views id w) = record {
        rule = claim_keeps tiles atoms workers s.words s.views id h fits ready kept.rule at;
        reached = goes_on s.words (set s.words 0 (suc n)) s.views (set s.views id w) (Claim h.number) kept.reached
            (claim_accepted tiles atoms workers (StateOf kept.reached.events) s.words s.views id h (round_of s.words s.views kept) at ready);
      } in
      let counts : suc n ≡ (n + 1) % 2 ^ 64 = claim_counts tiles atoms workers s.words s.views id h fits ready kept.rule at in
      (w, keeps, tt, subst (λ m. IsRunning tiles atoms workers (set s.words 0 m) (set s.views id w)) counts after, (refl, tickets_below tiles atoms workers s.words s.views id h kept.rule at))

  -- The only worker of a seat, if ready, may add one to the ticket counter, and thereby draws a ticket.
  pub claims_as : (slots id : ℕ) (me : Seen) → length tiles + workers < 2 ^ 64 → me ≡ alone (first_of me.0) → IsReady tiles (first_of me.0)
      → Allows Holds slots id me 0 (λ n. (n + 1) % 2 ^ 64) (draws (table_step slots 0 1 0 none) me)
  claims_as slots id me fits is ready =
      let P : Seen → Type 0 = λ m. Allows Holds slots id m 0 (λ n. (n + 1) % 2 ^ 64) (draws (table_step slots 0 1 0 none) m) in
      subst P (sym is) (claims slots id (first_of me.0) fits ready)

  deposits : (slots id : ℕ) (h : Worker) (at amount : ℕ) (rest : List Addition) → at < 3 * atoms → HasPending tiles h ((at, amount) ∷ rest)
      → Allows Holds slots id (alone h) (1 + at) (λ n. (n + amount) % 2 ^ 64) (adds (table_step slots (1 + at) amount 0 none) (alone h))
  deposits slots id h at amount rest inside owes s kept deep here small =
      let k : Worker = added h ((at, amount) ∷ []) in
      let one : suc at ≡ 1 + at = omega arith in
      let P : ℕ → Type 0 = λ i. IsReached tiles atoms workers (set s.words i ((slice_index s.words i + amount) % 2 ^ 64)) (set s.views id (k ∷ [])) in
      let reached : P (suc at) = goes_on s.words (set s.words (suc at) ((slice_index s.words (suc at) + amount) % 2 ^ 64)) s.views (set s.views id (k ∷ [])) (Deposit h.number) kept.reached
      (deposit_accepted tiles atoms workers (StateOf kept.reached.events) s.words s.views id h at amount rest (round_of s.words s.views kept) here owes) in
      let after : IsRunning tiles atoms workers (set s.words (1 + at) ((slice_index s.words (1 + at) + amount) % 2 ^ 64)) (set s.views id (k ∷ [])) = record {
        rule = deposit_keeps tiles atoms workers s.words s.views id h at amount rest inside owes kept.rule here;
        reached = subst P one reached;
      } in
      (k ∷ [], keeps, tt, after, λ j e. ap (λ z. alone (added h ((z, amount) ∷ []))) (let e' : at ≡ j = omega arith in e'))

  -- The only worker of a seat may add the amount that it owes next to the entry's word.
  pub deposits_as : (slots id : ℕ) (me : Seen) (at amount : ℕ) (rest : List Addition) → at < 3 * atoms → me ≡ alone (first_of me.0) → HasPending tiles (first_of me.0) ((at, amount) ∷ rest)
      → Allows Holds slots id me (1 + at) (λ n. (n + amount) % 2 ^ 64) (adds (table_step slots (1 + at) amount 0 none) me)
  deposits_as slots id me at amount rest inside is owes =
      let P : Seen → Type 0 = λ m. Allows Holds slots id m (1 + at) (λ n. (n + amount) % 2 ^ 64) (adds (table_step slots (1 + at) amount 0 none) m) in
      subst P (sym is) (deposits slots id (first_of me.0) at amount rest inside owes)

  -- these facts hold of the table as it opens
  pub opens : IsRunning tiles atoms workers (replicate (3 * atoms + 1) zero) (fresh_workers workers ∷ [])
  opens = let o = round_opens tiles workers (3 * atoms) in record { rule = rule_opens tiles atoms workers; reached = record { events = []; same = o.0; stages = o.1 } }

  -- they are kept when a seat is cut into its first worker and the others
  pub splits : (id : ℕ) (v : List Worker) → Splits Holds id v (drop 1 v) (take 1 v)
  splits id v s kept at = record {
    rule = rule_splits tiles atoms workers id v s kept.rule at;
    reached = record { events = kept.reached.events; same = kept.reached.same; stages = cuts tiles (StateOf kept.reached.events) s.views id v kept.reached.stages at };
  }

  -- they are kept when a seat takes over the workers of another
  pub joins : (id : ℕ) (v : List Worker) (other : ℕ) (w : List Worker) → Joins Holds id v other w (v ++ w) []
  joins id v other w s kept at apart there = record {
    rule = rule_joins tiles atoms workers id v other w s kept.rule at apart there;
    reached = record { events = kept.reached.events; same = kept.reached.same; stages = round_joins tiles (StateOf kept.reached.events) s.views id other v w kept.reached.stages at apart there };
  }
