-- Streams as texts of states: a stream is split into states in one way.
use Rattle.std.proofs.Common.{◌≡◌, ℕ, zero, suc, ◌+◌, List, [], ◌∷◌, ◌++◌, ap, append_assoc, append-nil, arith, refl, subst, sym, ◌∙◌}
use Rattle.engine.specs.Engines.{AreSafe}
use Rattle.engine.specs.RunSpecification.{IsTextOf}
use Rattle.state.specs.StateText.{StateView, state_text}
use Rattle.state.proofs.StateLaws.{no_text_empty, starts_one}
use Rattle.streams.specs.Plans.{ReplayPlanView}
use Rattle.streams.specs.Replays.{AreReplayed, begins, goes_on}
use Rattle.streams.specs.Streams.{AreAccepted}

front_empty : (front rest : List ℕ) → front ++ rest ≡ [] → front ≡ []
front_empty [] rest none = refl
front_empty (x ∷ xs) rest none = absurd cc

-- bytes start with at most one state's text
pub one_first : (a b more others : List ℕ) (s t : StateView) → IsTextOf a s → IsTextOf b t → a ++ more ≡ b ++ others
    → (a ≡ b) × (more ≡ others)
one_first a b more others s t first second same =
    let texts : state_text s ++ more ≡ state_text t ++ others =
    ap (λ (x : List ℕ). x ++ more) (sym first.is) ∙ same ∙ ap (λ (x : List ℕ). x ++ others) second.is in
    let one = starts_one s t more others first.fits second.fits texts in
    (first.is ∙ ap state_text one.0 ∙ sym second.is, one.1)

-- ---- accepted states

-- the first of accepted states is safe, and the states behind it are accepted
pub next_accepted : (job : List ℕ) (k : ℕ) (state rest : List ℕ) (s : StateView) → IsTextOf state s
    → AreAccepted job k (state ++ rest) → (i : ℕ) × (k ≡ suc i) × AreSafe job state × AreAccepted job i rest
next_accepted job zero state rest s is none = absurd (no_text_empty s (sym is.is ∙ front_empty state rest none))
next_accepted job (suc i) state rest s is (first, more, same, safe, accepted) =
    let one = one_first state first rest more s safe.s is safe.state_text' same in
    (i, refl, subst (AreSafe job) (sym one.0) safe, subst (AreAccepted job i) (sym one.1) accepted)

-- no bytes are no states
none_accepted : (job : List ℕ) (k : ℕ) → AreAccepted job k [] → k ≡ 0
none_accepted job zero accepted = refl
none_accepted job (suc i) (state, rest, same, safe, accepted) =
    absurd (no_text_empty safe.s (sym safe.state_text'.is ∙ front_empty state rest (sym same)))

-- ---- replayed states

module _ (plan : ReplayPlanView) (job : List ℕ) where
  -- the last of replayed states is safe
  pub last_safe : (count differing : ℕ) (front last text : List ℕ) → AreReplayed plan job count differing front last text
      → AreSafe job last
  last_safe count differing front last text (begins state safe) = safe
  last_safe count differing front last text (goes_on number d before_front before told after line b are safe w) = safe

  -- replayed states, and accepted states behind them, are accepted
  accepted_on : (count differing : ℕ) (front last text : List ℕ) → AreReplayed plan job count differing front last text
      → (k : ℕ) (rest : List ℕ) → AreAccepted job k rest → AreAccepted job (count + k) (front ++ rest)
  accepted_on count differing front last text (begins state safe) k rest more =
      let one : AreAccepted job (suc k) (state ++ rest) = (state, rest, refl, safe, more) in
      let same : suc k ≡ 1 + k = omega arith in
      subst (λ (n : ℕ). AreAccepted job n (state ++ rest)) same one
  accepted_on count differing front last text (goes_on number d earlier before told after line b are safe w) k rest more =
      let next : AreAccepted job (suc k) (after ++ rest) = (after, rest, refl, safe, more) in
      let all = accepted_on (suc number) d earlier before told are (suc k) (after ++ rest) next in
      let same : suc number + suc k ≡ suc (suc number) + k = omega arith in
      subst (λ (n : ℕ). AreAccepted job n ((earlier ++ after) ++ rest)) same
      (subst (AreAccepted job (suc number + suc k)) (sym (append_assoc earlier after rest)) all)

  -- replayed states are accepted
  pub replayed_accepted : (count differing : ℕ) (front last text : List ℕ) → AreReplayed plan job count differing front last text
      → AreAccepted job count front
  replayed_accepted count differing front last text are =
      let all = accepted_on count differing front last text are 0 [] refl in
      let same : count + 0 ≡ count = omega arith in
      subst (λ (n : ℕ). AreAccepted job n front) same (subst (AreAccepted job (count + 0)) (append-nil front) all)

  -- the accepted states behind replayed ones are accepted
  rest_replayed : (count differing : ℕ) (front last text : List ℕ) → AreReplayed plan job count differing front last text
      → (m : ℕ) (bytes rest : List ℕ) → AreAccepted job m bytes → bytes ≡ front ++ rest
      → (k : ℕ) × (m ≡ count + k) × AreAccepted job k rest
  rest_replayed count differing front last text (begins state safe) m bytes rest accepted split =
      let next = next_accepted job m state rest safe.s safe.state_text' (subst (AreAccepted job m) split accepted) in
      (next.0, omega (arith, next.1), next.3)
  rest_replayed count differing front last text (goes_on number d earlier before told after line b are safe w) m bytes rest accepted split =
      let first = rest_replayed (suc number) d earlier before told are m bytes (after ++ rest) accepted
      (split ∙ append_assoc earlier after rest) in
      let next = next_accepted job first.0 after rest safe.s safe.state_text' first.2 in
      (next.0, omega (arith, first.1, next.1), next.3)

-- two replays of a stream have the same number of states
one_count : (plan other : ReplayPlanView) (job : List ℕ) (count count' differing differing' : ℕ) (stream last last' text text' : List ℕ)
    → AreReplayed plan job count differing stream last text → AreReplayed other job count' differing' stream last' text'
    → count ≡ count'
one_count plan other job count count' differing differing' stream last last' text text' one two =
    let accepted = replayed_accepted plan job count differing stream last text one in
    let left = rest_replayed other job count' differing' stream last' text' two count stream [] accepted (sym (append-nil stream)) in
    let none = none_accepted job left.0 left.2 in
    omega (arith, left.1, none)

-- Replays of the same number of states, at the beginning of the same bytes, are of the same states.
pub same_states : (plan other : ReplayPlanView) (job : List ℕ) (count count' differing differing' : ℕ)
    (front front' last last' text text' rest rest' : List ℕ)
    → AreReplayed plan job count differing front last text → AreReplayed other job count' differing' front' last' text'
    → count ≡ count' → front ++ rest ≡ front' ++ rest' → (front ≡ front') × (last ≡ last') × (rest ≡ rest')
same_states plan other job count count' d d' front front' last last' text text' rest rest' (begins state safe) (begins state' safe') same split =
    let one = one_first state state' rest rest' safe.s safe'.s safe.state_text' safe'.state_text' split in (one.0, one.0, one.1)
same_states plan other job count count' d d' front front' last last' text text' rest rest' (begins state safe)
    (goes_on number e earlier before told after line b are safe' w) same split = absurd (omega (arith, same))
same_states plan other job count count' d d' front front' last last' text text' rest rest'
    (goes_on number e earlier before told after line b are safe w) (begins state safe') same split = absurd (omega (arith, same))
same_states plan other job count count' d d' front front' last last' text text' rest rest'
    (goes_on number e earlier before told after line b are safe w)
    (goes_on number' e' earlier' before' told' after' line' b' are' safe' w') same split =
    let first = same_states plan other job (suc number) (suc number') e e' earlier earlier' before before' told told' (after ++ rest)
    (after' ++ rest') are are' (omega (arith, same))
    (sym (append_assoc earlier after rest) ∙ split ∙ append_assoc earlier' after' rest') in
    let one = one_first after after' rest rest' safe.s safe'.s safe.state_text' safe'.state_text' first.2 in
    (ap (λ (x : List ℕ). x ++ after) first.0 ∙ ap (λ (x : List ℕ). earlier' ++ x) one.0, one.0, one.1)

-- two replays of a stream are of the same states
pub one_split : (plan other : ReplayPlanView) (job : List ℕ) (count count' differing differing' : ℕ) (stream last last' text text' : List ℕ)
    → AreReplayed plan job count differing stream last text → AreReplayed other job count' differing' stream last' text'
    → (count ≡ count') × (last ≡ last')
one_split plan other job count count' differing differing' stream last last' text text' one two =
    let count_is = one_count plan other job count count' differing differing' stream last last' text text' one two in
    (count_is, (same_states plan other job count count' differing differing' stream stream last last' text text' [] [] one two count_is refl).1)
