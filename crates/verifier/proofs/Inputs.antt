-- The inputs of a pair of types, and spans that hold them.
use Rattle.std.proofs.Common.{◌≡◌, ℕ, zero, suc, ◌+◌, ◌<◌, ◌≤◌, List, [], ◌∷◌, ◌++◌, length, Some, None, refl, sym, ap, ◌∙◌, subst, arith, ℤ, ⊎_elim, inl, inr, slice_get, ◌⊎◌, length-append}
use Rattle.std.proofs.lemmas.Int.{ints}
use Rattle.std.proofs.lemmas.Option.{slice_get-get_or}
use Rattle.std.proofs.lemmas.List.Elements.{All-get_or}
use Rattle.interval_domain.specs.declared.span.Span.{Span}
use Rattle.interval_domain.specs.Spans.{IsMember}
use Rattle.kernel_code.specs.Tables.{Table, IsTable, row_of, inputs_of}
use Rattle.verifier.specs.Safety.{input_count}
use Rattle.verifier.specs.AbstractStates.{IsOne}
use Rattle.verifier.specs.Verdicts.{AreFirstSpans, AreInputSpans}
use Rattle.verifier.proofs.Runs.{AreInputsOf}

-- ---- how many there are

-- each type has a value for each parameter
pub row_length : (t : Table) (a : ℕ) → IsTable t → a < length t.rows → length (row_of t a) ≡ t.parameters
row_length t a is within = All-get_or (λ (row : List ℤ). length row ≡ t.parameters) t.rows a [] within is.rows_whole

-- the inputs of each pair of types at any distance number `input_count` of the table
pub inputs_length : (t : Table) (a b : ℕ) (r : ℤ) → IsTable t → a < length t.rows → b < length t.rows → length (inputs_of t a b r) ≡ input_count t
inputs_length t a b r is first second =
    let x = row_length t a is first in
    let y = row_length t b is second in
    let m = length-append (row_of t a) (row_of t b ++ t.globals) in
    let n = length-append (row_of t b) t.globals in
    omega (arith, x, y, m, n)

-- each input below `input_count` exists
pub input_there : (t : Table) (a b k k' : ℕ) (r : ℤ) → IsTable t → a < length t.rows → b < length t.rows → None ≡ slice_get (inputs_of t a b r) k' → k' ≡ k → k < input_count t → ⊥
input_there t a b k k' r is first second none same lt =
    let long = inputs_length t a b r is first second in
    let there = slice_get-get_or (inputs_of t a b r) k' r (omega (arith, long, same, lt)) in
    absurd cc

-- ---- spans

get_push : (ss : List Span) (s t : Span) (j : ℕ) → slice_get (ss ++ s ∷ []) j ≡ Some t → (slice_get ss j ≡ Some t) ⊎ ((j ≡ length ss) × (t ≡ s))
get_push [] s t zero e = inr (refl, cc)
get_push [] s t (suc j) e = absurd cc
get_push (x ∷ ss) s t zero e = inl e
get_push (x ∷ ss) s t (suc j) e = ⊎_elim (λ (h : slice_get ss j ≡ Some t). inl h) (λ (h : (j ≡ length ss) × (t ≡ s)). inr (ap suc h.0, h.1)) (get_push ss s t j e)

same_later : (x y : ℤ) (rest : List ℤ) (k : ℕ) → 1 ≤ k → slice_get (x ∷ rest) k ≡ slice_get (y ∷ rest) k
same_later x y rest zero h = absurd (omega (arith, h))
same_later x y rest (suc k) h = refl

-- the input intervals for an interval of distances contain the inputs at each of these distances
pub hold_inputs : (t : Table) (a b : ℕ) (distances : Span) (spans : List Span) (r : ℤ) → AreInputSpans t a b distances spans → IsMember r distances → AreInputsOf (inputs_of t a b r) spans
hold_inputs t a b distances spans r h m = record { each = each }
  where
    each : (k : ℕ) (s : Span) → slice_get spans k ≡ Some s → (x : ℤ) × (slice_get (inputs_of t a b r) k ≡ Some x) × IsMember x s
    each zero s e =
        let first = h.first in
        let same : distances ≡ s = cc in
        (r, refl, subst (IsMember r) same m)
    each (suc k) s e =
        let o = h.others (suc k) s (omega arith) e in
        let one = o.one in
        (o.value, same_later r distances.lo _ (suc k) (omega arith) ∙ o.there, record { at_least = omega (arith, ints, one.lo'); at_most = omega (arith, ints, one.hi') })

none_later : (s t : Span) (j : ℕ) → 1 ≤ j → slice_get (s ∷ []) j ≡ Some t → ⊥
none_later s t zero h e = omega (arith, h)
none_later s t (suc j) h e = absurd cc

get_first : (ss : List Span) (s t : Span) → slice_get ss 0 ≡ Some s → slice_get (ss ++ t ∷ []) 0 ≡ Some s
get_first [] s t e = absurd cc
get_first (x ∷ ss) s t e = e

-- the list with only the interval of distances has the interval of the first input
pub hold_first : (t : Table) (a b : ℕ) (distances : Span) (spans : List Span) → spans ≡ distances ∷ [] → AreFirstSpans t a b 1 distances spans
hold_first t a b distances spans e = rw e (record { long = refl; first = refl; others = λ j s one there. absurd (none_later distances s j one there) })

-- if a list has the intervals of the first k inputs, appending the interval of only input k's value gives the
-- intervals of the first k + 1 inputs
pub hold_more : (t : Table) (a b : ℕ) (v : ℤ) (k k' : ℕ) (distances : Span) (old new : List Span) (s : Span) → AreFirstSpans t a b k distances old → Some v ≡ slice_get (inputs_of t a b distances.lo) k' → k' ≡ k → s.lo ≡ v → s.hi ≡ v → new ≡ old ++ s ∷ [] → AreFirstSpans t a b (k + 1) distances new
hold_more t a b v k k' distances old new s h there same el eh e =
    rw e
    (record {
      long = length-append old (s ∷ []) ∙ omega (arith, h.long);
      first = get_first old distances s h.first;
      others = λ j x le at.
          ⊎_elim
          (λ (before : slice_get old j ≡ Some x). h.others j x le before)
          (λ (now : (j ≡ length old) × (x ≡ s)).
          let here : slice_get (inputs_of t a b distances.lo) j ≡ Some v = ap (slice_get (inputs_of t a b distances.lo)) (now.0 ∙ h.long ∙ sym same) ∙ sym there in
          record { value = v; there = here; one = subst (IsOne v) (sym now.1) (record { lo' = el; hi' = eh }) })
          (get_push old s x j at);
    })
