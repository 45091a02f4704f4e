-- Types with the values of earlier types, whose pairs need no search of their own.
use Rattle.std.proofs.Common.{◌≡◌, ℕ, suc, ◌+◌, ◌*◌, ◌/◌, ◌%◌, ◌<◌, ◌≤◌, ◌++◌, List, length, Option, Ok, refl, sym, ap, ◌∙◌, arith, ℤ, pos, slice_get, slice_index_or, unwrap_or, ext_get_or}
use Rattle.std.proofs.Math.ListN.{get_or-append}
use Rattle.std.proofs.lemmas.Nat.{div-add-mod', div-mul-add, mod_below, mod-mul-add, mul-add-lt}
use Rattle.std.proofs.lemmas.Option.{unwrap_or-slice_get}
use Rattle.kernel_code.specs.declared.instructions.Instr.{Instr}
use Rattle.kernel_code.specs.Tables.{Table, IsTable, inputs_of, row_of}
use Rattle.verifier.specs.Searches.{IsRepeated}
use Rattle.verifier.specs.Verdicts.{IsGreatest, IsSliceAnswer, Range, pair_answer}
use Rattle.verifier.proofs.Inputs.{row_length}
use Rattle.verifier.proofs.SameInputs.{same_inputs, slice_too}
use Rattle.verifier.proofs.Searching.{greatest_again, greatest_too}

-- ---- two types, value by value

-- the first inputs of a pair of two particles of type a are those of such a pair of type b, except for the distance
abbrev pub AreAlikeBelow : Table → (a b : ℕ) → ℤ → (count : ℕ) → Type 0
AreAlikeBelow t a b r count = (k : ℕ) → 1 ≤ k → k < count → slice_get (inputs_of t a a r) k ≡ slice_get (inputs_of t b b r) k

value_at : (t : Table) (a : ℕ) (r : ℤ) (i : ℕ) → i < length (row_of t a)
    → unwrap_or (slice_get (inputs_of t a a r) (suc i)) (pos 0) ≡ slice_index_or (row_of t a) i (pos 0)
value_at t a r i lt =
    unwrap_or-slice_get (inputs_of t a a r) (suc i) (pos 0)
    ∙ get_or-append (row_of t a) (row_of t a ++ t.globals) (pos 0) i lt

-- types with as many values, each the same, have the same row
pub same_row : (t : Table) (a b : ℕ) (r : ℤ) (n : ℕ) → IsTable t → a < length t.rows → b < length t.rows
    → n ≡ t.parameters + 1 → AreAlikeBelow t a b r n → row_of t a ≡ row_of t b
same_row t a b r n is la lb e h =
    ext_get_or (pos 0) (row_of t a) (row_of t b) (long ∙ sym long')
    (λ i lt.
    sym (value_at t a r i lt)
    ∙ ap (λ (o : Option ℤ). unwrap_or o (pos 0)) (h (suc i) (omega arith) (omega (arith, lt, long, e)))
    ∙ value_at t b r i (omega (arith, lt, long, long')))
  where
    long : length (row_of t a) ≡ t.parameters
    long = row_length t a is la

    long' : length (row_of t b) ≡ t.parameters
    long' = row_length t b is lb

-- ---- pairs of types

module _ (code : List Instr) (t : Table) (g : Range) where
  -- pairs of types with the same values have the same magnitude
  pair_too : (p q x : ℕ) → row_of t (p / length t.rows) ≡ row_of t (q / length t.rows)
      → row_of t (p % length t.rows) ≡ row_of t (q % length t.rows) → pair_answer code t g p (Ok x) → pair_answer code t g q (Ok x)
  pair_too p q x e f h =
      let n = length t.rows in
      greatest_too (IsSliceAnswer code t g (p / n) (p % n)) (IsSliceAnswer code t g (q / n) (q % n)) g.slices x
      (slice_too code t (p / n) (p % n) (q / n) (q % n) (λ r. same_inputs t (p / n) (p % n) (q / n) (q % n) r e f) g)
      h

  -- a pair with the values of an earlier pair of types changes no bound
  pair_again : (m x a b : ℕ) → IsGreatest (pair_answer code t g) m x → b < length t.rows → a * length t.rows + b < m
      → row_of t a ≡ row_of t (m / length t.rows) → row_of t b ≡ row_of t (m % length t.rows)
      → IsGreatest (pair_answer code t g) (m + 1) x
  pair_again m x a b h lb lt e f =
      let n = length t.rows in
      greatest_again (pair_answer code t g) m x (a * n + b) h lt
      (λ y. pair_too (a * n + b) m y (ap (row_of t) (div-mul-add a n b lb) ∙ e) (ap (row_of t) (mod-mul-add a n b lb) ∙ f))

  -- a pair whose first type is repeated changes no bound
  pub first_again : (m x : ℕ) → 0 < length t.rows → IsGreatest (pair_answer code t g) m x → IsRepeated t (m / length t.rows)
      → IsGreatest (pair_answer code t g) (m + 1) x
  first_again m x some h again =
      let n = length t.rows in
      let second = mod_below m n some in
      let below : again.earlier * n + m % n < n * (m / n) = mul-add-lt again.earlier n (m % n) (m / n) again.before second in
      pair_again m x again.earlier (m % n) h second (omega (arith, below, div-add-mod' m n)) again.same refl

  -- a pair whose second type is repeated changes no bound
  pub second_again : (m x : ℕ) → 0 < length t.rows → IsGreatest (pair_answer code t g) m x → IsRepeated t (m % length t.rows)
      → IsGreatest (pair_answer code t g) (m + 1) x
  second_again m x some h again =
      let n = length t.rows in
      let second = mod_below m n some in
      let earlier = again.before in
      pair_again m x (m / n) again.earlier h (omega (arith, earlier, second)) (omega (arith, earlier, div-add-mod' m n)) refl again.same
