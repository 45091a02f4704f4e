-- A program as it was written has a tree as it was written, and each program has a written one.
use Rattle.std.proofs.Common.{◌≡◌, ℕ, zero, suc, ◌+◌, ◌==◌, ◌&&◌, Bool, true, false, List, [], ◌∷◌, ◌++◌, length, slice_get, Some, nat_le, nat_lt, refl, ap, subst, ◌∙◌, arith, if◌then◌else◌}
use Rattle.std.proofs.lemmas.Bool.{and_parts}
use Rattle.std.proofs.lemmas.Bool.Decides.{nat_tests}
use Rattle.fixed.specs.declared.constants.Constant.{Constant}
use Rattle.energy_program.specs.Programs.{Trees}
use Rattle.energy_program.specs.Tree.{Tree, Number, Input, Definition, Negated, Binary, Applied, Power, Select, are_scoped, is_exponent, is_scoped, meaning, put, substituted}
use Rattle.derivative.specs.DualNumbers.{IsScoped}
use Rattle.derivative.specs.Exact.{Numbers}
use Rattle.formula_bounds.specs.Written.{AreWritten, HaveNumbers, IsWritten, IsWrittenProgram, all_with_inputs, numerals_of, numerals_of_all, numerals_of_program, program_with_inputs, with_inputs}
use Rattle.formula_bounds.specs.Written as m

module _ {V : Type 0} (k : Numbers V) (bits : ℕ) (exacts : List V) where
  abbrev Written : Tree → Tree → Type 0
  Written = IsWritten k bits exacts

  -- a tree with definitions substituted, if these were written so
  written_put : (count first end : ℕ) (g g' : ℕ → Tree) → ((j : ℕ) → (nat_le first j && nat_lt j end) ≡ true → Written (g j) (g' j))
      → (t t' : Tree) → is_scoped count first end t ≡ true → Written t t' → Written (put g t) (put g' t')
  written_put count first end g g' all (Number c) _ e (m.number r w) = m.number r w
  written_put count first end g g' all (Input i) _ e m.input = m.input
  written_put count first end g g' all (Definition j) _ e m.definition = all j e
  written_put count first end g g' all (Negated t) _ e (m.negated {a' = t'} w) = m.negated (written_put count first end g g' all t t' e w)
  written_put count first end g g' all (Binary o t u) _ e (m.binary {a' = t'} {b' = u'} w y) =
      let p = and_parts (is_scoped count first end t) (is_scoped count first end u) e in
      m.binary (written_put count first end g g' all t t' p.0 w) (written_put count first end g g' all u u' p.1 y)
  written_put count first end g g' all (Applied f t) _ e (m.applied {a' = t'} w) = m.applied (written_put count first end g g' all t t' e w)
  written_put count first end g g' all (Power t n) _ e (m.power {a' = t'} w) =
      let p = and_parts (is_exponent n) (is_scoped count first end t) e in m.power (written_put count first end g g' all t t' p.1 w)
  written_put count first end g g' all (Select x t u) _ e (m.select {x' = x'} {a' = t'} {b' = u'} w y z) =
      let p = and_parts (is_scoped count first end x) (is_scoped count first end t && is_scoped count first end u) e in
      let q = and_parts (is_scoped count first end t) (is_scoped count first end u) p.1 in
      m.select (written_put count first end g g' all x x' p.0 w) (written_put count first end g g' all t t' q.0 y)
      (written_put count first end g g' all u u' q.1 z)

  -- the definition with a number, or a later one
  at_or_later : (found : Bool) (t t' u u' : Tree) → (found ≡ true → Written t t') → (found ≡ false → Written u u')
      → Written (if found then t else u) (if found then t' else u')
  at_or_later true t t' u u' f g = f refl
  at_or_later false t t' u u' f g = g refl

  none_in : (n j : ℕ) → (nat_le n j && nat_lt j (n + 0)) ≡ true → ⊥
  none_in n j e =
      let p = and_parts (nat_le n j) (nat_lt j (n + 0)) e in
      let l = p.0 in let u = p.1 in grind (arith, nat_tests)

  in_later : (n j rest : ℕ) → (j == n) ≡ false → (nat_le n j && nat_lt j (n + suc rest)) ≡ true → (nat_le (n + 1) j && nat_lt j ((n + 1) + rest)) ≡ true
  in_later n j rest off e =
      let p = and_parts (nat_le n j) (nat_lt j (n + suc rest)) e in
      let l = p.0 in let u = p.1 in
      let low : nat_le (n + 1) j ≡ true = grind (arith, nat_tests) in
      let high : nat_lt j ((n + 1) + rest) ≡ true = grind (arith, nat_tests) in
      rw (low, high) refl

  written_meaning : (count n : ℕ) (ds ds' : List Tree) → are_scoped count n ds ≡ true → AreWritten k bits exacts ds ds' → (j : ℕ)
      → (nat_le n j && nat_lt j (n + length ds)) ≡ true → Written (meaning n ds j) (meaning n ds' j)
  written_meaning count n [] _ e m.none j inside = absurd (none_in n j inside)
  written_meaning count n (d ∷ ds) _ e (m.one_more {t' = d'} {ts' = ds'} w ws) j inside =
      let p = and_parts (is_scoped count (n + 1) (n + (1 + length ds)) d) (are_scoped count (n + 1) ds) e in
      let same : n + (1 + length ds) ≡ (n + 1) + length ds = omega arith in
      at_or_later (j == n) _ _ _ _
      (λ on.
      written_put count (n + 1) ((n + 1) + length ds) (meaning (n + 1) ds) (meaning (n + 1) ds')
      (λ l i. written_meaning count (n + 1) ds ds' p.1 ws l i) d d'
      (subst (λ end. is_scoped count (n + 1) end d ≡ true) same p.0) w)
      (λ off. written_meaning count (n + 1) ds ds' p.1 ws j (in_later n j (length ds) off inside))

  -- the tree of a program, as it was written
  pub written_tree : (count : ℕ) (program written : Trees) → IsScoped count program → IsWrittenProgram k bits exacts program written
      → Written (substituted program.0 program.1) (substituted written.0 written.1)
  written_tree count (body, ds) (body', ds') scoped w =
      written_put count 0 (length ds) (meaning 0 ds) (meaning 0 ds')
      (λ j inside.
      let same : length ds ≡ 0 + length ds = omega arith in
      written_meaning count 0 ds ds' scoped.1 w.1 j (subst (λ end. (nat_le 0 j && nat_lt j end) ≡ true) same inside))
      body body' scoped.0 w.0

-- ---- exact numbers for numerals

get_left : {X : Type 0} (xs ys : List X) (i : ℕ) (x : X) → slice_get xs i ≡ Some x → slice_get (xs ++ ys) i ≡ Some x
get_left [] ys i x e = absurd (cc)
get_left (w ∷ ws) ys zero x e = e
get_left (w ∷ ws) ys (suc i) x e = get_left ws ys i x e

get_right : {X : Type 0} (xs ys : List X) (i : ℕ) → slice_get (xs ++ ys) (length xs + i) ≡ slice_get ys i
get_right [] ys i =
    let same : 0 + i ≡ i = omega arith in
    ap (slice_get ys) same
get_right (w ∷ ws) ys i =
    let same : length (w ∷ ws) + i ≡ suc (length ws + i) = omega arith in
    ap (slice_get (w ∷ (ws ++ ys))) same ∙ get_right ws ys i

module _ {V : Type 0} (k : Numbers V) (bits : ℕ) (exacts : List V) where
  abbrev Have : ℕ → List Constant → Type 0
  Have = HaveNumbers k bits exacts

  of_left : (n : ℕ) (cs ds : List Constant) → Have n (cs ++ ds) → Have n cs
  of_left n cs ds h i c e = h i c (get_left cs ds i c e)

  of_right : (n : ℕ) (cs ds : List Constant) → Have n (cs ++ ds) → Have (n + length cs) ds
  of_right n cs ds h i c e =
      let p = h (length cs + i) c (get_right cs ds i ∙ e) in
      let same : suc (n + (length cs + i)) ≡ suc ((n + length cs) + i) = omega arith in
      (p.0, subst (λ m. slice_get exacts m ≡ Some p.0) same p.1, p.2)

  numbers_written : (n : ℕ) (t : Tree) → Have n (numerals_of t) → IsWritten k bits exacts t (with_inputs n t)
  numbers_written n (Number c) h =
      let p = h 0 c refl in
      let same : suc (n + 0) ≡ suc n = omega arith in
      m.number (subst (λ j. slice_get exacts j ≡ Some p.0) same p.1) p.2
  numbers_written n (Input i) h = m.input
  numbers_written n (Definition j) h = m.definition
  numbers_written n (Negated a) h = m.negated (numbers_written n a h)
  numbers_written n (Binary o a b) h =
      m.binary (numbers_written n a (of_left n (numerals_of a) (numerals_of b) h))
      (numbers_written (n + length (numerals_of a)) b (of_right n (numerals_of a) (numerals_of b) h))
  numbers_written n (Applied g a) h = m.applied (numbers_written n a h)
  numbers_written n (Power a e) h = m.power (numbers_written n a h)
  numbers_written n (Select x a b) h =
      let rest = of_right n (numerals_of x) (numerals_of a ++ numerals_of b) h in
      m.select (numbers_written n x (of_left n (numerals_of x) (numerals_of a ++ numerals_of b) h))
      (numbers_written (n + length (numerals_of x)) a (of_left (n + length (numerals_of x)) (numerals_of a) (numerals_of b) rest))
      (numbers_written ((n + length (numerals_of x)) + length (numerals_of a)) b
      (of_right (n + length (numerals_of x)) (numerals_of a) (numerals_of b) rest))

  all_written : (n : ℕ) (ts : List Tree) → Have n (numerals_of_all ts) → AreWritten k bits exacts ts (all_with_inputs n ts)
  all_written n [] h = m.none
  all_written n (t ∷ ts) h =
      m.one_more (numbers_written n t (of_left n (numerals_of t) (numerals_of_all ts) h))
      (all_written (n + length (numerals_of t)) ts (of_right n (numerals_of t) (numerals_of_all ts) h))

  -- a program with any exact numbers that may have been read as its constants is a written one
  pub program_written : (n : ℕ) (program : Trees) → Have n (numerals_of_program program)
      → IsWrittenProgram k bits exacts program (program_with_inputs n program)
  program_written n (body, ds) h = (
    numbers_written n body (of_left n (numerals_of body) (numerals_of_all ds) h),
    all_written (n + length (numerals_of body)) ds (of_right n (numerals_of body) (numerals_of_all ds) h),
  )
