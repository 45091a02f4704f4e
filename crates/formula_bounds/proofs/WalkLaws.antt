-- Walks that divide: if a property of trees and entries holds at each step of one walk, the entry of some walk has it.
use Rattle.std.proofs.Common.{◌≡◌, ℕ, zero, suc, ◌+◌, ◌==◌, ◌&&◌, ℤ, pos, Bool, true, false, List, [], ◌∷◌, ◌++◌, map, length, Option, Some, None, slice_get, refl, ◌⊎◌, inl, inr, if◌then◌else◌}
use Rattle.std.proofs.lemmas.Bool.{and_parts}
use Rattle.std.specs.List.{flat_map}
use Rattle.energy_program.specs.Programs.{Trees}
use Rattle.energy_program.specs.Tree.{Tree, Number, Input, Definition, Negated, Binary, Applied, Power, Select, are_scoped, is_scoped, meaning, put, substituted}
use Rattle.fixed.specs.Constants as constants
use Rattle.fixed.specs.declared.constants.Constant.{Constant}
use Rattle.fixed.specs.declared.operations.Operator.{Operator}
use Rattle.fixed.specs.declared.operations.Function.{Function}
use Rattle.derivative.specs.DualNumbers.{IsScoped}
use Rattle.derivative.specs.Exact.{Numbers}
use Rattle.error_bounds.specs.Approximations.{Approximation}
use Rattle.formula_bounds.specs.Entries as e
use Rattle.formula_bounds.specs.Entries.{Entry, known_from, missing}
use Rattle.formula_bounds.specs.Walks.{Defined, Walked, after_part, branches_if_open, condition_of_one, condition_of_two, entries_of_program, is_open, taken, walks_from, walks_of}
use Rattle.formula_bounds.specs.Written.{AreWritten, IsWritten, IsWrittenProgram}
use Rattle.formula_bounds.specs.Written as m
use Rattle.formula_bounds.proofs.EntryLaws.{AreExponents, scoped_exponents}

-- ---- an element with a property

-- some element of the list has the property
abbrev pub Some_of : {A : Type 0} (P : A → Type 0) → List A → Type 0
Some_of P [] = ⊥
Some_of P (x ∷ xs) = P x ⊎ Some_of P xs

first_of_both : {A : Type 0} (P : A → Type 0) (xs ys : List A) → Some_of P xs → Some_of P (xs ++ ys)
first_of_both P [] ys s = absurd s
first_of_both P (x ∷ xs) ys (inl p) = inl p
first_of_both P (x ∷ xs) ys (inr s) = inr (first_of_both P xs ys s)

second_of_both : {A : Type 0} (P : A → Type 0) (xs ys : List A) → Some_of P ys → Some_of P (xs ++ ys)
second_of_both P [] ys s = s
second_of_both P (x ∷ xs) ys s = inr (second_of_both P xs ys s)

-- an element that leads to one with a property
through : {A B : Type 0} (P : A → Type 0) (Q : B → Type 0) (f : A → List B) → ((x : A) → P x → Some_of Q (f x)) → (xs : List A)
    → Some_of P xs → Some_of Q (flat_map f xs)
through P Q f leads [] s = absurd s
through P Q f leads (x ∷ xs) (inl p) = first_of_both Q (f x) (flat_map f xs) (leads x p)
through P Q f leads (x ∷ xs) (inr s) = second_of_both Q (f x) (flat_map f xs) (through P Q f leads xs s)

pub over_map : {A B : Type 0} (P : A → Type 0) (Q : B → Type 0) (f : A → B) → ((x : A) → P x → Q (f x)) → (xs : List A)
    → Some_of P xs → Some_of Q (map f xs)
over_map P Q f leads [] s = absurd s
over_map P Q f leads (x ∷ xs) (inl p) = inl (leads x p)
over_map P Q f leads (x ∷ xs) (inr s) = inr (over_map P Q f leads xs s)

-- ---- a part

-- the entry of a walk has the property
abbrev pub OfWalk : (Entry → Type 0) → Walked → Type 0
OfWalk P w = P w.entry

-- After a part some walk's entry has a property, if the entry without division has it, and one of two open branches has.
part_has : (P : Entry → Type 0) (free : Bool) (condition : Option Approximation) (first second joined : Entry) → P joined
    → (free ≡ false → is_open condition ≡ true → P (taken first) ⊎ P (taken second))
    → (left : ℕ) → Some_of (OfWalk P) (after_part (branches_if_open free condition first second) joined left)
part_has P true condition first second joined p branches left = inl p
part_has P false condition first second joined p branches left = by_test (is_open condition) refl left
  where
    by_test : (test : Bool) → is_open condition ≡ test → (left : ℕ)
        → Some_of (OfWalk P) (after_part (if test then Some (taken first, taken second) else None) joined left)
    by_test false same left = inl p
    by_test true same zero = inl p
    by_test true same (suc left) = elim (branches refl same) [ inl q ↦ inl q | inr q ↦ inr (inl q) ]

-- ---- trees

-- A property of a tree, the tree as it was written, and an entry, which each step of a walk keeps.
pub record IsKept (bits : ℕ) (inputs : List Approximation) (W : Tree → Tree → Type 0) (P : Tree → Tree → Entry → Type 0) : Type 0 where
  pub number : (c : Constant) (t : Tree) → W (Number c) t → P (Number c) t (e.number bits c)
  pub input : (i : ℕ) → P (Input i) (Input i) (e.input bits i (slice_get inputs i))
  pub missed : P (Number (constants.exactly (pos 0))) (Number (constants.exactly (pos 0))) missing
  pub negated : (t t' : Tree) (x : Entry) → P t t' x → P (Negated t) (Negated t') (e.negated bits x)
  pub binary : (o : Operator) (t t' u u' : Tree) (x y : Entry) → P t t' x → P u u' y → P (Binary o t u) (Binary o t' u') (e.binary bits o x y)
  pub branch_of_two : (o : Operator) (t t' u u' : Tree) (x y : Entry) → P t t' x → P u u' y → (x.free && y.free) ≡ false
      → is_open (condition_of_two bits o x y) ≡ true
      → P (Binary o t u) (Binary o t' u') (taken x) ⊎ P (Binary o t u) (Binary o t' u') (taken y)
  pub applied : (g : Function) (t t' : Tree) (x : Entry) → P t t' x → P (Applied g t) (Applied g t') (e.applied bits g x)
  pub branch_of_one : (g : Function) (t t' : Tree) (x : Entry) → P t t' x → x.free ≡ false → is_open (condition_of_one bits g x) ≡ true
      → P (Applied g t) (Applied g t') (taken x) ⊎ P (Applied g t) (Applied g t') (taken (e.negated bits x))
  pub power : (t t' : Tree) (n : ℤ) (x : Entry) → (n ≡ pos 0 → ⊥) → P t t' x → P (Power t n) (Power t' n) (e.power bits x n)
  pub select : (s s' t t' u u' : Tree) (x y z : Entry) → P s s' x → P t t' y → P u u' z
      → P (Select s t u) (Select s' t' u') (e.select bits x y z)
  pub branch_of_select : (s s' t t' u u' : Tree) (x y z : Entry) → P s s' x → P t t' y → P u u' z → (x.free && (y.free && z.free)) ≡ false
      → is_open x.value ≡ true → P (Select s t u) (Select s' t' u') (taken y) ⊎ P (Select s t u) (Select s' t' u') (taken z)

module _ {V : Type 0} (k : Numbers V) (bits : ℕ) (exacts : List V) (inputs : List Approximation)
    (P : Tree → Tree → Entry → Type 0) (kept : IsKept bits inputs (IsWritten k bits exacts) P) where
  abbrev Written : Tree → Tree → Type 0
  Written = IsWritten k bits exacts

  -- the entry of some walk over a tree has the property, if the entries of definitions have it
  some_walk : (known : ℕ → Entry) (g g' : ℕ → Tree) → ((j : ℕ) → P (g j) (g' j) (known j)) → (t t' : Tree) → AreExponents t → Written t t'
      → (left : ℕ) → Some_of (OfWalk (P (put g t) (put g' t'))) (walks_of bits inputs known t left)
  some_walk known g g' all (Number c) _ ex (m.number {j = j} r w) left = inl (kept.number c (Input (suc j)) (m.number r w))
  some_walk known g g' all (Input i) _ ex m.input left = inl (kept.input i)
  some_walk known g g' all (Definition j) _ ex m.definition left = inl (all j)
  some_walk known g g' all (Negated t) _ ex (m.negated {a' = t'} w) left =
      over_map (OfWalk (P (put g t) (put g' t'))) _ _ (λ v p. kept.negated _ _ v.entry p) (walks_of bits inputs known t left)
      (some_walk known g g' all t t' ex w left)
  some_walk known g g' all (Binary o t u) _ ex (m.binary {a' = t'} {b' = u'} w y) left =
      through (OfWalk (P (put g t) (put g' t'))) _ _
      (λ v p.
      through (OfWalk (P (put g u) (put g' u'))) _ _
      (λ x q.
      part_has _ (v.entry.free && x.entry.free) (condition_of_two bits o v.entry x.entry) v.entry x.entry
      (e.binary bits o v.entry x.entry) (kept.binary o _ _ _ _ v.entry x.entry p q) (kept.branch_of_two o _ _ _ _ v.entry x.entry p q) x.left)
      (walks_of bits inputs known u v.left) (some_walk known g g' all u u' ex.1 y v.left))
      (walks_of bits inputs known t left) (some_walk known g g' all t t' ex.0 w left)
  some_walk known g g' all (Applied o t) _ ex (m.applied {a' = t'} w) left =
      through (OfWalk (P (put g t) (put g' t'))) _ _
      (λ v p.
      part_has _ v.entry.free (condition_of_one bits o v.entry) v.entry (e.negated bits v.entry) (e.applied bits o v.entry)
      (kept.applied o _ _ v.entry p) (kept.branch_of_one o _ _ v.entry p) v.left)
      (walks_of bits inputs known t left) (some_walk known g g' all t t' ex w left)
  some_walk known g g' all (Power t n) _ ex (m.power {a' = t'} w) left =
      over_map (OfWalk (P (put g t) (put g' t'))) _ _ (λ v p. kept.power _ _ n v.entry ex.0 p) (walks_of bits inputs known t left)
      (some_walk known g g' all t t' ex.1 w left)
  some_walk known g g' all (Select s t u) _ ex (m.select {x' = s'} {a' = t'} {b' = u'} w y z) left =
      through (OfWalk (P (put g s) (put g' s'))) _ _
      (λ c o.
      through (OfWalk (P (put g t) (put g' t'))) _ _
      (λ v p.
      through (OfWalk (P (put g u) (put g' u'))) _ _
      (λ x q.
      part_has _ (c.entry.free && (v.entry.free && x.entry.free)) c.entry.value v.entry x.entry
      (e.select bits c.entry v.entry x.entry) (kept.select _ _ _ _ _ _ c.entry v.entry x.entry o p q)
      (kept.branch_of_select _ _ _ _ _ _ c.entry v.entry x.entry o p q) x.left)
      (walks_of bits inputs known u v.left) (some_walk known g g' all u u' ex.2 z v.left))
      (walks_of bits inputs known t c.left) (some_walk known g g' all t t' ex.1 y c.left))
      (walks_of bits inputs known s left) (some_walk known g g' all s s' ex.0 w left)

  -- ---- programs

  -- the entries of definitions in a walk have the property
  abbrev OfDefined : ℕ → (ds ds' : List Tree) → Defined → Type 0
  OfDefined n ds ds' d = (j : ℕ) → P (meaning n ds j) (meaning n ds' j) (known_from bits n d.entries j)

  -- one more definition
  known_if : (found : Bool) (x y : Entry) (t t' u u' : Tree) → P t t' x → P u u' y
      → P (if found then t else u) (if found then t' else u') (if found then x else y)
  known_if true x y t t' u u' p q = p
  known_if false x y t t' u u' p q = q

  some_definitions : (count n : ℕ) (ds ds' : List Tree) → are_scoped count n ds ≡ true → AreWritten k bits exacts ds ds' → (left : ℕ)
      → Some_of (OfDefined n ds ds') (walks_from bits inputs n ds left)
  some_definitions count n [] _ scoped m.none left = inl (λ j. kept.missed)
  some_definitions count n (d ∷ ds) _ scoped (m.one_more {t' = d'} {ts' = ds'} w ws) left =
      let s = and_parts (is_scoped count (n + 1) (n + (1 + length ds)) d) (are_scoped count (n + 1) ds) scoped in
      through (OfDefined (n + 1) ds ds') _ _
      (λ later all.
      over_map (OfWalk (P (put (meaning (n + 1) ds) d) (put (meaning (n + 1) ds') d'))) _ _
      (λ v p j. known_if (j == n) _ _ _ _ _ _ p (all j))
      (walks_of bits inputs (known_from bits (n + 1) later.entries) d later.left)
      (some_walk (known_from bits (n + 1) later.entries) (meaning (n + 1) ds) (meaning (n + 1) ds') all d d'
      (scoped_exponents count (n + 1) (n + (1 + length ds)) d s.0) w later.left))
      (walks_from bits inputs (n + 1) ds left) (some_definitions count (n + 1) ds ds' s.1 ws left)

  -- the entry of some walk over a program has the property
  pub some_entry : (count : ℕ) (program written : Trees) → IsScoped count program → IsWrittenProgram k bits exacts program written → (left : ℕ)
      → Some_of (P (substituted program.0 program.1) (substituted written.0 written.1)) (entries_of_program bits inputs program left)
  some_entry count (body, ds) (body', ds') scoped w left =
      over_map (OfWalk (P (substituted body ds) (substituted body' ds'))) _ _ (λ v p. p) _
      (through (OfDefined 0 ds ds') _ _
      (λ d all. some_walk (known_from bits 0 d.entries) (meaning 0 ds) (meaning 0 ds') all body body'
      (scoped_exponents count 0 (length ds) body scoped.0) w.0 d.left)
      (walks_from bits inputs 0 ds left) (some_definitions count 0 ds ds' scoped.1 w.1 left))
