-- A formula without choices has a single walk.
use Rattle.std.proofs.Common.{◌≡◌, ℕ, ◌+◌, ◌&&◌, ◌||◌, Bool, true, false, List, [], ◌∷◌, ◌++◌, append-nil, map, None, refl, sym, ap, ◌∙◌}
use Rattle.std.specs.List.{flat_map, list_any}
use Rattle.std.proofs.lemmas.Bool.{or_parts}
use Rattle.std.proofs.lemmas.List.Folds.{list_any-append}
use Rattle.fixed.specs.declared.operations.Operator.{Operator}
use Rattle.fixed.specs.declared.operations.Operator.TheVariants as op
use Rattle.fixed.specs.declared.operations.Function.{Function}
use Rattle.fixed.specs.declared.operations.Function.TheVariants as f
use Rattle.energy_program.specs.Programs.{Trees}
use Rattle.energy_program.specs.Tree.{Tree, Number, Input, Definition, Negated, Binary, Applied, Power, Select}
use Rattle.error_bounds.specs.Approximations.{Approximation}
use Rattle.formula_bounds.specs.Entries as e
use Rattle.formula_bounds.specs.Entries.{Entry, entries_from, entry_of, entry_of_program, known_from}
use Rattle.formula_bounds.specs.Nodes.{formula_of, has_choice, is_choice, is_choice_of_one, is_choice_of_two, nodes_of}
use Rattle.formula_bounds.specs.Walks.{Walked, after_part, branches_if_open, branches_of_one, branches_of_two, defined, entries_of_program, walked, walks_from, walks_of}

-- ---- operations that are no choices

closed : (free : Bool) (x y : Entry) → branches_if_open free None x y ≡ None
closed true x y = refl
closed false x y = refl

none_of_two : (bits : ℕ) (o : Operator) (x y : Entry) → is_choice_of_two o ≡ false → branches_of_two bits o x y ≡ None
none_of_two bits op.Minimum x y n = absurd (cc)
none_of_two bits op.Maximum x y n = absurd (cc)
none_of_two bits op.Add x y n = closed (x.free && y.free) x y
none_of_two bits op.Subtract x y n = closed (x.free && y.free) x y
none_of_two bits op.Multiply x y n = closed (x.free && y.free) x y
none_of_two bits op.Divide x y n = closed (x.free && y.free) x y

none_of_one : (bits : ℕ) (g : Function) (x : Entry) → is_choice_of_one g ≡ false → branches_of_one bits g x ≡ None
none_of_one bits f.Absolute x n = absurd (cc)
none_of_one bits f.SquareRoot x n = closed x.free x (e.negated bits x)
none_of_one bits (f.Flat g) x n = closed x.free x (e.negated bits x)

-- ---- trees

-- lists of one element
one : {A B : Type 0} (f : A → List B) (xs : List A) (x : A) (v : B) → xs ≡ x ∷ [] → f x ≡ v ∷ [] → flat_map f xs ≡ v ∷ []
one f xs x v here there = ap (flat_map f) here ∙ append-nil (f x) ∙ there

module _ (bits : ℕ) (inputs : List Approximation) where
  single : (known : ℕ → Entry) (t : Tree) (left : ℕ) → list_any is_choice (nodes_of t) ≡ false
      → walks_of bits inputs known t left ≡ walked (entry_of bits inputs known t) left ∷ []
  single known (Number c) left n = refl
  single known (Input i) left n = refl
  single known (Definition j) left n = refl
  single known (Negated t) left n = ap (map (λ (w : Walked). walked (e.negated bits w.entry) w.left)) (single known t left n)
  single known (Binary o t u) left n =
      let p = or_parts (is_choice_of_two o) (list_any is_choice (nodes_of u ++ nodes_of t)) n in
      let q = or_parts (list_any is_choice (nodes_of u)) (list_any is_choice (nodes_of t)) (sym (list_any-append is_choice (nodes_of u) (nodes_of t)) ∙ p.1) in
      one _ _ _ _ (single known t left q.1)
      (one _ _ _ _ (single known u left q.0)
      (ap (λ b. after_part b (e.binary bits o (entry_of bits inputs known t) (entry_of bits inputs known u)) left)
      (none_of_two bits o (entry_of bits inputs known t) (entry_of bits inputs known u) p.0)))
  single known (Applied g t) left n =
      let p = or_parts (is_choice_of_one g) (list_any is_choice (nodes_of t)) n in
      one _ _ _ _ (single known t left p.1)
      (ap (λ b. after_part b (e.applied bits g (entry_of bits inputs known t)) left) (none_of_one bits g (entry_of bits inputs known t) p.0))
  single known (Power t m) left n = ap (map (λ (w : Walked). walked (e.power bits w.entry m) w.left)) (single known t left n)
  single known (Select s t u) left n = absurd (cc)

  -- ---- programs

  single_definitions : (i : ℕ) (ds : List Tree) (left : ℕ) → list_any (list_any is_choice) (map nodes_of ds) ≡ false
      → walks_from bits inputs i ds left ≡ defined (entries_from bits inputs i ds) left ∷ []
  single_definitions i [] left n = refl
  single_definitions i (d ∷ ds) left n =
      let p = or_parts (list_any is_choice (nodes_of d)) (list_any (list_any is_choice) (map nodes_of ds)) n in
      one _ _ _ _ (single_definitions (i + 1) ds left p.1)
      (ap (map (λ (w : Walked). defined (w.entry ∷ entries_from bits inputs (i + 1) ds) w.left))
      (single (known_from bits (i + 1) (entries_from bits inputs (i + 1) ds)) d left p.0))

  -- a program without choices has a single walk
  pub single_program : (program : Trees) (left : ℕ) → has_choice (formula_of program) ≡ false
      → entries_of_program bits inputs program left ≡ entry_of_program bits inputs program ∷ []
  single_program (body, ds) left n =
      let p = or_parts (list_any is_choice (nodes_of body)) (list_any (list_any is_choice) (map nodes_of ds)) n in
      ap (map (λ (w : Walked). w.entry))
      (one _ _ _ _ (single_definitions 0 ds left p.1) (single (known_from bits 0 (entries_from bits inputs 0 ds)) body left p.0))

-- ---- lists

-- a test of the images of a list's elements
pub any_map : {A B : Type 0} (test : B → Bool) (f : A → B) (xs : List A) → list_any test (map f xs) ≡ list_any (λ x. test (f x)) xs
any_map test f [] = refl
any_map test f (x ∷ xs) = ap (λ b. test (f x) || b) (any_map test f xs)
