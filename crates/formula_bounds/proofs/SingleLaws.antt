-- A walk that doesn't divide computes a program's entry.
use Rattle.std.proofs.Common.{◌≡◌, ℕ, zero, suc, ◌+◌, List, [], ◌∷◌, ◌++◌, append-nil, map, Option, Some, None, refl, sym, ap, ◌∙◌}
use Rattle.std.specs.List.{flat_map}
use Rattle.energy_program.specs.Programs.{Trees}
use Rattle.energy_program.specs.Tree.{Tree, Number, Input, Definition, Negated, Binary, Applied, Power, Select}
use Rattle.error_bounds.specs.Approximations.{Approximation}
use Rattle.formula_bounds.specs.Entries as entries
use Rattle.formula_bounds.specs.Entries.{Entry, entries_from, entry_of, entry_of_program, known_from}
use Rattle.formula_bounds.specs.Walks.{Defined, Walked, after_part, entries_of_program, walked, walks_from, walks_of}

-- ---- lists of one element

-- the list has an element
abbrev IsSome : {A : Type 0} → List A → Type 0
IsSome xs = xs ≡ [] → ⊥

front_none : {A : Type 0} (xs ys : List A) → xs ++ ys ≡ [] → xs ≡ []
front_none [] ys e = refl
front_none (x ∷ xs) ys e = absurd (cc)

some_flat : {A B : Type 0} (f : A → List B) (xs : List A) → ((x : A) → IsSome (f x)) → IsSome xs → IsSome (flat_map f xs)
some_flat f [] some n e = n refl
some_flat f (x ∷ xs) some n e = some x (front_none (f x) (flat_map f xs) e)

some_map : {A B : Type 0} (f : A → B) (xs : List A) → IsSome xs → IsSome (map f xs)
some_map f [] n e = n refl
some_map f (x ∷ xs) n e = absurd (cc)

-- two lists that have elements have two
two : {A : Type 0} (xs ys : List A) (v : A) → IsSome xs → IsSome ys → xs ++ ys ≡ v ∷ [] → ⊥
two [] ys v m n e = m refl
two (x ∷ []) ys v m n e = let none : ys ≡ [] = cc in n none
two (x ∷ y ∷ xs) ys v m n e = absurd (cc)

one_flat : {A B : Type 0} (f : A → List B) (xs : List A) (v : B) → ((x : A) → IsSome (f x)) → flat_map f xs ≡ v ∷ []
    → (x : A) × (xs ≡ x ∷ []) × (f x ≡ v ∷ [])
one_flat f [] v some e = absurd (cc)
one_flat f (x ∷ []) v some e = (x, refl, sym (append-nil (f x)) ∙ e)
one_flat f (x ∷ y ∷ ys) v some e =
    absurd (two (f x) (f y ++ flat_map f ys) v (some x) (λ n. some y (front_none (f y) (flat_map f ys) n)) e)

one_map : {A B : Type 0} (f : A → B) (xs : List A) (v : B) → map f xs ≡ v ∷ [] → (x : A) × (xs ≡ x ∷ []) × (f x ≡ v)
one_map f [] v e = absurd (cc)
one_map f (x ∷ []) v e = let head : f x ≡ v = cc in (x, refl, head)
one_map f (x ∷ y ∷ ys) v e = absurd (cc)

head_is : {A : Type 0} (x v : A) → ◌≡◌ {A = List A} (x ∷ []) (v ∷ []) → x ≡ v
head_is x v e = cc

-- ---- parts

some_part : (branches : Option (Entry × Entry)) (joined : Entry) (left : ℕ) → IsSome (after_part branches joined left)
some_part None joined left e = absurd (cc)
some_part (Some (first, second)) joined zero e = absurd (cc)
some_part (Some (first, second)) joined (suc left) e = absurd (cc)

joined_only : (branches : Option (Entry × Entry)) (joined : Entry) (left : ℕ) (v : Walked) → after_part branches joined left ≡ v ∷ []
    → v.entry ≡ joined
joined_only None joined left v e = sym (ap (λ (w : Walked). w.entry) (head_is (walked joined left) v e))
joined_only (Some (first, second)) joined zero v e = sym (ap (λ (w : Walked). w.entry) (head_is (walked joined zero) v e))
joined_only (Some (first, second)) joined (suc left) v e = absurd (cc)

module _ (bits : ℕ) (inputs : List Approximation) where
  -- ---- trees

  abbrev walks : (known : ℕ → Entry) → Tree → ℕ → List Walked
  walks known t left = walks_of bits inputs known t left

  some_walks : (known : ℕ → Entry) (t : Tree) (left : ℕ) → IsSome (walks known t left)
  some_walks known (Number c) left e = absurd (cc)
  some_walks known (Input i) left e = absurd (cc)
  some_walks known (Definition j) left e = absurd (cc)
  some_walks known (Negated t) left e = some_map _ (walks known t left) (some_walks known t left) e
  some_walks known (Binary o t u) left e =
      some_flat _ (walks known t left)
      (λ w. some_flat _ (walks known u w.left) (λ v. some_part _ _ v.left) (some_walks known u w.left))
      (some_walks known t left) e
  some_walks known (Applied g t) left e = some_flat _ (walks known t left) (λ w. some_part _ _ w.left) (some_walks known t left) e
  some_walks known (Power t n) left e = some_map _ (walks known t left) (some_walks known t left) e
  some_walks known (Select s t u) left e =
      some_flat _ (walks known s left)
      (λ w.
      some_flat _ (walks known t w.left)
      (λ v. some_flat _ (walks known u v.left) (λ x. some_part _ _ x.left) (some_walks known u v.left))
      (some_walks known t w.left))
      (some_walks known s left) e

  single_tree : (known : ℕ → Entry) (t : Tree) (left : ℕ) (v : Walked) → walks known t left ≡ v ∷ [] → v.entry ≡ entry_of bits inputs known t
  single_tree known (Number c) left v e = sym (ap (λ (w : Walked). w.entry) (head_is _ v e))
  single_tree known (Input i) left v e = sym (ap (λ (w : Walked). w.entry) (head_is _ v e))
  single_tree known (Definition j) left v e = sym (ap (λ (w : Walked). w.entry) (head_is _ v e))
  single_tree known (Negated t) left v e =
      let a = one_map _ (walks known t left) v e in
      sym (ap (λ (w : Walked). w.entry) a.2) ∙ ap (entries.negated bits) (single_tree known t left a.0 a.1)
  single_tree known (Binary o t u) left v e =
      let a = one_flat _ (walks known t left) v
      (λ w. some_flat _ (walks known u w.left) (λ x. some_part _ _ x.left) (some_walks known u w.left)) e in
      let b = one_flat _ (walks known u a.0.left) v (λ x. some_part _ _ x.left) a.2 in
      joined_only _ (entries.binary bits o a.0.entry b.0.entry) b.0.left v b.2
      ∙ ap (λ (x : Entry). entries.binary bits o x b.0.entry) (single_tree known t left a.0 a.1)
      ∙ ap (entries.binary bits o (entry_of bits inputs known t)) (single_tree known u a.0.left b.0 b.1)
  single_tree known (Applied g t) left v e =
      let a = one_flat _ (walks known t left) v (λ w. some_part _ _ w.left) e in
      joined_only _ (entries.applied bits g a.0.entry) a.0.left v a.2 ∙ ap (entries.applied bits g) (single_tree known t left a.0 a.1)
  single_tree known (Power t n) left v e =
      let a = one_map _ (walks known t left) v e in
      sym (ap (λ (w : Walked). w.entry) a.2) ∙ ap (λ (x : Entry). entries.power bits x n) (single_tree known t left a.0 a.1)
  single_tree known (Select s t u) left v e =
      let a = one_flat _ (walks known s left) v
      (λ w.
      some_flat _ (walks known t w.left)
      (λ x. some_flat _ (walks known u x.left) (λ y. some_part _ _ y.left) (some_walks known u x.left))
      (some_walks known t w.left)) e in
      let b = one_flat _ (walks known t a.0.left) v
      (λ x. some_flat _ (walks known u x.left) (λ y. some_part _ _ y.left) (some_walks known u x.left)) a.2 in
      let c = one_flat _ (walks known u b.0.left) v (λ y. some_part _ _ y.left) b.2 in
      joined_only _ (entries.select bits a.0.entry b.0.entry c.0.entry) c.0.left v c.2
      ∙ ap (λ (x : Entry). entries.select bits x b.0.entry c.0.entry) (single_tree known s left a.0 a.1)
      ∙ ap (λ (x : Entry). entries.select bits (entry_of bits inputs known s) x c.0.entry) (single_tree known t a.0.left b.0 b.1)
      ∙ ap (entries.select bits (entry_of bits inputs known s) (entry_of bits inputs known t)) (single_tree known u b.0.left c.0 c.1)

  -- ---- programs

  single_definitions : (i : ℕ) (ds : List Tree) (left : ℕ) (k : Defined) → walks_from bits inputs i ds left ≡ k ∷ []
      → k.entries ≡ entries_from bits inputs i ds
  single_definitions i [] left k e = sym (ap (λ (d : Defined). d.entries) (head_is _ k e))
  single_definitions i (d ∷ ds) left k e =
      let a = one_flat _ (walks_from bits inputs (i + 1) ds left) k
      (λ m. some_map _ _ (some_walks (known_from bits (i + 1) m.entries) d m.left)) e in
      let b = one_map _ (walks (known_from bits (i + 1) a.0.entries) d a.0.left) k a.2 in
      sym (ap (λ (m : Defined). m.entries) b.2)
      ∙ ap (λ (x : Entry). x ∷ a.0.entries) (single_tree (known_from bits (i + 1) a.0.entries) d a.0.left b.0 b.1)
      ∙ ap (λ (l : List Entry). entry_of bits inputs (known_from bits (i + 1) l) d ∷ l) (single_definitions (i + 1) ds left a.0 a.1)

  -- a single walk has the program's entry
  pub single_entry : (program : Trees) (left : ℕ) (x : Entry) → entries_of_program bits inputs program left ≡ x ∷ []
      → x ≡ entry_of_program bits inputs program
  single_entry (body, ds) left x e =
      let o = one_map _ _ x e in
      let a = one_flat _ (walks_from bits inputs 0 ds left) o.0 (λ k. some_walks (known_from bits 0 k.entries) body k.left) o.1 in
      sym o.2 ∙ single_tree (known_from bits 0 a.0.entries) body a.0.left o.0 a.2
      ∙ ap (λ (l : List Entry). entry_of bits inputs (known_from bits 0 l) body) (single_definitions 0 ds left a.0 a.1)
