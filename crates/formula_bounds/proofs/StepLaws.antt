-- Walks over the nodes of a tree, from their end, are the walks over the tree.
use Rattle.std.proofs.Common.{◌≡◌, ℕ, zero, suc, ◌+◌, ◌-◌, ◌==◌, ◌<◌, Bool, false, List, [], ◌∷◌, ◌++◌, map, drop, take, length, slice_index_or, slice_set, Option, Some, None, slice_get, refl, sym, ap, subst, ◌∙◌, append-nil, append_assoc, if◌then◌else◌, arith}
use Rattle.std.specs.List.{flat_map}
use Rattle.std.proofs.lemmas.List.{map-append}
use Rattle.std.proofs.lemmas.Bool.Decides.{nat_tests}
use Rattle.fixed.specs.declared.operations.Operator.{Operator}
use Rattle.fixed.specs.declared.operations.Function.{Function}
use Rattle.energy_program.specs.Tree.{Tree, Number, Input, Definition, Negated, Binary, Applied, Power, Select}
use Rattle.error_bounds.specs.Approximations.{Approximation}
use Rattle.formula_bounds.specs.declared.nodes.Node.{Node}
use Rattle.formula_bounds.specs.declared.nodes.Node.TheVariants as node
use Rattle.formula_bounds.specs.Entries as e
use Rattle.formula_bounds.specs.Entries.{Entry, known_from}
use Rattle.formula_bounds.specs.Nodes.{Walk, after_node, after_node_of, after_nodes_of, branches_at, divided, nodes_of, parts_of, walk}
use Rattle.formula_bounds.specs.Walks.{Walked, after_applied, after_binary, after_part, after_select, walked, walks_of}

-- ---- lists of lists

flat_append : {A B : Type 0} (f : A → List B) (xs ys : List A) → flat_map f (xs ++ ys) ≡ flat_map f xs ++ flat_map f ys
flat_append f [] ys = refl
flat_append f (x ∷ xs) ys =
    ap (λ l. f x ++ l) (flat_append f xs ys) ∙ sym (append_assoc (f x) (flat_map f xs) (flat_map f ys))

-- elements of elements of a list of lists
pub flat_flat : {A B C : Type 0} (f : A → List B) (g : B → List C) (xs : List A)
    → flat_map g (flat_map f xs) ≡ flat_map (λ x. flat_map g (f x)) xs
flat_flat f g [] = refl
flat_flat f g (x ∷ xs) = flat_append g (f x) (flat_map f xs) ∙ ap (λ l. flat_map g (f x) ++ l) (flat_flat f g xs)

pub flat_of_map : {A B C : Type 0} (f : A → B) (g : B → List C) (xs : List A) → flat_map g (map f xs) ≡ flat_map (λ x. g (f x)) xs
flat_of_map f g [] = refl
flat_of_map f g (x ∷ xs) = ap (λ l. g (f x) ++ l) (flat_of_map f g xs)

pub map_of_flat : {A B C : Type 0} (f : A → List B) (g : B → C) (xs : List A) → map g (flat_map f xs) ≡ flat_map (λ x. map g (f x)) xs
map_of_flat f g [] = refl
map_of_flat f g (x ∷ xs) = map-append g (f x) (flat_map f xs) ∙ ap (λ l. map g (f x) ++ l) (map_of_flat f g xs)

pub flat_same : {A B : Type 0} (f g : A → List B) → ((x : A) → f x ≡ g x) → (xs : List A) → flat_map f xs ≡ flat_map g xs
flat_same f g same [] = refl
flat_same f g same (x ∷ xs) = ap (λ l. l ++ flat_map f xs) (same x) ∙ ap (λ l. g x ++ l) (flat_same f g same xs)

pub flat_single : {A B : Type 0} (f : A → List B) (g : A → B) → ((x : A) → f x ≡ g x ∷ []) → (xs : List A) → flat_map f xs ≡ map g xs
flat_single f g same [] = refl
flat_single f g same (x ∷ xs) = ap (λ l. l ++ flat_map f xs) (same x) ∙ ap (λ l. g x ∷ l) (flat_single f g same xs)

pub map_of_map : {A B C : Type 0} (f : A → B) (g : B → C) (xs : List A) → map g (map f xs) ≡ map (λ x. g (f x)) xs
map_of_map f g [] = refl
map_of_map f g (x ∷ xs) = ap (λ l. g (f x) ∷ l) (map_of_map f g xs)

pub map_same : {A B : Type 0} (f g : A → B) → ((x : A) → f x ≡ g x) → (xs : List A) → map f xs ≡ map g xs
map_same f g same [] = refl
map_same f g same (x ∷ xs) = ap (λ y. y ∷ map f xs) (same x) ∙ ap (λ l. g x ∷ l) (map_same f g same xs)

-- an element is changed, if those before it are
changed : {A : Type 0} (f : A → A) (xs : List A) (i : ℕ) (x : A) → i < length xs → x ≡ slice_index_or (map f (take i xs) ++ drop i xs) i x
    → slice_set (map f (take i xs) ++ drop i xs) i (f x) ≡ map f (take (suc i) xs) ++ drop (suc i) xs
changed f [] i x below at = absurd (omega arith)
changed f (y ∷ ys) zero x below at = let same : x ≡ y = at in ap (λ z. z ∷ ys) (ap f same)
changed f (y ∷ ys) (suc i) x below at = ap (λ l. f y ∷ l) (changed f ys i x (omega arith) at)

pub one_more_changed : {A : Type 0} (f : A → A) (xs now : List A) (i : ℕ) (x y : A) → i < length xs → now ≡ map f (take i xs) ++ drop i xs
    → x ≡ slice_index_or now i x → y ≡ f x → slice_set now i y ≡ map f (take (i + 1) xs) ++ drop (i + 1) xs
one_more_changed f xs now i x y below is at ey =
    let e : i + 1 ≡ suc i = omega arith in
    ap (slice_set now i) ey ∙ ap (λ l. slice_set l i (f x)) is
    ∙ changed f xs i x below (subst (λ l. x ≡ slice_index_or l i x) is at) ∙ ap (λ n. map f (take n xs) ++ drop n xs) (sym e)

-- ---- one node

not_zero : (n : ℕ) → (suc n == 0) ≡ false
not_zero n = grind (arith, nat_tests)

-- a walk over a part is over: its entry is on top of the stack
abbrev pub pushed : Walk → Walked → Walk
pushed w v = walk w.known (v.entry ∷ w.stack) v.left

module _ (bits : ℕ) (inputs : List Approximation) where
  abbrev known_in : Walk → ℕ → Entry
  known_in w = known_from bits 0 w.known

  -- The walks after a node, whose parts are on top of the stack, if the node has this entry without division.
  step_with : (n : Node) (base : Walk) (stack : List Entry) (joined : Entry) (branches : Option (Entry × Entry)) (left : ℕ)
      → drop (parts_of n) stack ≡ base.stack → after_node bits inputs (known_in base) n stack ≡ joined ∷ base.stack
      → divided bits inputs n (if left == 0 then None else branches) (walk base.known stack left) ≡ map (pushed base) (after_part branches joined left)
  step_with n base stack joined None zero below after = ap (λ (s : List Entry). walk base.known s 0 ∷ []) after
  step_with n base stack joined (Some (first, second)) zero below after = ap (λ (s : List Entry). walk base.known s 0 ∷ []) after
  step_with n base stack joined None (suc left) below after =
      ap (λ (t : Bool). divided bits inputs n (if t then None else None) (walk base.known stack (suc left))) (not_zero left)
      ∙ ap (λ (s : List Entry). walk base.known s (suc left) ∷ []) after
  step_with n base stack joined (Some (first, second)) (suc left) below after =
      let e : suc left - 1 ≡ left = omega arith in
      ap (λ (t : Bool). divided bits inputs n (if t then None else Some (first, second)) (walk base.known stack (suc left))) (not_zero left)
      ∙ ap (λ (s : List Entry). walk base.known (first ∷ s) (suc left - 1) ∷ (walk base.known (second ∷ s) (suc left - 1) ∷ [])) below
      ∙ ap (λ (m : ℕ). walk base.known (first ∷ base.stack) m ∷ (walk base.known (second ∷ base.stack) m ∷ [])) e

  step_is : (n : Node) (base : Walk) (stack : List Entry) (joined : Entry) (left : ℕ)
      → drop (parts_of n) stack ≡ base.stack → after_node bits inputs (known_in base) n stack ≡ joined ∷ base.stack
      → after_node_of bits inputs n (walk base.known stack left) ≡ map (pushed base) (after_part (branches_at bits n stack) joined left)
  step_is n base stack joined left below after = step_with n base stack joined (branches_at bits n stack) left below after

  -- ---- trees

  -- the walks over a tree, with the entry on top of the stack
  abbrev pub after_tree : Tree → Walk → List Walk
  after_tree t w = map (pushed w) (walks_of bits inputs (known_in w) t w.left)

  abbrev after : List Node → List Walk → List Walk
  after ns ws = after_nodes_of bits inputs ns ws

  abbrev step : Node → Walk → List Walk
  step n w = after_node_of bits inputs n w

  binary_is : (o : Operator) (t u : Tree) (w : Walk)
      → flat_map (step (node.Binary o)) (flat_map (after_tree u) (after_tree t w)) ≡ after_tree (Binary o t u) w
  binary_is o t u w =
      let ts = walks_of bits inputs (known_in w) t w.left in
      flat_flat (after_tree u) (step (node.Binary o)) (after_tree t w)
      ∙ flat_of_map (pushed w) (λ x. flat_map (step (node.Binary o)) (after_tree u x)) ts
      ∙ flat_same _ _
      (λ (v : Walked).
      flat_of_map (pushed (pushed w v)) (step (node.Binary o)) (walks_of bits inputs (known_in w) u v.left)
      ∙ flat_same _ (λ (x : Walked). map (pushed w) (after_binary bits o v.entry x.entry x.left))
      (λ (x : Walked). step_is (node.Binary o) w (x.entry ∷ (v.entry ∷ w.stack)) (e.binary bits o v.entry x.entry) x.left refl refl)
      (walks_of bits inputs (known_in w) u v.left)
      ∙ sym (map_of_flat (λ (x : Walked). after_binary bits o v.entry x.entry x.left) (pushed w) (walks_of bits inputs (known_in w) u v.left)))
      ts
      ∙ sym (map_of_flat
      (λ (v : Walked). flat_map (λ (x : Walked). after_binary bits o v.entry x.entry x.left) (walks_of bits inputs (known_in w) u v.left))
      (pushed w) ts)

  select_is : (s t u : Tree) (w : Walk)
      → flat_map (step node.Select) (flat_map (after_tree u) (flat_map (after_tree t) (after_tree s w))) ≡ after_tree (Select s t u) w
  select_is s t u w =
      let over_u : Walk → List Walk = λ x. flat_map (step node.Select) (after_tree u x) in
      let ss = walks_of bits inputs (known_in w) s w.left in
      flat_flat (after_tree u) (step node.Select) (flat_map (after_tree t) (after_tree s w))
      ∙ flat_flat (after_tree t) over_u (after_tree s w)
      ∙ flat_of_map (pushed w) (λ x. flat_map over_u (after_tree t x)) ss
      ∙ flat_same _ _
      (λ (c : Walked).
      flat_of_map (pushed (pushed w c)) over_u (walks_of bits inputs (known_in w) t c.left)
      ∙ flat_same _ (λ (v : Walked).
      map (pushed w) (flat_map (λ (x : Walked). after_select bits c.entry v.entry x.entry x.left) (walks_of bits inputs (known_in w) u v.left)))
      (λ (v : Walked).
      flat_of_map (pushed (pushed (pushed w c) v)) (step node.Select) (walks_of bits inputs (known_in w) u v.left)
      ∙ flat_same _ (λ (x : Walked). map (pushed w) (after_select bits c.entry v.entry x.entry x.left))
      (λ (x : Walked).
      step_is node.Select w (x.entry ∷ (v.entry ∷ (c.entry ∷ w.stack))) (e.select bits c.entry v.entry x.entry) x.left refl refl)
      (walks_of bits inputs (known_in w) u v.left)
      ∙ sym (map_of_flat (λ (x : Walked). after_select bits c.entry v.entry x.entry x.left) (pushed w) (walks_of bits inputs (known_in w) u v.left)))
      (walks_of bits inputs (known_in w) t c.left)
      ∙ sym (map_of_flat
      (λ (v : Walked). flat_map (λ (x : Walked). after_select bits c.entry v.entry x.entry x.left) (walks_of bits inputs (known_in w) u v.left))
      (pushed w) (walks_of bits inputs (known_in w) t c.left)))
      ss
      ∙ sym (map_of_flat
      (λ (c : Walked).
      flat_map (λ (v : Walked). flat_map (λ (x : Walked). after_select bits c.entry v.entry x.entry x.left) (walks_of bits inputs (known_in w) u v.left))
      (walks_of bits inputs (known_in w) t c.left))
      (pushed w) ss)

  -- a node with one part that has no branches
  unary_is : (n : Node) (t : Tree) (f : Entry → Entry) (w : Walk)
      → ((v : Walked) → step n (pushed w v) ≡ pushed w (walked (f v.entry) v.left) ∷ [])
      → flat_map (step n) (after_tree t w)
      ≡ map (pushed w) (map (λ (v : Walked). walked (f v.entry) v.left) (walks_of bits inputs (known_in w) t w.left))
  unary_is n t f w same =
      let ts = walks_of bits inputs (known_in w) t w.left in
      flat_of_map (pushed w) (step n) ts
      ∙ flat_single _ (λ (v : Walked). pushed w (walked (f v.entry) v.left)) same ts
      ∙ sym (map_of_map (λ (v : Walked). walked (f v.entry) v.left) (pushed w) ts)

  applied_is : (g : Function) (t : Tree) (w : Walk) → flat_map (step (node.Applied g)) (after_tree t w) ≡ after_tree (Applied g t) w
  applied_is g t w =
      let ts = walks_of bits inputs (known_in w) t w.left in
      flat_of_map (pushed w) (step (node.Applied g)) ts
      ∙ flat_same _ (λ (v : Walked). map (pushed w) (after_applied bits g v.entry v.left))
      (λ (v : Walked). step_is (node.Applied g) w (v.entry ∷ w.stack) (e.applied bits g v.entry) v.left refl refl) ts
      ∙ sym (map_of_flat (λ (v : Walked). after_applied bits g v.entry v.left) (pushed w) ts)

  -- the walks over the nodes of a tree are those over the tree
  pub tree_walks : (t : Tree) (rest : List Node) (ws : List Walk) → after (nodes_of t ++ rest) ws ≡ flat_map (after_tree t) (after rest ws)
  tree_walks (Number c) rest ws =
      flat_same _ _ (λ (w : Walk). step_is (node.Number c) w w.stack (e.number bits c) w.left refl refl) (after rest ws)
  tree_walks (Input i) rest ws =
      flat_same _ _ (λ (w : Walk). step_is (node.Input i) w w.stack (e.input bits i (slice_get inputs i)) w.left refl refl) (after rest ws)
  tree_walks (Definition j) rest ws =
      flat_same _ _ (λ (w : Walk). step_is (node.Definition j) w w.stack (known_in w j) w.left refl refl) (after rest ws)
  tree_walks (Negated t) rest ws =
      ap (flat_map (step node.Negated)) (tree_walks t rest ws)
      ∙ flat_flat (after_tree t) (step node.Negated) (after rest ws)
      ∙ flat_same _ _
      (λ (w : Walk). unary_is node.Negated t (e.negated bits) w
      (λ (v : Walked). step_is node.Negated w (v.entry ∷ w.stack) (e.negated bits v.entry) v.left refl refl))
      (after rest ws)
  tree_walks (Binary o t u) rest ws =
      ap (λ l. flat_map (step (node.Binary o)) (after l ws)) (append_assoc (nodes_of u) (nodes_of t) rest)
      ∙ ap (flat_map (step (node.Binary o))) (tree_walks u (nodes_of t ++ rest) ws ∙ ap (flat_map (after_tree u)) (tree_walks t rest ws))
      ∙ ap (flat_map (step (node.Binary o))) (flat_flat (after_tree t) (after_tree u) (after rest ws))
      ∙ flat_flat (λ w. flat_map (after_tree u) (after_tree t w)) (step (node.Binary o)) (after rest ws)
      ∙ flat_same _ _ (binary_is o t u) (after rest ws)
  tree_walks (Applied g t) rest ws =
      ap (flat_map (step (node.Applied g))) (tree_walks t rest ws)
      ∙ flat_flat (after_tree t) (step (node.Applied g)) (after rest ws)
      ∙ flat_same _ _ (applied_is g t) (after rest ws)
  tree_walks (Power t n) rest ws =
      ap (flat_map (step (node.Power n))) (tree_walks t rest ws)
      ∙ flat_flat (after_tree t) (step (node.Power n)) (after rest ws)
      ∙ flat_same _ _
      (λ (w : Walk). unary_is (node.Power n) t (λ (x : Entry). e.power bits x n) w
      (λ (v : Walked). step_is (node.Power n) w (v.entry ∷ w.stack) (e.power bits v.entry n) v.left refl refl))
      (after rest ws)
  tree_walks (Select s t u) rest ws =
      ap (λ l. flat_map (step node.Select) (after l ws)) (append_assoc (nodes_of u) (nodes_of t ++ nodes_of s) rest)
      ∙ ap (λ l. flat_map (step node.Select) (after (nodes_of u ++ l) ws)) (append_assoc (nodes_of t) (nodes_of s) rest)
      ∙ ap (flat_map (step node.Select))
      (tree_walks u (nodes_of t ++ (nodes_of s ++ rest)) ws
      ∙ ap (flat_map (after_tree u))
      (tree_walks t (nodes_of s ++ rest) ws
      ∙ ap (flat_map (after_tree t)) (tree_walks s rest ws)
      ∙ flat_flat (after_tree s) (after_tree t) (after rest ws))
      ∙ flat_flat (λ w. flat_map (after_tree t) (after_tree s w)) (after_tree u) (after rest ws))
      ∙ flat_flat (λ w. flat_map (after_tree u) (flat_map (after_tree t) (after_tree s w))) (step node.Select) (after rest ws)
      ∙ flat_same _ _ (select_is s t u) (after rest ws)

  -- without nodes after it
  pub whole_tree : (t : Tree) (ws : List Walk) → after (nodes_of t) ws ≡ flat_map (after_tree t) ws
  whole_tree t ws = ap (λ l. after l ws) (sym (append-nil (nodes_of t))) ∙ tree_walks t [] ws
