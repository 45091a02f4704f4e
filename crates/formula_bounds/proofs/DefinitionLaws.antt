-- Walks over all definitions, from the last to the first, and then over the body.
use Rattle.std.proofs.Common.{◌≡◌, ℕ, zero, suc, ◌+◌, ◌-◌, ◌<◌, List, [], ◌∷◌, ◌++◌, map, drop, length, replicate, get_or, append-nil, refl, sym, ap, subst, ◌∙◌, arith, Vec}
use Rattle.std.specs.List.{flat_map}
use Rattle.energy_program.specs.Programs.{Trees}
use Rattle.energy_program.specs.Tree.{Tree, Number, Input, Definition, Negated, Binary, Applied, Power, Select}
use Rattle.error_bounds.specs.Approximations.{Approximation}
use Rattle.formula_bounds.specs.Entries as e
use Rattle.formula_bounds.specs.Entries.{Entry, known_from, missing}
use Rattle.formula_bounds.specs.Nodes.{Walk, after_definition, after_nodes_of, items_of, nodes_of, top_of, walk}
use Rattle.formula_bounds.specs.Walks.{Defined, Walked, after_applied, after_binary, after_select, defined, entries_of_program, walked, walks_from, walks_of}
use Rattle.formula_bounds.specs.declared.nodes.Node.{Node}
use Rattle.formula_bounds.proofs.FormulaLaws.{from_zero, nodes_at, set_last}
use Rattle.formula_bounds.proofs.StepLaws.{flat_of_map, flat_same, map_of_flat, map_of_map, map_same, pushed, whole_tree}

-- all definitions have numbers below their count
no_more : {A : Type 0} (all : List (Vec Node A)) (definitions : List Tree) → items_of all ≡ map nodes_of definitions
    → drop (length all) definitions ≡ []
no_more [] [] same = refl
no_more [] (d ∷ ds) same = absurd (cc)
no_more (x ∷ xs) [] same = absurd (cc)
no_more (x ∷ xs) (d ∷ ds) same = let tail : items_of xs ≡ map nodes_of ds = cc in no_more xs ds tail

-- a walk over the definitions from number i on
abbrev pub from_definition : (i : ℕ) → Defined → Walk
from_definition i d = walk (replicate i missing ++ d.entries) [] d.left

module _ (bits : ℕ) (inputs : List Approximation) where
  -- the walks over the definitions from number i on
  abbrev pub walks_at : (left i : ℕ) → List Tree → List Walk
  walks_at left i definitions = map (from_definition i) (walks_from bits inputs i (drop i definitions) left)

  -- before the first definition there is one walk
  started : {A : Type 0} (all : List (Vec Node A)) (definitions : List Tree) (known : List Entry) (left : ℕ)
      → items_of all ≡ map nodes_of definitions → known ≡ replicate (length all) missing
      → (walk known [] left ∷ []) ≡ walks_at left (length all) definitions
  started all definitions known left same is =
      ap (λ (l : List Entry). walk l [] left ∷ []) (is ∙ sym (append-nil (replicate (length all) missing)))
      ∙ ap (λ (l : List Tree). map (from_definition (length all)) (walks_from bits inputs (length all) l left)) (sym (no_more all definitions same))

  pub first_walk : {A : Type 0} (all : List (Vec Node A)) (definitions : List Tree) (known : List Entry) (left n m : ℕ) (walks : List Walk)
      → n ≡ length all → m ≡ length all → items_of all ≡ map nodes_of definitions → known ≡ replicate m missing
      → walks ≡ (walk known [] left ∷ []) → walks ≡ walks_at left n definitions
  first_walk all definitions known left n m walks en em same is e =
      e ∙ started all definitions known left same (is ∙ ap (λ i. replicate i missing) em)
      ∙ ap (λ i. walks_at left i definitions) (sym en)

  -- entries of definitions that are equal give equal walks
  same_walks : (k l : ℕ → Entry) → ((j : ℕ) → k j ≡ l j) → (t : Tree) (left : ℕ) → walks_of bits inputs k t left ≡ walks_of bits inputs l t left
  same_walks k l s (Number z) left = refl
  same_walks k l s (Input i) left = refl
  same_walks k l s (Definition j) left = ap (λ (x : Entry). walked x left ∷ []) (s j)
  same_walks k l s (Negated a) left = ap (map (λ (w : Walked). walked (e.negated bits w.entry) w.left)) (same_walks k l s a left)
  same_walks k l s (Binary o a b) left =
      ap (flat_map (λ (w : Walked). flat_map (λ (v : Walked). after_binary bits o w.entry v.entry v.left) (walks_of bits inputs k b w.left)))
      (same_walks k l s a left)
      ∙ flat_same _ _
      (λ (w : Walked). ap (flat_map (λ (v : Walked). after_binary bits o w.entry v.entry v.left)) (same_walks k l s b w.left))
      (walks_of bits inputs l a left)
  same_walks k l s (Applied g a) left = ap (flat_map (λ (w : Walked). after_applied bits g w.entry w.left)) (same_walks k l s a left)
  same_walks k l s (Power a n) left = ap (map (λ (w : Walked). walked (e.power bits w.entry n) w.left)) (same_walks k l s a left)
  same_walks k l s (Select x a b) left =
      ap (flat_map (λ (w : Walked).
      flat_map (λ (v : Walked).
      flat_map (λ (u : Walked). after_select bits w.entry v.entry u.entry u.left) (walks_of bits inputs k b v.left))
      (walks_of bits inputs k a w.left)))
      (same_walks k l s x left)
      ∙ flat_same _ _
      (λ (w : Walked).
      ap (flat_map (λ (v : Walked).
      flat_map (λ (u : Walked). after_select bits w.entry v.entry u.entry u.left) (walks_of bits inputs k b v.left)))
      (same_walks k l s a w.left)
      ∙ flat_same _ _
      (λ (v : Walked). ap (flat_map (λ (u : Walked). after_select bits w.entry v.entry u.entry u.left)) (same_walks k l s b v.left))
      (walks_of bits inputs l a w.left))
      (walks_of bits inputs l x left)

  -- the walks over one more definition, and the entries of those after it
  abbrev one_more : (i : ℕ) → Tree → Defined → List Defined
  one_more i d k = map (λ (w : Walked). defined (w.entry ∷ k.entries) w.left) (walks_of bits inputs (known_from bits i k.entries) d k.left)

  numbered : (i : ℕ) (d : Tree) (ds : List Tree) (left : ℕ)
      → walks_from bits inputs i (d ∷ ds) left ≡ flat_map (one_more (suc i) d) (walks_from bits inputs (suc i) ds left)
  numbered i d ds left =
      let e : i + 1 ≡ suc i = omega arith in ap (λ (n : ℕ). flat_map (one_more n d) (walks_from bits inputs n ds left)) e

  -- a walk over a definition sets its entry
  definition_set : (i : ℕ) (d : Tree) (k : Defined)
      → map (after_definition i) (map (pushed (from_definition (suc i) k))
      (walks_of bits inputs (known_from bits 0 (replicate (suc i) missing ++ k.entries)) d k.left))
      ≡ map (from_definition i) (one_more (suc i) d k)
  definition_set i d k =
      map_of_map (pushed (from_definition (suc i) k)) (after_definition i) _
      ∙ map_same _ (λ (v : Walked). from_definition i (defined (v.entry ∷ k.entries) v.left))
      (λ (v : Walked). ap (λ (l : List Entry). walk l [] v.left) (set_last i k.entries v.entry)) _
      ∙ ap (map (λ (v : Walked). from_definition i (defined (v.entry ∷ k.entries) v.left)))
      (same_walks _ (known_from bits (suc i) k.entries) (λ j. from_zero bits inputs (suc i) j k.entries) d k.left)
      ∙ sym (map_of_map (λ (w : Walked). defined (w.entry ∷ k.entries) w.left) (from_definition i)
      (walks_of bits inputs (known_from bits (suc i) k.entries) d k.left))

  one_before_is : (left i : ℕ) (definitions : List Tree) (d : Tree) → drop i definitions ≡ d ∷ drop (suc i) definitions
      → map (after_definition i) (after_nodes_of bits inputs (nodes_of d) (walks_at left (suc i) definitions)) ≡ walks_at left i definitions
  one_before_is left i definitions d at =
      let later = walks_from bits inputs (suc i) (drop (suc i) definitions) left in
      ap (map (after_definition i)) (whole_tree bits inputs d (walks_at left (suc i) definitions) ∙ flat_of_map (from_definition (suc i)) _ later)
      ∙ map_of_flat _ (after_definition i) later
      ∙ flat_same _ _ (definition_set i d) later
      ∙ sym (map_of_flat (one_more (suc i) d) (from_definition i) later)
      ∙ ap (map (from_definition i)) (sym (numbered i d (drop (suc i) definitions) left))
      ∙ ap (λ (l : List Tree). map (from_definition i) (walks_from bits inputs i l left)) (sym at)

  -- the walks over the definitions from i on, after a walk over the one before them
  pub one_before : {A : Type 0} (left i : ℕ) (walks new defined_walks : List Walk) (all : List (Vec Node A)) (definitions : List Tree)
      (v : Vec Node A) (nodes : List Node)
      → 0 < i → i - 1 < length all → items_of all ≡ map nodes_of definitions → v ≡ get_or all (i - 1) v → nodes ≡ v.items
      → walks ≡ walks_at left i definitions → new ≡ after_nodes_of bits inputs nodes walks
      → defined_walks ≡ map (after_definition (i - 1)) new → defined_walks ≡ walks_at left (i - 1) definitions
  one_before left zero walks new defined_walks all definitions v nodes some below same at is ew en ed = absurd (omega arith)
  one_before left (suc j) walks new defined_walks all definitions v nodes some below same at is ew en ed =
      let e : suc j - 1 ≡ j = omega arith in
      let at' : v ≡ get_or all j v = subst (λ n. v ≡ get_or all n v) e at in
      let d = nodes_at all definitions j v same at' (omega arith) in
      let nodes_are : nodes ≡ nodes_of d.0 = is ∙ d.2 in
      let after : new ≡ after_nodes_of bits inputs (nodes_of d.0) (walks_at left (suc j) definitions) =
      en ∙ ap (λ (l : List Node). after_nodes_of bits inputs l walks) nodes_are ∙ ap (after_nodes_of bits inputs (nodes_of d.0)) ew in
      let set : defined_walks ≡ map (after_definition j) new = subst (λ n. defined_walks ≡ map (after_definition n) new) e ed in
      subst (λ n. defined_walks ≡ walks_at left n definitions) (sym e)
      (set ∙ ap (map (after_definition j)) after ∙ one_before_is left j definitions d.0 d.1)

  body_is : (k : Defined) (body : Tree)
      → map top_of (map (pushed (from_definition 0 k)) (walks_of bits inputs (known_from bits 0 k.entries) body k.left))
      ≡ map (λ (w : Walked). w.entry) (walks_of bits inputs (known_from bits 0 k.entries) body k.left)
  body_is k body = map_of_map (pushed (from_definition 0 k)) top_of (walks_of bits inputs (known_from bits 0 k.entries) body k.left)

  -- the entries on top of the stacks after walks over the body
  pub entries_are : (program : Trees) (left : ℕ) (walks new : List Walk) (nodes : List Node) (tops : List Entry)
      → walks ≡ map (λ (d : Defined). walk d.entries [] d.left) (walks_from bits inputs 0 program.1 left) → nodes ≡ nodes_of program.0
      → new ≡ after_nodes_of bits inputs nodes walks → tops ≡ map top_of new → tops ≡ entries_of_program bits inputs program left
  entries_are (body, definitions) left walks new nodes tops ew is en et =
      let all = walks_from bits inputs 0 definitions left in
      et ∙ ap (map top_of)
      (en ∙ ap (λ (l : List Node). after_nodes_of bits inputs l walks) is ∙ ap (after_nodes_of bits inputs (nodes_of body)) ew
      ∙ whole_tree bits inputs body _ ∙ flat_of_map (from_definition 0) _ all)
      ∙ map_of_flat _ top_of all
      ∙ flat_same _ _ (λ (k : Defined). body_is k body) all
      ∙ sym (map_of_flat (λ (k : Defined). walks_of bits inputs (known_from bits 0 k.entries) body k.left) (λ (w : Walked). w.entry) all)
