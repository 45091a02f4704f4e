-- The entries of definitions, from the last to the first.
use Rattle.std.proofs.Common.{◌≡◌, ℕ, zero, suc, ◌+◌, ◌-◌, ◌==◌, ◌<◌, List, [], ◌∷◌, ◌++◌, append-nil, drop, length, map, replicate, get_or, slice_set, Bool, true, false, refl, sym, ap, subst, ◌∙◌, arith, if◌then◌else◌, Vec}
use Rattle.std.proofs.lemmas.Bool.Decides.{nat_tests}
use Rattle.energy_program.specs.Programs.{Trees}
use Rattle.energy_program.specs.Tree.{Tree, Number, Input, Definition, Negated, Binary, Applied, Power, Select}
use Rattle.error_bounds.specs.Approximations.{Approximation}
use Rattle.formula_bounds.specs.Entries as e
use Rattle.formula_bounds.specs.Entries.{Entry, entries_from, entry_of, entry_of_program, known_from, missing}
use Rattle.formula_bounds.specs.Nodes.{after_nodes, at_depth, items_of, nodes_of}
use Rattle.formula_bounds.specs.declared.nodes.Node.{Node}
use Rattle.formula_bounds.proofs.NodeLaws.{walks}

-- a list of nodes among others, and the definition that has them
pub nodes_at : {A : Type 0} (all : List (Vec Node A)) (definitions : List Tree) (i : ℕ) (v : Vec Node A) → items_of all ≡ map nodes_of definitions
    → v ≡ get_or all i v → i < length all → (d : Tree) × (drop i definitions ≡ d ∷ drop (suc i) definitions) × (v.items ≡ nodes_of d)
nodes_at [] definitions i v same at below = absurd (omega arith)
nodes_at (x ∷ xs) [] i v same at below = absurd (cc)
nodes_at (x ∷ xs) (d ∷ ds) zero v same at below =
    let head : x.items ≡ nodes_of d = cc in
    (d, refl, ap (λ w. w.items) at ∙ head)
nodes_at (x ∷ xs) (d ∷ ds) (suc i) v same at below =
    let tail : items_of xs ≡ map nodes_of ds = cc in
    nodes_at xs ds i v tail at (omega arith)

-- the last of the missing entries is set
pub set_last : (i : ℕ) (es : List Entry) (x : Entry) → slice_set (replicate (suc i) missing ++ es) i x ≡ replicate i missing ++ (x ∷ es)
set_last zero es x = refl
set_last (suc i) es x = ap (λ (l : List Entry). missing ∷ l) (set_last i es x)

module _ (bits : ℕ) where
  -- a definition before those that are numbered has no entry
  before : (n j : ℕ) (es : List Entry) → j < n → known_from bits n es j ≡ missing
  before n j [] p = refl
  before n j (x ∷ xs) p = let off : (j == n) ≡ false = grind (arith, nat_tests) in rw off (before (n + 1) j xs (omega arith))

  skip_if : (found : Bool) (x y : Entry) → (found ≡ true → y ≡ x) → (if found then x else y) ≡ y
  skip_if true x y same = sym (same refl)
  skip_if false x y same = refl

  -- missing entries in front only count
  pub missing_in_front : (n m j : ℕ) (es : List Entry) → known_from bits n (replicate m missing ++ es) j ≡ known_from bits (n + m) es j
  missing_in_front n zero j es = let e : n + 0 ≡ n = omega arith in rw e refl
  missing_in_front n (suc m) j es =
      let e : n + suc m ≡ (n + 1) + m = omega arith in
      rw e (skip_if (j == n) missing (known_from bits (n + 1) (replicate m missing ++ es) j)
      (λ on. let same : j ≡ n = grind (arith, nat_tests) in missing_in_front (n + 1) m j es ∙ before ((n + 1) + m) j es (omega arith))
      ∙ missing_in_front (n + 1) m j es)

  module _ (inputs : List Approximation) where
    -- entries of definitions that are equal give equal entries
    same_known : (k l : ℕ → Entry) → ((j : ℕ) → k j ≡ l j) → (t : Tree) → entry_of bits inputs k t ≡ entry_of bits inputs l t
    same_known k l s (Number z) = refl
    same_known k l s (Input i) = refl
    same_known k l s (Definition j) = s j
    same_known k l s (Negated a) = ap (e.negated bits) (same_known k l s a)
    same_known k l s (Binary o a b) = rw (same_known k l s a, same_known k l s b) refl
    same_known k l s (Applied g a) = ap (e.applied bits g) (same_known k l s a)
    same_known k l s (Power a n) = ap (λ x. e.power bits x n) (same_known k l s a)
    same_known k l s (Select x a b) = rw (same_known k l s x, same_known k l s a, same_known k l s b) refl

    -- a walk over the nodes of a tree gives its entry
    pub walk_is : (known : ℕ → Entry) (t : Tree) → at_depth (after_nodes bits inputs known (nodes_of t)) 0 ≡ entry_of bits inputs known t
    walk_is known t =
        let all : after_nodes bits inputs known (nodes_of t) ≡ entry_of bits inputs known t ∷ [] =
        ap (after_nodes bits inputs known) (sym (append-nil (nodes_of t))) ∙ walks bits inputs known t [] in
        ap (λ s. at_depth s 0) all

    -- the entries of definitions, the first numbered i
    numbered : (i : ℕ) (d : Tree) (ds : List Tree)
        → entries_from bits inputs i (d ∷ ds) ≡ entry_of bits inputs (known_from bits (suc i) (entries_from bits inputs (suc i) ds)) d ∷ entries_from bits inputs (suc i) ds
    numbered i d ds = let e : i + 1 ≡ suc i = omega arith in ap (λ n. entry_of bits inputs (known_from bits n (entries_from bits inputs n ds)) d ∷ entries_from bits inputs n ds) e

    pub from_zero : (m j : ℕ) (es : List Entry) → known_from bits 0 (replicate m missing ++ es) j ≡ known_from bits m es j
    from_zero m j es = let e : 0 + m ≡ m = omega arith in missing_in_front 0 m j es ∙ ap (λ n. known_from bits n es j) e

    -- the entries of the definitions from i on, if those from i + 1 on have theirs
    pub one_more : (i : ℕ) (known : List Entry) (definitions : List Tree) (d : Tree) (nodes : List Node)
        → known ≡ replicate (suc i) missing ++ entries_from bits inputs (suc i) (drop (suc i) definitions)
        → drop i definitions ≡ d ∷ drop (suc i) definitions → nodes ≡ nodes_of d
        → slice_set known i (at_depth (after_nodes bits inputs (known_from bits 0 known) nodes) 0)
        ≡ replicate i missing ++ entries_from bits inputs i (drop i definitions)
    one_more i known definitions d nodes ek ed en =
        let later : List Entry = entries_from bits inputs (suc i) (drop (suc i) definitions) in
        let front : (j : ℕ) → known_from bits 0 known j ≡ known_from bits (suc i) later j =
        λ j. ap (λ (l : List Entry). known_from bits 0 l j) ek ∙ from_zero (suc i) j later in
        let found : at_depth (after_nodes bits inputs (known_from bits 0 known) nodes) 0 ≡ entry_of bits inputs (known_from bits (suc i) later) d =
        ap (λ (l : List Node). at_depth (after_nodes bits inputs (known_from bits 0 known) l) 0) en
        ∙ walk_is (known_from bits 0 known) d ∙ same_known (known_from bits 0 known) (known_from bits (suc i) later) front d in
        ap (λ (x : Entry). slice_set known i x) found
        ∙ ap (λ (l : List Entry). slice_set l i (entry_of bits inputs (known_from bits (suc i) later) d)) ek
        ∙ set_last i later (entry_of bits inputs (known_from bits (suc i) later) d)
        ∙ ap (λ (l : List Entry). replicate i missing ++ l) (sym (numbered i d (drop (suc i) definitions)))
        ∙ ap (λ (l : List Tree). replicate i missing ++ entries_from bits inputs i l) (sym ed)

    -- and so after the definition before i is set
    pub one_before : {A : Type 0} (i : ℕ) (known new : List Entry) (all : List (Vec Node A)) (definitions : List Tree) (v : Vec Node A) (nodes : List Node)
        → 0 < i → i - 1 < length all → items_of all ≡ map nodes_of definitions → v ≡ get_or all (i - 1) v → nodes ≡ v.items
        → known ≡ replicate i missing ++ entries_from bits inputs i (drop i definitions)
        → new ≡ slice_set known (i - 1) (at_depth (after_nodes bits inputs (known_from bits 0 known) nodes) 0)
        → new ≡ replicate (i - 1) missing ++ entries_from bits inputs (i - 1) (drop (i - 1) definitions)
    one_before zero known new all definitions v nodes some below same at is ek en = absurd (omega arith)
    one_before (suc j) known new all definitions v nodes some below same at is ek en =
        let e : suc j - 1 ≡ j = omega arith in
        let at' : v ≡ get_or all j v = subst (λ n. v ≡ get_or all n v) e at in
        let d = nodes_at all definitions j v same at' (omega arith) in
        let new' : new ≡ slice_set known j (at_depth (after_nodes bits inputs (known_from bits 0 known) nodes) 0) =
        subst (λ n. new ≡ slice_set known n (at_depth (after_nodes bits inputs (known_from bits 0 known) nodes) 0)) e en in
        subst (λ n. new ≡ replicate n missing ++ entries_from bits inputs n (drop n definitions)) (sym e)
        (new' ∙ one_more j known definitions d.0 nodes ek d.1 (is ∙ d.2))

    -- a walk over the nodes of a program's body gives the program's entry
    pub program_is : (program : Trees) (known : List Entry) (nodes : List Node) → known ≡ entries_from bits inputs 0 program.1 → nodes ≡ nodes_of program.0
        → at_depth (after_nodes bits inputs (known_from bits 0 known) nodes) 0 ≡ entry_of_program bits inputs program
    program_is program known nodes ek en =
        ap (λ (l : List Node). at_depth (after_nodes bits inputs (known_from bits 0 known) l) 0) en
        ∙ ap (λ (l : List Entry). at_depth (after_nodes bits inputs (known_from bits 0 l) (nodes_of program.0)) 0) ek
        ∙ walk_is (known_from bits 0 (entries_from bits inputs 0 program.1)) program.0
