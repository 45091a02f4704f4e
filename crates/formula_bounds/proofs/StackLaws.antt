-- Stacks of entries, and entries of definitions by their number.
use Rattle.std.proofs.Common.{◌≡◌, ℤ, ℕ, zero, suc, ◌+◌, ◌==◌, List, [], ◌∷◌, drop, slice_index_or, true, false, refl, sym, ap, subst, ◌∙◌, arith}
use Rattle.std.proofs.lemmas.Bool.Decides.{nat_tests}
use Rattle.fixed.specs.declared.operations.Operator.{Operator}
use Rattle.error_bounds.specs.Approximations.{Approximation}
use Rattle.formula_bounds.specs.Entries as e
use Rattle.formula_bounds.specs.Entries.{Entry, known_from, missing}
use Rattle.formula_bounds.specs.Nodes.{after_node, at_depth}
use Rattle.formula_bounds.specs.declared.nodes.Node.{Node}
use Rattle.formula_bounds.specs.declared.nodes.Node.TheVariants as node

-- below the top of a stack, each entry is one deeper
pub deeper : (stack : List Entry) (depth : ℕ) → at_depth (drop 1 stack) depth ≡ at_depth stack (suc depth)
deeper [] depth = refl
deeper (x ∷ xs) depth = refl

pub drop_two : (stack : List Entry) → drop 1 (drop 1 stack) ≡ drop 2 stack
drop_two [] = refl
drop_two (x ∷ xs) = refl

pub drop_three : (stack : List Entry) → drop 1 (drop 1 (drop 1 stack)) ≡ drop 3 stack
drop_three [] = refl
drop_three (x ∷ []) = refl
drop_three (x ∷ y ∷ ys) = refl

-- below two entries, the third is on top
third : (stack : List Entry) → at_depth (drop 2 stack) 0 ≡ at_depth stack 2
third [] = refl
third (x ∷ []) = refl
third (x ∷ y ∷ ys) = refl

-- the entry of definition j is the entry at its index
pub known_at : (bits n : ℕ) (xs : List Entry) (j : ℕ) → known_from bits n xs (n + j) ≡ slice_index_or xs j missing
known_at bits n [] j = refl
known_at bits n (x ∷ xs) zero = let e : (n + 0 == n) ≡ true = grind (arith, nat_tests) in rw e refl
known_at bits n (x ∷ xs) (suc j) =
    let e : (n + suc j == n) ≡ false = grind (arith, nat_tests) in
    let f : n + suc j ≡ (n + 1) + j = omega arith in
    rw e (rw f (known_at bits (n + 1) xs j))

-- the entry of definition j, numbered from 0
pub known_is : (bits : ℕ) (xs : List Entry) (j : ℕ) → known_from bits 0 xs j ≡ slice_index_or xs j missing
known_is bits xs j = let e : 0 + j ≡ j = omega arith in subst (λ m. known_from bits 0 xs m ≡ slice_index_or xs j missing) e (known_at bits 0 xs j)

module _ (bits : ℕ) (inputs : List Approximation) (known : List Entry) where
  abbrev after : Node → List Entry → List Entry
  after n stack = after_node bits inputs (known_from bits 0 known) n stack

  -- the stack after the use of a definition
  pub definition_after : (j : ℕ) (stack : List Entry) (x : Entry) → x ≡ slice_index_or known j missing → (x ∷ stack) ≡ after (node.Definition j) stack
  definition_after j stack x e = ap (λ (y : Entry). y ∷ stack) (e ∙ sym (known_is bits known j))

  -- the stack after a power, whose operand is removed
  pub power_after : (n : ℤ) (s t : List Entry) (y r : Entry) → y ≡ at_depth s 0 → t ≡ drop 1 s → r ≡ e.power bits y n → (r ∷ t) ≡ after (node.Power n) s
  power_after n s t y r ey et er =
      let result : r ≡ e.power bits (at_depth s 0) n = er ∙ ap (λ (l : Entry). e.power bits l n) ey in
      ap (λ (l : Entry). l ∷ t) result ∙ ap (λ (l : List Entry). e.power bits (at_depth s 0) n ∷ l) et

  -- the stack after an operation whose operands are removed one after the other
  pub binary_after : (o : Operator) (s t u : List Entry) (y x r : Entry) → y ≡ at_depth s 0 → t ≡ drop 1 s → x ≡ at_depth t 0 → u ≡ drop 1 t
      → r ≡ e.binary bits o x y → (r ∷ u) ≡ after (node.Binary o) s
  binary_after o s t u y x r ey et ex eu er =
      let first : x ≡ at_depth s 1 = ex ∙ ap (λ (l : List Entry). at_depth l 0) et ∙ deeper s 0 in
      let rest : u ≡ drop 2 s = eu ∙ ap (drop 1) et ∙ drop_two s in
      let result : r ≡ e.binary bits o (at_depth s 1) (at_depth s 0) = er ∙ ap (λ (l : Entry). e.binary bits o l y) first ∙ ap (e.binary bits o (at_depth s 1)) ey in
      ap (λ (l : Entry). l ∷ u) result ∙ ap (λ (l : List Entry). e.binary bits o (at_depth s 1) (at_depth s 0) ∷ l) rest

  -- and after a choice
  pub select_after : (s t u v : List Entry) (z y x r : Entry) → z ≡ at_depth s 0 → t ≡ drop 1 s → y ≡ at_depth t 0 → u ≡ drop 1 t
      → x ≡ at_depth u 0 → v ≡ drop 1 u → r ≡ e.select bits x y z → (r ∷ v) ≡ after node.Select s
  select_after s t u v z y x r ez et ey eu ex ev er =
      let second : y ≡ at_depth s 1 = ey ∙ ap (λ (l : List Entry). at_depth l 0) et ∙ deeper s 0 in
      let lower : u ≡ drop 2 s = eu ∙ ap (drop 1) et ∙ drop_two s in
      let first : x ≡ at_depth s 2 = ex ∙ ap (λ (l : List Entry). at_depth l 0) lower ∙ third s in
      let rest : v ≡ drop 3 s = ev ∙ ap (drop 1) eu ∙ ap (λ (l : List Entry). drop 1 (drop 1 l)) et ∙ drop_three s in
      let result : r ≡ e.select bits (at_depth s 2) (at_depth s 1) (at_depth s 0) =
      er ∙ ap (λ (l : Entry). e.select bits l y z) first ∙ ap (λ (l : Entry). e.select bits (at_depth s 2) l z) second ∙ ap (e.select bits (at_depth s 2) (at_depth s 1)) ez in
      ap (λ (l : Entry). l ∷ v) result ∙ ap (λ (l : List Entry). e.select bits (at_depth s 2) (at_depth s 1) (at_depth s 0) ∷ l) rest
