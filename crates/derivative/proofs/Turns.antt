-- The turns of the loop that keeps definitions.
use Rattle.std.proofs.Common.{◌≡◌, ℕ, ◌+◌, Bool, true, false, List, [], ◌∷◌, ◌++◌, map, refl, sym, ap, ◌∙◌, append_assoc}
use Rattle.std.proofs.lemmas.List.{map_push}
use Rattle.energy_program.specs.declared.trees.Expr.{Expr}
use Rattle.energy_program.specs.Tree.{Tree, tree_of}
use Rattle.energy_program.specs.Uses.{is_marked, marks_of}
use Rattle.derivative.specs.Used.{rank, renumbered, kept_from}
use Rattle.derivative.specs.Derive.{pruned}

module _ (t : List Bool) where
  kept_here : (i : ℕ) (d : Tree) (ds : List Tree) → is_marked t i ≡ true → kept_from t i (d ∷ ds) ≡ renumbered (rank t) d ∷ kept_from t (i + 1) ds
  kept_here i d ds u = rw u refl

  not_here : (i : ℕ) (d : Tree) (ds : List Tree) → is_marked t i ≡ false → kept_from t i (d ∷ ds) ≡ kept_from t (i + 1) ds
  not_here i d ds u = rw u refl

  -- If definition i is marked, pushing its renumbered tree preserves the list of pushed trees and trees left to keep.
  pub keep_turn : {A : Type 0} (w w1 : List (Expr A)) (i : ℕ) (d : Tree) (y : Expr A) → is_marked t i ≡ true
      → tree_of y ≡ renumbered (rank t) d → w1 ≡ w ++ (y ∷ [])
      → (ds : List Tree) → map tree_of w1 ++ kept_from t (i + 1) ds ≡ map tree_of w ++ kept_from t i (d ∷ ds)
  keep_turn w w1 i d y u ey ew ds =
      let a : map tree_of w1 ≡ map tree_of w ++ (renumbered (rank t) d ∷ []) = ap (map tree_of) ew ∙ map_push tree_of w y ∙ ap (λ x. map tree_of w ++ (x ∷ [])) ey in
      ap (λ x. x ++ kept_from t (i + 1) ds) a
      ∙ append_assoc (map tree_of w) (renumbered (rank t) d ∷ []) (kept_from t (i + 1) ds)
      ∙ ap (λ x. map tree_of w ++ x) (sym (kept_here i d ds u))

  -- If definition i isn't marked, skipping it preserves the list of pushed trees and trees left to keep.
  pub skip_turn : {A : Type 0} (w : List (Expr A)) (i : ℕ) (d : Tree) → is_marked t i ≡ false
      → (ds : List Tree) → map tree_of w ++ kept_from t (i + 1) ds ≡ map tree_of w ++ kept_from t i (d ∷ ds)
  skip_turn w i d u ds = ap (λ x. map tree_of w ++ x) (sym (not_here i d ds u))

-- the definitions that are left, in the words of the code
pub left : {A : Type 0} (t1 t2 : List Bool) (body new_body : Expr A) (ds ds1 new_ds : List (Expr A))
    → t1 ≡ marks_of (tree_of body) (map tree_of ds) → t2 ≡ marks_of (tree_of body) (map tree_of ds) → ds1 ≡ ds
    → map tree_of new_ds ≡ kept_from t1 0 (map tree_of ds1) → tree_of new_body ≡ renumbered (rank t2) (tree_of body)
    → (tree_of new_body, map tree_of new_ds) ≡ pruned (tree_of body, map tree_of ds)
left t1 t2 body new_body ds ds1 new_ds e1 e2 ed hd hb =
    let definitions : map tree_of new_ds ≡ kept_from (marks_of (tree_of body) (map tree_of ds)) 0 (map tree_of ds) =
    hd ∙ ap (λ t. kept_from t 0 (map tree_of ds1)) e1 ∙ ap (λ x. kept_from (marks_of (tree_of body) (map tree_of ds)) 0 (map tree_of x)) ed in
    let left_body : tree_of new_body ≡ renumbered (rank (marks_of (tree_of body) (map tree_of ds))) (tree_of body) = hb ∙ ap (λ t. renumbered (rank t) (tree_of body)) e2 in
    rw (definitions, left_body) refl
