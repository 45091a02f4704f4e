-- The program that the code wrote by its table is the one of the definitions in `specs`.
use Rattle.std.proofs.Common.{◌≡◌, ℕ, Bool, true, List, [], ◌∷◌, ◌++◌, map, length, get_or, refl, sym, ap, ◌∙◌}
use Rattle.std.proofs.lemmas.List.{length-map}
use Rattle.energy_program.specs.declared.trees.Expr.{Expr}
use Rattle.energy_program.specs.Tree.{Tree, Number, Input, Definition, Negated, Binary, Applied, Power, Select, tree_of}
use Rattle.derivative.specs.Written.{is_free_given, moved, slope_tree, free_among, all_slopes, IsFreeTable}
use Rattle.derivative.specs.Derive.{with_all}

module _ (free known : ℕ → Bool) (same : (j : ℕ) → free j ≡ known j) where
  same_free : (e : Tree) → is_free_given free e ≡ is_free_given known e
  same_free (Number c) = refl
  same_free (Input i) = refl
  same_free (Definition j) = same j
  same_free (Negated a) = same_free a
  same_free (Binary o a b) = rw (same_free a, same_free b) refl
  same_free (Applied g a) = same_free a
  same_free (Power a k) = same_free a
  same_free (Select c a b) = rw (same_free c, same_free a, same_free b) refl

  -- If two tables agree on each definition, they give the same derivative tree.
  pub same_slope : (bits n : ℕ) (e : Tree) → slope_tree bits free n e ≡ slope_tree bits known n e
  same_slope bits n (Number c) = refl
  same_slope bits n (Input i) = refl
  same_slope bits n (Definition j) = rw (same j) refl
  same_slope bits n (Negated a) = rw (same_free a, same_slope bits n a) refl
  same_slope bits n (Binary o a b) = rw (same_free a, same_free b, same_slope bits n a, same_slope bits n b) refl
  same_slope bits n (Applied g a) = rw (same_free a, same_slope bits n a) refl
  same_slope bits n (Power a k) = rw (same_free a, same_slope bits n a) refl
  same_slope bits n (Select c a b) = rw (same_free c, same_free a, same_free b, same_slope bits n a, same_slope bits n b) refl

  same_map : (bits n : ℕ) (ds : List Tree) → map (slope_tree bits free n) ds ≡ map (slope_tree bits known n) ds
  same_map bits n [] = refl
  same_map bits n (d ∷ ds) = rw (same_slope bits n d, same_map bits n ds) refl

  -- If two tables agree on each definition, they give the same definitions of the derivative's program.
  pub same_slopes : (bits : ℕ) (ds : List Tree) → all_slopes bits free ds ≡ all_slopes bits known ds
  same_slopes bits ds = ap (λ x. x ++ map (moved (length ds)) ds) (same_map bits (length ds) ds)

-- in the words of the code, over the references that its calls were given
pub written : {A : Type 0} (bits n : ℕ) (t t1 t2 : List Bool) (body new_body : Expr A) (ds : List (Expr A)) (new_ds : List (Expr A))
    → n ≡ length ds → t1 ≡ t → t2 ≡ t → IsFreeTable t (map tree_of ds)
    → map tree_of new_ds ≡ all_slopes bits (λ j. get_or t1 j true) (map tree_of ds)
    → tree_of new_body ≡ slope_tree bits (λ j. get_or t2 j true) n (tree_of body)
    → (tree_of new_body, map tree_of new_ds) ≡ with_all bits (tree_of body, map tree_of ds)
written bits n t t1 t2 body new_body ds new_ds en e1 e2 table hd hb =
    let long : n ≡ length (map tree_of ds) = en ∙ sym (simp length-map) in
    let definitions : map tree_of new_ds ≡ all_slopes bits (free_among (map tree_of ds)) (map tree_of ds) =
    hd ∙ ap (λ x. all_slopes bits (λ j. get_or x j true) (map tree_of ds)) e1
    ∙ same_slopes (λ j. get_or t j true) (free_among (map tree_of ds)) table bits (map tree_of ds) in
    let whole_body : tree_of new_body ≡ slope_tree bits (free_among (map tree_of ds)) (length (map tree_of ds)) (tree_of body) =
    hb ∙ ap (λ x. slope_tree bits (λ j. get_or x j true) n (tree_of body)) e2
    ∙ same_slope (λ j. get_or t j true) (free_among (map tree_of ds)) table bits n (tree_of body)
    ∙ ap (λ k. slope_tree bits (free_among (map tree_of ds)) k (tree_of body)) long in
    rw (definitions, whole_body) refl
