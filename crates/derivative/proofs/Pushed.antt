-- One more definition is written, and all of them are.
use Rattle.std.proofs.Common.{◌≡◌, ℕ, ◌+◌, ◌<◌, ◌≤◌, List, [], ◌∷◌, ◌++◌, map, take, length, get_or, sym, ap, ◌∙◌, append_assoc}
use Rattle.std.proofs.lemmas.List.{map-append, length-map, take_all}
use Rattle.std.proofs.lemmas.Grind.{take_at_read}
use Rattle.energy_program.specs.declared.trees.Expr.{Expr}
use Rattle.energy_program.specs.Tree.{Tree, tree_of}

taken : {A : Type 0} (g : Tree → Tree) (xs : List (Expr A)) (i : ℕ) (x : Expr A) → i < length xs → x ≡ get_or xs i x
    → map g (map tree_of (take (i + 1) xs)) ≡ map g (map tree_of (take i xs)) ++ (g (tree_of x) ∷ [])
taken g xs i x h is =
    let e : take (i + 1) xs ≡ take i xs ++ (x ∷ []) = (take_at_read xs i x h).1 ∙ ap (λ y. take i xs ++ (y ∷ [])) (sym is) in
    rw e (simp map-append)

-- If the trees of the first i expressions are written, pushing the next tree gives the trees of the first i + 1.
pub pushed : {A : Type 0} (p : List Tree) (g : Tree → Tree) (w w1 xs : List (Expr A)) (i : ℕ) (x y : Expr A) → i < length xs
    → x ≡ get_or xs i x
    → map tree_of w ≡ p ++ map g (map tree_of (take i xs)) → w1 ≡ w ++ (y ∷ []) → tree_of y ≡ g (tree_of x)
    → map tree_of w1 ≡ p ++ map g (map tree_of (take (i + 1) xs))
pushed p g w w1 xs i x y h is e n s =
    rw (n, map-append tree_of w (y ∷ []), e, s, taken g xs i x h is) (append_assoc p _ _)

-- first all by f, and then all by g
pub all_pushed : {A : Type 0} (f g : ℕ → Tree → Tree) (n : ℕ) (w1 w2 xs ds : List (Expr A)) (i k : ℕ) → n ≡ length ds → xs ≡ ds → length xs ≤ i → length xs ≤ k
    → map tree_of w1 ≡ map (f n) (map tree_of (take i xs)) → map tree_of w2 ≡ map tree_of w1 ++ map (g n) (map tree_of (take k xs))
    → map tree_of w2 ≡ map (f (length (map tree_of ds))) (map tree_of ds) ++ map (g (length (map tree_of ds))) (map tree_of ds)
all_pushed f g n w1 w2 xs ds i k en e hi hk e1 e2 =
    let long : n ≡ length (map tree_of ds) = en ∙ sym (simp length-map) in
    let ti : take i xs ≡ ds = take_all i xs hi ∙ e in
    let tk : take k xs ≡ ds = take_all k xs hk ∙ e in
    e2 ∙ ap (λ x. x ++ map (g n) (map tree_of (take k xs))) (e1 ∙ ap (λ x. map (f n) (map tree_of x)) ti)
    ∙ ap (λ x. map (f n) (map tree_of ds) ++ map (g n) (map tree_of x)) tk
    ∙ ap (λ m. map (f m) (map tree_of ds) ++ map (g m) (map tree_of ds)) long
