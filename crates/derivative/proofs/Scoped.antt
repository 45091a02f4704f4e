-- Uses of definitions within bounds.
use Rattle.std.proofs.Common.{◌≡◌, ℕ, ◌+◌, ◌^◌, ◌<◌, ◌≤◌, zero, suc, nat_le, List, [], ◌∷◌, map, length, drop, get_or, pos, refl, sym, ap, ◌∙◌, subst, arith, ltb-true, lt-ltb}
use Rattle.std.specs.Bool.{IsTrue}
use Rattle.std.proofs.Math.Seq.{drop-cons}
use Rattle.std.proofs.lemmas.List.{get_or-map, length-map}
use Rattle.fixed.specs.Constants.{exactly}
use Rattle.energy_program.specs.declared.trees.Expr.{Expr}
use Rattle.energy_program.specs.Tree.{Tree, tree_of, Number, Input, Definition, Negated, Binary, Applied, Power, Select, is_exponent, is_scoped, are_scoped}
use Rattle.derivative.specs.Written.{is_writable}
use Rattle.energy_program.proofs.Scopes.{both, scoped_below, to_below}
use Rattle.derivative.proofs.Bool.{left_of, right_of}

-- the scope of the definitions from k on
pub below_from : (inputs n i k : ℕ) (ds : List Tree) → IsTrue (scoped_below inputs n i ds) → IsTrue (scoped_below inputs n (k + i) (drop k ds))
below_from inputs n i zero ds h = let e : i ≡ 0 + i = omega arith in subst (λ x. IsTrue (scoped_below inputs n x ds)) e h
below_from inputs n i (suc k) [] h = refl
below_from inputs n i (suc k) (d ∷ ds) h =
    let e : k + (i + 1) ≡ suc k + i = omega arith in
    subst (λ x. IsTrue (scoped_below inputs n x (drop k ds))) e (below_from inputs n (i + 1) k ds (right_of (is_scoped inputs (i + 1) n d) _ h))

-- and of one of them
pub scoped_at : (inputs n i : ℕ) (ds : List Tree) → length ds ≡ n → i < n → IsTrue (scoped_below inputs n 0 ds)
    → IsTrue (is_scoped inputs (i + 1) n (get_or ds i (Number (exactly (pos 0)))))
scoped_at inputs n i ds e h scoped =
    let s : suc i ≡ i + 1 = omega arith in
    let cut : drop i ds ≡ get_or ds i (Number (exactly (pos 0))) ∷ drop (i + 1) ds =
    drop-cons ds i (Number (exactly (pos 0))) (omega arith) ∙ ap (λ k. get_or ds i (Number (exactly (pos 0))) ∷ drop k ds) s in
    let z : i + 0 ≡ i = omega arith in
    let v : IsTrue (scoped_below inputs n i (drop i ds)) = subst (λ x. IsTrue (scoped_below inputs n x (drop i ds))) z (below_from inputs n 0 i ds scoped) in
    left_of _ _ (subst (λ x. IsTrue (scoped_below inputs n i x)) cut v)

-- If there are n definitions, n at most 2^31, then each use in a tree plus n is below 2^32 (`is_writable`).
pub writable : (inputs first n : ℕ) → n ≤ 2 ^ 31 → (e : Tree) → IsTrue (is_scoped inputs first n e) → IsTrue (is_writable n e)
writable inputs first n w (Number c) h = refl
writable inputs first n w (Input i) h = refl
writable inputs first n w (Definition j) h =
    let high = ltb-true j n (right_of (nat_le first j) _ h) in lt-ltb (n + j) (2 ^ 32) (omega arith)
writable inputs first n w (Negated a) h = writable inputs first n w a h
writable inputs first n w (Binary o a b) h =
    both _ _ (writable inputs first n w a (left_of (is_scoped inputs first n a) _ h)) (writable inputs first n w b (right_of (is_scoped inputs first n a) _ h))
writable inputs first n w (Applied f a) h = writable inputs first n w a h
writable inputs first n w (Power a k) h = both _ _ (left_of (is_exponent k) _ h) (writable inputs first n w a (right_of (is_exponent k) _ h))
writable inputs first n w (Select c a b) h =
    let r = right_of (is_scoped inputs first n c) _ h in
    both _ _ (writable inputs first n w c (left_of (is_scoped inputs first n c) _ h))
    (both _ _ (writable inputs first n w a (left_of (is_scoped inputs first n a) _ r)) (writable inputs first n w b (right_of (is_scoped inputs first n a) _ r)))

-- Each definition of a program is writable if there are at most 2^31 definitions, for the code's expressions.
pub writable_at : {A : Type 0} (inputs n i : ℕ) (es : List (Expr A)) (e : Expr A) → n ≡ length es → n ≤ 2 ^ 31 → i < length es → e ≡ get_or es i e
    → IsTrue (are_scoped inputs 0 (map tree_of es)) → IsTrue (is_writable n (tree_of e))
writable_at inputs n i es e en w h is scoped =
    let long : length (map tree_of es) ≡ n = simp length-map (sym en) in
    let at : get_or (map tree_of es) i (Number (exactly (pos 0))) ≡ tree_of e = get_or-map tree_of es i e (Number (exactly (pos 0))) h ∙ ap tree_of (sym is) in
    let known = scoped_at inputs n i (map tree_of es) long (omega arith) (to_below inputs n 0 (map tree_of es) (omega arith) scoped) in
    writable inputs (i + 1) n w (tree_of e) (subst (λ x. IsTrue (is_scoped inputs (i + 1) n x)) at known)

-- A body is writable if there are at most 2^31 definitions.
pub writable_body : (inputs n count : ℕ) (e : Tree) → n ≡ count → n ≤ 2 ^ 31 → IsTrue (is_scoped inputs 0 count e) → IsTrue (is_writable n e)
writable_body inputs n count e en w h = writable inputs 0 n w e (subst (λ k. IsTrue (is_scoped inputs 0 k e)) (sym en) h)
