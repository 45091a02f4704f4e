-- The meaning of definitions that come after others, or with moved numbers.
use Rattle.std.proofs.Common.{◌≡◌, ℕ, ◌+◌, ◌≤◌, ◌==◌, Bool, true, false, List, [], ◌∷◌, ◌++◌, map, length, refl, ap, ◌∙◌, arith}
use Rattle.std.proofs.lemmas.Bool.{eqb-true, eqb-false, ne_eqb, eq-eqb}
use Rattle.energy_program.specs.Tree.{Tree, Number, Input, Definition, Negated, Binary, Applied, Power, Select, put, meaning}
use Rattle.energy_program.proofs.Meaning.{skip}
use Rattle.derivative.specs.Written.{moved}

-- A number past xs has in xs ++ ys the same meaning as in ys.
pub skip_all : (xs ys : List Tree) (i j m : ℕ) → i + length xs ≡ m → m ≤ j → meaning i (xs ++ ys) j ≡ meaning m ys j
skip_all [] ys i j m e h = let w : i ≡ m = omega arith in ap (λ k. meaning k ys j) w
skip_all (x ∷ xs) ys i j m e h = skip i j x (xs ++ ys) (omega arith) ∙ skip_all xs ys (i + 1) j m (omega arith) h

-- If f (n + j) = g j for each j, substituting f in a tree moved by n gives the tree with g substituted.
put_moved : (n : ℕ) (f g : ℕ → Tree) → ((j : ℕ) → f (n + j) ≡ g j) → (e : Tree) → put f (moved n e) ≡ put g e
put_moved n f g same (Number c) = refl
put_moved n f g same (Input i) = refl
put_moved n f g same (Definition j) = same j
put_moved n f g same (Negated a) = ap Negated (put_moved n f g same a)
put_moved n f g same (Binary o a b) = rw (put_moved n f g same a, put_moved n f g same b) refl
put_moved n f g same (Applied k a) = ap (Applied k) (put_moved n f g same a)
put_moved n f g same (Power a k) = ap (λ x. Power x k) (put_moved n f g same a)
put_moved n f g same (Select c a b) = rw (put_moved n f g same c, put_moved n f g same a, put_moved n f g same b) refl

same_test : (n i j : ℕ) → ((n + j) == (n + i)) ≡ (j == i)
same_test n i j = by_test (j == i) refl
  where
    by_test : (b : Bool) → (j == i) ≡ b → ((n + j) == (n + i)) ≡ b
    by_test true h = let w = eqb-true j i h in eq-eqb (n + j) (n + i) (omega arith)
    by_test false h = ne_eqb (n + j) (n + i) (λ w. eqb-false j i h (omega arith))

-- If a list is moved by n, definition n + j of the moved list and definition j of the list have the same meaning.
pub moved_meaning : (n i m : ℕ) (ds : List Tree) → m ≡ n + i → (j : ℕ) → meaning m (map (moved n) ds) (n + j) ≡ meaning i ds j
moved_meaning n i m [] e j = refl
moved_meaning n i m (d ∷ ds) e j =
    let rest = moved_meaning n (i + 1) (m + 1) ds (omega arith) in
    let test : ((n + j) == m) ≡ (j == i) = rw e (same_test n i j) in
    let at = put_moved n (meaning (m + 1) (map (moved n) ds)) (meaning (i + 1) ds) rest d in
    rw (test, at, rest j) refl
