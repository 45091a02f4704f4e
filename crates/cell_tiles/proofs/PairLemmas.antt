-- How often a pair occurs among the pairs of two lists, and among the pairs of one list.
use Rattle.std.proofs.Common.{◌≡◌, ◌≢◌, ℕ, zero, suc, ◌+◌, ◌*◌, ◌<◌, ◌≤◌, cond, ltb, leb, List, [], ◌∷◌, ◌++◌, length, take, get_or, sum_by, refl, ap, ◌∙◌, ⊎_elim, arith, take-suc}
use Rattle.std.proofs.lemmas.Bool.Decides.{nat_tests}
use Rattle.std.proofs.lemmas.Bool.{cases_eq, cases_lt, lt-ltb, le-ltb, le-leb, lt-leb, ne_eqb}
use Rattle.std.proofs.lemmas.List.Sums.{sum_by-cons, sum_by-append}
use Rattle.cell_tiles.specs.Tiles.{members_at, pair_of, pairs_among, pairs_between, pairs_in, pairs_with}
use Rattle.cell_tiles.specs.Cover.{is_same, times}
use Rattle.cell_tiles.proofs.CountLemmas.{count, count_push, same, sum_flat_map, sum_map}

-- 1 if p equals q, otherwise 0
abbrev pub same_pair : ℕ × ℕ → ℕ × ℕ → ℕ
same_pair p q = cond (is_same p q) 1 0

-- 1 if lo ≤ hi, otherwise 0: the pair (lo, hi) arises from the atoms lo and hi in this order
abbrev pub one_way : ℕ → ℕ → ℕ
one_way lo hi = cond (leb lo hi) 1 0

-- 1 if lo < hi, otherwise 0: the pair (lo, hi) also arises from the atoms hi and lo in this order
abbrev pub other_way : ℕ → ℕ → ℕ
other_way lo hi = cond (ltb lo hi) 1 0

-- a product of two that are not both so
pub not_both : (x a y b : ℕ) → (x ≡ a → y ≡ b → ⊥) → same x a * same y b ≡ 0
not_both x a y b h = grind (arith, nat_tests)

-- whether (lo, hi) is the pair of a and b, as a sum over the two orders of its atoms
pub same_pair_of : (lo hi a b : ℕ) → same_pair (lo, hi) (pair_of a b) ≡ one_way lo hi * same lo a * same hi b + other_way lo hi * same hi a * same lo b
same_pair_of lo hi a b = grind (arith, nat_tests)

-- ---- sums of two

sum_of_two : {A : Type 0} (u v : ℕ) (f g : A → ℕ) (xs : List A) → sum_by (λ x. u * f x + v * g x) xs ≡ u * sum_by f xs + v * sum_by g xs
sum_of_two u v f g [] = omega arith
sum_of_two u v f g (x ∷ xs) =
    rw (sum_by-cons f x xs, sum_by-cons g x xs) (omega (arith, sum_by-cons (λ x. u * f x + v * g x) x xs, sum_of_two u v f g xs))

-- ---- pairs of an atom with others, and of two lists

-- the number of times that (lo, hi) occurs among the pairs of an atom with others, from the counts of lo and hi
pub times_with : (lo hi a : ℕ) (bs : List ℕ) → times (lo, hi) (pairs_with a bs) ≡ one_way lo hi * same lo a * count hi bs + other_way lo hi * same hi a * count lo bs
times_with lo hi a bs =
    sum_map (same_pair (lo, hi)) (pair_of a) bs
    ∙ ((λ i. sum_by (λ b. same_pair_of lo hi a b i) bs)
    ∙ sum_of_two (one_way lo hi * same lo a) (other_way lo hi * same hi a) (same hi) (same lo) bs)

-- the same among the pairs of two lists
pub times_between : (lo hi : ℕ) (xs ys : List ℕ) → times (lo, hi) (pairs_between xs ys) ≡ one_way lo hi * count hi ys * count lo xs + other_way lo hi * count lo ys * count hi xs
times_between lo hi xs ys =
    let each : (a : ℕ) → times (lo, hi) (pairs_with a ys) ≡ one_way lo hi * count hi ys * same lo a + other_way lo hi * count lo ys * same hi a = λ a. times_with lo hi a ys ∙ omega arith in
    sum_flat_map (same_pair (lo, hi)) (λ a. pairs_with a ys) xs
    ∙ ((λ i. sum_by (λ a. each a i) xs)
    ∙ sum_of_two (one_way lo hi * count hi ys) (other_way lo hi * count lo ys) (same lo) (same hi) xs)

-- ---- pairs of one list

-- the first 0 atoms of a list make no pairs
pub among_none : (xs : List ℕ) → pairs_among xs 0 ≡ []
unfolding pairs_among
among_none xs = refl

-- one atom more makes pairs with those before it
pub among_suc : (xs : List ℕ) (m : ℕ) → pairs_among xs (suc m) ≡ pairs_among xs m ++ pairs_with (get_or xs m 0) (take m xs)
unfolding pairs_among
among_suc xs m = refl

times_among_suc : (lo hi : ℕ) (xs : List ℕ) (m : ℕ) → times (lo, hi) (pairs_among xs (suc m))
    ≡ times (lo, hi) (pairs_among xs m) + (one_way lo hi * same lo (get_or xs m 0) * count hi (take m xs) + other_way lo hi * same hi (get_or xs m 0) * count lo (take m xs))
times_among_suc lo hi xs m =
    ap (times (lo, hi)) (among_suc xs m)
    ∙ (sum_by-append (same_pair (lo, hi)) (pairs_among xs m) (pairs_with (get_or xs m 0) (take m xs))
    ∙ ap (λ n. times (lo, hi) (pairs_among xs m) + n) (times_with lo hi (get_or xs m 0) (take m xs)))

count_suc : (x : ℕ) (xs : List ℕ) (m : ℕ) → m < length xs → count x (take (suc m) xs) ≡ count x (take m xs) + same x (get_or xs m 0)
count_suc x xs m h = ap (count x) (take-suc xs m 0 h) ∙ count_push x (get_or xs m 0) (take m xs)

-- the step of a product of two counts
product_step : (l h x y : ℕ) → x * y ≡ 0 → 1 * (l * h) + (1 * x * h + 1 * y * l) ≡ 1 * ((l + x) * (h + y))
product_step l h x y z = omega arith

-- the same for an atom with itself, which occurs at most once
twice_step : (u l h x y : ℕ) → h + x ≤ 1 → 0 * (l * h) + (u * x * h + 0 * y * l) ≡ 0 * ((l + x) * (h + y))
twice_step u l h zero y one = omega arith
twice_step u l zero (suc x) y one = omega arith
twice_step u l (suc h) (suc x) y one = absurd (omega arith)

-- a pair lo < hi occurs among the pairs of the first m atoms as often as the product of the counts of lo and hi; no other
-- pair occurs, if an atom occurs at most once
pub times_among : (lo hi : ℕ) (xs : List ℕ) (m : ℕ) → m ≤ length xs → (lo ≡ hi → count lo (take m xs) ≤ 1)
    → times (lo, hi) (pairs_among xs m) ≡ other_way lo hi * (count lo (take m xs) * count hi (take m xs))
times_among lo hi xs zero h one = ap (times (lo, hi)) (among_none xs) ∙ omega arith
times_among lo hi xs (suc m) h one =
    let x = same lo (get_or xs m 0) in
    let y = same hi (get_or xs m 0) in
    let low = count_suc lo xs m h in
    let a = count lo (take m xs) in
    let b = count hi (take m xs) in
    let rest = times_among lo hi xs m (omega arith) (λ e. omega (arith, low, one e)) in
    rw (times_among_suc lo hi xs m, low, count_suc hi xs m h, rest)
    (⊎_elim
    (λ lt. rw (le-leb lo hi (omega arith), lt-ltb lo hi lt) (product_step a b x y (not_both lo (get_or xs m 0) hi (get_or xs m 0) (λ e f. omega arith))))
    (λ le. rw (le-ltb lo hi le)
    (⊎_elim (λ e. twice_step (one_way lo hi) a b x y (omega (arith, low, one e, ap (λ k. count k (take m xs)) e))) (λ ne. rw (lt-leb lo hi (omega arith)) (omega arith)) (cases_eq lo hi)))
    (cases_lt lo hi))

-- the pairs of a tile of two cells
pub pairs_of_two : (members : List (List ℕ)) (c d : ℕ) → c ≢ d → pairs_in members (c, d) ≡ pairs_between (members_at members c) (members_at members d)
pairs_of_two members c d ne = rw (ne_eqb c d ne) refl
