-- Sums over lists that are made of others, sums over the numbers below a bound, and how often a number occurs in a
-- list.
use Rattle.std.proofs.Common.{◌≡◌, ℕ, zero, suc, ◌+◌, ◌<◌, ◌≢◌, Bool, true, false, cond, eqb, ltb, List, [], ◌∷◌, ◌++◌, length, map, filter, get_or, sum_by, count_by, refl, ap, ◌∙◌, arith, add-one, All, flat_map}
use Rattle.std.proofs.lemmas.Bool.Decides.{nat_tests}
use Rattle.std.proofs.lemmas.Grind.{common_steps}
use Rattle.std.proofs.lemmas.List.{length_push}
use Rattle.std.proofs.lemmas.List.Elements.{All-from_get_or, filter-append}
use Rattle.std.proofs.lemmas.List.Folds.{fold-map}
use Rattle.std.proofs.lemmas.List.Sums.{sum_by-cons, sum_by-append, sum_by_push}
use Rattle.cell_tiles.specs.Cells.{numbers_below}

-- ---- sums over lists

module _ {A : Type 0} where
  -- if the function is 0 at each element, the sum is 0
  pub sum_nothing : (f : A → ℕ) (xs : List A) → ((x : A) → f x ≡ 0) → sum_by f xs ≡ 0
  sum_nothing f [] h = refl
  sum_nothing f (x ∷ xs) h = omega (arith, sum_by-cons f x xs, sum_nothing f xs h, h x)

  -- the sum over the elements that pass is the sum over all, with 0 for an element that doesn't pass
  pub sum_filter : (f : A → ℕ) (p : A → Bool) (xs : List A) → sum_by f (filter p xs) ≡ sum_by (λ x. cond (p x) (f x) 0) xs
  sum_filter f p [] = refl
  sum_filter f p (x ∷ xs) =
      let rest : sum_by f (filter p xs) ≡ sum_by (λ x. cond (p x) (f x) 0) xs = sum_filter f p xs in
      let here : sum_by f (filter p (x ∷ xs)) ≡ cond (p x) (f x) 0 + sum_by f (filter p xs) = first (p x) in
      omega (arith, sum_by-cons (λ x. cond (p x) (f x) 0) x xs)
    where
      first : (b : Bool) → sum_by f (cond b (x ∷ filter p xs) (filter p xs)) ≡ cond b (f x) 0 + sum_by f (filter p xs)
      first true = sum_by-cons f x (filter p xs)
      first false = omega arith

  -- an amount that is 0 for the elements that don't pass has the same sum over those that do
  pub sum_passing : (f : A → ℕ) (p : A → Bool) (xs : List A) → ((x : A) → p x ≡ false → f x ≡ 0) → sum_by f (filter p xs) ≡ sum_by f xs
  sum_passing f p xs h = sum_filter f p xs ∙ (λ i. sum_by (λ x. each (p x) (f x) (h x) i) xs)
    where
      each : (b : Bool) (x : ℕ) → (b ≡ false → x ≡ 0) → cond b x 0 ≡ x
      each b x k = grind arith

-- filtering a list of one number keeps the number if the test is true
pub one_filtered : (p : ℕ → Bool) (n : ℕ) (b : Bool) → p n ≡ b → filter p (n ∷ []) ≡ cond b (n ∷ []) []
one_filtered p n b e = rw e refl

-- the sum over images is the sum of the function of the image
pub sum_map : {A B : Type 0} (f : B → ℕ) (g : A → B) (xs : List A) → sum_by f (map g xs) ≡ sum_by (λ x. f (g x)) xs
sum_map f g xs = fold-map (λ n x. n + f x) g 0 xs

-- the sum over lists in a row is the sum of their sums
pub sum_flat_map : {A B : Type 0} (g : B → ℕ) (f : A → List B) (xs : List A) → sum_by g (flat_map f xs) ≡ sum_by (λ x. sum_by g (f x)) xs
sum_flat_map g f [] = refl
sum_flat_map g f (x ∷ xs) = omega (arith, sum_by-append g (f x) (flat_map f xs), sum_by-cons (λ x. sum_by g (f x)) x xs, sum_flat_map g f xs)

-- ---- the numbers below a bound

-- the numbers below n + 1 are those below n, and n
pub below_suc : (n : ℕ) → numbers_below (suc n) ≡ numbers_below n ++ n ∷ []
unfolding numbers_below
below_suc n = refl

-- no number is below 0
pub below_zero : numbers_below 0 ≡ []
unfolding numbers_below
below_zero = refl

-- the same, as loops add one
pub below_more : (n : ℕ) → numbers_below (n + 1) ≡ numbers_below n ++ n ∷ []
below_more n = ap numbers_below (add-one n) ∙ below_suc n

-- those that pass of the numbers below n + 1 are those below n, and n if it passes
pub filter_suc : (p : ℕ → Bool) (n : ℕ) → filter p (numbers_below (suc n)) ≡ filter p (numbers_below n) ++ cond (p n) (n ∷ []) []
filter_suc p n = ap (filter p) (below_suc n) ∙ filter-append p (numbers_below n) (n ∷ [])

-- there are n numbers below n
pub length_below : (n : ℕ) → length (numbers_below n) ≡ n
length_below zero = ap length below_zero
length_below (suc n) = rw below_suc (omega (arith, length_push (numbers_below n) n, length_below n))

-- the number i is at index i of the numbers below n
pub get_below : (n i d : ℕ) → i < n → get_or (numbers_below n) i d ≡ i
get_below zero i d h = absurd (omega arith)
get_below (suc n) i d h = rw (below_suc n) (grind (arith, common_steps, length_below n, get_below n i d))

-- each number below n is below n
pub numbers_are_below : (n : ℕ) → All (λ c. c < n) (numbers_below n)
numbers_are_below n =
    All-from_get_or (λ c. c < n) (numbers_below n) 0 (λ i lt. let inside : i < n = omega (arith, length_below n) in rw (get_below n i 0 inside) inside)

-- functions that are equal below n have equal sums below n
pub sum_below_same : (f g : ℕ → ℕ) (n : ℕ) → ((c : ℕ) → c < n → f c ≡ g c) → sum_by f (numbers_below n) ≡ sum_by g (numbers_below n)
sum_below_same f g zero h = rw below_zero refl
sum_below_same f g (suc n) h =
    rw below_suc (omega (arith, sum_by_push f (numbers_below n) n, sum_by_push g (numbers_below n) n, h n (omega arith), sum_below_same f g n (λ c lt. h c (omega arith))))

-- ---- one of them

-- 1 if x equals y, otherwise 0
abbrev pub same : ℕ → ℕ → ℕ
same x y = cond (eqb x y) 1 0

-- `same` is 1 if the two are equal
pub same_here : (x y : ℕ) → x ≡ y → same x y ≡ 1
same_here x y e = grind (arith, nat_tests)

-- `same` is 0 if the two differ
pub same_else : (x y : ℕ) → x ≢ y → same x y ≡ 0
same_else x y ne = grind (arith, nat_tests)

-- the sum of a function that is 0 but at one number
pub sum_below_one : (f : ℕ → ℕ) (a n : ℕ) → ((c : ℕ) → c ≢ a → f c ≡ 0) → sum_by f (numbers_below n) ≡ cond (ltb a n) (f a) 0
sum_below_one f a zero h = rw below_zero (grind (arith, nat_tests))
sum_below_one f a (suc n) h =
    let rest = sum_below_one f a n h in
    let more = sum_by_push f (numbers_below n) n in
    let here = h n in
    rw below_suc (grind (arith, nat_tests))

-- ---- how often a number occurs in a list

-- the number of times that x occurs in the list
abbrev pub count : ℕ → List ℕ → ℕ
count x xs = count_by (eqb x) xs

-- appending y to a list adds `same x y` to the count of x
pub count_push : (x y : ℕ) (ys : List ℕ) → count x (ys ++ y ∷ []) ≡ count x ys + same x y
count_push x y ys = sum_by_push (same x) ys y
