-- Properties of each element of a list, sums over lists, and sums over numbers that a list has once each.
use Rattle.std.proofs.Common.{◌≡◌, ℕ, zero, suc, ◌+◌, ◌*◌, ◌<◌, ◌≤◌, ◌≢◌, cond, nat_lt, List, [], ◌∷◌, ◌++◌, length, take, drop, set, sum_by, refl, sym, ap, subst, ◌∙◌, ⊎_elim, arith, add-mul, one-mul, flat_map}
use Rattle.std.proofs.lemmas.Bool.Decides.{nat_tests}
use Rattle.std.proofs.lemmas.Bool.{cases_lt, cases_eq}
use Rattle.std.proofs.lemmas.List.Sums.{sum_by-cons, sum_by-append}
use mathlib.Core.Option.{some, some-injective, some-ne-none}
use lib.ListN.{get_elem?}
use Rattle.rounds.proofs.SumLemmas.{below}
use Rattle.rounds.specs.Workers.{Each, AllButLast, Ascends}
use Rattle.rounds.specs.Rule.{same, count, once_below}

module _ {A : Type 0} where
  -- A write changes a sum by the new element's value less the old element's value.
  pub sum_at : (g : A → ℕ) (xs : List A) (i : ℕ) (x y : A) → get_elem? xs i ≡ some x → sum_by g (set xs i y) + g x ≡ sum_by g xs + g y
  sum_at g [] i x y at = absurd (some-ne-none x (sym at))
  sum_at g (z ∷ zs) zero x y at =
      let same : g z ≡ g x = ap g (some-injective z x at) in
      omega (arith, sum_by-cons g y zs, sum_by-cons g z zs)
  sum_at g (z ∷ zs) (suc i) x y at =
      let rest : sum_by g (set zs i y) + g x ≡ sum_by g zs + g y = sum_at g zs i x y at in
      omega (arith, sum_by-cons g z (set zs i y), sum_by-cons g z zs)

  -- if f x is at most g x for each x with a property that all elements have, the sum of f is at most the sum of g
  pub sum_le_each : (P : A → Type 0) (f g : A → ℕ) (xs : List A) → ((x : A) → P x → f x ≤ g x) → Each P xs → sum_by f xs ≤ sum_by g xs
  sum_le_each P f g [] le h = omega arith
  sum_le_each P f g (x ∷ xs) le h = omega (arith, sum_by-cons f x xs, sum_by-cons g x xs, sum_le_each P f g xs le h.1, le x h.0)

  -- one for each element sums to the length
  pub sum_of_ones : (xs : List A) → sum_by (λ _. 1) xs ≡ length xs
  sum_of_ones [] = refl
  sum_of_ones (x ∷ xs) = omega (arith, sum_of_ones xs, sum_by-cons (λ (_ : A). 1) x xs)

  -- a property that follows from another holds of each element of which the other holds
  pub each_of : (P Q : A → Type 0) (xs : List A) → ((x : A) → P x → Q x) → Each P xs → Each Q xs
  each_of P Q [] f h = tt
  each_of P Q (x ∷ xs) f h = (f x h.0, each_of P Q xs f h.1)

  -- a property of each element of two lists is one of each element of the lists in a row
  pub each_append : (P : A → Type 0) (xs ys : List A) → Each P xs → Each P ys → Each P (xs ++ ys)
  each_append P [] ys h k = k
  each_append P (x ∷ xs) ys h k = (h.0, each_append P xs ys h.1 k)

  -- a property of each element is one of the last
  pub each_last : (P : A → Type 0) (xs : List A) (x : A) → Each P (xs ++ x ∷ []) → P x
  each_last P [] x h = h.0
  each_last P (y ∷ ys) x h = each_last P ys x h.1

  -- a property of each element is one of the first
  pub each_first : (P : A → Type 0) (xs : List A) → Each P xs → Each P (take 1 xs)
  each_first P [] h = tt
  each_first P (x ∷ xs) h = (h.0, tt)

  -- A property of each element is a property of each element after the first.
  pub each_rest : (P : A → Type 0) (xs : List A) → Each P xs → Each P (drop 1 xs)
  each_rest P [] h = tt
  each_rest P (x ∷ xs) h = h.1

  -- A property of each element is a property of the element at any position.
  pub each_at : (P : A → Type 0) (xs : List A) (i : ℕ) (x : A) → Each P xs → get_elem? xs i ≡ some x → P x
  each_at P [] i x h at = absurd (some-ne-none x (sym at))
  each_at P (y ∷ ys) zero x h at = subst P (some-injective y x at) h.0
  each_at P (y ∷ ys) (suc i) x h at = each_at P ys i x h.1 at

  -- a property of each element, and of one that is written, is one of each after the write
  pub each_set : (P : A → Type 0) (xs : List A) (i : ℕ) (x : A) → Each P xs → P x → Each P (set xs i x)
  each_set P [] i x h new = tt
  each_set P (y ∷ ys) zero x h new = (new, h.1)
  each_set P (y ∷ ys) (suc i) x h new = (h.0, each_set P ys i x h.1 new)

  -- If all elements have a property, all but the last have it after a push.
  pub earlier_push : (P : A → Type 0) (xs : List A) (x : A) → Each P xs → AllButLast P (xs ++ x ∷ [])
  earlier_push P [] x h = tt
  earlier_push P (y ∷ []) x h = (h.0, tt)
  earlier_push P (y ∷ z ∷ zs) x h = (h.0, earlier_push P (z ∷ zs) x h.1)

-- the sum over lists in a row is the sum of the sums
pub sum_flat_map : {A B : Type 0} (g : B → ℕ) (f : A → List B) (xs : List A) → sum_by g (flat_map f xs) ≡ sum_by (λ x. sum_by g (f x)) xs
sum_flat_map g f [] = refl
sum_flat_map g f (x ∷ xs) =
    let rest : sum_by g (flat_map f xs) ≡ sum_by (λ x. sum_by g (f x)) xs = sum_flat_map g f xs in
    sum_by-append g (f x) (flat_map f xs) ∙ (ap (λ n. sum_by g (f x) + n) rest ∙ sym (sum_by-cons (λ x. sum_by g (f x)) x xs))

-- 1 if x is not below n, otherwise 0
abbrev pub past : ℕ → ℕ → ℕ
past n x = cond (nat_lt x n) 0 1

-- a number below n is not past it
pub past_below : (n x : ℕ) → x < n → past n x ≡ 0
past_below n x h = grind (arith, nat_tests)

-- a number from n on is past it
pub past_past : (n x : ℕ) → n ≤ x → past n x ≡ 1
past_past n x h = grind (arith, nat_tests)

-- each number is past n once at most
pub past_le : (n x : ℕ) → past n x ≤ 1
past_le n x = ⊎_elim (λ lt. let e = past_below n x lt in omega arith) (λ le. let e = past_past n x le in omega arith) (cases_lt x n)

-- up to n no number is past n
pub below_none : (n m : ℕ) → m ≤ n → below (past n) m ≡ 0
below_none n zero h = refl
below_none n (suc m) h = let e = below_none n m (omega arith) in let p = past_below n m (omega arith) in omega arith

-- of the numbers below m at most n are not past n
pub below_past : (n m : ℕ) → m ≤ n + below (past n) m
below_past n zero = omega arith
below_past n (suc m) = let e = below_past n m in ⊎_elim (λ lt. omega arith) (λ le. let p = past_past n m le in omega arith) (cases_lt m n)

-- one for each number below n sums to n
pub below_ones : (n : ℕ) → below (λ _. 1) n ≡ n
below_ones zero = refl
below_ones (suc n) = let e : below (λ _. 1) n ≡ n = below_ones n in omega arith

-- If no number of a list is past n, each is below n.
pub all_below : (n : ℕ) (ts : List ℕ) → sum_by (past n) ts ≡ 0 → Each (λ t. t < n) ts
all_below n [] e = tt
all_below n (t ∷ ts) e =
    let c = sum_by-cons (past n) t ts in
    (⊎_elim (λ lt. lt) (λ le. let p = past_past n t le in absurd (omega arith)) (cases_lt t n), all_below n ts (omega arith))

-- If each number of a list is below n, none is past n.
pub none_past : (n : ℕ) (ts : List ℕ) → Each (λ t. t < n) ts → sum_by (past n) ts ≡ 0
none_past n [] h = refl
none_past n (t ∷ ts) h = let e = none_past n ts h.1 in let p = past_below n t h.0 in omega (arith, sum_by-cons (past n) t ts)

-- If each number but the last is below n, at most one number is past n.
pub one_past : (n : ℕ) (ts : List ℕ) → AllButLast (λ t. t < n) ts → sum_by (past n) ts ≤ 1
one_past n [] h = omega arith
one_past n (t ∷ []) h = let p = past_le n t in omega (arith, sum_by-cons (past n) t [])
one_past n (t ∷ u ∷ us) h =
    let p = past_below n t h.0 in
    let e : sum_by (past n) (u ∷ us) ≤ 1 = one_past n (u ∷ us) h.1 in
    omega (arith, sum_by-cons (past n) t (u ∷ us))

-- an ascending list still ascends with one number more that is past all of it
pub ascends_push : (ts : List ℕ) (n : ℕ) → Ascends ts → Each (λ t. t < n) ts → Ascends (ts ++ n ∷ [])
ascends_push [] n a b = (tt, tt)
ascends_push (t ∷ ts) n a b = (each_append (λ u. t < u) ts (n ∷ []) a.0 (b.0, tt), ascends_push ts n a.1 b.1)

-- a number is the same as itself
pub same_here : (n x : ℕ) → x ≡ n → same n x ≡ 1
same_here n x e = grind (arith, nat_tests)

-- other numbers are not the same
pub same_else : (n x : ℕ) → x ≢ n → same n x ≡ 0
same_else n x ne = grind (arith, nat_tests)

once_here : (bound n : ℕ) → n < bound → once_below bound n ≡ 1
once_here bound n lt = grind (arith, nat_tests)

once_past : (bound n : ℕ) → bound ≤ n → once_below bound n ≡ 0
once_past bound n le = grind (arith, nat_tests)

-- each number is below the bound once at most
pub once_most : (bound n : ℕ) → once_below bound n ≤ 1
once_most bound n = ⊎_elim (λ lt. let e = once_here bound n lt in omega arith) (λ le. let e = once_past bound n le in omega arith) (cases_lt n bound)

-- one number more below the bound
pub once_more : (bound n : ℕ) → once_below (suc bound) n ≡ once_below bound n + same n bound
once_more bound n =
    ⊎_elim (λ lt. grind (arith, nat_tests)) (λ le. ⊎_elim (λ e. grind (arith, nat_tests)) (λ ne. grind (arith, nat_tests)) (cases_eq n bound)) (cases_lt n bound)

-- a list that has each number below the bound once, and no other, is summed by going over these numbers
module _ (f : ℕ → ℕ) where
  below_same : (g h : ℕ → ℕ) (n : ℕ) → ((t : ℕ) → t < n → g t ≡ h t) → below g n ≡ below h n
  below_same g h zero e = refl
  below_same g h (suc n) e = let i : below g n ≡ below h n = below_same g h n (λ t lt. e t (omega arith)) in let j = e n (omega arith) in omega arith

  below_nothing : (n : ℕ) → below (λ t. 0 * f t) n ≡ 0
  below_nothing zero = refl
  below_nothing (suc n) = let e : below (λ t. 0 * f t) n ≡ 0 = below_nothing n in omega arith

  either_way : (n x : ℕ) → same n x * f n ≡ same x n * f x
  either_way n x = ⊎_elim (λ e. rw e refl) (λ ne. rw (same_else n x ne, same_else x n (λ e. ne (sym e))) (omega arith)) (cases_eq x n)

  below_pick : (x n : ℕ) → below (λ t. same t x * f t) n ≡ once_below n x * f x
  below_pick x zero = rw (once_past 0 x (omega arith)) (omega arith)
  below_pick x (suc n) = rw (once_more n x) (omega (arith, below_pick x n, add-mul (once_below n x) (same x n) (f x), either_way n x))

  below_add : (g h : ℕ → ℕ) (n : ℕ) → below (λ t. (g t + h t) * f t) n ≡ below (λ t. g t * f t) n + below (λ t. h t * f t) n
  below_add g h zero = refl
  below_add g h (suc n) =
      let e : below (λ t. (g t + h t) * f t) n ≡ below (λ t. g t * f t) n + below (λ t. h t * f t) n = below_add g h n in
      let d : (g n + h n) * f n ≡ g n * f n + h n * f n = add-mul (g n) (h n) (f n) in
      omega arith

  summed_by_counts : (xs : List ℕ) (n : ℕ) → Each (λ x. x < n) xs → sum_by f xs ≡ below (λ t. count t xs * f t) n
  summed_by_counts [] n h = sym (below_nothing n)
  summed_by_counts (x ∷ xs) n h =
      let rest : sum_by f xs ≡ below (λ t. count t xs * f t) n = summed_by_counts xs n h.1 in
      let one : once_below n x ≡ 1 = once_here n x h.0 in
      let pick : below (λ t. same t x * f t) n ≡ f x = below_pick x n ∙ (ap (λ m. m * f x) one ∙ one-mul (f x)) in
      let both : below (λ t. (same t x + count t xs) * f t) n ≡ below (λ t. same t x * f t) n + below (λ t. count t xs * f t) n = below_add (λ t. same t x) (λ t. count t xs) n in
      let split : below (λ t. count t (x ∷ xs) * f t) n ≡ below (λ t. (same t x + count t xs) * f t) n =
      below_same (λ t. count t (x ∷ xs) * f t) (λ t. (same t x + count t xs) * f t) n (λ t lt. ap (λ m. m * f t) (sum_by-cons (same t) x xs)) in
      sum_by-cons f x xs ∙ (sym (omega arith) ∙ sym (split ∙ both))

-- If each t occurs in a list at most `once_below n t` times, each number of the list is below n.
counted_below : (n : ℕ) (xs : List ℕ) → ((t : ℕ) → count t xs ≤ once_below n t) → Each (λ x. x < n) xs
counted_below n [] h = tt
counted_below n (x ∷ xs) h =
    let most = h x in
    let here = same_here x x refl in
    let c = sum_by-cons (same x) x xs in (
      ⊎_elim (λ lt. lt) (λ le. let z = once_past n x le in absurd (omega arith)) (cases_lt x n),
      counted_below n xs (λ t. let m = h t in let d = sum_by-cons (same t) x xs in omega arith),
    )

-- If a list has each number below n once, and no other, a sum over the list is the sum over the numbers
-- below n.
pub summed : (xs : List ℕ) (n : ℕ) → ((t : ℕ) → count t xs ≡ once_below n t) → (f : ℕ → ℕ) → sum_by f xs ≡ below f n
summed xs n once f =
    summed_by_counts f xs n (counted_below n xs (λ t. let e = once t in omega arith))
    ∙ below_same f (λ t. count t xs * f t) f n (λ t lt. ap (λ m. m * f t) (once t ∙ once_here n t lt) ∙ one-mul (f t))
