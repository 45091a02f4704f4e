-- A list whose elements are replaced by lists, from the last to the first.
use Rattle.std.proofs.Common.{◌≡◌, ℕ, zero, suc, ◌+◌, ◌-◌, ◌<◌, ◌≤◌, List, [], ◌∷◌, ◌++◌, drop, length, take, slice_get, slice_index_or, slice_set, Some, refl, sym, ap, subst, ◌∙◌, arith}
use Rattle.std.specs.List.{flat_map}
use Rattle.std.proofs.lemmas.Option.{same_Some}

-- what a loop reads of a vector at an index
pub read_index : {A : Type 0} (xs : List A) (i : ℕ) (x : A) → x ≡ slice_index_or xs i x → i < length xs → slice_get xs i ≡ Some x
read_index [] i x e l = absurd (omega (arith, l))
read_index (y ∷ ys) zero x e l = ap Some (sym e)
read_index (y ∷ ys) (suc i) x e l = read_index ys i x e (omega (arith, l))

-- the element at an index
pub element_at : {A : Type 0} (xs : List A) (i : ℕ) → i < length xs → (x : A) × (slice_get xs i ≡ Some x)
element_at [] i below = absurd (omega arith)
element_at (x ∷ xs) zero below = (x, refl)
element_at (x ∷ xs) (suc i) below = element_at xs i (omega arith)

-- an element is replaced by a first one, and others are inserted after it
replaced : {A : Type 0} (xs others all : List A) (i : ℕ) (y : A) → i < length xs → all ≡ y ∷ others
    → take (suc i) (slice_set xs i y) ++ (others ++ drop (suc i) (slice_set xs i y)) ≡ take i xs ++ (all ++ drop (suc i) xs)
replaced [] others all i y below e = absurd (omega arith)
replaced (x ∷ xs) others all zero y below e = rw e refl
replaced (x ∷ xs) others all (suc i) y below e = ap (λ l. x ∷ l) (replaced xs others all i y (omega arith) e)

pub replaced_at : {A : Type 0} (f : A → List A) (xs others new : List A) (i : ℕ) (x y w : A) → i < length xs → x ≡ slice_index_or xs i x
    → slice_get xs i ≡ Some w → f x ≡ y ∷ others
    → new ≡ take (i + 1) (slice_set xs i y) ++ (others ++ drop (i + 1) (slice_set xs i y)) → new ≡ take i xs ++ (f w ++ drop (i + 1) xs)
replaced_at f xs others new i x y w below at its e en =
    let s : i + 1 ≡ suc i = omega arith in
    let same : x ≡ w = same_Some x w (sym (read_index xs i x at below) ∙ its) in
    en ∙ ap (λ n. take n (slice_set xs i y) ++ (others ++ drop n (slice_set xs i y))) s
    ∙ replaced xs others (f x) i y below e ∙ ap (λ v. take i xs ++ (f v ++ drop (suc i) xs)) same
    ∙ ap (λ n. take i xs ++ (f w ++ drop n xs)) (sym s)

-- the elements from an index on are replaced by lists
abbrev pub replaced_from : {A : Type 0} (f : A → List A) (xs : List A) (i : ℕ) → List A
replaced_from f xs i = take i xs ++ flat_map f (drop i xs)

pub some_before : {A : Type 0} (f : A → List A) (xs : List A) (i : ℕ) → i ≤ length xs → i ≤ length (replaced_from f xs i)
some_before f xs zero below = omega arith
some_before f [] (suc i) below = absurd (omega arith)
some_before f (x ∷ xs) (suc i) below = let rest = some_before f xs i (omega arith) in omega (arith, rest)

one_before : {A : Type 0} (f : A → List A) (xs : List A) (i : ℕ) (x : A) → i < length xs → slice_get (replaced_from f xs (suc i)) i ≡ Some x
    → take i (replaced_from f xs (suc i)) ++ (f x ++ drop (suc i) (replaced_from f xs (suc i))) ≡ replaced_from f xs i
one_before f [] i x below at = absurd (omega arith)
one_before f (y ∷ ys) zero x below at = let same : y ≡ x = same_Some y x at in rw same refl
one_before f (y ∷ ys) (suc i) x below at = ap (λ l. y ∷ l) (one_before f ys i x (omega arith) at)

-- one more element is replaced
pub one_more_replaced : {A : Type 0} (f : A → List A) (xs now new : List A) (i : ℕ) (x : A) → 0 < i → i ≤ length xs → now ≡ replaced_from f xs i
    → slice_get now (i - 1) ≡ Some x → new ≡ take (i - 1) now ++ (f x ++ drop ((i - 1) + 1) now) → new ≡ replaced_from f xs (i - 1)
one_more_replaced f xs now new zero x some below is at e = absurd (omega arith)
one_more_replaced f xs now new (suc i) x some below is at e =
    let p : suc i - 1 ≡ i = omega arith in
    let q : (suc i - 1) + 1 ≡ suc i = omega arith in
    let there : slice_get (replaced_from f xs (suc i)) i ≡ Some x =
    subst (λ l. slice_get l i ≡ Some x) is (subst (λ n. slice_get now n ≡ Some x) p at) in
    subst (λ n. new ≡ replaced_from f xs n) (sym p)
    (e ∙ ap (λ n. take n now ++ (f x ++ drop ((suc i - 1) + 1) now)) p
    ∙ ap (λ n. take i now ++ (f x ++ drop n now)) q
    ∙ ap (λ l. take i l ++ (f x ++ drop (suc i) l)) is ∙ one_before f xs i x (omega arith) there)
