-- A list made from the numbers in order.
use Rattle.std.proofs.Common.{◌≡◌, ℕ, zero, suc, ◌+◌, ◌<◌, List, length, get_or, arith, refl, ap, sym, ◌∙◌, zero-add, map, ext_get_or}
use Rattle.integrator.specs.Forces.{numbers_from}

-- the list made from n numbers has n items
pub length-numbers : {X : Type 0} → (f : ℕ → X) (i n : ℕ) → length (map f (numbers_from i n)) ≡ n
unfolding numbers_from
length-numbers f i zero = refl
length-numbers f i (suc n) = ap suc (length-numbers f (suc i) n)

-- the item at the index a is made from the number i + a
pub at_number : {X : Type 0} → (f : ℕ → X) (d : X) (i n a : ℕ) → a < n → get_or (map f (numbers_from i n)) a d ≡ f (i + a)
unfolding numbers_from
at_number f d i zero a h = absurd (omega arith)
at_number f d i (suc n) zero h = ap f (omega arith)
at_number f d i (suc n) (suc a) h = at_number f d (suc i) n a (omega arith) ∙ ap f (omega arith)

-- if the numbers begin at 0, the item at the index a is made from a
pub number_at : {X : Type 0} → (f : ℕ → X) (d : X) (n a : ℕ) → a < n → get_or (map f (numbers_from 0 n)) a d ≡ f a
number_at f d n a h = at_number f d 0 n a h ∙ ap f (zero-add a)

-- if each item of a list is made from its index, the list is made from the numbers 0 to n - 1
pub made_of_numbers : {X : Type 0} → (f : ℕ → X) (d : X) (n : ℕ) (xs : List X) → length xs ≡ n → ((a : ℕ) → a < n → get_or xs a d ≡ f a) → xs ≡ map f (numbers_from 0 n)
made_of_numbers f d n xs size each =
    ext_get_or d xs (map f (numbers_from 0 n)) (size ∙ sym (length-numbers f 0 n)) (λ a h.
    let l : a < n = omega arith in
    each a l ∙ sym (number_at f d n a l))
