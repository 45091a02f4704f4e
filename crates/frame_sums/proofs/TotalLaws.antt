-- Sums over lists of values with any zero and any addition: in parts, and over lists in which each interacting pair occurs
-- equally often.
use Rattle.std.proofs.Common.{◌≡◌, ℕ, ◌+◌, ◌<◌, ◌≤◌, Bool, false, List, [], ◌∷◌, ◌++◌, length, map, sum_by, ℤ, pos, ◌+ℤ◌, Option, Some, None, arith, refl, ap, ap₂, sym, ◌∙◌, option_map, flat_map}
use Rattle.std.proofs.lemmas.Int.{ints}
use Rattle.cell_tiles.proofs.PairLemmas.{same_pair}
use Rattle.cell_tiles.proofs.SumLemmas.{IsAddition, not_same, same_totals}
use Rattle.rounds.specs.Tiles.{acting}
use Rattle.integrator.proofs.ForceLaws.{ArePairsOf, pairs_parts}
use Rattle.frame_sums.specs.Sums.{sum_over, total_over}

-- the value of an element, or zero if there is no element
abbrev pub given : {X S : Type 0} → S → (X → S) → Option X → S
given zero f None = zero
given zero f (Some x) = f x

-- the value of an element's image
pub given_map : {X Y S : Type 0} (zero : S) (f : Y → S) (h : X → Y) (o : Option X) → given zero (λ x. f (h x)) o ≡ given zero f (option_map h o)
given_map zero f h None = refl
given_map zero f h (Some x) = refl

module _ {S : Type 0} (zero : S) (plus : S → S → S) (laws : IsAddition zero plus) where
  -- ---- in parts

  -- of two lists, one after the other
  pub total_append : {X : Type 0} (f : X → S) (xs ys : List X) → total_over zero plus f (xs ++ ys) ≡ plus (total_over zero plus f xs) (total_over zero plus f ys)
  total_append f [] ys = sym (laws.from_zero (total_over zero plus f ys))
  total_append f (x ∷ xs) ys =
      ap (plus (f x)) (total_append f xs ys) ∙ laws.joins (f x) (total_over zero plus f xs) (total_over zero plus f ys)

  -- of one element
  pub total_one : {X : Type 0} (f : X → S) (x : X) → total_over zero plus f (x ∷ []) ≡ f x
  total_one f x = laws.commutes (f x) zero ∙ laws.from_zero (f x)

  pub total_map : {X Y : Type 0} (f : X → S) (g : Y → X) (ys : List Y) → total_over zero plus f (map g ys) ≡ total_over zero plus (λ y. f (g y)) ys
  total_map f g [] = refl
  total_map f g (y ∷ ys) = ap (plus (f (g y))) (total_map f g ys)

  -- of lists, one after another
  total_lists : {X Y : Type 0} (f : X → S) (h : Y → List X) (ys : List Y) → total_over zero plus f (flat_map h ys) ≡ total_over zero plus (λ y. total_over zero plus f (h y)) ys
  total_lists f h [] = refl
  total_lists f h (y ∷ ys) = total_append f (h y) (flat_map h ys) ∙ ap (plus (total_over zero plus f (h y))) (total_lists f h ys)

  -- ---- of interacting elements

  head_total : {X : Type 0} (f : X → S) (o : Option X) (os : List (Option X)) → total_over zero plus f (acting (o ∷ os)) ≡ plus (given zero f o) (total_over zero plus f (acting os))
  head_total f None os = sym (laws.from_zero (total_over zero plus f (acting os)))
  head_total f (Some x) os = refl

  total_acting : {P X : Type 0} (f : X → S) (F : P → Option X) (ps : List P) → total_over zero plus f (acting (map F ps)) ≡ total_over zero plus (λ p. given zero f (F p)) ps
  total_acting f F [] = refl
  total_acting f F (p ∷ ps) = head_total f (F p) (map F ps) ∙ ap (plus (given zero f (F p))) (total_acting f F ps)

  -- the sum over the interacting elements of lists is the sum over the elements of all lists, with zero for the others
  pub total_found : {P X : Type 0} (f : X → S) (F : P → Option X) (lists : List (List P))
      → total_over zero plus f (flat_map (λ ps. acting (map F ps)) lists) ≡ total_over zero plus (λ p. given zero f (F p)) (flat_map (λ ps. ps) lists)
  total_found f F lists =
      total_lists f (λ ps. acting (map F ps)) lists
      ∙ ((λ i. total_over zero plus (λ ps. total_acting f F ps i) lists) ∙ sym (total_lists (λ p. given zero f (F p)) (λ ps. ps) lists))

  -- ---- of pairs

  -- if two functions agree on each pair of n atoms, their sums over pairs of n atoms are equal
  pub total_alike : (f g : ℕ × ℕ → S) (n : ℕ) → ((i j : ℕ) → i < j → j < n → f (i, j) ≡ g (i, j)) → (ps : List (ℕ × ℕ)) → ArePairsOf n ps → total_over zero plus f ps ≡ total_over zero plus g ps
  total_alike f g n same [] are = refl
  total_alike f g n same (p ∷ ps) are =
      let q = pairs_parts n p ps are in
      ap₂ plus (same p.0 p.1 q.0.apart q.0.below) (total_alike f g n same ps q.1)

  -- if each weighting that is 0 for pairs that don't interact has equal sums over two lists, their totals are equal
  pub one_total : (g : ℕ × ℕ → S) (acts : ℕ × ℕ → Bool) → ((p : ℕ × ℕ) → acts p ≡ false → g p ≡ zero) → (ps qs : List (ℕ × ℕ))
      → ((w : ℕ × ℕ → ℕ) → ((p : ℕ × ℕ) → acts p ≡ false → w p ≡ 0) → sum_by w ps ≡ sum_by w qs) → total_over zero plus g ps ≡ total_over zero plus g qs
  one_total g acts idle ps qs alike =
      same_totals zero plus laws acts g idle (total_over zero plus g) refl (λ q rest. refl) ps qs (λ p does. alike (same_pair p) (λ q not. not_same acts p q does not))

-- ---- of numbers

-- integers have a zero and an addition
pub integers : IsAddition (pos 0) (λ a b. a +ℤ b)
integers = record { joins = λ a b c. omega (arith, ints); commutes = λ a b. omega (arith, ints); from_zero = λ a. omega (arith, ints) }

-- the sum over a list of integers is a total
pub integer_total : {X : Type 0} (f : X → ℤ) (xs : List X) → sum_over f xs ≡ total_over (pos 0) (λ a b. a +ℤ b) f xs
integer_total f [] = refl
integer_total f (x ∷ xs) = ap (λ z. f x +ℤ z) (integer_total f xs)

-- one for each element adds up to the length
pub ones_total : {X : Type 0} (xs : List X) → total_over 0 (λ a b. a + b) (λ _. 1) xs ≡ length xs
ones_total [] = refl
ones_total (x ∷ xs) = omega (arith, ones_total xs)

-- one for each element that is there adds up to no more
pub some_total : {P X : Type 0} (F : P → Option X) (ps : List P) → total_over 0 (λ a b. a + b) (λ p. given 0 (λ _. 1) (F p)) ps ≤ length ps
some_total F [] = omega arith
some_total F (p ∷ ps) = let rest = some_total F ps in let one = at_most (F p) in omega arith
  where
    at_most : {X : Type 0} (o : Option X) → given {X = X} 0 (λ _. 1) o ≤ 1
    at_most None = omega arith
    at_most (Some x) = omega arith

-- no more interact than there are
pub few_act : {X : Type 0} (os : List (Option X)) → length (acting os) ≤ length os
few_act [] = omega arith
few_act (None ∷ os) = let rest : length (acting os) ≤ length os = few_act os in omega arith
few_act (Some x ∷ os) = let rest : length (acting os) ≤ length os = few_act os in omega arith
