-- Sums over lists: of integers, of tensors, and of any values that have a zero and an addition; and minima of optional
-- numbers.
use Rattle.std.specs.Prelude.{ℕ, ℤ, pos, ◌+ℤ◌, List, [], ◌∷◌, Option, Some, None, min}
use Rattle.ring_box.specs.Axes.{by_axis, component_along}
use Rattle.ring_box.specs.declared.vectors.Vector.{Vector}

-- the sum over a list of values with this zero and this addition
abbrev pub total_over : {X S : Type 0} → S → (S → S → S) → (X → S) → List X → S
total_over zero plus f [] = zero
total_over zero plus f (x ∷ xs) = plus (f x) (total_over zero plus f xs)

-- the sum over a list of integers
abbrev pub sum_over : {X : Type 0} → (X → ℤ) → List X → ℤ
sum_over f [] = pos 0
sum_over f (x ∷ xs) = f x +ℤ sum_over f xs

-- the sum of tensors: a sum for each two axes
abbrev pub tensors_over : {X : Type 0} → (X → Vector (Vector ℤ)) → List X → Vector (Vector ℤ)
tensors_over f xs = by_axis (λ a. by_axis (λ b. sum_over (λ i. component_along b (component_along a (f i))) xs))

-- the lesser of two numbers, either of which may be missing
abbrev pub lesser : Option ℕ → Option ℕ → Option ℕ
lesser None other = other
lesser (Some a) None = Some a
lesser (Some a) (Some b) = Some (min a b)

-- the least over a list of optional numbers
abbrev pub least_over : {X : Type 0} → (X → Option ℕ) → List X → Option ℕ
least_over f [] = None
least_over f (x ∷ xs) = lesser (f x) (least_over f xs)
