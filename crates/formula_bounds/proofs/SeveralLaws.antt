-- The walks that divided are none, or two or more.
use Rattle.std.proofs.Common.{◌≡◌, ℕ, ◌<◌, ◌≤◌, List, [], ◌∷◌, Option, Some, None, length, length-append, map, refl, arith}
use Rattle.std.specs.List.{flat_map}
use Rattle.std.proofs.lemmas.List.{length-map}
use Rattle.error_bounds.specs.Approximations.{Approximation}
use Rattle.formula_bounds.specs.declared.nodes.Node.{Node}
use Rattle.formula_bounds.specs.Entries.{Entry}
use Rattle.formula_bounds.specs.Nodes.{AllWalks, IsNotSingle, Walk, after_node_of, branches_in, divided, dividing, top_of}
use Rattle.formula_bounds.specs.Walks.{or_one, several}

-- ---- lists

-- lists of one element or more, for each element
at_least_as_long : {A B : Type 0} (f : A → List B) → ((x : A) → 0 < length (f x)) → (xs : List A) → length xs ≤ length (flat_map f xs)
at_least_as_long f some [] = omega arith
at_least_as_long f some (x ∷ xs) = omega (arith, some x, at_least_as_long f some xs, length-append (f x) (flat_map f xs))

pub flat_not_single : {A B : Type 0} (f : A → List B) → ((x : A) → 0 < length (f x)) → (xs : List A) → IsNotSingle xs
    → IsNotSingle (flat_map f xs)
flat_not_single f some [] n one = absurd (omega (arith, one))
flat_not_single f some (x ∷ []) n one = n refl
flat_not_single f some (x ∷ y ∷ ys) n one = absurd (omega (arith, one, at_least_as_long f some (x ∷ y ∷ ys)))

pub map_not_single : {A B : Type 0} (f : A → B) (xs : List A) → IsNotSingle xs → IsNotSingle (map f xs)
map_not_single f xs n one = n (omega (arith, one, length-map xs f))

-- ---- walks

-- a walk goes on as one or two
pub some_after : (bits : ℕ) (inputs : List Approximation) (n : Node) (w : Walk) → 0 < length (after_node_of bits inputs n w)
some_after bits inputs n w = of_branches (branches_in bits n w)
  where
    of_branches : (branches : Option (Entry × Entry)) → 0 < length (divided bits inputs n branches w)
    of_branches None = omega arith
    of_branches (Some (first, second)) = omega arith

-- the entries of the walks that divided are those of all walks, unless there is a single one
pub several_tops : (all : AllWalks) → IsNotSingle all.divided → map top_of all.divided ≡ several (map top_of (dividing all))
several_tops all n = of_walks all.divided n
  where
    of_walks : (walks : List Walk) → IsNotSingle walks → map top_of walks ≡ several (map top_of (or_one all.plain walks))
    of_walks [] n = refl
    of_walks (w ∷ []) n = absurd (n refl)
    of_walks (w ∷ v ∷ ws) n = refl
