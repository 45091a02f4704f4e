-- The exact force on each atom of a frame: the sum over all pairs of atoms, in unbounded integers.
use Rattle.std.specs.Prelude.{ℕ, zero, suc, ℤ, neg_ℤ, ◌+ℤ◌, ◌==◌, List, [], ◌∷◌, ◌++◌, map, Option, Some, None, is_some, unwrap_or, if◌then◌else◌}
use Rattle.std.specs.List.{list_all}
use Rattle.ring_box.specs.Forces.{no_force}
use Rattle.ring_box.specs.declared.vectors.Vector.{Vector}

abbrev pub plus : Vector ℤ → Vector ℤ → Vector ℤ
plus f g = record { x = f.x +ℤ g.x; y = f.y +ℤ g.y; z = f.z +ℤ g.z }

abbrev pub negative : Vector ℤ → Vector ℤ
negative f = record { x = neg_ℤ f.x; y = neg_ℤ f.y; z = neg_ℤ f.z }

-- a pair is two atoms, the lower index first

-- the pairs of the atom i with n atoms, which are j, j + 1, ..
unfoldable pub pairs_with : ℕ → ℕ → ℕ → List (ℕ × ℕ)
pairs_with i j zero = []
pairs_with i j (suc n) = (i, j) ∷ pairs_with i (suc j) n

-- the pairs of the n atoms from i on, ordered by the lower index, then by the higher
unfoldable pub pairs_from : ℕ → ℕ → List (ℕ × ℕ)
pairs_from i zero = []
pairs_from i (suc n) = pairs_with i (suc i) n ++ pairs_from (suc i) n

-- all pairs of n atoms
abbrev pub pairs_of : ℕ → List (ℕ × ℕ)
pairs_of n = pairs_from 0 n

-- the contribution of the pair p to the force on the atom a: f on the pair's lower atom, the negative of f on its
-- higher atom, and 0 on any other atom
abbrev pub share_of : ℕ × ℕ → Vector ℤ → ℕ → Vector ℤ
share_of p f a = if p.0 == a then f else if p.1 == a then negative f else no_force

-- the sum of the contributions of the pairs ps to the atom a; `force` gives each pair's force
unfoldable pub sum_of_shares : (ℕ × ℕ → Vector ℤ) → List (ℕ × ℕ) → ℕ → Vector ℤ
sum_of_shares force [] a = no_force
sum_of_shares force (p ∷ ps) a = plus (share_of p (force p) a) (sum_of_shares force ps a)

-- the n integers from i on
unfoldable pub numbers_from : ℕ → ℕ → List ℕ
numbers_from i zero = []
numbers_from i (suc n) = i ∷ numbers_from (suc i) n

-- the force of a pair, or 0 if the pair has no force
abbrev pub force_or_none : (ℕ × ℕ → Option (Vector ℤ)) → ℕ × ℕ → Vector ℤ
force_or_none force p = unwrap_or (force p) no_force

-- the force on each of n atoms; defined only if every pair has a force
abbrev pub forces_of : (ℕ × ℕ → Option (Vector ℤ)) → ℕ → Option (List (Vector ℤ))
forces_of force n =
    if list_all (λ p. is_some (force p)) (pairs_of n)
    then Some (map (sum_of_shares (force_or_none force) (pairs_of n)) (numbers_from 0 n))
    else None
