-- Forces accumulated pair by pair. `Forces` of the model defines the sums that result.
use Rattle.std.specs.Prelude.{ℕ, ℤ, List, [], ◌∷◌, Option, Some, None, Result, Ok, Err, slice_index_or, slice_set}
use Rattle.ring_box.specs.Forces.{no_force}
use Rattle.ring_box.specs.declared.vectors.Vector.{Vector}
use Rattle.integrator.specs.Forces.{negative, plus}

-- the sums after adding the force v to the atom a
abbrev pub with_force : List (Vector ℤ) → ℕ → Vector ℤ → List (Vector ℤ)
with_force sums a v = slice_set sums a (plus (slice_index_or sums a no_force) v)

-- the sums after the force v of a pair: v is added to its lower atom, the negative of v to its higher atom
abbrev pub with_pair : List (Vector ℤ) → ℕ × ℕ → Vector ℤ → List (Vector ℤ)
with_pair sums p v = with_force (with_force sums p.0 v) p.1 (negative v)

-- `f` of the pair's force, or the pair itself as the error if it has no force
abbrev pub on_force : {X : Type 0} → ℕ × ℕ → Option (Vector ℤ) → (Vector ℤ → Result X (ℕ × ℕ)) → Result X (ℕ × ℕ)
on_force p None f = Err p
on_force p (Some v) f = f v

-- the sums after all pairs in order, or the first pair without a force
unfoldable pub with_pairs : (ℕ × ℕ → Option (Vector ℤ)) → List (Vector ℤ) → List (ℕ × ℕ) → Result (List (Vector ℤ)) (ℕ × ℕ)
with_pairs force sums [] = Ok sums
with_pairs force sums (p ∷ ps) = on_force p (force p) (λ v. with_pairs force (with_pair sums p v) ps)
