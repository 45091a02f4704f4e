-- Sums of integers: over a list in parts, and bounds on sums.
use Rattle.std.proofs.Common.{◌≡◌, ℕ, ◌+◌, ◌<◌, ◌≤◌, List, [], ◌∷◌, ◌++◌, length, take, get_or, sum_by, ℤ, ◌+ℤ◌, arith, ap, ◌∙◌, unsigned_abs}
use Rattle.std.proofs.lemmas.Grind.{take_at_read}
use Rattle.std.proofs.lemmas.Int.{ints}
use Rattle.std.proofs.lemmas.List.Sums.{sum_by-cons}
use Rattle.frame_sums.specs.Sums.{sum_over}

module _ {X : Type 0} (f : X → ℤ) where
  pub over_append : (xs ys : List X) → sum_over f (xs ++ ys) ≡ sum_over f xs +ℤ sum_over f ys
  over_append [] ys = omega (arith, ints)
  over_append (x ∷ xs) ys = omega (arith, ints, over_append xs ys)

  -- a sum so far with the next element
  pub over_next : (xs : List X) (i : ℕ) (d : X) (sum v new : ℤ) → i < length xs → sum ≡ sum_over f (take i xs) → v ≡ f (get_or xs i d) → new ≡ sum +ℤ v → new ≡ sum_over f (take (i + 1) xs)
  over_next xs i d sum v new lt before is added =
      let more : sum_over f (take (i + 1) xs) ≡ sum_over f (take i xs) +ℤ sum_over f (get_or xs i d ∷ []) =
      ap (sum_over f) (take_at_read xs i d lt).1 ∙ over_append (take i xs) (get_or xs i d ∷ []) in
      omega (arith, ints)

  -- the magnitude of a sum is at most the sum of the magnitudes
  pub over_within : (xs : List X) → unsigned_abs (sum_over f xs) ≤ sum_by (λ x. unsigned_abs (f x)) xs
  over_within [] = omega (arith, ints)
  over_within (x ∷ xs) = omega (arith, ints, over_within xs, sum_by-cons (λ y. unsigned_abs (f y)) x xs)
