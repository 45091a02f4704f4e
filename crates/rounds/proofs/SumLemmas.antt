-- Sums over lists, and over the numbers below a bound.
use Rattle.std.proofs.Common.{◌≡◌, ℕ, zero, suc, ◌+◌, ◌≤◌, List, [], ◌∷◌, length, get_or, sum_by, refl, sym, ap, ◌∙◌, arith}
use Rattle.std.proofs.lemmas.List.Sums.{sum_by-cons}

-- the sum of f over the numbers below n
abbrev pub below : (ℕ → ℕ) → ℕ → ℕ
below f zero = 0
below f (suc n) = below f n + f n

-- A sum over the numbers below n + 1 is the value at 0 plus the sum over the other numbers.
pub below_first : (g : ℕ → ℕ) (n : ℕ) → below g (suc n) ≡ g 0 + below (λ t. g (suc t)) n
below_first g zero = omega arith
below_first g (suc n) = let e : below g (suc n) ≡ g 0 + below (λ t. g (suc t)) n = below_first g n in omega arith

module _ {A : Type 0} where
  -- the sum over the tickets is the sum over the tiles that they draw
  pub below_tiles : (f : List A → ℕ) (tiles : List (List A)) (n : ℕ) → f [] ≡ 0 → length tiles ≤ n → below (λ t. f (get_or tiles t [])) n ≡ sum_by f tiles
  below_tiles f [] zero none le = refl
  below_tiles f [] (suc n) none le = let rest : below (λ t. f (get_or [] t [])) n ≡ 0 = below_tiles f [] n none (omega arith) in omega arith
  below_tiles f (x ∷ xs) zero none le = absurd (omega arith)
  below_tiles f (x ∷ xs) (suc n) none le =
      let rest : below (λ t. f (get_or xs t [])) n ≡ sum_by f xs = below_tiles f xs n none (omega arith) in
      let first : below (λ t. f (get_or (x ∷ xs) t [])) (suc n) ≡ f x + below (λ t. f (get_or xs t [])) n = below_first (λ t. f (get_or (x ∷ xs) t [])) n in
      first ∙ (ap (λ m. f x + m) rest ∙ sym (sum_by-cons f x xs))
