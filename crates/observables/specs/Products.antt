-- Products of factors.
use Rattle.std.specs.Prelude.{ℕ, ◌*◌, List, [], ◌∷◌}

-- the product of all factors
abbrev pub product_of : List ℕ → ℕ
product_of [] = 1
product_of (factor ∷ factors) = factor * product_of factors
