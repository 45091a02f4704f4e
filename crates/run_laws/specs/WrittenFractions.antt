-- Written fractions: the difference of two natural numbers over a positive one. So each law of the ring is an identity
-- of natural numbers, which the prover's own arithmetic closes.
use Rattle.std.specs.Prelude.{◌≡◌, ℕ, suc, ◌+◌, ◌-◌, ◌*◌, ◌/◌, ◌==◌, nat_lt, Bool, false, if◌then◌else◌, ℤ, pos, negsuc}
use Rattle.fixed.specs.Roots.{root}

-- (plus - minus) / (below + 1)
pub record Written : Type 0 where
  pub plus : ℕ
  pub minus : ℕ
  pub below : ℕ

-- two written fractions are equal if their cross products are
abbrev pub IsSame : Written → Written → Type 0
IsSame a b = a.plus * suc b.below + b.minus * suc a.below ≡ b.plus * suc a.below + a.minus * suc b.below

-- the denominator of a sum or product, less one
abbrev pub both_below : ℕ → ℕ → ℕ
both_below d e = d * e + d + e

abbrev pub sum_of : Written → Written → Written
sum_of a b = record {
  plus = a.plus * suc b.below + b.plus * suc a.below;
  minus = a.minus * suc b.below + b.minus * suc a.below;
  below = both_below a.below b.below;
}

abbrev pub negative_of : Written → Written
negative_of a = record { plus = a.minus; minus = a.plus; below = a.below }

abbrev pub product_of : Written → Written → Written
product_of a b = record {
  plus = a.plus * b.plus + a.minus * b.minus;
  minus = a.plus * b.minus + a.minus * b.plus;
  below = both_below a.below b.below;
}

-- the natural number n
abbrev pub natural : ℕ → Written
natural n = record { plus = n; minus = 0; below = 0 }

-- whether the fraction is 0, and whether it is negative
abbrev pub is_nothing : Written → Bool
is_nothing a = a.plus == a.minus

abbrev pub is_below_nothing : Written → Bool
is_below_nothing a = nat_lt a.plus a.minus

-- the reciprocal; 0 for 0
abbrev pub reciprocal_of : Written → Written
reciprocal_of a =
    if is_nothing a then natural 0
    else (if is_below_nothing a then record { plus = 0; minus = suc a.below; below = a.minus - a.plus - 1 }
    else record { plus = suc a.below; minus = 0; below = a.plus - a.minus - 1 })

-- n / d is n d / d^2: so a fraction that isn't negative is the square of a fraction exactly if n d is a square
abbrev pub over_square : Written → ℕ
over_square a = (a.plus - a.minus) * suc a.below

abbrev pub is_square : Written → Bool
is_square a = if is_below_nothing a then false else root (over_square a) * root (over_square a) == over_square a

-- the root of a square, which isn't negative; 0 for others
abbrev pub root_of : Written → Written
root_of a = if is_square a then record { plus = root (over_square a); minus = 0; below = a.below } else natural 0

-- the greatest integer that is at most the fraction
abbrev pub floor_of : Written → Written
floor_of a =
    if is_below_nothing a then record { plus = 0; minus = (a.minus - a.plus + a.below) / suc a.below; below = 0 }
    else natural ((a.plus - a.minus) / suc a.below)

-- the integer over d + 1
abbrev pub over : ℤ → ℕ → Written
over (pos n) d = record { plus = n; minus = 0; below = d }
over (negsuc n) d = record { plus = 0; minus = suc n; below = d }
