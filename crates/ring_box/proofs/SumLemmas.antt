-- Lengths of sums of two lines: Minkowski's inequality for three natural numbers.
use Rattle.std.proofs.Common.{◌≡◌, ℕ, ◌+◌, ◌-◌, ◌*◌, ◌<◌, ◌≤◌, inl, inr, arith}
use Rattle.std.proofs.lemmas.Bool.{cases_lt}
use Rattle.std.proofs.lemmas.Nat.{mul-le}

ordered : (u d : ℕ) → 2 * (u * (u + d)) ≤ u * u + (u + d) * (u + d)
ordered u d = omega arith

-- twice a product is at most the sum of the squares
two_products : (u v : ℕ) → 2 * (u * v) ≤ u * u + v * v
two_products u v = elim (cases_lt u v) [
  | inl l ↦ let e : u + (v - u) ≡ v = omega arith in let h = rw e at (ordered u (v - u)) in omega (arith, h)
  | inr g ↦ let e : v + (u - v) ≡ u = omega arith in let h = rw e at (ordered v (u - v)) in omega (arith, h)
]

dots : (a b c x y z : ℕ) → (a * x + b * y + c * z) * (a * x + b * y + c * z) ≤ (a * a + b * b + c * c) * (x * x + y * y + z * z)
dots a b c x y z = omega (arith, two_products (a * y) (b * x), two_products (a * z) (c * x), two_products (b * z) (c * y))

root_le : (x y : ℕ) → x * x ≤ y * y → x ≤ y
root_le x y h = elim (cases_lt y x) [
  | inl l ↦ let m = mul-le (y + 1) (y + 1) x x (omega arith) (omega arith) in absurd (omega (arith, m, h))
  | inr g ↦ omega arith
]

-- the product of two lines is at most that of their lengths
cauchy : (a b c x y z A B : ℕ) → a * a + b * b + c * c ≤ A * A → x * x + y * y + z * z ≤ B * B → a * x + b * y + c * z ≤ A * B
cauchy a b c x y z A B h k =
    let m = mul-le (a * a + b * b + c * c) (x * x + y * y + z * z) (A * A) (B * B) h k in
    root_le (a * x + b * y + c * z) (A * B) (omega (arith, dots a b c x y z, m))

-- a sum of two lines is shorter than both, if one of them is shorter than its bound
pub shorter : (a b c x y z A B : ℕ) → a * a + b * b + c * c < A * A → x * x + y * y + z * z ≤ B * B
    → (a + x) * (a + x) + (b + y) * (b + y) + (c + z) * (c + z) < (A + B) * (A + B)
shorter a b c x y z A B h k = omega (arith, h, k, cauchy a b c x y z A B (omega (arith, h)) k)
