-- Bounds of exact roots, by the spread that the rule for roots adds to a rounded root.
use Rattle.std.proofs.Common.{◌≡◌, ℕ, zero, suc, ◌+◌, ◌-◌, ◌*◌, ◌/◌, ◌^◌, ◌<◌, ◌≤◌, ℤ, pos, negsuc, neg_ℤ, ◌-ℤ◌, ◌*ℤ◌, ◌≤ℤ◌, inl, inr, ⊎_elim, refl, sym, ap, subst, ◌∙◌, arith, ◌⊎◌, unsigned_abs}
use Rattle.std.specs.Int.{int_max}
use Rattle.std.proofs.lemmas.Bool.{cases_lt}
use Rattle.std.proofs.lemmas.Nat.{mul-le}
use Rattle.std.proofs.lemmas.Int.{ints, clamps}
use Rattle.fixed.specs.Arithmetic.{floor_over, one}
use Rattle.fixed.specs.Roots.{root}
use Rattle.fixed.proofs.RootLemmas.{root_is}
use Rattle.interval_domain.proofs.OutcomeLemmas.{min_keeps}
use Rattle.error_bounds.specs.Approximations.{Approximation, exact_range, scale}
use Rattle.interval_domain.specs.Ranges.{IsIn, Range, up_over}
use Rattle.error_bounds.specs.Rules.{least_root, root_spread}
use Rattle.error_bounds.proofs.IntegerProducts.{times_keeps}
use Rattle.error_bounds.proofs.RangeLaws.{up_above}
use Rattle.error_bounds.proofs.Tests.{at_most_through}

-- ---- roots: s and t bound two roots, and g their distance, from the distance p of their squares

-- the squares' distance is at most g g, or g times a sum that is at most the sum of the roots
abbrev pub IsEnough : (p g m t : ℕ) → Type 0
IsEnough p g m t = (p ≤ g * g) ⊎ (p ≤ (m + t) * g)

-- if s s is above z, then (s + g) (s + g) is at least z + p
root_below : (s g t m p z : ℕ) → z < s * s → m ≤ s → t * t ≤ z + p → IsEnough p g m t → z + p ≤ (s + g) * (s + g)
root_below s g t m p z above small known (inl square) = omega arith
root_below s g t m p z above small known (inr product) =
    ⊎_elim
    (λ (far : s + g < t).
    let d : ℕ = t - (s + g) in
    let there : t ≡ s + g + d = omega arith in
    let square = subst (λ x. x * x ≤ z + p) there known in
    let distance = subst (λ x. p ≤ (m + x) * g) there product in
    absurd (contradicted d (mul-le m g s g small (omega arith)) square distance (omega arith)))
    (λ (near : t ≤ s + g). omega (arith, mul-le (m + t) g (s + (s + g)) g (omega arith) (omega arith)))
    (cases_lt (s + g) t)
  where
    contradicted : (d : ℕ) → m * g ≤ s * g → (s + g + d) * (s + g + d) ≤ z + p → p ≤ (m + (s + g + d)) * g → 0 < d → ⊥
    contradicted d q k l some = omega (arith, mul-le 1 s d s some (omega arith), mul-le 1 d d d some (omega arith))

-- if s s is at most z, then (s - g) (s - g) is at most any upper bound of z - p
pub root_above : (d g t m p z l : ℕ) → (d + g) * (d + g) ≤ z → m ≤ d + g → t * t ≤ l → z ≤ l + p → IsEnough p g m t → d * d ≤ l
root_above d g t m p z l square small known there (inl enough) = omega arith
root_above d g t m p z l square small known there (inr enough) =
    ⊎_elim
    (λ (low : t < d). omega (arith, mul-le (m + t) g (d + g + d) g (omega arith) (omega arith)))
    (λ (high : d ≤ t). omega (arith, mul-le d d t t high high))
    (cases_lt t d)

-- an integer that is enough as a factor is a natural number
natural_factor : (n k : ℕ) (v : ℤ) → pos n ≤ℤ (v *ℤ pos (suc k)) → (g : ℕ) × (v ≡ pos g) × (n ≤ g * suc k)
natural_factor n k (pos g) h = (g, refl, omega (arith, ints))
natural_factor n k (negsuc g) h = absurd (omega (arith, ints))

-- the greater of 0 and an integer is a natural number
natural_part : (z : ℤ) → (n : ℕ) × (int_max (pos 0) z ≡ pos n)
natural_part (pos n) = (n, omega (arith, ints, clamps))
natural_part (negsuc n) = (0, omega (arith, ints, clamps))

-- ---- the rule's spread

-- the spread of roots whose squares differ by p, which is g
pub record IsSpread (bits p sum : ℕ) (spread : ℤ) (g : ℕ) : Type 0 where
  pub is : spread ≡ pos g
  pub enough : (p * scale bits ≤ g * g) ⊎ (p * 2 ^ bits ≤ g * sum)

-- the square of the next number is above the root's argument
above_root : (n : ℕ) → n < suc (root n) * suc (root n)
above_root n =
    ⊎_elim
    (λ (below : n < suc (root n) * suc (root n)). below)
    (λ (above : suc (root n) * suc (root n) ≤ n). absurd (omega (arith, (root_is n).greatest (suc (root n)) above)))
    (cases_lt n (suc (root n) * suc (root n)))

-- the root of a number is an upper bound of the roots of lesser numbers
next_root : (n : ℕ) → n ≤ suc (root n) * suc (root n)
next_root n = omega (arith, above_root n)

-- the spread is such a number
spread_is : (bits p sum : ℕ) → (g : ℕ) × IsSpread bits p sum (root_spread bits (pos p) sum) g
spread_is bits p zero = (suc (root (p * scale bits)), record { is = refl; enough = inl (next_root (p * scale bits)) })
spread_is bits p (suc sum) =
    let up = up_over (pos (p * 2 ^ bits)) (pos (suc sum)) in
    let above = up_above (pos (p * 2 ^ bits)) (pos (suc sum)) (omega (arith, ints)) in
    let factor = natural_factor (p * 2 ^ bits) sum up above in
    min_keeps (λ v. (g : ℕ) × IsSpread bits p (suc sum) v g) (pos (suc (root (p * scale bits)))) up
    (suc (root (p * scale bits)), record { is = refl; enough = inl (next_root (p * scale bits)) })
    (factor.0, record { is = factor.1; enough = inr factor.2 })

-- the same in error units
enough_units : (bits p q r g : ℕ) → (p * scale bits ≤ g * g) ⊎ (p * 2 ^ bits ≤ g * (q + r))
    → IsEnough (p * scale bits) g (256 * q) (256 * r)
enough_units bits p q r g (inl square) = inl square
enough_units bits p q r g (inr product) = inr (omega arith)

-- an exact root is at most the rounded root, one unit and the spread
root_high : (bits n m q r l p g : ℕ) → n * 2 ^ bits < suc m * suc m → q ≤ m → 256 * (r * r) ≤ l * 2 ^ bits → l ≤ 256 * n + p
    → IsEnough (p * scale bits) g (256 * q) (256 * r) → scale bits * (256 * n + p) ≤ (256 * suc m + g) * (256 * suc m + g)
root_high bits n m q r l p g above small known most enough =
    let scaled = mul-le l (2 ^ bits) (256 * n + p) (2 ^ bits) most (omega arith) in
    let square =
    root_below (256 * suc m) g (256 * r) (256 * q) (p * scale bits) (65536 * (n * 2 ^ bits)) (omega arith) (omega arith)
    (omega arith) enough in
    omega (arith, square)

-- and at least the rounded root less the spread
root_low : (bits n m q r l p g a : ℕ) → m * m ≤ n * 2 ^ bits → q ≤ m → 256 * (r * r) ≤ l * 2 ^ bits → l ≤ a → 256 * n ≤ a + p
    → IsEnough (p * scale bits) g (256 * q) (256 * r) → g < 256 * m → (256 * m - g) * (256 * m - g) ≤ scale bits * a
root_low bits n m q r l p g a square small known least apart enough some =
    let d : ℕ = 256 * m - g in
    let there : 256 * m ≡ d + g = omega arith in
    let scaled = mul-le l (2 ^ bits) a (2 ^ bits) least (omega arith) in
    let distance = mul-le (256 * n) (2 ^ bits) (a + p) (2 ^ bits) apart (omega arith) in
    let whole : 256 * m * (256 * m) ≤ 65536 * (n * 2 ^ bits) = omega arith in
    root_above d g (256 * r) (256 * q) (p * scale bits) (65536 * (n * 2 ^ bits)) (scale bits * a)
    (subst (λ (v : ℕ). v * v ≤ 65536 * (n * 2 ^ bits)) there whole) (omega arith) (omega arith) (omega arith) enough

-- the lower end isn't above 0, or its square is at most the argument's
root_low_end : (bits m g a : ℕ) (l : ℤ) → l ≡ pos a → (g < 256 * m → (256 * m - g) * (256 * m - g) ≤ scale bits * a)
    → ((pos (256 * m) -ℤ pos g) ≤ℤ pos 0) ⊎ (((pos (256 * m) -ℤ pos g) *ℤ (pos (256 * m) -ℤ pos g)) ≤ℤ (pos (scale bits) *ℤ l))
root_low_end bits m g a l is square =
    ⊎_elim
    (λ (some : g < 256 * m).
    let found = square some in
    let there : pos (256 * m - g) ≡ pos (256 * m) -ℤ pos g = omega (arith, ints) in
    let low : pos ((256 * m - g) * (256 * m - g)) ≤ℤ pos (scale bits * a) = omega (arith, ints) in
    let of_argument = subst (λ (v : ℤ). pos ((256 * m - g) * (256 * m - g)) ≤ℤ (pos (scale bits) *ℤ v)) (sym is) low in
    inr (subst (λ (v : ℤ). (v *ℤ v) ≤ℤ (pos (scale bits) *ℤ l)) there of_argument))
    (λ (none : 256 * m ≤ g). inl (omega (arith, ints)))
    (cases_lt g (256 * m))

-- the argument's upper end, times the scale, is at most the upper end's square
root_high_end : (bits n m g p : ℕ) (h : ℤ) → h ≤ℤ pos (256 * n + p) → scale bits * (256 * n + p) ≤ (256 * suc m + g) * (256 * suc m + g)
    → (pos (scale bits) *ℤ h) ≤ℤ (pos (256 * suc m + g) *ℤ pos (256 * suc m + g))
root_high_end bits n m g p h most square =
    let scaled : (pos (scale bits) *ℤ h) ≤ℤ pos (scale bits * (256 * n + p)) =
    times_keeps (pos (scale bits)) h (pos (256 * n + p)) (omega (arith, ints)) most in
    let found : pos (scale bits * (256 * n + p)) ≤ℤ pos ((256 * suc m + g) * (256 * suc m + g)) = omega (arith, ints) in
    at_most_through scaled found

-- the absolute value of an integer from 0 to m is at most m
small_absolute : (z : ℤ) (m : ℕ) → pos 0 ≤ℤ z → z ≤ℤ pos m → unsigned_abs z ≤ m
small_absolute (pos n) m p q = omega (arith, ints)
small_absolute (negsuc n) m p q = absurd (omega (arith, ints))

-- the square of the root of a share of 256
share_root : (n : ℕ) → 256 * (root (n / 256) * root (n / 256)) ≤ n
share_root n = omega (arith, (root_is (n / 256)).square_le)

-- the square of the least root is at most the least exact value
least_root_square : (bits m : ℕ) (p : Approximation) → int_max (pos 0) (exact_range p).low ≡ pos m
    → 256 * (least_root bits p * least_root bits p) ≤ m * 2 ^ bits
least_root_square bits m p e =
    let is : least_root bits p ≡ root (m * 2 ^ bits / 256) = ap (λ v. root (unsigned_abs (floor_over (v *ℤ one bits) 256))) e in
    subst (λ (v : ℕ). 256 * (v * v) ≤ m * 2 ^ bits) (sym is) (share_root (m * 2 ^ bits))

-- ---- the ends

-- the rule's bound of the excess of an exact root over the computed one
abbrev pub spread_below : ℕ → Approximation → Range → ℤ
spread_below bits p s = root_spread bits (int_max (pos 0) (neg_ℤ p.error.low)) (unsigned_abs s.low + least_root bits p)

-- the rule's bound of the excess of a computed root over the exact one
abbrev pub spread_above : ℕ → Approximation → Range → ℤ
spread_above bits p s = root_spread bits (int_max (pos 0) p.error.high) (unsigned_abs s.low + least_root bits p)

module _ (bits : ℕ) (p : Approximation) (s : Range) (n m : ℕ) (is : m ≡ root (n * 2 ^ bits)) (i : IsIn (pos n) p.computed) where
  -- the first makes an upper end whose square is at least the square of an exact root
  pub root_upper : p.error.low ≤ℤ p.error.high → pos 0 ≤ℤ s.low → s.low ≤ℤ pos m
      → (g : ℕ) × (spread_below bits p s ≡ pos g)
      × ((pos (scale bits) *ℤ (pos 256 *ℤ pos n -ℤ p.error.low)) ≤ℤ (pos (256 * suc m + g) *ℤ pos (256 * suc m + g)))
  root_upper order from small =
      let q = unsigned_abs s.low in
      let r = least_root bits p in
      let apart = natural_part (neg_ℤ p.error.low) in
      let known = natural_part (exact_range p).low in
      let spread = spread_is bits apart.0 (q + r) in
      let most : (pos 256 *ℤ pos n -ℤ p.error.low) ≤ℤ pos (256 * n + apart.0) = omega (arith, ints, clamps, apart.1) in
      let within : known.0 ≤ 256 * n + apart.0 = omega (arith, ints, clamps, known.1, apart.1, i.at_least) in
      let above : n * 2 ^ bits < suc m * suc m = subst (λ (v : ℕ). n * 2 ^ bits < suc v * suc v) (sym is) (above_root (n * 2 ^ bits)) in
      let enough = enough_units bits apart.0 q r spread.0 spread.1.enough in
      let known_root = least_root_square bits known.0 p known.1 in
      let square = root_high bits n m q r known.0 apart.0 spread.0 above (small_absolute s.low m from small) known_root within enough in (
        spread.0,
        ap (λ v. root_spread bits v (q + r)) apart.1 ∙ spread.1.is,
        root_high_end bits n m spread.0 apart.0 (pos 256 *ℤ pos n -ℤ p.error.low) most square,
      )

  -- the second makes a lower end that isn't above 0, or whose square is at most the square of an exact root
  pub root_lower : pos 0 ≤ℤ s.low → s.low ≤ℤ pos m
      → (g : ℕ) × (spread_above bits p s ≡ pos g)
      × (((pos (256 * m) -ℤ pos g) ≤ℤ pos 0)
      ⊎ (((pos (256 * m) -ℤ pos g) *ℤ (pos (256 * m) -ℤ pos g))
      ≤ℤ (pos (scale bits) *ℤ int_max (pos 0) (pos 256 *ℤ pos n -ℤ p.error.high))))
  root_lower from small =
      let q = unsigned_abs s.low in
      let r = least_root bits p in
      let argument : ℤ = pos 256 *ℤ pos n -ℤ p.error.high in
      let apart = natural_part p.error.high in
      let known = natural_part (exact_range p).low in
      let least = natural_part argument in
      let spread = spread_is bits apart.0 (q + r) in
      let within : known.0 ≤ least.0 = omega (arith, ints, clamps, known.1, least.1, i.at_least) in
      let near : 256 * n ≤ least.0 + apart.0 = omega (arith, ints, clamps, least.1, apart.1) in
      let below : m * m ≤ n * 2 ^ bits = subst (λ (v : ℕ). v * v ≤ n * 2 ^ bits) (sym is) (root_is (n * 2 ^ bits)).square_le in
      let enough = enough_units bits apart.0 q r spread.0 spread.1.enough in
      let known_root = least_root_square bits known.0 p known.1 in
      let less = small_absolute s.low m from small in
      let square = root_low bits n m q r known.0 apart.0 spread.0 least.0 below less known_root within near enough in (
        spread.0,
        ap (λ v. root_spread bits v (q + r)) apart.1 ∙ spread.1.is,
        root_low_end bits m spread.0 least.0 (int_max (pos 0) argument) least.1 square,
      )
