-- Slopes by accepted code.
use Rattle.std.proofs.Common.{◌≡◌, ℕ, ◌<◌, ◌≤◌, true, length, ℤ, Option, Some, None, refl, unsigned_abs, neg_ℤ, ◌≤ℤ◌, ◌<ℤ◌, le-leb, leb-true}
use Rattle.std.proofs.lemmas.Bool.{false≢true}
use Rattle.potential.specs.Magnitudes.{is_small}
use Rattle.potential.specs.Potentials.{minus, potential_of, slope_at}
use Rattle.potential.specs.declared.slope_kernels.SlopeKernel.{SlopeKernel}

-- a number, of at most this magnitude
pub record HasNumber (bound : ℕ) (o : Option ℤ) : Type 0 where
  pub v : ℤ
  pub has : o ≡ Some v
  pub small : unsigned_abs v ≤ bound

-- a small number is there
pub small_parts : (b : ℕ) (o : Option ℤ) → is_small b o ≡ true → HasNumber b o
small_parts b None h = absurd (false≢true h)
small_parts b (Some v) h = record { v = v; has = refl; small = leb-true (unsigned_abs v) b h }

-- a number that is there, and within the bound, is small
pub is_small_value : (b : ℕ) (o : Option ℤ) (v : ℤ) → o ≡ Some v → unsigned_abs v ≤ b → is_small b o ≡ true
is_small_value b o v e h = rw e (le-leb (unsigned_abs v) b h)

-- accepted code has a slope, within the verifier's bound
pub has_slope : {A : Type 0} (k : SlopeKernel A) (a b : ℕ) (r : ℤ) → a < length k.verified.table.rows → b < length k.verified.table.rows → k.verified.core ≤ℤ r → r <ℤ k.verified.cutoff
    → HasNumber k.verified.bound (slope_at (potential_of k) a b r)
has_slope k a b r first second low high = small_parts k.verified.bound (slope_at (potential_of k) a b r) (k.bounded a b r first second low high)

-- minus a slope that is there is minus its number
pub minus_is : (slope : Option ℤ) (v : ℤ) → slope ≡ Some v → neg_ℤ v ≡ minus slope
minus_is slope v e = rw e refl
