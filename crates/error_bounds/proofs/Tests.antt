-- Tests for 0 and tests of order, of integers and of ranges.
use Rattle.std.proofs.Common.{◌≡◌, ℕ, zero, suc, ◌<◌, ℤ, pos, ◌≤ℤ◌, Bool, true, false, ◌&&◌, if◌then◌else◌, refl, arith}
use Rattle.std.proofs.lemmas.Bool.{and_parts, false_from_ne_true}
use Rattle.std.proofs.lemmas.Int.{ints}
use Rattle.fixed.specs.Arithmetic.{is_zero}
use Rattle.fixed.proofs.IntegerLaws.{zero_alone}
use Rattle.interval_domain.specs.Ranges.{IsIn, Range}

-- ---- integers

-- the order of integers is transitive
pub at_most_through : {a b c : ℤ} → a ≤ℤ b → b ≤ℤ c → a ≤ℤ c
at_most_through p q = omega (arith, ints)

-- an integer other than 0 isn't found to be 0
pub not_zero : (z : ℤ) → (z ≡ pos 0 → ⊥) → is_zero z ≡ false
not_zero z other = false_from_ne_true (is_zero z) (λ e. other (zero_alone z e))

-- a natural number other than 0 is above 0
pub above_zero : (n : ℕ) → (pos n ≡ pos 0 → ⊥) → 0 < n
above_zero zero other = absurd (other refl)
above_zero (suc n) other = omega arith

-- two tests that must both say no
pub no_twice : (s t : Bool) → (if s then false else if t then false else true) ≡ true → (s ≡ false) × (t ≡ false)
no_twice true t e = absurd (cc)
no_twice false true e = absurd (cc)
no_twice false false e = (refl, refl)

-- a choice between n and 0 is at least 0
pub choice_from_zero : (b : Bool) (n : ℕ) → pos 0 ≤ℤ (if b then pos n else pos 0)
choice_from_zero true n = omega (arith, ints)
choice_from_zero false n = omega (arith, ints)

-- and at most n
pub choice_within : (b : Bool) (n : ℕ) → (if b then pos n else pos 0) ≤ℤ pos n
choice_within true n = omega (arith, ints)
choice_within false n = omega (arith, ints)

-- ---- ranges

-- a member of a range from 0 to 0 is 0
pub only_zero_in : (x : Range) (z : ℤ) → IsIn z x → (is_zero x.low && is_zero x.high) ≡ true → z ≡ pos 0
only_zero_in x z i e =
    let both = and_parts (is_zero x.low) (is_zero x.high) e in
    let low = zero_alone x.low both.0 in
    let high = zero_alone x.high both.1 in
    omega (arith, ints, i.at_least, i.at_most)
