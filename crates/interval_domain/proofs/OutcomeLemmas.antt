-- Members of intervals, and narrowing to a number.
use Rattle.std.proofs.Common.{◌≡◌, refl, arith, Bool, true, false, cond, if◌then◌else◌, Result, Ok, Err, ℤ, ◌≤ℤ◌, int_lt}
use Rattle.std.specs.Int.{int_max, int_min}
use Rattle.std.proofs.lemmas.Int.{ints}
use Rattle.fixed.specs.Arithmetic.{in_range, number_or_overflow}
use Rattle.fixed.specs.declared.faults.Fault.{Fault}
use Rattle.fixed.specs.declared.faults.Fault.TheVariants.{Overflow}
use Rattle.fixed.proofs.IntegerLaws.{in_range_between}
use Rattle.interval_domain.specs.declared.span.Span.{Span}
use Rattle.interval_domain.specs.Spans.{IsMember}

-- ---- members

-- the least member of a span is one
pub lo_member : (a : Span) → IsMember a.lo a
lo_member a = let o = a.ordered in record { at_least = omega (arith, ints); at_most = o }

-- the greatest member of a span is one
pub hi_member : (a : Span) → IsMember a.hi a
hi_member a = let o = a.ordered in record { at_least = o; at_most = omega (arith, ints) }

-- ---- narrowing: to a number if it is in range, or without a limit

-- a narrowing gives each number that it keeps as that number, keeps each number between two that it keeps, and has no
-- fault but overflow
pub record IsNarrowing (narrow : ℤ → Result ℤ Fault) : Type 0 where
  pub same : (z w : ℤ) → narrow z ≡ Ok w → z ≡ w
  pub between : (u z v p q : ℤ) → narrow u ≡ Ok p → narrow v ≡ Ok q → u ≤ℤ z → z ≤ℤ v → narrow z ≡ Ok z
  pub overflows : (z : ℤ) (fault : Fault) → narrow z ≡ Err fault → fault ≡ Overflow

same_if : (z w : ℤ) (fits : Bool) → (if fits then Ok z else Err Overflow) ≡ Ok w → z ≡ w
same_if z w true e = cc
same_if z w false e = absurd (cc)

-- an integer that narrows to a number is equal to this number
pub number_is : (z w : ℤ) → number_or_overflow z ≡ Ok w → z ≡ w
number_is z w e = same_if z w (in_range z) e

fits_if : (z w : ℤ) (fits : Bool) → (if fits then Ok z else Err Overflow) ≡ Ok w → fits ≡ true
fits_if z w true e = refl
fits_if z w false e = absurd (cc)

number_between : (u z v p q : ℤ) → number_or_overflow u ≡ Ok p → number_or_overflow v ≡ Ok q → u ≤ℤ z → z ≤ℤ v
    → number_or_overflow z ≡ Ok z
number_between u z v p q eu ev a b =
    let fits : in_range z ≡ true = in_range_between u z v (fits_if u p (in_range u) eu) (fits_if v q (in_range v) ev) a b in
    rw fits refl

faults_if : (z : ℤ) (fault : Fault) (fits : Bool) → (if fits then Ok z else Err Overflow) ≡ Err fault → fault ≡ Overflow
faults_if z fault true e = absurd (cc)
faults_if z fault false e = cc

-- a number or an overflow: numbers are kept, and all between two that are kept
pub number_narrows : IsNarrowing number_or_overflow
number_narrows = record { same = number_is; between = number_between; overflows = λ z fault e. faults_if z fault (in_range z) e }

-- narrowing without a limit: all numbers are kept
pub exact_narrows : IsNarrowing (λ z. Ok z)
exact_narrows = record { same = λ z w e. cc; between = λ u z v p q eu ev a b. refl; overflows = λ z fault e. absurd (cc) }

-- ---- the least and the greatest of two numbers

-- a property of two numbers is a property of their minimum
pub min_keeps : (P : ℤ → Type 0) (x y : ℤ) → P x → P y → P (int_min x y)
min_keeps P x y px py = elim (int_lt y x) as (λ b. P (cond b y x)) [ true ↦ py | false ↦ px ]

-- a property of two numbers is a property of their maximum
pub max_keeps : (P : ℤ → Type 0) (x y : ℤ) → P x → P y → P (int_max x y)
max_keeps P x y px py = elim (int_lt y x) as (λ b. P (cond b x y)) [ true ↦ px | false ↦ py ]
