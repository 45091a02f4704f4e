-- Intervals of integers (type `Span`): their members, and the results of an operation on members, after R. E. Moore,
-- Interval Analysis (1966): the range of an operation over intervals.
use Rattle.std.specs.Prelude.{◌≡◌, ℤ, pos, ◌+ℤ◌, ◌-ℤ◌, ◌≤ℤ◌, ◌⊎◌, ◌↔◌, Result, Ok, Err}
use Rattle.fixed.specs.Arithmetic.{floor_over}
use Rattle.fixed.specs.declared.faults.Fault.{Fault}
use Rattle.fixed.specs.declared.faults.Fault.TheVariants.{ZeroDivisor, NegativeRoot}
use Rattle.interval_domain.specs.declared.span.Span.{Span}

-- x is one of the integers from lo to hi
pub record IsMember (x : ℤ) (s : Span) : Type 0 where
  pub at_least : s.lo ≤ℤ x
  pub at_most : x ≤ℤ s.hi

-- r is the result of the operation, a number or a fault, for some member of a
pub record IsOutcome (operation : ℤ → Result ℤ Fault) (a : Span) (r : Result ℤ Fault) : Type 0 where
  pub argument : ℤ
  pub member : IsMember argument a
  pub outcome : operation argument ≡ r

-- r is the result of an operation on two numbers, a number or a fault, for some member of a and some member of b
pub record IsOutcomeOfTwo (operation : ℤ → ℤ → Result ℤ Fault) (a b : Span) (r : Result ℤ Fault) : Type 0 where
  pub first : ℤ
  pub second : ℤ
  pub first_member : IsMember first a
  pub second_member : IsMember second b
  pub outcome : operation first second ≡ r

-- s is the smallest interval that contains all outcomes: each outcome is a number in s, so none is a fault, and both
-- ends of s are outcomes
pub record IsLeastSpan (Outcome : Result ℤ Fault → Type 0) (s : Span) : Type 0 where
  pub holds : (r : Result ℤ Fault) → Outcome r → (z : ℤ) × (r ≡ Ok z) × IsMember z s
  pub low : Outcome (Ok s.lo)
  pub high : Outcome (Ok s.hi)

-- some outcome is this fault
abbrev pub MayFault : (Result ℤ Fault → Type 0) → Fault → Type 0
MayFault Outcome fault = Outcome (Err fault)

-- some outcome is this fault; a zero divisor or a negative root takes precedence over an overflow
pub record IsCause (Outcome : Result ℤ Fault → Type 0) (fault : Fault) : Type 0 where
  pub may : MayFault Outcome fault
  pub zero : MayFault Outcome ZeroDivisor → fault ≡ ZeroDivisor
  pub negative : MayFault Outcome NegativeRoot → fault ≡ NegativeRoot

-- each member of s is a member of t
pub record IsWithin (s t : Span) : Type 0 where
  pub members : (x : ℤ) → IsMember x s → IsMember x t

-- s is the smallest interval that contains both a and b
pub record IsHull (a b s : Span) : Type 0 where
  pub first : IsWithin a s
  pub second : IsWithin b s
  pub least : (t : Span) → IsWithin a t → IsWithin b t → IsWithin s t

-- lower is the half of s from its least member to its middle, rounded down; upper is the half from the next number on
pub record AreHalves (s lower upper : Span) : Type 0 where
  pub from : lower.lo ≡ s.lo
  pub middle : lower.hi ≡ (s.lo +ℤ floor_over (s.hi -ℤ s.lo) 2)
  pub next : upper.lo ≡ (lower.hi +ℤ pos 1)
  pub to : upper.hi ≡ s.hi

-- the members of s are exactly the members of lower and the members of upper
pub record ArePartsOf (s lower upper : Span) : Type 0 where
  pub members : (x : ℤ) → IsMember x s ↔ (IsMember x lower ⊎ IsMember x upper)
