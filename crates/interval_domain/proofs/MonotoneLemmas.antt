-- An operation that is monotone in each operand, or below 0 and above 0, has its extremes at the ends, and at 0.
use Rattle.std.proofs.Common.{◌≡◌, refl, subst, arith, Bool, true, false, Result, Ok, Err, IfOk, IfErr, ℤ, pos, ◌≤ℤ◌, inl, inr, ◌⊎◌, ◌<ℤ◌}
use Rattle.std.specs.Int.{int_max, int_min}
use Rattle.std.proofs.lemmas.Int.{by_lt_z, ints}
use Rattle.fixed.specs.declared.faults.Fault.{Fault}
use Rattle.fixed.specs.declared.faults.Fault.TheVariants.{Overflow, ZeroDivisor, NegativeRoot}
use Rattle.interval_domain.specs.declared.span.Span.{Span}
use Rattle.interval_domain.specs.Ranges.{IsIn, Range, around, around_results, at_corners, has_zero, turn_of}
use Rattle.interval_domain.specs.Spans.{IsCause, IsLeastSpan}
use Rattle.interval_domain.specs.Views.{result_range, span_range}
use Rattle.interval_domain.proofs.OutcomeLemmas.{IsNarrowing, max_keeps, min_keeps}
use Rattle.interval_domain.proofs.RangeLemmas.{greatest_at_least, least_at_most, on_one_side}

-- the operation has a result, which is in the range
abbrev pub Computes : Result ℤ Fault → Range → Type 0
Computes result x = (z : ℤ) × (result ≡ Ok z) × IsIn z x

-- ---- around four results

-- four results are in the range around them
around_computes : (p q r s : Result ℤ Fault) (x : Range) → around_results p q r s ≡ Ok x
    → Computes p x × Computes q x × Computes r x × Computes s x
around_computes (Err f) q r s x e = absurd (cc)
around_computes (Ok p) (Err f) r s x e = absurd (cc)
around_computes (Ok p) (Ok q) (Err f) s x e = absurd (cc)
around_computes (Ok p) (Ok q) (Ok r) (Err f) x e = absurd (cc)
around_computes (Ok p) (Ok q) (Ok r) (Ok s) x e =
    let same : around p q r s ≡ x = cc in
    let a = least_at_most p q r s in
    let b = greatest_at_least p q r s in
    subst (λ (t : Range). Computes (Ok p) t × Computes (Ok q) t × Computes (Ok r) t × Computes (Ok s) t) same (
      (p, refl, record { at_least = a.0; at_most = b.0 }),
      (q, refl, record { at_least = a.1; at_most = b.1 }),
      (r, refl, record { at_least = a.2; at_most = b.2 }),
      (s, refl, record { at_least = a.3; at_most = b.3 }),
    )

-- both ends, or the fault
abbrev pub Ends : (Result ℤ Fault → Type 0) → Result Range Fault → Type 0
Ends P (Ok x) = P (Ok x.low) × P (Ok x.high)
Ends P (Err fault) = P (Err fault)

-- a property of four results is one of the ends of the range around them, or of the fault
pub ends_around : (P : Result ℤ Fault → Type 0) (p q r s : Result ℤ Fault) → P p → P q → P r → P s → Ends P (around_results p q r s)
ends_around P (Err e) q r s hp hq hr hs = hp
ends_around P (Ok p) (Err e) r s hp hq hr hs = hq
ends_around P (Ok p) (Ok q) (Err e) s hp hq hr hs = hr
ends_around P (Ok p) (Ok q) (Ok r) (Err e) hp hq hr hs = hs
ends_around P (Ok p) (Ok q) (Ok r) (Ok s) hp hq hr hs =
    let Q : ℤ → Type 0 = λ z. P (Ok z) in (
      min_keeps Q (int_min p q) (int_min r s) (min_keeps Q p q hp hq) (min_keeps Q r s hr hs),
      max_keeps Q (int_max p q) (int_max r s) (max_keeps Q p q hp hq) (max_keeps Q r s hr hs),
    )

-- ---- least intervals

module _ (Outcome : Result ℤ Fault → Type 0) where
  -- an interval with all outcomes, whose ends are outcomes, is the least
  pub least_of_ends : (s : Result Span Fault) → ((x : Range) → result_range s ≡ Ok x → (r : Result ℤ Fault) → Outcome r → Computes r x)
      → Ends Outcome (result_range s) → IfOk s (IsLeastSpan Outcome)
  least_of_ends (Err e) all ends = tt
  least_of_ends (Ok s) all ends = record {
    holds = λ r o. let c = all (span_range s) refl r o in (c.0, c.1, record { at_least = c.2.at_least; at_most = c.2.at_most });
    low = ends.0;
    high = ends.1;
  }

  -- If each possible fault other than Overflow is `special`, and `s` is then Err special, an error in `s` that may occur
  -- is the cause that `IsCause` defines.
  pub cause_of_ends : (special : Fault) (s : Result Span Fault)
      → ((e : Fault) → Outcome (Err e) → (e ≡ Overflow) ⊎ ((e ≡ special) × (result_range s ≡ Err special)))
      → Ends Outcome (result_range s) → IfErr s (IsCause Outcome)
  cause_of_ends special (Ok s) only ends = tt
  cause_of_ends special (Err f) only ends = record {
    may = ends;
    zero = λ m. told ZeroDivisor m (λ e. absurd cc);
    negative = λ m. told NegativeRoot m (λ e. absurd cc);
  }
    where
      told : (e : Fault) → Outcome (Err e) → (e ≡ Overflow → ⊥) → f ≡ e
      told e m other = elim (only e m) [
        | inl w ↦ absurd (other w)
        | inr w ↦ cc (w.0, w.1)
      ]

-- ---- monotone operations

-- each range with the results of a and c has the result of b: so it is for a number b between a and c if f is monotone
abbrev pub Passes : (ℤ → Result ℤ Fault) → (a b c : ℤ) → Type 0
Passes f a b c = (r : Range) → Computes (f a) r → Computes (f c) r → Computes (f b) r

-- v is between u and w
abbrev pub IsBetween : (u v w : ℤ) → Type 0
IsBetween u v w = ((u ≤ℤ v) × (v ≤ℤ w)) ⊎ ((w ≤ℤ v) × (v ≤ℤ u))

-- a narrowed number between two is in each range with both
pub passes : (narrow : ℤ → Result ℤ Fault) → IsNarrowing narrow → (u v w : ℤ) → IsBetween u v w → (r : Range)
    → Computes (narrow u) r → Computes (narrow w) r → Computes (narrow v) r
passes narrow n u v w (inl b) r cu cw =
    let p = n.same u cu.0 cu.1 in
    let q = n.same w cw.0 cw.1 in (
      v,
      n.between u v w cu.0 cw.0 cu.1 cw.1 b.0 b.1,
      record { at_least = omega (arith, ints, b.0, cu.2.at_least); at_most = omega (arith, ints, b.1, cw.2.at_most) },
    )
passes narrow n u v w (inr b) r cu cw =
    let p = n.same u cu.0 cu.1 in
    let q = n.same w cw.0 cw.1 in (
      v,
      n.between w v u cw.0 cu.0 cw.1 cu.1 b.0 b.1,
      record { at_least = omega (arith, ints, b.0, cw.2.at_least); at_most = omega (arith, ints, b.1, cu.2.at_most) },
    )

-- ---- two operands

-- f is monotone in each operand, on these ranges
pub record MovesInEach (f : ℤ → ℤ → Result ℤ Fault) (x y : Range) : Type 0 where
  pub first : (a b c w : ℤ) → a ≤ℤ b → b ≤ℤ c → IsIn w y → Passes (λ z. f z w) a b c
  pub second : (a b c w : ℤ) → a ≤ℤ b → b ≤ℤ c → y.low ≤ℤ a → c ≤ℤ y.high → Passes (f w) a b c

-- the results of members are in the range around the results at the corners
pub corners_compute : (f : ℤ → ℤ → Result ℤ Fault) (x y r : Range) → MovesInEach f x y → at_corners f x y ≡ Ok r
    → (a b : ℤ) → IsIn a x → IsIn b y → Computes (f a b) r
corners_compute f x y r m e a b i j =
    let c = around_computes (f x.low y.low) (f x.low y.high) (f x.high y.low) (f x.high y.high) r e in
    let low = m.second y.low b y.high x.low j.at_least j.at_most (omega (arith, ints)) (omega (arith, ints)) r c.0 c.1 in
    let high = m.second y.low b y.high x.high j.at_least j.at_most (omega (arith, ints)) (omega (arith, ints)) r c.2 c.3 in
    m.first x.low a x.high b i.at_least i.at_most j r low high

-- ---- one operand

-- f is monotone below 0, and above 0
pub record IsTurning (f : ℤ → Result ℤ Fault) : Type 0 where
  pub below : (a b c : ℤ) → a ≤ℤ b → b ≤ℤ c → c ≤ℤ pos 0 → Passes f a b c
  pub above : (a b c : ℤ) → pos 0 ≤ℤ a → a ≤ℤ b → b ≤ℤ c → Passes f a b c

-- the results of members are in the range around the results at both ends, and at 0 if it is a member
pub turns_compute : (f : ℤ → Result ℤ Fault) (x r : Range) → IsTurning f
    → around_results (f x.low) (f (turn_of x)) (f (turn_of x)) (f x.high) ≡ Ok r → (a : ℤ) → IsIn a x → Computes (f a) r
turns_compute f x r m e a i = by_test (has_zero x) refl
  where
    c : Computes (f x.low) r × Computes (f (turn_of x)) r × Computes (f (turn_of x)) r × Computes (f x.high) r
    c = around_computes (f x.low) (f (turn_of x)) (f (turn_of x)) (f x.high) r e

    by_test : (test : Bool) → has_zero x ≡ test → Computes (f a) r
    by_test true t =
        let z : Computes (f (pos 0)) r = rw t at c.1 in
        by_lt_z a (pos 0)
        (λ (negative : a <ℤ pos 0). m.below x.low a (pos 0) i.at_least (omega (arith, ints)) (omega (arith, ints)) r c.0 z)
        (λ (other : pos 0 ≤ℤ a). m.above (pos 0) a x.high (omega (arith, ints)) other i.at_most r z c.3)
    by_test false t = elim (on_one_side x t) [
      | inl positive ↦ m.above x.low a x.high (omega (arith, ints, positive)) i.at_least i.at_most r c.0 c.3
      | inr negative ↦ m.below x.low a x.high i.at_least i.at_most (omega (arith, ints, negative)) r c.0 c.3
    ]
