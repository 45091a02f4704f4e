-- Each operator is monotone in each operand, and each unary operator is monotone below 0 and above 0. So the range of the
-- results at the ends, and at 0, has all results; and the interval with the same ends is the least.
use Rattle.std.proofs.Common.{◌≡◌, ℕ, zero, suc, ◌*◌, ◌^◌, ◌≤◌, refl, sym, subst, ◌∙◌, arith, inl, inr, Bool, true, false, if◌then◌else◌, Result, Ok, Err, IfOk, IfErr, ℤ, pos, negsuc, neg_ℤ, ◌+ℤ◌, ◌-ℤ◌, ◌*ℤ◌, ◌≤ℤ◌, unsigned_abs, ◌⊎◌, ◌&&◌, ◌<ℤ◌}
use Rattle.std.specs.Int.{int_max, int_min}
use Rattle.std.proofs.lemmas.Bool.{and_parts}
use Rattle.std.proofs.lemmas.Bool.Decides.{nat_tests}
use Rattle.std.proofs.lemmas.Int.{ints, clamps}
use Rattle.std.proofs.lemmas.Nat.{mul-le}
use lib.IntN.{*ℤ_comm}
use Rattle.fixed.specs.Arithmetic.{delta_of, floor_of, floor_over, is_zero, number_or_overflow, one, square_root_of, step_of, whole_of}
use Rattle.fixed.specs.Operations.{flat_value, operator_value, unary_value}
use Rattle.fixed.specs.Roots.{root}
use Rattle.fixed.specs.declared.faults.Fault.{Fault}
use Rattle.fixed.specs.declared.faults.Fault.TheVariants.{Overflow, ZeroDivisor, NegativeRoot}
use Rattle.fixed.specs.declared.operations.Operator.{Operator}
use Rattle.fixed.specs.declared.operations.Operator.TheVariants as op
use Rattle.fixed.specs.declared.operations.FlatFunction.{FlatFunction}
use Rattle.fixed.specs.declared.operations.FlatFunction.TheVariants as flat
use Rattle.fixed.specs.declared.operations.Function.TheVariants as f
use Rattle.fixed.specs.declared.operations.UnaryOperator.{UnaryOperator}
use Rattle.fixed.specs.declared.operations.UnaryOperator.TheVariants as unary
use Rattle.fixed.proofs.FloorLemmas.{two_pos}
use Rattle.fixed.proofs.IntegerLaws.{zero_alone}
use Rattle.fixed.proofs.RootLemmas.{root_le}
use Rattle.interval_domain.specs.declared.span.Span.{Span}
use Rattle.interval_domain.specs.Ranges.{IsIn, Range, around_results, at_corners, divides, has_zero, operator_range, turn_of, unary_range}
use Rattle.interval_domain.specs.Spans.{IsCause, IsLeastSpan, IsMember, IsOutcome, IsOutcomeOfTwo}
use Rattle.interval_domain.specs.Views.{result_range, span_range}
use Rattle.interval_domain.proofs.FloorLemmas.{floor_rises, least_multiple_of, least_multiple_rises, scale_down, scale_up, whole_rises}
use Rattle.interval_domain.proofs.MonotoneLemmas.{Computes, Ends, IsBetween, IsTurning, MovesInEach, Passes, cause_of_ends, corners_compute, ends_around, least_of_ends, passes, turns_compute}
use Rattle.interval_domain.proofs.OutcomeLemmas.{IsNarrowing, exact_narrows, hi_member, lo_member, number_narrows}
use Rattle.interval_domain.proofs.QuotientLemmas.{quotient_moves}
use Rattle.interval_domain.proofs.RangeLemmas.{zero_found, zero_in}

-- ---- operators

-- an exact function of two operands, narrowed
moving : (narrow : ℤ → Result ℤ Fault) → IsNarrowing narrow → (e : ℤ → ℤ → ℤ) (x y : Range)
    → ((a b c w : ℤ) → a ≤ℤ b → b ≤ℤ c → IsBetween (e a w) (e b w) (e c w))
    → ((a b c w : ℤ) → a ≤ℤ b → b ≤ℤ c → IsBetween (e w a) (e w b) (e w c)) → MovesInEach (λ a b. narrow (e a b)) x y
moving narrow n e x y first second = record {
  first = λ a b c w h k i. passes narrow n (e a w) (e b w) (e c w) (first a b c w h k);
  second = λ a b c w h k l u. passes narrow n (e w a) (e w b) (e w c) (second a b c w h k);
}

-- rounded products rise or fall, by the sign of the other factor
product_between : (bits : ℕ) (a b c w : ℤ) → a ≤ℤ b → b ≤ℤ c
    → IsBetween (floor_over (w *ℤ a) (2 ^ bits)) (floor_over (w *ℤ b) (2 ^ bits)) (floor_over (w *ℤ c) (2 ^ bits))
product_between bits a b c (pos m) h k =
    let rises = λ (x y : ℤ) (p : x ≤ℤ y). floor_rises (2 ^ bits) (pos m *ℤ x) (pos m *ℤ y) (two_pos bits) (scale_up m x y p) in
    inl (rises a b h, rises b c k)
product_between bits a b c (negsuc m) h k =
    let falls = λ (x y : ℤ) (p : x ≤ℤ y). floor_rises (2 ^ bits) (negsuc m *ℤ y) (negsuc m *ℤ x) (two_pos bits) (scale_down m x y p) in
    inr (falls b c k, falls a b h)

-- each operator is monotone in each operand, and a quotient where the divisor isn't 0
operator_moves : (bits : ℕ) (o : Operator) (x y : Range) → (divides o && has_zero y) ≡ false → MovesInEach (operator_value bits o) x y
operator_moves bits op.Add x y n =
    moving number_or_overflow number_narrows (λ a b. a +ℤ b) x y (λ a b c w h k. inl (omega (arith, ints), omega (arith, ints)))
    (λ a b c w h k. inl (omega (arith, ints), omega (arith, ints)))
operator_moves bits op.Subtract x y n =
    moving number_or_overflow number_narrows (λ a b. a -ℤ b) x y (λ a b c w h k. inl (omega (arith, ints), omega (arith, ints)))
    (λ a b c w h k. inr (omega (arith, ints), omega (arith, ints)))
operator_moves bits op.Multiply x y n =
    moving number_or_overflow number_narrows (λ a b. floor_over (a *ℤ b) (2 ^ bits)) x y
    (λ a b c w h k. rw (*ℤ_comm a w, *ℤ_comm b w, *ℤ_comm c w) (product_between bits a b c w h k)) (product_between bits)
operator_moves bits op.Divide x y n = quotient_moves bits x y n
operator_moves bits op.Minimum x y n =
    moving (λ z. Ok z) exact_narrows int_min x y (λ a b c w h k. inl (omega (arith, ints, clamps), omega (arith, ints, clamps)))
    (λ a b c w h k. inl (omega (arith, ints, clamps), omega (arith, ints, clamps)))
operator_moves bits op.Maximum x y n =
    moving (λ z. Ok z) exact_narrows int_max x y (λ a b c w h k. inl (omega (arith, ints, clamps), omega (arith, ints, clamps)))
    (λ a b c w h k. inl (omega (arith, ints, clamps), omega (arith, ints, clamps)))

-- the results of members of two ranges are in the range of the operator's results
pub operator_computes : (bits : ℕ) (o : Operator) (x y r : Range) → operator_range bits o x y ≡ Ok r → (a b : ℤ) → IsIn a x → IsIn b y
    → Computes (operator_value bits o a b) r
operator_computes bits o x y r e = by_test (divides o && has_zero y) refl e
  where
    by_test : (test : Bool) → (divides o && has_zero y) ≡ test
        → (if test then Err ZeroDivisor else at_corners (operator_value bits o) x y) ≡ Ok r → (a b : ℤ) → IsIn a x → IsIn b y
        → Computes (operator_value bits o a b) r
    by_test true t e = absurd (cc)
    by_test false t e = corners_compute (operator_value bits o) x y r (operator_moves bits o x y t) e

-- a fault other than Overflow is that of a quotient by 0
operator_only : (bits : ℕ) (o : Operator) (x y : ℤ) (e : Fault) → operator_value bits o x y ≡ Err e
    → (e ≡ Overflow) ⊎ ((e ≡ ZeroDivisor) × (divides o ≡ true) × (y ≡ pos 0))
operator_only bits op.Add x y e is = inl (number_narrows.overflows (x +ℤ y) e is)
operator_only bits op.Subtract x y e is = inl (number_narrows.overflows (x -ℤ y) e is)
operator_only bits op.Multiply x y e is = inl (number_narrows.overflows (floor_over (x *ℤ y) (2 ^ bits)) e is)
operator_only bits op.Minimum x y e is = absurd (cc)
operator_only bits op.Maximum x y e is = absurd (cc)
operator_only bits op.Divide x y e is = by_test (is_zero y) refl is
  where
    by_test : (test : Bool) → is_zero y ≡ test → (if test then Err ZeroDivisor else number_or_overflow (floor_of (x *ℤ one bits) y)) ≡ Err e
        → (e ≡ Overflow) ⊎ ((e ≡ ZeroDivisor) × (divides op.Divide ≡ true) × (y ≡ pos 0))
    by_test true t is = inr (cc, refl, zero_alone y t)
    by_test false t is = inl (number_narrows.overflows (floor_of (x *ℤ one bits) y) e is)

module _ (bits : ℕ) (o : Operator) (a b : Span) where
  abbrev Outcome : Result ℤ Fault → Type 0
  Outcome = IsOutcomeOfTwo (operator_value bits o) a b

  -- the result for two members
  at_members : (x y : ℤ) → IsMember x a → IsMember y b → Outcome (operator_value bits o x y)
  at_members x y m n = record { first = x; second = y; first_member = m; second_member = n; outcome = refl }

  -- the ends of the range are results, or the fault is one
  operator_ends : Ends Outcome (operator_range bits o (span_range a) (span_range b))
  operator_ends = by_test (divides o && has_zero (span_range b)) refl
    where
      -- a quotient by 0
      by_zero : (o : Operator) → divides o ≡ true → operator_value bits o a.lo (pos 0) ≡ Err ZeroDivisor
      by_zero op.Divide e = refl
      by_zero _ e = absurd (cc)

      by_test : (test : Bool) → (divides o && has_zero (span_range b)) ≡ test
          → Ends Outcome (if test then Err ZeroDivisor else at_corners (operator_value bits o) (span_range a) (span_range b))
      by_test true t =
          let both = and_parts (divides o) (has_zero (span_range b)) t in
          let zero_is = zero_in (span_range b) both.1 in
          let member : IsMember (pos 0) b = record { at_least = zero_is.at_least; at_most = zero_is.at_most } in
          subst Outcome (by_zero o both.0) (at_members a.lo (pos 0) (lo_member a) member)
      by_test false t =
          ends_around Outcome _ _ _ _ (at_members a.lo b.lo (lo_member a) (lo_member b)) (at_members a.lo b.hi (lo_member a) (hi_member b))
          (at_members a.hi b.lo (hi_member a) (lo_member b)) (at_members a.hi b.hi (hi_member a) (hi_member b))

  -- the interval of an operator is the least
  pub operator_least : (s : Result Span Fault) → result_range s ≡ operator_range bits o (span_range a) (span_range b)
      → IfOk s (IsLeastSpan Outcome)
  operator_least s e =
      least_of_ends Outcome s
      (λ x is r m. subst (λ (t : Result ℤ Fault). Computes t x) m.outcome
      (operator_computes bits o (span_range a) (span_range b) x (sym e ∙ is) m.first m.second
      (record { at_least = m.first_member.at_least; at_most = m.first_member.at_most })
      (record { at_least = m.second_member.at_least; at_most = m.second_member.at_most })))
      (subst (Ends Outcome) (sym e) operator_ends)

  -- and its fault is the cause that `IsCause` defines
  pub operator_cause : (s : Result Span Fault) → result_range s ≡ operator_range bits o (span_range a) (span_range b)
      → IfErr s (IsCause Outcome)
  operator_cause s e =
      cause_of_ends Outcome ZeroDivisor s (λ fault m. by_fault fault m (operator_only bits o m.first m.second fault m.outcome))
      (subst (Ends Outcome) (sym e) operator_ends)
    where
      by_fault : (fault : Fault) (m : Outcome (Err fault))
          → (fault ≡ Overflow) ⊎ ((fault ≡ ZeroDivisor) × (divides o ≡ true) × (m.second ≡ pos 0))
          → (fault ≡ Overflow) ⊎ ((fault ≡ ZeroDivisor) × (result_range s ≡ Err ZeroDivisor))
      by_fault fault m (inl is) = inl is
      by_fault fault m (inr is) =
          let there : IsMember (pos 0) b = subst (λ (z : ℤ). IsMember z b) is.2 m.second_member in
          let found = zero_found (span_range b) (record { at_least = there.at_least; at_most = there.at_most }) in
          inr (is.0, e ∙ rw (is.1, found) refl)

-- ---- unary operators

-- an operation that is monotone below 0 and above 0, and has no fault but overflow
record IsPlain (f : ℤ → Result ℤ Fault) : Type 0 where
  turns : IsTurning f
  overflows : (x : ℤ) (e : Fault) → f x ≡ Err e → e ≡ Overflow

-- an exact function, narrowed
turning : (narrow : ℤ → Result ℤ Fault) → IsNarrowing narrow → (e : ℤ → ℤ)
    → ((a b c : ℤ) → a ≤ℤ b → b ≤ℤ c → c ≤ℤ pos 0 → IsBetween (e a) (e b) (e c))
    → ((a b c : ℤ) → pos 0 ≤ℤ a → a ≤ℤ b → b ≤ℤ c → IsBetween (e a) (e b) (e c)) → IsPlain (λ x. narrow (e x))
turning narrow n e below above = record {
  turns = record {
    below = λ a b c h k l. passes narrow n (e a) (e b) (e c) (below a b c h k l);
    above = λ a b c l h k. passes narrow n (e a) (e b) (e c) (above a b c l h k);
  };
  overflows = λ x fault is. n.overflows (e x) fault is;
}

-- an exact function that rises, narrowed
rising : (narrow : ℤ → Result ℤ Fault) → IsNarrowing narrow → (e : ℤ → ℤ) → ((x y : ℤ) → x ≤ℤ y → e x ≤ℤ e y)
    → IsPlain (λ x. narrow (e x))
rising narrow n e rises =
    turning narrow n e (λ a b c h k l. inl (rises a b h, rises b c k)) (λ a b c l h k. inl (rises a b h, rises b c k))

step_rises : (bits : ℕ) (x y : ℤ) → x ≤ℤ y → step_of bits x ≤ℤ step_of bits y
step_rises bits (pos m) (pos n) h = omega (arith, ints)
step_rises bits (pos m) (negsuc n) h = absurd (omega (arith, ints))
step_rises bits (negsuc m) (pos n) h = omega (arith, ints)
step_rises bits (negsuc m) (negsuc n) h = omega (arith, ints)

-- delta rises up to 0 and falls from there
delta_from_zero : (bits : ℕ) (test : Bool) → pos 0 ≤ℤ (if test then one bits else pos 0)
delta_from_zero bits true = omega (arith, ints)
delta_from_zero bits false = omega (arith, ints)

delta_rises : (bits : ℕ) (x y : ℤ) → x ≤ℤ y → y ≤ℤ pos 0 → delta_of bits x ≤ℤ delta_of bits y
delta_rises bits (negsuc m) y h p = delta_from_zero bits (is_zero y)
delta_rises bits (pos m) y h p =
    let e : pos m ≡ y = omega (arith, ints) in
    subst (λ (z : ℤ). delta_of bits (pos m) ≤ℤ delta_of bits z) e (omega (arith, ints))

delta_falls : (bits : ℕ) (x y : ℤ) → pos 0 ≤ℤ x → x ≤ℤ y → delta_of bits y ≤ℤ delta_of bits x
delta_falls bits x (pos zero) p h =
    let e : x ≡ pos 0 = omega (arith, ints) in
    subst (λ (z : ℤ). delta_of bits (pos 0) ≤ℤ delta_of bits z) (sym e) (omega (arith, ints))
delta_falls bits x (pos (suc n)) p h =
    let off : is_zero (pos (suc n)) ≡ false = grind (arith, nat_tests) in rw off (delta_from_zero bits (is_zero x))
delta_falls bits x (negsuc n) p h = absurd (omega (arith, ints))

-- each flat function: but for delta it rises
flat_plain : (bits : ℕ) (g : FlatFunction) → IsPlain (flat_value bits g)
flat_plain bits flat.Step = rising (λ z. Ok z) exact_narrows (step_of bits) (step_rises bits)
flat_plain bits flat.Delta =
    turning (λ z. Ok z) exact_narrows (delta_of bits)
    (λ a b c h k l. inl (delta_rises bits a b h (omega (arith, ints)), delta_rises bits b c k l))
    (λ a b c l h k. inr (delta_falls bits b c (omega (arith, ints)) k, delta_falls bits a b l h))
flat_plain bits flat.Floor = rising (λ z. Ok z) exact_narrows (whole_of bits) (whole_rises bits)
flat_plain bits flat.Ceiling = rising number_or_overflow number_narrows (least_multiple_of bits) (least_multiple_rises bits)

negative_plain : IsPlain (λ x. number_or_overflow (neg_ℤ x))
negative_plain =
    turning number_or_overflow number_narrows neg_ℤ (λ a b c h k l. inr (omega (arith, ints), omega (arith, ints)))
    (λ a b c l h k. inr (omega (arith, ints), omega (arith, ints)))

squares_fall : (x y : ℤ) → x ≤ℤ y → y ≤ℤ pos 0 → (y *ℤ y) ≤ℤ (x *ℤ x)
squares_fall (pos m) (pos n) h p = omega (arith, ints, mul-le n n m m (omega (arith, ints)) (omega (arith, ints)))
squares_fall (pos m) (negsuc n) h p = absurd (omega (arith, ints))
squares_fall (negsuc m) (pos n) h p = omega (arith, ints, mul-le n n (suc m) (suc m) (omega (arith, ints)) (omega (arith, ints)))
squares_fall (negsuc m) (negsuc n) h p = omega (arith, ints, mul-le (suc n) (suc n) (suc m) (suc m) (omega (arith, ints)) (omega (arith, ints)))

squares_rise : (x y : ℤ) → pos 0 ≤ℤ x → x ≤ℤ y → (x *ℤ x) ≤ℤ (y *ℤ y)
squares_rise (pos m) (pos n) p h = omega (arith, ints, mul-le m m n n (omega (arith, ints)) (omega (arith, ints)))
squares_rise _ _ p h = absurd (omega (arith, ints))

square_plain : (bits : ℕ) → IsPlain (unary_value bits unary.Square)
square_plain bits =
    let order = λ (x y : ℤ) (h : (x *ℤ x) ≤ℤ (y *ℤ y)). floor_rises (2 ^ bits) (x *ℤ x) (y *ℤ y) (two_pos bits) h in
    turning number_or_overflow number_narrows (λ x. floor_over (x *ℤ x) (2 ^ bits))
    (λ a b c h k l. inr (order c b (squares_fall b c k l), order b a (squares_fall a b h (omega (arith, ints)))))
    (λ a b c l h k. inl (order a b (squares_rise a b l h), order b c (squares_rise b c (omega (arith, ints)) k)))

absolute_falls : (x y : ℤ) → x ≤ℤ y → y ≤ℤ pos 0 → unsigned_abs y ≤ unsigned_abs x
absolute_falls (pos m) (negsuc n) h p = absurd (omega (arith, ints))
absolute_falls (negsuc m) (negsuc n) h p = omega (arith, ints)
absolute_falls _ (pos n) h p = omega (arith, ints)

absolute_rises : (x y : ℤ) → pos 0 ≤ℤ x → x ≤ℤ y → unsigned_abs x ≤ unsigned_abs y
absolute_rises (pos m) (pos n) p h = omega (arith, ints)
absolute_rises _ _ p h = absurd (omega (arith, ints))

absolute_plain : IsPlain (λ x. number_or_overflow (pos (unsigned_abs x)))
absolute_plain =
    let order = λ (x y : ℤ) (h : unsigned_abs x ≤ unsigned_abs y). let o : pos (unsigned_abs x) ≤ℤ pos (unsigned_abs y) = omega (arith, ints, h) in o in
    turning number_or_overflow number_narrows (λ x. pos (unsigned_abs x))
    (λ a b c h k l. inr (order c b (absolute_falls b c k l), order b a (absolute_falls a b h (omega (arith, ints)))))
    (λ a b c l h k. inl (order a b (absolute_rises a b l h), order b c (absolute_rises b c (omega (arith, ints)) k)))

-- a root rises, and there is none below 0
root_passes : (bits : ℕ) (a b c : ℤ) → a ≤ℤ b → b ≤ℤ c → Passes (square_root_of bits) a b c
root_passes bits (negsuc m) b c h k = λ r low high. let e = low.1 in absurd (cc)
root_passes bits (pos m) (negsuc n) c h k = absurd (omega (arith, ints))
root_passes bits (pos m) (pos n) (negsuc l) h k = absurd (omega (arith, ints))
root_passes bits (pos m) (pos n) (pos l) h k =
    passes number_or_overflow number_narrows (pos (root (m * 2 ^ bits))) (pos (root (n * 2 ^ bits))) (pos (root (l * 2 ^ bits)))
    (inl (rises m n (omega (arith, ints)), rises n l (omega (arith, ints))))
  where
    rises : (m n : ℕ) → m ≤ n → pos (root (m * 2 ^ bits)) ≤ℤ pos (root (n * 2 ^ bits))
    rises m n h = omega (arith, ints, root_le (m * 2 ^ bits) (n * 2 ^ bits) (mul-le m (2 ^ bits) n (2 ^ bits) h (omega arith)))

-- each unary operator is monotone below 0 and above 0
unary_turns : (bits : ℕ) (o : UnaryOperator) → IsTurning (unary_value bits o)
unary_turns bits unary.Negate = negative_plain.turns
unary_turns bits unary.Square = (square_plain bits).turns
unary_turns bits (unary.Apply f.SquareRoot) =
    record { below = λ a b c h k l. root_passes bits a b c h k; above = λ a b c l h k. root_passes bits a b c h k }
unary_turns bits (unary.Apply f.Absolute) = absolute_plain.turns
unary_turns bits (unary.Apply (f.Flat g)) = (flat_plain bits g).turns

-- the results of members of a range are in the range of the operator's results
pub unary_computes : (bits : ℕ) (o : UnaryOperator) (x r : Range) → unary_range bits o x ≡ Ok r → (a : ℤ) → IsIn a x
    → Computes (unary_value bits o a) r
unary_computes bits o x r e = turns_compute (unary_value bits o) x r (unary_turns bits o) e

-- a fault other than Overflow is that of the root of a negative number
unary_only : (bits : ℕ) (o : UnaryOperator) (x : ℤ) (e : Fault) → unary_value bits o x ≡ Err e
    → (e ≡ Overflow) ⊎ ((e ≡ NegativeRoot) × (o ≡ unary.Apply f.SquareRoot) × (x <ℤ pos 0))
unary_only bits unary.Negate x e is = inl (negative_plain.overflows x e is)
unary_only bits unary.Square x e is = inl ((square_plain bits).overflows x e is)
unary_only bits (unary.Apply f.SquareRoot) (pos n) e is = inl (number_narrows.overflows (pos (root (n * 2 ^ bits))) e is)
unary_only bits (unary.Apply f.SquareRoot) (negsuc n) e is = inr (cc, refl, omega (arith, ints))
unary_only bits (unary.Apply f.Absolute) x e is = inl (absolute_plain.overflows x e is)
unary_only bits (unary.Apply (f.Flat g)) x e is = inl ((flat_plain bits g).overflows x e is)

module _ (bits : ℕ) (o : UnaryOperator) (a : Span) where
  abbrev OutcomeOfOne : Result ℤ Fault → Type 0
  OutcomeOfOne = IsOutcome (unary_value bits o) a

  -- the result for a member
  at_member : (x : ℤ) → IsMember x a → OutcomeOfOne (unary_value bits o x)
  at_member x m = record { argument = x; member = m; outcome = refl }

  -- the ends of the range are results, or the fault is one
  unary_ends : Ends OutcomeOfOne (unary_range bits o (span_range a))
  unary_ends =
      let turn = at_member (turn_of (span_range a)) (by_test (has_zero (span_range a)) refl) in
      ends_around OutcomeOfOne _ _ _ _ (at_member a.lo (lo_member a)) turn turn (at_member a.hi (hi_member a))
    where
      by_test : (test : Bool) → has_zero (span_range a) ≡ test → IsMember (if test then pos 0 else a.lo) a
      by_test true t = let z = zero_in (span_range a) t in record { at_least = z.at_least; at_most = z.at_most }
      by_test false t = lo_member a

  -- the interval of a unary operator is the least
  pub unary_least : (s : Result Span Fault) → result_range s ≡ unary_range bits o (span_range a) → IfOk s (IsLeastSpan OutcomeOfOne)
  unary_least s e =
      least_of_ends OutcomeOfOne s
      (λ x is r m. subst (λ (t : Result ℤ Fault). Computes t x) m.outcome
      (unary_computes bits o (span_range a) x (sym e ∙ is) m.argument (record { at_least = m.member.at_least; at_most = m.member.at_most })))
      (subst (Ends OutcomeOfOne) (sym e) unary_ends)

  -- and its fault is the cause that `IsCause` defines
  pub unary_cause : (s : Result Span Fault) → result_range s ≡ unary_range bits o (span_range a) → IfErr s (IsCause OutcomeOfOne)
  unary_cause s e =
      cause_of_ends OutcomeOfOne NegativeRoot s (λ fault m. by_fault fault m (unary_only bits o m.argument fault m.outcome))
      (subst (Ends OutcomeOfOne) (sym e) unary_ends)
    where
      first : (z : ℤ) (q r t : Result ℤ Fault) → z <ℤ pos 0 → around_results (square_root_of bits z) q r t ≡ Err NegativeRoot
      first (pos n) q r t h = absurd (omega (arith, ints))
      first (negsuc n) q r t h = refl

      by_fault : (fault : Fault) (m : OutcomeOfOne (Err fault))
          → (fault ≡ Overflow) ⊎ ((fault ≡ NegativeRoot) × (o ≡ unary.Apply f.SquareRoot) × (m.argument <ℤ pos 0))
          → (fault ≡ Overflow) ⊎ ((fault ≡ NegativeRoot) × (result_range s ≡ Err NegativeRoot))
      by_fault fault m (inl is) = inl is
      by_fault fault m (inr is) =
          let low : a.lo <ℤ pos 0 = omega (arith, ints, is.2, m.member.at_least) in
          inr (is.0, e ∙ rw is.1 (first a.lo _ _ _ low))
