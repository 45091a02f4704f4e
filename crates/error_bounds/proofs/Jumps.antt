-- Integers that enclose minima, maxima, absolute values and flat functions of exact numbers.
use Rattle.std.proofs.Common.{◌≡◌, ℕ, ◌<◌, ℤ, pos, neg_ℤ, ◌+ℤ◌, ◌-ℤ◌, ◌*ℤ◌, ◌≤ℤ◌, ◌<ℤ◌, true, false, if◌then◌else◌, inl, inr, refl, sym, ap, ◌∙◌, subst, ⊎_elim, arith, ◌⊎◌, int_le}
use Rattle.std.specs.Int.{int_max, int_min}
use Rattle.std.proofs.lemmas.Bool.{cases_Bool, cond_both, false_from_ne_true}
use Rattle.std.proofs.lemmas.Int.{by_lt_z, ints, clamps}
use lib.IntN.{*ℤ_comm}
use Rattle.fixed.specs.Arithmetic.{floor_over, is_zero}
use Rattle.fixed.specs.declared.operations.FlatFunction.{FlatFunction}
use Rattle.fixed.specs.declared.operations.FlatFunction.TheVariants as flat
use Rattle.fixed.proofs.FloorLemmas.{floor_over_is}
use Rattle.fixed.proofs.IntegerLaws.{sum_times, times_le, times_next, zero_alone}
use Rattle.interval_domain.specs.Ranges.{Range, turn_of}
use Rattle.interval_domain.proofs.OutcomeLemmas.{max_keeps, min_keeps}
use Rattle.interval_domain.proofs.RangeLemmas.{greatest_at_least, least_at_most, zero_found}
use Rattle.derivative.specs.Exact.{Numbers, integer, whole, step_of, absolute_of, flat_value}
use Rattle.derivative.proofs.RingLaws as ring
use Rattle.error_bounds.specs.Ordered.{AreOrdered, AtMost, IsBetween, IsCeilingOf, IsFloorOf}
use Rattle.error_bounds.specs.Rules.{flat_at, flats_of}
use Rattle.error_bounds.proofs.Integers.{at_most_itself, integer_at_most, integer_times, integers_at_most, negative_at_most, times_cancels}
use Rattle.error_bounds.proofs.Between.{of_integer, of_negative, unit_above, units_at_most, wider}
use Rattle.error_bounds.proofs.IntegerProducts.{times_negative}
use Rattle.error_bounds.proofs.Tests.{choice_from_zero, choice_within}

-- ---- floors of integers

-- a floor's multiple is at most s n, if the dividend is below s (n + 1)
floor_below : (s : ℕ) (lo n : ℤ) → 0 < s → lo <ℤ (pos s *ℤ (n +ℤ pos 1)) → (floor_over lo s *ℤ pos s) ≤ℤ (pos s *ℤ n)
floor_below s lo n some p =
    let f = floor_over_is lo s some in
    let at = f.at_most in
    let turned = *ℤ_comm (pos s) n in
    let next : (pos s *ℤ (n +ℤ pos 1)) ≤ℤ (n *ℤ pos s +ℤ pos s) =
    rw (*ℤ_comm (pos s) (n +ℤ pos 1), sum_times n (pos 1) s) (omega (arith, ints)) in
    by_lt_z n (floor_over lo s)
    (λ (above : n <ℤ floor_over lo s). let k = times_next n (floor_over lo s) s above in absurd (omega (arith, ints)))
    (λ (below : floor_over lo s ≤ℤ n). let k = times_le n (floor_over lo s) s below in omega (arith, ints))

-- s n is at most a floor's multiple, if it is at most the dividend
floor_above : (s : ℕ) (hi n : ℤ) → 0 < s → (pos s *ℤ n) ≤ℤ hi → (pos s *ℤ n) ≤ℤ (floor_over hi s *ℤ pos s)
floor_above s hi n some p =
    let f = floor_over_is hi s some in
    let next = f.next_above in
    let turned = *ℤ_comm (pos s) n in
    by_lt_z (floor_over hi s) n
    (λ (above : floor_over hi s <ℤ n). let k = times_next (floor_over hi s) n s above in absurd (omega (arith, ints)))
    (λ (below : n ≤ℤ floor_over hi s). let k = times_le (floor_over hi s) n s below in omega (arith, ints))

module _ {V : Type 0} (k : Numbers V) (h : AreOrdered k) where
  open k.ring use {zero as o, one as i, plus, times, negative as neg}

  -- ---- units

  -- s x, in the ring
  abbrev units : ℕ → V → V
  units s x = times (whole k.ring s) x

  -- s 0 = 0
  units_zero : (s : ℕ) → units s o ≡ o
  units_zero s = ring.times_zero k.ring h.are_exact.is_ring (whole k.ring s)

  -- s 1 is the integer s
  units_one : (s : ℕ) → units s i ≡ integer k.ring (pos s)
  units_one s = h.are_exact.is_ring.times_one (whole k.ring s)

  -- s x <= s y gives x <= y
  units_cancel : (s : ℕ) (x y : V) → 0 < s → AtMost k (units s x) (units s y) → AtMost k x y
  units_cancel s x y some p = times_cancels k h (whole k.ring s) x y (unit_above k h s some) p

  -- 0 is between 0 and 0
  zero_between : (s : ℕ) → IsBetween k s (pos 0) (pos 0) o
  zero_between s =
      record { low = rw (units_zero s) (at_most_itself k h o); high = rw (units_zero s) (at_most_itself k h o) }

  -- 1 is between s and s
  one_between : (s : ℕ) → IsBetween k s (pos s) (pos s) i
  one_between s =
      record { low = rw (units_one s) (at_most_itself k h (whole k.ring s)); high = rw (units_one s) (at_most_itself k h (whole k.ring s)) }

  -- ---- signs

  -- a number is at least n, so the upper integer is at least s n
  high_from : (s : ℕ) (lo hi n : ℤ) (x : V) → IsBetween k s lo hi x → AtMost k (integer k.ring n) x → (pos s *ℤ n) ≤ℤ hi
  high_from s lo hi n x b p =
      let kept = units_at_most k h s (integer k.ring n) x p in
      let low : AtMost k (integer k.ring (pos s *ℤ n)) (units s x) =
      subst (λ z. AtMost k z (units s x)) (sym (integer_times k h (pos s) n)) kept in
      integers_at_most k h (pos s *ℤ n) hi (h.transitive (integer k.ring (pos s *ℤ n)) (units s x) (integer k.ring hi) low b.high)

  -- a number is at most n, so the lower integer is at most s n
  low_to : (s : ℕ) (lo hi n : ℤ) (x : V) → IsBetween k s lo hi x → AtMost k x (integer k.ring n) → lo ≤ℤ (pos s *ℤ n)
  low_to s lo hi n x b p =
      let kept = units_at_most k h s x (integer k.ring n) p in
      let high : AtMost k (units s x) (integer k.ring (pos s *ℤ n)) =
      subst (AtMost k (units s x)) (sym (integer_times k h (pos s) n)) kept in
      integers_at_most k h lo (pos s *ℤ n) (h.transitive (integer k.ring lo) (units s x) (integer k.ring (pos s *ℤ n)) b.low high)

  -- if 0 <= x, then hi isn't negative
  high_from_zero : (s : ℕ) (lo hi : ℤ) (x : V) → IsBetween k s lo hi x → AtMost k o x → pos 0 ≤ℤ hi
  high_from_zero s lo hi x b p = let all = high_from s lo hi (pos 0) x b p in omega (arith, ints)

  -- if x <= 0, then lo isn't above 0
  low_to_zero : (s : ℕ) (lo hi : ℤ) (x : V) → IsBetween k s lo hi x → AtMost k x o → lo ≤ℤ pos 0
  low_to_zero s lo hi x b p = let all = low_to s lo hi (pos 0) x b p in omega (arith, ints)

  -- the sign of a number, from the integers around it
  from_zero : (s : ℕ) (lo hi : ℤ) (x : V) → 0 < s → IsBetween k s lo hi x → pos 0 ≤ℤ lo → AtMost k o x
  from_zero s lo hi x some b p =
      let low : AtMost k o (units s x) = h.transitive o (integer k.ring lo) (units s x) (integer_at_most k h (pos 0) lo p) b.low in
      units_cancel s o x some (rw (units_zero s) low)

  -- a number is at most 0, if the upper integer is
  to_zero : (s : ℕ) (lo hi : ℤ) (x : V) → 0 < s → IsBetween k s lo hi x → hi ≤ℤ pos 0 → AtMost k x o
  to_zero s lo hi x some b p =
      let high : AtMost k (units s x) o = h.transitive (units s x) (integer k.ring hi) o b.high (integer_at_most k h hi (pos 0) p) in
      units_cancel s x o some (rw (units_zero s) high)

  -- a number isn't 0, if 0 is outside the integers around it
  pub not_zero : (s : ℕ) (lo hi : ℤ) (x : V) → 0 < s → IsBetween k s lo hi x → (pos 0 <ℤ lo) ⊎ (hi <ℤ pos 0) → k.is_zero x ≡ false
  not_zero s lo hi x some b p = false_from_ne_true (k.is_zero x) (λ (q : k.is_zero x ≡ true). none (h.are_exact.zero_alone x q))
    where
      none : x ≡ o → ⊥
      none e =
          let low = low_to_zero s lo hi x b (subst (λ z. AtMost k z o) (sym e) (at_most_itself k h o)) in
          let high = high_from_zero s lo hi x b (subst (λ z. AtMost k o z) (sym e) (at_most_itself k h o)) in
          ⊎_elim (λ (above : pos 0 <ℤ lo). absurd (omega (arith, ints))) (λ (below : hi <ℤ pos 0). absurd (omega (arith, ints))) p

  -- a number between 0 and 0 is 0
  pub only_zero : (s : ℕ) (x : V) → 0 < s → IsBetween k s (pos 0) (pos 0) x → k.is_zero x ≡ true
  only_zero s x some b =
      let none : pos 0 ≤ℤ pos 0 = omega (arith, ints) in
      let same : x ≡ o = h.antisymmetric x o (to_zero s (pos 0) (pos 0) x some b none) (from_zero s (pos 0) (pos 0) x some b none) in
      ap k.is_zero same ∙ h.are_exact.zero_found

  -- ---- minima and maxima

  -- a number that is at most another is below the other's upper integer too
  smaller_is : (s : ℕ) (l1 h1 l2 h2 : ℤ) (x y : V) → IsBetween k s l1 h1 x → IsBetween k s l2 h2 y → AtMost k x y
      → IsBetween k s l1 (int_min h1 h2) x
  smaller_is s l1 h1 l2 h2 x y b c p =
      let kept = units_at_most k h s x y p in
      let high : AtMost k (units s x) (integer k.ring h2) = h.transitive (units s x) (units s y) (integer k.ring h2) kept c.high in
      record { low = b.low; high = min_keeps (λ z. AtMost k (units s x) (integer k.ring z)) h1 h2 b.high high }

  -- a number that is at least another is above the other's lower integer too
  greater_is : (s : ℕ) (l1 h1 l2 h2 : ℤ) (x y : V) → IsBetween k s l1 h1 x → IsBetween k s l2 h2 y → AtMost k y x
      → IsBetween k s (int_max l1 l2) h1 x
  greater_is s l1 h1 l2 h2 x y b c p =
      let kept = units_at_most k h s y x p in
      let low : AtMost k (integer k.ring l2) (units s x) = h.transitive (integer k.ring l2) (units s y) (units s x) c.low kept in
      record { low = max_keeps (λ z. AtMost k (integer k.ring z) (units s x)) l1 l2 b.low low; high = b.high }

  -- the minimum of two numbers is between the minima of the integers around them
  pub of_minimum : (s : ℕ) (l1 h1 l2 h2 : ℤ) (x y : V) → IsBetween k s l1 h1 x → IsBetween k s l2 h2 y
      → IsBetween k s (int_min l1 l2) (int_min h1 h2) (if k.is_at_most x y then x else y)
  of_minimum s l1 h1 l2 h2 x y b c =
      cond_both (k.is_at_most x y) x y (IsBetween k s (int_min l1 l2) (int_min h1 h2))
      (λ (p : AtMost k x y).
      wider k h s l1 (int_min h1 h2) (int_min l1 l2) (int_min h1 h2) x (omega (arith, ints, clamps)) (omega (arith, ints, clamps))
      (smaller_is s l1 h1 l2 h2 x y b c p))
      (λ (f : k.is_at_most x y ≡ false).
      wider k h s l2 (int_min h2 h1) (int_min l1 l2) (int_min h1 h2) y (omega (arith, ints, clamps)) (omega (arith, ints, clamps))
      (smaller_is s l2 h2 l1 h1 y x c b (h.total x y f)))

  -- the maximum of two numbers is between the maxima of the integers around them
  pub of_maximum : (s : ℕ) (l1 h1 l2 h2 : ℤ) (x y : V) → IsBetween k s l1 h1 x → IsBetween k s l2 h2 y
      → IsBetween k s (int_max l1 l2) (int_max h1 h2) (if k.is_at_most y x then x else y)
  of_maximum s l1 h1 l2 h2 x y b c =
      cond_both (k.is_at_most y x) x y (IsBetween k s (int_max l1 l2) (int_max h1 h2))
      (λ (p : AtMost k y x).
      wider k h s (int_max l1 l2) h1 (int_max l1 l2) (int_max h1 h2) x (omega (arith, ints, clamps)) (omega (arith, ints, clamps))
      (greater_is s l1 h1 l2 h2 x y b c p))
      (λ (f : k.is_at_most y x ≡ false).
      wider k h s (int_max l2 l1) h2 (int_max l1 l2) (int_max h1 h2) y (omega (arith, ints, clamps)) (omega (arith, ints, clamps))
      (greater_is s l2 h2 l1 h1 y x c b (h.total y x f)))

  -- ---- absolute values

  -- 0 <= x gives -x <= x
  negative_below : (x : V) → AtMost k o x → AtMost k (neg x) x
  negative_below x p =
      let below : AtMost k (neg x) o =
      subst (AtMost k (neg x)) (ring.negative_zero k.ring h.are_exact.is_ring) (negative_at_most k h o x p) in
      h.transitive (neg x) o x below p

  -- x <= 0 gives x <= -x
  negative_above : (x : V) → AtMost k x o → AtMost k x (neg x)
  negative_above x p =
      let above : AtMost k o (neg x) =
      subst (λ z. AtMost k z (neg x)) (ring.negative_zero k.ring h.are_exact.is_ring) (negative_at_most k h x o p) in
      h.transitive x o (neg x) p above

  -- an absolute value is at least the number and its negative, and is one of both
  pub of_absolute : (s : ℕ) (l1 h1 lo hi : ℤ) (x : V) → 0 < s → IsBetween k s l1 h1 x
      → (lo ≤ℤ l1) ⊎ (lo ≤ℤ neg_ℤ h1) → h1 ≤ℤ hi → neg_ℤ l1 ≤ℤ hi → IsBetween k s lo hi (absolute_of k x)
  of_absolute s l1 h1 lo hi x some b low high high' =
      let c : IsBetween k s (neg_ℤ h1) (neg_ℤ l1) (neg x) = of_negative k h s l1 h1 x b in
      cond_both (k.is_at_most o x) x (neg x) (IsBetween k s lo hi)
      (λ (p : AtMost k o x).
      wider k h s (int_max l1 (neg_ℤ h1)) h1 lo hi x (omega (arith, ints, clamps)) high
      (greater_is s l1 h1 (neg_ℤ h1) (neg_ℤ l1) x (neg x) b c (negative_below x p)))
      (λ (f : k.is_at_most o x ≡ false).
      wider k h s (int_max (neg_ℤ h1) l1) (neg_ℤ l1) lo hi (neg x) (omega (arith, ints, clamps)) high'
      (greater_is s (neg_ℤ h1) (neg_ℤ l1) l1 h1 (neg x) x c b (negative_above x (h.total o x f))))

  -- ---- steps and deltas

  -- the step of a number is between the steps of the integers around the number
  of_step : (s : ℕ) (lo hi : ℤ) (x : V) → 0 < s → IsBetween k s lo hi x
      → IsBetween k s (flat_at s flat.Step lo) (flat_at s flat.Step hi) (step_of k x)
  of_step s lo hi x some b = cond_both (k.is_at_most o x) i o (IsBetween k s (flat_at s flat.Step lo) (flat_at s flat.Step hi)) above below
    where
      above : AtMost k o x → IsBetween k s (flat_at s flat.Step lo) (flat_at s flat.Step hi) i
      above p =
          let high : pos 0 ≤ℤ hi = high_from_zero s lo hi x b p in
          wider k h s (pos s) (pos s) _ _ i
          (cond_both (int_le (pos 0) lo) (pos s) (pos 0) (λ z. z ≤ℤ pos s) (λ e. omega (arith, ints)) (λ e. omega (arith, ints)))
          (cond_both (int_le (pos 0) hi) (pos s) (pos 0) (λ z. pos s ≤ℤ z) (λ e. omega (arith, ints)) (λ e. absurd (omega (arith, ints))))
          (one_between s)

      below : k.is_at_most o x ≡ false → IsBetween k s (flat_at s flat.Step lo) (flat_at s flat.Step hi) o
      below f =
          let none : int_le (pos 0) lo ≡ true → ⊥ =
          λ e. let all : AtMost k o x = from_zero s lo hi x some b (omega (arith, ints)) in cc in
          wider k h s (pos 0) (pos 0) _ _ o
          (cond_both (int_le (pos 0) lo) (pos s) (pos 0) (λ z. z ≤ℤ pos 0) (λ e. absurd (none e)) (λ e. omega (arith, ints)))
          (cond_both (int_le (pos 0) hi) (pos s) (pos 0) (λ z. pos 0 ≤ℤ z) (λ e. omega (arith, ints)) (λ e. omega (arith, ints)))
          (zero_between s)

  -- delta is 0 or 1
  delta_within : (s : ℕ) (n : ℤ) → (pos 0 ≤ℤ flat_at s flat.Delta n) × (flat_at s flat.Delta n ≤ℤ pos s)
  delta_within s n = (choice_from_zero (is_zero n) s, choice_within (is_zero n) s)

  -- the delta of 0 is 1
  delta_there : (s : ℕ) (r : Range) (x : V) → IsBetween k s r.low r.high x → x ≡ o
      → IsBetween k s (flats_of s flat.Delta r).low (flats_of s flat.Delta r).high i
  delta_there s r x b same =
      let low : r.low ≤ℤ pos 0 = low_to_zero s r.low r.high x b (subst (λ z. AtMost k z o) (sym same) (at_most_itself k h o)) in
      let high : pos 0 ≤ℤ r.high = high_from_zero s r.low r.high x b (subst (AtMost k o) (sym same) (at_most_itself k h o)) in
      let found = zero_found r (record { at_least = low; at_most = high }) in
      let turn : flat_at s flat.Delta (turn_of r) ≡ pos s = rw found refl in
      let deltas = least_at_most (flat_at s flat.Delta r.low) (flat_at s flat.Delta (turn_of r)) (flat_at s flat.Delta (turn_of r)) (flat_at s flat.Delta r.high) in
      let most = greatest_at_least (flat_at s flat.Delta r.low) (flat_at s flat.Delta (turn_of r)) (flat_at s flat.Delta (turn_of r)) (flat_at s flat.Delta r.high) in
      wider k h s (pos s) (pos s) (flats_of s flat.Delta r).low (flats_of s flat.Delta r).high i (omega (arith, ints, deltas.1, turn))
      (omega (arith, ints, most.1, turn)) (one_between s)

  -- the delta of a number that isn't 0 is 0
  delta_missing : (s : ℕ) (r : Range) (x : V) → 0 < s → IsBetween k s r.low r.high x → k.is_zero x ≡ false
      → IsBetween k s (flats_of s flat.Delta r).low (flats_of s flat.Delta r).high o
  delta_missing s r x some b f =
      let deltas = least_at_most (flat_at s flat.Delta r.low) (flat_at s flat.Delta (turn_of r)) (flat_at s flat.Delta (turn_of r)) (flat_at s flat.Delta r.high) in
      let most = greatest_at_least (flat_at s flat.Delta r.low) (flat_at s flat.Delta (turn_of r)) (flat_at s flat.Delta (turn_of r)) (flat_at s flat.Delta r.high) in
      let least : (flats_of s flat.Delta r).low ≤ℤ pos 0 = elim (cases_Bool (is_zero r.low)) [
        | inl first ↦ elim (cases_Bool (is_zero r.high)) [
          | inl last ↦ absurd (none first last)
          | inr last ↦ let off : flat_at s flat.Delta r.high ≡ pos 0 = rw last refl in omega (arith, ints, deltas.3, off)
        ]
        | inr first ↦ let off : flat_at s flat.Delta r.low ≡ pos 0 = rw first refl in omega (arith, ints, deltas.0, off)
      ] in
      let greatest : pos 0 ≤ℤ (flats_of s flat.Delta r).high = omega (arith, ints, most.0, (delta_within s r.low).0) in
      wider k h s (pos 0) (pos 0) (flats_of s flat.Delta r).low (flats_of s flat.Delta r).high o least greatest (zero_between s)
    where
      none : is_zero r.low ≡ true → is_zero r.high ≡ true → ⊥
      none first last =
          let low : r.low ≡ pos 0 = zero_alone r.low first in
          let high : r.high ≡ pos 0 = zero_alone r.high last in
          let alone = only_zero s x some (wider k h s r.low r.high (pos 0) (pos 0) x (omega (arith, ints)) (omega (arith, ints)) b) in
          cc

  -- ---- floors and ceilings

  -- a number is below n, so the lower integer is below s n
  low_below : (s : ℕ) (lo hi n : ℤ) (x : V) → 0 < s → IsBetween k s lo hi x → k.is_at_most (integer k.ring n) x ≡ false
      → lo <ℤ (pos s *ℤ n)
  low_below s lo hi n x some b f =
      by_lt_z lo (pos s *ℤ n) (λ (below : lo <ℤ (pos s *ℤ n)). below) (λ (above : (pos s *ℤ n) ≤ℤ lo). absurd (none above))
    where
      none : (pos s *ℤ n) ≤ℤ lo → ⊥
      none above =
          let first = integer_at_most k h (pos s *ℤ n) lo above in
          let low = h.transitive (integer k.ring (pos s *ℤ n)) (integer k.ring lo) (units s x) first b.low in
          let split : AtMost k (units s (integer k.ring n)) (units s x) =
          subst (λ z. AtMost k z (units s x)) (integer_times k h (pos s) n) low in
          let all : AtMost k (integer k.ring n) x = units_cancel s (integer k.ring n) x some split in
          cc

  -- a number is above n, so the upper integer is above s n
  high_above : (s : ℕ) (lo hi n : ℤ) (x : V) → 0 < s → IsBetween k s lo hi x → k.is_at_most x (integer k.ring n) ≡ false
      → (pos s *ℤ n) <ℤ hi
  high_above s lo hi n x some b f =
      by_lt_z (pos s *ℤ n) hi (λ (above : (pos s *ℤ n) <ℤ hi). above) (λ (below : hi ≤ℤ (pos s *ℤ n)). absurd (none below))
    where
      none : hi ≤ℤ (pos s *ℤ n) → ⊥
      none below =
          let last = integer_at_most k h hi (pos s *ℤ n) below in
          let high = h.transitive (units s x) (integer k.ring hi) (integer k.ring (pos s *ℤ n)) b.high last in
          let split : AtMost k (units s x) (units s (integer k.ring n)) = subst (AtMost k (units s x)) (integer_times k h (pos s) n) high in
          let all : AtMost k x (integer k.ring n) = units_cancel s x (integer k.ring n) some split in
          cc

  -- the floor n of a number, by the integers around the number
  floor_between : (s : ℕ) (lo hi n : ℤ) (x : V) → 0 < s → IsBetween k s lo hi x → IsFloorOf k x n
      → IsBetween k s (floor_over lo s *ℤ pos s) (floor_over hi s *ℤ pos s) (integer k.ring n)
  floor_between s lo hi n x some b f =
      wider k h s (pos s *ℤ n) (pos s *ℤ n) (floor_over lo s *ℤ pos s) (floor_over hi s *ℤ pos s) (integer k.ring n)
      (floor_below s lo n some (low_below s lo hi (n +ℤ pos 1) x some b f.next_above))
      (floor_above s hi n some (high_from s lo hi n x b f.at_most))
      (of_integer k h s n)

  -- the floor of a number is between the floors of the integers around the number
  of_floor : (s : ℕ) (lo hi : ℤ) (x : V) → 0 < s → IsBetween k s lo hi x
      → IsBetween k s (floor_over lo s *ℤ pos s) (floor_over hi s *ℤ pos s) (k.floor x)
  of_floor s lo hi x some b =
      let f = h.floor_is x in
      subst (IsBetween k s (floor_over lo s *ℤ pos s) (floor_over hi s *ℤ pos s)) (sym f.1) (floor_between s lo hi f.0 x some b f.2)

  -- the ceiling n of a number, by the integers around the number
  ceiling_between : (s : ℕ) (lo hi n : ℤ) (x : V) → 0 < s → IsBetween k s lo hi x → IsCeilingOf k x n
      → IsBetween k s (neg_ℤ (floor_over (neg_ℤ lo) s *ℤ pos s)) (neg_ℤ (floor_over (neg_ℤ hi) s *ℤ pos s)) (integer k.ring n)
  ceiling_between s lo hi n x some b c =
      let low = low_to s lo hi n x b c.at_least in
      let high = high_above s lo hi (n -ℤ pos 1) x some b c.last_below in
      let turned = times_negative (pos s) n in
      let next : neg_ℤ n +ℤ pos 1 ≡ neg_ℤ (n -ℤ pos 1) = omega (arith, ints) in
      let last : pos s *ℤ (neg_ℤ n +ℤ pos 1) ≡ neg_ℤ (pos s *ℤ (n -ℤ pos 1)) =
      ap (λ z. pos s *ℤ z) next ∙ times_negative (pos s) (n -ℤ pos 1) in
      let l = floor_above s (neg_ℤ lo) (neg_ℤ n) some (rw turned (omega (arith, ints))) in
      let u = floor_below s (neg_ℤ hi) (neg_ℤ n) some (rw last (omega (arith, ints))) in
      wider k h s (pos s *ℤ n) (pos s *ℤ n) (neg_ℤ (floor_over (neg_ℤ lo) s *ℤ pos s)) (neg_ℤ (floor_over (neg_ℤ hi) s *ℤ pos s))
      (integer k.ring n) (omega (arith, ints)) (omega (arith, ints)) (of_integer k h s n)

  -- the ceiling of a number is between the ceilings of the integers around the number
  of_ceiling : (s : ℕ) (lo hi : ℤ) (x : V) → 0 < s → IsBetween k s lo hi x
      → IsBetween k s (neg_ℤ (floor_over (neg_ℤ lo) s *ℤ pos s)) (neg_ℤ (floor_over (neg_ℤ hi) s *ℤ pos s)) (k.ceiling x)
  of_ceiling s lo hi x some b =
      let c = h.ceiling_is x in
      subst (IsBetween k s (neg_ℤ (floor_over (neg_ℤ lo) s *ℤ pos s)) (neg_ℤ (floor_over (neg_ℤ hi) s *ℤ pos s))) (sym c.1)
      (ceiling_between s lo hi c.0 x some b c.2)

  -- ---- flat functions

  -- a flat function that rises is between its values at the integers around the number
  rising : (s : ℕ) (g : FlatFunction) (r : Range) (y : V) → IsBetween k s (flat_at s g r.low) (flat_at s g r.high) y
      → IsBetween k s (flats_of s g r).low (flats_of s g r).high y
  rising s g r y b =
      let least = least_at_most (flat_at s g r.low) (flat_at s g (turn_of r)) (flat_at s g (turn_of r)) (flat_at s g r.high) in
      let greatest = greatest_at_least (flat_at s g r.low) (flat_at s g (turn_of r)) (flat_at s g (turn_of r)) (flat_at s g r.high) in
      wider k h s _ _ (flats_of s g r).low (flats_of s g r).high y least.0 greatest.3 b

  -- the exact value of a flat function is in the range of its values
  pub of_flat : (g : FlatFunction) (s : ℕ) (r : Range) (x : V) → 0 < s → IsBetween k s r.low r.high x
      → IsBetween k s (flats_of s g r).low (flats_of s g r).high (flat_value k g x)
  of_flat flat.Step s r x some b = rising s flat.Step r (step_of k x) (of_step s r.low r.high x some b)
  of_flat flat.Delta s r x some b =
      cond_both (k.is_zero x) i o (IsBetween k s (flats_of s flat.Delta r).low (flats_of s flat.Delta r).high)
      (λ p. delta_there s r x b (h.are_exact.zero_alone x p)) (λ f. delta_missing s r x some b f)
  of_flat flat.Floor s r x some b = rising s flat.Floor r (k.floor x) (of_floor s r.low r.high x some b)
  of_flat flat.Ceiling s r x some b = rising s flat.Ceiling r (k.ceiling x) (of_ceiling s r.low r.high x some b)
