-- Sums, products, quotients and roots: exact results are as near to the computed ones as the rules say.
use Rattle.std.proofs.Common.{◌≡◌, ℕ, suc, ◌+◌, ◌*◌, ◌^◌, ℤ, pos, negsuc, neg_ℤ, ◌+ℤ◌, ◌-ℤ◌, ◌*ℤ◌, ◌≤ℤ◌, ◌<ℤ◌, Bool, true, false, ◌||◌, if◌then◌else◌, Some, Ok, IfOk, inl, inr, refl, sym, ap, subst, ◌∙◌, arith, ◌⊎◌}
use Rattle.std.specs.Int.{int_max}
use Rattle.std.proofs.Math.IntN.{*ℤ_comm}
use Rattle.std.proofs.lemmas.Int.{ints}
use Rattle.std.proofs.lemmas.Option.{same_Some}
use Rattle.fixed.specs.Arithmetic.{difference_of, floor_over, negative_of, one, quotient_of, square_root_of, sum_of}
use Rattle.fixed.specs.Rounding.{IsFloor, IsFloorOfFraction}
use Rattle.fixed.specs.Roots.{root}
use Rattle.fixed.proofs.FloorLemmas.{floor_over_is, quotient_floor, two_pos}
use Rattle.interval_domain.proofs.OutcomeLemmas.{number_is}
use Rattle.interval_domain.proofs.RangeLemmas.{on_one_side}
use Rattle.derivative.specs.Exact.{Numbers, minus}
use Rattle.error_bounds.specs.Approximations.{Agrees, Approximation, exact_range, scale}
use Rattle.error_bounds.specs.Ordered.{AreOrdered}
use Rattle.interval_domain.specs.Ranges.{IsIn, Range, has_zero, less, negated, plus as ranges_plus, quotients, range, scaled, times as times_range}
use Rattle.error_bounds.specs.Rules.{is_whole, product_error, product_numerator, product_spread, quotient_error, quotient_errors, quotient_numerator, root_error, rounded_down}
use Rattle.error_bounds.proofs.RangeLaws as ranges
use Rattle.error_bounds.proofs.Bounded as agreement
use Rattle.error_bounds.proofs.Bounded.{errors_in_order, if_passed, not_refused, scale_above_zero}
use Rattle.error_bounds.proofs.IntegerProducts as products
use Rattle.error_bounds.proofs.Tests.{at_most_through}
use Rattle.error_bounds.proofs.RootLaws as roots
use Rattle.error_bounds.proofs.Between as between

-- the least exact value, in error units, of a computed value z with such errors
abbrev least : Range → ℤ → ℤ
least e z = pos 256 *ℤ z -ℤ e.high

-- the greatest
abbrev greatest : Range → ℤ → ℤ
greatest e z = pos 256 *ℤ z -ℤ e.low

-- ---- rounding

-- a computed value less an error, in units of the square of an error unit
scaled_up : (bits : ℕ) (c x : ℤ)
    → (pos 256 *ℤ c -ℤ x) *ℤ pos (scale bits) ≡ pos 65536 *ℤ (c *ℤ one bits) -ℤ x *ℤ pos (scale bits)
scaled_up bits c x =
    products.plus_times (pos 256 *ℤ c) (neg_ℤ x) (pos (scale bits))
    ∙ ap (λ s. s +ℤ neg_ℤ x *ℤ pos (scale bits)) (products.exchange (pos 256) c (pos 256) (one bits))
    ∙ ap (λ s. pos 65536 *ℤ (c *ℤ one bits) +ℤ s) (products.negative_times x (pos (scale bits)))

-- the errors after rounding down, if any of it is rounded down
abbrev after : (whole : Bool) → Range → Range
after whole s = if whole then s else rounded_down s

-- the exact values before rounding are within the exact values by the errors after rounding
rounded : (bits : ℕ) (whole : Bool) (s : Range) (n c : ℤ) → floor_over n (2 ^ bits) ≡ c → (whole ≡ true → n ≡ c *ℤ one bits)
    → ((least (after whole s) c *ℤ pos (scale bits)) ≤ℤ (pos 65536 *ℤ n -ℤ s.high *ℤ pos (scale bits)))
    × ((pos 65536 *ℤ n -ℤ s.low *ℤ pos (scale bits)) ≤ℤ (greatest (after whole s) c *ℤ pos (scale bits)))
rounded bits true s n c f exact =
    let same = exact refl in
    (omega (arith, ints, scaled_up bits c s.high), omega (arith, ints, scaled_up bits c s.low))
rounded bits false s n c f exact =
    let floor = subst (λ q. IsFloor n (pos (2 ^ bits)) q) f (floor_over_is n (2 ^ bits) (two_pos bits)) in
    let l = floor.at_most in
    let u = floor.next_above in (
      omega (arith, ints, scaled_up bits c s.high),
      omega (arith, ints, scaled_up bits c (s.low -ℤ pos 256), products.plus_times s.low (negsuc 255) (pos (scale bits))),
    )

module _ {V : Type 0} (k : Numbers V) (h : AreOrdered k) (bits : ℕ) where
  open k.ring use {plus, times, negative as neg}

  -- the exact value x is as near to the computed value z as such errors say
  abbrev IsNear : Range → ℤ → V → Type 0
  IsNear = agreement.IsNear k h bits

  -- ---- sums

  -- an exact negative is as near to the computed one as the rule says
  pub negative_near : (p : Approximation) (z c : ℤ) (x : V) → Agrees k bits p z x → negative_of z ≡ Ok c → IsNear (negated p.error) c (neg x)
  negative_near p z c x a e =
      let m = number_is (neg_ℤ z) c e in
      between.wider k h (scale bits) _ _ _ _ (neg x) (omega (arith, ints)) (omega (arith, ints))
      (between.of_negative k h (scale bits) (least p.error z) (greatest p.error z) x a.near)

  -- and so is an exact sum
  pub sum_near : (p q : Approximation) (z w c : ℤ) (x y : V) → Agrees k bits p z x → Agrees k bits q w y → sum_of z w ≡ Ok c
      → IsNear (ranges_plus p.error q.error) c (plus x y)
  sum_near p q z w c x y a b e =
      let m = number_is (z +ℤ w) c e in
      between.wider k h (scale bits) _ _ _ _ (plus x y) (omega (arith, ints)) (omega (arith, ints))
      (between.of_sum k h (scale bits) (least p.error z) (greatest p.error z) (least q.error w) (greatest q.error w) x y a.near b.near)

  -- and an exact difference
  pub difference_near : (p q : Approximation) (z w c : ℤ) (x y : V) → Agrees k bits p z x → Agrees k bits q w y
      → difference_of z w ≡ Ok c → IsNear (less p.error q.error) c (minus k.ring x y)
  difference_near p q z w c x y a b e =
      let m = number_is (z -ℤ w) c e in
      between.wider k h (scale bits) _ _ _ _ (minus k.ring x y) (omega (arith, ints)) (omega (arith, ints))
      (between.of_difference k h (scale bits) (least p.error z) (greatest p.error z) (least q.error w) (greatest q.error w) x y a.near b.near)

  -- ---- products

  -- v differs from its value without errors by the spread of a product
  abbrev IsWithinSpread : (p q : Approximation) → (exact v : ℤ) → Type 0
  IsWithinSpread p q exact v =
      ((exact -ℤ (product_spread bits p q).high *ℤ pos (scale bits)) ≤ℤ v)
      × (v ≤ℤ (exact -ℤ (product_spread bits p q).low *ℤ pos (scale bits)))

  -- so is the product of two exact values, in squares of error units
  product_corner : (p q : Approximation) (z w e f : ℤ) → IsIn z p.computed → IsIn w q.computed → IsIn e p.error → IsIn f q.error
      → IsWithinSpread p q (pos 65536 *ℤ (z *ℤ w)) ((pos 256 *ℤ z -ℤ e) *ℤ (pos 256 *ℤ w -ℤ f))
  product_corner p q z w e f iz iw ie jf =
      let exact : ℤ = pos 256 *ℤ w -ℤ f in
      let whole : ℤ = pos 65536 *ℤ (z *ℤ w) in
      let n : ℤ = (z *ℤ f) *ℤ pos 256 +ℤ exact *ℤ e in
      let is : (pos 256 *ℤ z -ℤ e) *ℤ exact ≡ whole -ℤ n =
      products.product_apart (pos 256 *ℤ z) (pos 256 *ℤ w) e f
      ∙ ap (λ s. s -ℤ ((pos 256 *ℤ z) *ℤ f +ℤ exact *ℤ e)) (products.exchange (pos 256) z (pos 256) w)
      ∙ ap (λ s. whole -ℤ (s +ℤ exact *ℤ e)) (products.times_times (pos 256) z f ∙ *ℤ_comm (pos 256) (z *ℤ f)) in
      let r = times_range p.computed q.error in
      let r' = times_range (exact_range q) p.error in
      let first = ranges.in_scaled (z *ℤ f) 256 r (ranges.in_times z f p.computed q.error iz jf) in
      let second = ranges.in_times exact e (exact_range q) p.error (ranges.exact_in q w f iw jf) ie in
      let both = ranges.in_plus ((z *ℤ f) *ℤ pos 256) (exact *ℤ e) (scaled r (pos 256)) r' first second in
      let spread = ranges.over_is (product_numerator p q) (scale bits) (scale_above_zero bits) in
      let low : ℤ = (product_spread bits p q).low *ℤ pos (scale bits) in
      let high : ℤ = (product_spread bits p q).high *ℤ pos (scale bits) in
      subst (IsWithinSpread p q whole) (sym is) (ranges.within whole n (product_numerator p q) low high both spread.0 spread.1)

  -- an exact product is as near to the computed one as the rule says
  pub product_near : (p q : Approximation) (z w c : ℤ) (x y : V) → Agrees k bits p z x → Agrees k bits q w y
      → floor_over (z *ℤ w) (2 ^ bits) ≡ c → IsNear (product_error bits p q) c (times x y)
  product_near p q z w c x y a b f =
      let test = is_whole bits p.computed || is_whole bits q.computed in
      let exact = λ (e : test ≡ true). ranges.whole_product bits p.computed q.computed z w c e a.computed b.computed f in
      let round = rounded bits test (product_spread bits p q) (z *ℤ w) c f exact in
      let op = errors_in_order k h bits p z x a in
      let oq = errors_in_order k h bits q w y b in
      let corner = λ (e f : ℤ) (ie : IsIn e p.error) (jf : IsIn f q.error). product_corner p q z w e f a.computed b.computed ie jf in
      let ll = corner p.error.high q.error.high (ranges.high_in p.error op) (ranges.high_in q.error oq) in
      let lh = corner p.error.high q.error.low (ranges.high_in p.error op) (ranges.low_in q.error oq) in
      let hl = corner p.error.low q.error.high (ranges.low_in p.error op) (ranges.high_in q.error oq) in
      let hh = corner p.error.low q.error.low (ranges.low_in p.error op) (ranges.low_in q.error oq) in
      between.of_product k h (scale bits) (least p.error z) (greatest p.error z) (least q.error w) (greatest q.error w)
      (least (product_error bits p q) c) (greatest (product_error bits p q) c) x y (scale_above_zero bits) a.near b.near
      (at_most_through round.0 ll.0) (at_most_through round.0 lh.0) (at_most_through round.0 hl.0)
      (at_most_through round.0 hh.0) (at_most_through ll.1 round.1) (at_most_through lh.1 round.1)
      (at_most_through hl.1 round.1) (at_most_through hh.1 round.1)

  -- ---- quotients

  -- the dividend's error less a quotient's product with the divisor's error
  numerator_in : (p q : Approximation) (s : Range) (c e f : ℤ) → IsIn c (range s.low (s.high +ℤ pos 1)) → IsIn e p.error → IsIn f q.error
      → IsIn ((e *ℤ one bits -ℤ c *ℤ f) *ℤ pos 256) (scaled (quotient_numerator bits s p q) (pos 256))
  numerator_in p q s c e f ic ie jf =
      let up = range s.low (s.high +ℤ pos 1) in
      ranges.in_scaled (e *ℤ one bits -ℤ c *ℤ f) 256 (quotient_numerator bits s p q)
      (ranges.in_less (e *ℤ one bits) (c *ℤ f) (scaled p.error (one bits)) (times_range up q.error)
      (ranges.in_scaled e (2 ^ bits) p.error ie) (ranges.in_times c f up q.error ic jf))

  -- an exact dividend and divisor, with errors e and f, of a computed quotient c
  module _ (p q : Approximation) (s : Range) (z w c e f : ℤ) (iw : IsIn w q.computed) (ic : IsIn c s) (ie : IsIn e p.error)
      (jf : IsIn f q.error) (floor : IsFloorOfFraction (z *ℤ one bits) w c) where
    -- the exact dividend, in error units times error units
    abbrev dividend : ℤ
    dividend = pos (scale bits) *ℤ (pos 256 *ℤ z -ℤ e)

    -- the exact divisor, in error units
    abbrev divisor : ℤ
    divisor = pos 256 *ℤ w -ℤ f

    -- how far the computed quotient times the exact divisor is above the exact dividend
    abbrev gap : ℤ
    gap = (pos 256 *ℤ c) *ℤ divisor -ℤ dividend

    -- the rule's numerators
    abbrev numerators : Range
    numerators = scaled (quotient_numerator bits s p q) (pos 256)

    -- the rule's errors before rounding
    abbrev bounds : Range
    bounds = quotients numerators (exact_range q)

    -- the numerators of the computed quotient and of the next one
    abbrev first : ℤ
    first = (e *ℤ one bits -ℤ c *ℤ f) *ℤ pos 256

    abbrev next : ℤ
    next = (e *ℤ one bits -ℤ (c +ℤ pos 1) *ℤ f) *ℤ pos 256

    -- both are among the rule's numerators
    first_in : IsIn first numerators
    first_in = numerator_in p q s c e f (record { at_least = ic.at_least; at_most = omega (arith, ints, ic.at_most) }) ie jf

    next_in : IsIn next numerators
    next_in =
        let up : IsIn (c +ℤ pos 1) (range s.low (s.high +ℤ pos 1)) =
        record { at_least = omega (arith, ints, ic.at_least); at_most = omega (arith, ints, ic.at_most) } in
        numerator_in p q s (c +ℤ pos 1) e f up ie jf

    -- the exact quotient's bounds times a divisor above 0 are beyond the dividend
    quotient_corner_above : pos 0 <ℤ (exact_range q).low
        → ((least (quotient_error bits s p q) c *ℤ divisor) ≤ℤ dividend) × (dividend ≤ℤ (greatest (quotient_error bits s p q) c *ℤ divisor))
    quotient_corner_above above =
        let weights = ranges.weights (z *ℤ one bits) w c floor in
        let jd = ranges.exact_in q w f iw jf in
        let bx = ranges.quotients_above numerators (exact_range q) first divisor above first_in jd in
        let by = ranges.quotients_above numerators (exact_range q) next divisor above next_in jd in
        let up : pos 0 ≤ℤ (pos 256 *ℤ divisor) = omega (arith, ints, jd.at_least) in
        let average = weights.2.carried gap (pos 256 *ℤ divisor) first next (ranges.gap_average (one bits) z e w f c) in
        let m =
        ranges.mixed_above weights.0 weights.1 first next gap (pos 256 *ℤ divisor) (bounds.low *ℤ divisor) (bounds.high *ℤ divisor)
        weights.2.positive weights.2.from_zero weights.2.at_most average up bx.0 bx.1 by.0 by.1 in
        let low = ranges.least_gap (pos 256 *ℤ c) bounds.high divisor dividend m.1 in
        (low, ranges.greatest_gap (pos 256 *ℤ c) bounds.low divisor dividend m.0)

    -- and those times a divisor below 0
    quotient_corner_below : (exact_range q).high <ℤ pos 0
        → (dividend ≤ℤ (least (quotient_error bits s p q) c *ℤ divisor)) × ((greatest (quotient_error bits s p q) c *ℤ divisor) ≤ℤ dividend)
    quotient_corner_below below =
        let weights = ranges.weights (z *ℤ one bits) w c floor in
        let jd = ranges.exact_in q w f iw jf in
        let bx = ranges.quotients_below numerators (exact_range q) first divisor below first_in jd in
        let by = ranges.quotients_below numerators (exact_range q) next divisor below next_in jd in
        let down : (pos 256 *ℤ divisor) ≤ℤ pos 0 = omega (arith, ints, jd.at_most) in
        let average = weights.2.carried gap (pos 256 *ℤ divisor) first next (ranges.gap_average (one bits) z e w f c) in
        let m =
        ranges.mixed_below weights.0 weights.1 first next gap (pos 256 *ℤ divisor) (bounds.high *ℤ divisor) (bounds.low *ℤ divisor)
        weights.2.positive weights.2.from_zero weights.2.at_most average down bx.0 bx.1 by.0 by.1 in (
          ranges.least_gap_below (pos 256 *ℤ c) bounds.high divisor dividend m.0,
          ranges.greatest_gap_below (pos 256 *ℤ c) bounds.low divisor dividend m.1,
        )

  -- an exact quotient is as near to the computed one as the rule says
  quotient_near : (p q : Approximation) (s : Range) (z w c : ℤ) (x y t : V) → Agrees k bits p z x → Agrees k bits q w y → IsIn c s
      → IsFloorOfFraction (z *ℤ one bits) w c → k.quotient x y ≡ Some t → (pos 0 <ℤ (exact_range q).low) ⊎ ((exact_range q).high <ℤ pos 0)
      → IsNear (quotient_error bits s p q) c t
  quotient_near p q s z w c x y t a b ic floor e (inl above) =
      let op = errors_in_order k h bits p z x a in
      let oq = errors_in_order k h bits q w y b in
      let corner =
      λ (e f : ℤ) (ie : IsIn e p.error) (jf : IsIn f q.error). quotient_corner_above p q s z w c e f b.computed ic ie jf floor above in
      let ll = corner p.error.high q.error.high (ranges.high_in p.error op) (ranges.high_in q.error oq) in
      let lh = corner p.error.high q.error.low (ranges.high_in p.error op) (ranges.low_in q.error oq) in
      let hl = corner p.error.low q.error.high (ranges.low_in p.error op) (ranges.high_in q.error oq) in
      let hh = corner p.error.low q.error.low (ranges.low_in p.error op) (ranges.low_in q.error oq) in
      let some = ranges.above_least (ranges.exact_in q w q.error.high b.computed (ranges.high_in q.error oq)) above in
      between.of_quotient_above k h (scale bits) (least p.error z) (greatest p.error z) (least q.error w) (greatest q.error w)
      (least (quotient_error bits s p q) c) (greatest (quotient_error bits s p q) c) x y t (scale_above_zero bits) a.near b.near some e
      ll.0 lh.0 hl.1 hh.1
  quotient_near p q s z w c x y t a b ic floor e (inr below) =
      let op = errors_in_order k h bits p z x a in
      let oq = errors_in_order k h bits q w y b in
      let corner =
      λ (e f : ℤ) (ie : IsIn e p.error) (jf : IsIn f q.error). quotient_corner_below p q s z w c e f b.computed ic ie jf floor below in
      let ll = corner p.error.high q.error.high (ranges.high_in p.error op) (ranges.high_in q.error oq) in
      let lh = corner p.error.high q.error.low (ranges.high_in p.error op) (ranges.low_in q.error oq) in
      let hl = corner p.error.low q.error.high (ranges.low_in p.error op) (ranges.high_in q.error oq) in
      let hh = corner p.error.low q.error.low (ranges.low_in p.error op) (ranges.low_in q.error oq) in
      let some = ranges.below_greatest (ranges.exact_in q w q.error.low b.computed (ranges.low_in q.error oq)) below in
      between.of_quotient_below k h (scale bits) (least p.error z) (greatest p.error z) (least q.error w) (greatest q.error w)
      (least (quotient_error bits s p q) c) (greatest (quotient_error bits s p q) c) x y t (scale_above_zero bits) a.near b.near some e
      hl.0 hh.0 ll.1 lh.1

  -- the same by the rule's conditions
  pub quotient_rule_near : (p q : Approximation) (s e : Range) (z w c : ℤ) (x y t : V) → Agrees k bits p z x → Agrees k bits q w y
      → quotient_of bits z w ≡ Ok c → k.quotient x y ≡ Some t → IsIn c s → quotient_errors bits s p q ≡ Some e → IsNear e c t
  quotient_rule_near p q s e z w c x y t a b is is' inside rule =
      let divisors = not_refused (has_zero (exact_range q)) _ e rule in
      let error = same_Some (quotient_error bits s p q) e (if_passed _ (Some (quotient_error bits s p q)) e divisors.1) in
      let found = quotient_floor bits z w (quotient_of bits z w) refl in
      let floor : IsFloorOfFraction (z *ℤ one bits) w c = subst (λ o. IfOk o (IsFloorOfFraction (z *ℤ one bits) w)) is found in
      subst (λ (r : Range). IsNear r c t) error
      (quotient_near p q s z w c x y t a b inside floor is' (on_one_side (exact_range q) divisors.0))

  -- ---- roots

  -- an exact root is as near to the computed one as the rule says
  root_near : (p : Approximation) (s : Range) (n m : ℕ) (x y : V) → Agrees k bits p (pos n) x → m ≡ root (n * 2 ^ bits) → IsIn (pos m) s
      → pos 0 ≤ℤ s.low → k.root x ≡ Some y → IsNear (root_error bits s p) (pos m) y
  root_near p s n m x y a is ic from e =
      let t = root_error bits s p in
      let order = errors_in_order k h bits p (pos n) x a in
      let lo = roots.root_lower bits p s n m is a.computed from ic.at_least in
      let hi = roots.root_upper bits p s n m is a.computed order from ic.at_least in
      let low : ℤ = pos (256 * m) -ℤ pos lo.0 in
      let high : ℤ = pos (256 * suc m + hi.0) in
      let first = int_max (pos 0) (least p.error (pos n)) in
      let from_zero = between.root_argument k h (scale bits) (least p.error (pos n)) (greatest p.error (pos n)) x y e a.near in
      let near =
      between.of_root k h (scale bits) first (greatest p.error (pos n)) low high x y (scale_above_zero bits) from_zero e
      lo.2 (omega (arith, ints)) hi.2 in
      between.wider k h (scale bits) low high (least t (pos m)) (greatest t (pos m)) y (lower_end lo.0 t.high lo.1)
      (upper_end hi.0 (roots.spread_below bits p s) hi.1) near
    where
      lower_end : (g : ℕ) (v : ℤ) → v ≡ pos g → (pos 256 *ℤ pos m -ℤ v) ≤ℤ (pos (256 * m) -ℤ pos g)
      lower_end g v e = omega (arith, ints)

      upper_end : (g : ℕ) (v : ℤ) → v ≡ pos g → pos (256 * suc m + g) ≤ℤ (pos 256 *ℤ pos m -ℤ (neg_ℤ v -ℤ pos 256))
      upper_end g v e = omega (arith, ints)

  -- the same for each computed root
  pub root_rule_near : (p : Approximation) (s : Range) (z c : ℤ) (x y : V) → Agrees k bits p z x → square_root_of bits z ≡ Ok c
      → k.root x ≡ Some y → IsIn c s → pos 0 ≤ℤ s.low → IsNear (root_error bits s p) c y
  root_rule_near p s (negsuc n) c x y a e e' inside from = absurd (cc)
  root_rule_near p s (pos n) c x y a e e' inside from =
      let m : ℕ = root (n * 2 ^ bits) in
      let same : pos m ≡ c = number_is (pos m) c e in
      subst (λ v. IsNear (root_error bits s p) v y) same
      (root_near p s n m x y a refl (subst (λ v. IsIn v s) (sym same) inside) from e')
