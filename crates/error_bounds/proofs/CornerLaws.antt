-- Products and quotients of ranges at the ends that make the least and the greatest one.
use Rattle.std.proofs.Common.{◌≡◌, ℕ, Bool, true, false, ℤ, pos, negsuc, neg_ℤ, ◌*ℤ◌, ◌≤ℤ◌, ◌<ℤ◌, refl, ap, arith}
use Rattle.std.proofs.Math.IntN.{*ℤ_comm}
use Rattle.std.specs.Int.{int_max, int_min}
use Rattle.std.proofs.lemmas.Int.{ints, clamps}
use Rattle.fixed.specs.Arithmetic.{floor_of}
use Rattle.interval_domain.specs.Ranges.{IsWithin, Range, has_zero, quotients, range, scaled, times, up_over}
use Rattle.interval_domain.proofs.FloorLemmas.{div_falls, floor_rises}
use Rattle.interval_domain.proofs.RangeLemmas.{around_ordered, corners_small, quotients_ordered, range_same, scaled_ordered, zero_in}
use Rattle.error_bounds.proofs.IntegerProducts.{times_keeps, times_turns}

-- ---- products

-- products with a number up to 0 turn the order
scaled_turned : (a b n : ℤ) → a ≤ℤ b → n ≤ℤ pos 0 → (b *ℤ n) ≤ℤ (a *ℤ n)
scaled_turned a b n h p = rw (*ℤ_comm b n, *ℤ_comm a n) (times_turns n a b p h)

-- the least and the greatest product of an integer from 0 are those of the same ends
pub products_kept : (a b n : ℤ) → a ≤ℤ b → pos 0 ≤ℤ n
    → (a *ℤ n ≡ int_min (a *ℤ n) (b *ℤ n)) × (b *ℤ n ≡ int_max (a *ℤ n) (b *ℤ n))
products_kept a b n h p =
    let k = scaled_ordered a b n h p in (omega (arith, ints, clamps, k), omega (arith, ints, clamps, k))

-- those of an integer up to 0 are those of the other ends
pub products_turned : (a b n : ℤ) → a ≤ℤ b → n ≤ℤ pos 0
    → (b *ℤ n ≡ int_min (a *ℤ n) (b *ℤ n)) × (a *ℤ n ≡ int_max (a *ℤ n) (b *ℤ n))
products_turned a b n h p =
    let k = scaled_turned a b n h p in (omega (arith, ints, clamps, k), omega (arith, ints, clamps, k))

-- the products of numbers from 0 are from the least one with the second range's low end to the greatest one with its high end
times_from_zero : (x y : Range) → pos 0 ≤ℤ x.low → x.low ≤ℤ x.high → y.low ≤ℤ y.high
    → range (int_min (x.low *ℤ y.low) (x.high *ℤ y.low)) (int_max (x.low *ℤ y.high) (x.high *ℤ y.high)) ≡ times x y
times_from_zero x y p h i =
    let k = times_keeps x.low y.low y.high p i in
    let l = times_keeps x.high y.low y.high (omega (arith, ints)) i in
    range_same _ _ _ _ (omega (arith, ints, clamps, k, l)) (omega (arith, ints, clamps, k, l))

-- the products of numbers up to 0 are from the least one with the high end to the greatest one with the low end
times_to_zero : (x y : Range) → x.high ≤ℤ pos 0 → x.low ≤ℤ x.high → y.low ≤ℤ y.high
    → range (int_min (x.low *ℤ y.high) (x.high *ℤ y.high)) (int_max (x.low *ℤ y.low) (x.high *ℤ y.low)) ≡ times x y
times_to_zero x y p h i =
    let k = times_turns x.low y.low y.high (omega (arith, ints)) i in
    let l = times_turns x.high y.low y.high p i in
    range_same _ _ _ _ (omega (arith, ints, clamps, k, l)) (omega (arith, ints, clamps, k, l))

-- The products of a range from the least one with a number to the greatest one with another are these, and the products of
-- its ends with both numbers fit.
pub record AreOuter (n : ℕ) (x : Range) (least greatest : ℤ) (products : Range) : Type 0 where
  pub least_fits : IsWithin n (scaled x least)
  pub greatest_fits : IsWithin n (scaled x greatest)
  pub ordered : int_min (x.low *ℤ least) (x.high *ℤ least) ≤ℤ int_max (x.low *ℤ greatest) (x.high *ℤ greatest)
  pub are : range (int_min (x.low *ℤ least) (x.high *ℤ least)) (int_max (x.low *ℤ greatest) (x.high *ℤ greatest)) ≡ products

-- all products of two ranges fit, so the products of the four corners do
corners_fit : (n : ℕ) (x y : Range) → IsWithin n (times x y) → IsWithin n (scaled x y.low) × IsWithin n (scaled x y.high)
corners_fit n x y h =
    let k = corners_small n (x.low *ℤ y.low) (x.low *ℤ y.high) (x.high *ℤ y.low) (x.high *ℤ y.high) h in
    (record { low = k.0; high = k.2 }, record { low = k.1; high = k.3 })

outer : (n : ℕ) (x y : Range) (least greatest : ℤ) → IsWithin n (scaled x least) → IsWithin n (scaled x greatest)
    → range (int_min (x.low *ℤ least) (x.high *ℤ least)) (int_max (x.low *ℤ greatest) (x.high *ℤ greatest)) ≡ times x y
    → AreOuter n x least greatest (times x y)
outer n x y least greatest p q t =
    let o = around_ordered (x.low *ℤ y.low) (x.low *ℤ y.high) (x.high *ℤ y.low) (x.high *ℤ y.high) in
    record { least_fits = p; greatest_fits = q; ordered = rw (ap (λ r. r.low) t, ap (λ r. r.high) t) o; are = t }

-- the products of a range from 0 and of one up to 0
pub outer_from_zero : (n : ℕ) (x y : Range) → IsWithin n (times x y) → pos 0 ≤ℤ x.low → x.low ≤ℤ x.high → y.low ≤ℤ y.high
    → AreOuter n x y.low y.high (times x y)
outer_from_zero n x y fit p h i = let k = corners_fit n x y fit in outer n x y y.low y.high k.0 k.1 (times_from_zero x y p h i)

pub outer_to_zero : (n : ℕ) (x y : Range) → IsWithin n (times x y) → x.high ≤ℤ pos 0 → x.low ≤ℤ x.high → y.low ≤ℤ y.high
    → AreOuter n x y.high y.low (times x y)
outer_to_zero n x y fit p h i = let k = corners_fit n x y fit in outer n x y y.high y.low k.1 k.0 (times_to_zero x y p h i)

-- ---- quotients

-- a quotient of a number from 0 falls in a divisor above 0
quotient_falls : (n c d : ℤ) → pos 0 ≤ℤ n → pos 0 <ℤ c → c ≤ℤ d → floor_of n d ≤ℤ floor_of n c
quotient_falls (pos n) (pos c) (pos d) z p h = omega (arith, ints, div_falls n c d (omega (arith, ints)) (omega (arith, ints)))
quotient_falls _ _ _ z p h = absurd (omega (arith, ints))

-- a quotient of a number below 0 rises
quotient_rises : (n c d : ℤ) → n <ℤ pos 0 → pos 0 <ℤ c → c ≤ℤ d → floor_of n c ≤ℤ floor_of n d
quotient_rises (negsuc n) (pos c) (pos d) z p h = omega (arith, ints, div_falls n c d (omega (arith, ints)) (omega (arith, ints)))
quotient_rises _ _ _ z p h = absurd (omega (arith, ints))

-- a range of numbers above 0 doesn't have 0
above_none : (y : Range) → pos 0 <ℤ y.low → has_zero y ≡ false
above_none y p = by_test (has_zero y) refl
  where
    by_test : (test : Bool) → has_zero y ≡ test → test ≡ false
    by_test true e = let i = zero_in y e in absurd (omega (arith, ints, i.at_least, p))
    by_test false e = refl

-- a quotient rises in the dividend
dividend_rises : (x y d : ℤ) → pos 0 <ℤ d → x ≤ℤ y → floor_of x d ≤ℤ floor_of y d
dividend_rises x y (pos d) p h = floor_rises d x y (omega (arith, ints)) h
dividend_rises x y (negsuc d) p h = absurd (omega (arith, ints))

-- the least quotient of a number from 0 is the one with the greatest divisor
pub least_of_greatest : (n c d : ℤ) → pos 0 ≤ℤ n → pos 0 <ℤ c → c ≤ℤ d → floor_of n d ≡ int_min (floor_of n c) (floor_of n d)
least_of_greatest n c d z p h = omega (arith, ints, clamps, quotient_falls n c d z p h)

-- the least quotient of a number below 0 is the one with the least divisor
pub least_of_least : (n c d : ℤ) → n <ℤ pos 0 → pos 0 <ℤ c → c ≤ℤ d → floor_of n c ≡ int_min (floor_of n c) (floor_of n d)
least_of_least n c d z p h = omega (arith, ints, clamps, quotient_rises n c d z p h)

-- the greatest ceiling is the negative of the least floor of the negative
pub greatest_is : (n c d : ℤ) → neg_ℤ (int_min (floor_of (neg_ℤ n) c) (floor_of (neg_ℤ n) d)) ≡ int_max (up_over n c) (up_over n d)
greatest_is n c d = omega (arith, ints, clamps)

-- quotients by divisors above 0 are from the least one of the low end to the greatest one of the high end
pub quotients_are : (x y : Range) → x.low ≤ℤ x.high → pos 0 <ℤ y.low → y.low ≤ℤ y.high
    → range (int_min (floor_of x.low y.low) (floor_of x.low y.high)) (int_max (up_over x.high y.low) (up_over x.high y.high)) ≡ quotients x y
quotients_are x y h p i =
    let q : pos 0 <ℤ y.high = omega (arith, ints) in
    let t : neg_ℤ x.high ≤ℤ neg_ℤ x.low = omega (arith, ints) in
    let a = dividend_rises x.low x.high y.low p h in
    let b = dividend_rises x.low x.high y.high q h in
    let c = dividend_rises (neg_ℤ x.high) (neg_ℤ x.low) y.low p t in
    let d = dividend_rises (neg_ℤ x.high) (neg_ℤ x.low) y.high q t in
    range_same _ _ _ _ (omega (arith, ints, clamps, a, b)) (omega (arith, ints, clamps, c, d))

-- and in this order
pub quotients_in_order : (x y : Range) (low high : ℤ) → y.low ≤ℤ y.high → pos 0 <ℤ y.low → range low high ≡ quotients x y → low ≤ℤ high
quotients_in_order x y low high i p e = quotients_ordered x y (range low high) i (above_none y p) e
