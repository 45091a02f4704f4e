-- Ends of ranges: their order, and their magnitudes.
use Rattle.std.proofs.Common.{◌≡◌, ◌≢◌, ℕ, zero, suc, ◌+◌, ◌*◌, ◌≤◌, ◌<◌, ℤ, pos, negsuc, neg_ℤ, ◌+ℤ◌, ◌-ℤ◌, ◌*ℤ◌, ◌≤ℤ◌, ◌<ℤ◌, Bool, true, false, arith, refl, ◌∙◌, inl, inr, ⊎_elim, unsigned_abs, ◌⊎◌, int_le}
use Rattle.std.proofs.lemmas.Bool.{and_cases, and_parts}
use Rattle.std.specs.Int.{int_max, int_min}
use Rattle.std.proofs.lemmas.Int.{ints, clamps, by_lt_z, unsigned_abs-mul}
use Rattle.std.proofs.lemmas.Bool.Decides.{nat_tests}
use Rattle.std.proofs.lemmas.Nat.{mul-le}
use Rattle.std.proofs.Math.Nat.{div-le_self}
use Rattle.fixed.specs.Arithmetic.{floor_of, floor_over}
use Rattle.fixed.proofs.FloorLemmas.{floor_over_is}
use Rattle.fixed.proofs.IntegerLaws.{neg_times, times_next}
use Rattle.interval_domain.proofs.FloorLemmas.{floor_rises, times_rises}
use Rattle.interval_domain.proofs.OutcomeLemmas.{max_keeps, min_keeps}
use Rattle.interval_domain.specs.Ranges.{IsIn, IsWithin, Range, around, between, has_zero, hull, less, over, plus, quotients, range, scaled, times, up_over}

-- ---- equations

-- equal ends make equal ranges
pub range_same : (a b c d : ℤ) → a ≡ c → b ≡ d → range a b ≡ range c d
range_same a b c d e f = rw (e, f) refl

-- a function of four integers has equal values at equal integers
pub four_same : {A : Type 0} (f : ℤ → ℤ → ℤ → ℤ → A) (p q r s p' q' r' s' : ℤ)
    → p ≡ p' → q ≡ q' → r ≡ r' → s ≡ s' → f p q r s ≡ f p' q' r' s'
four_same f p q r s p' q' r' s' e g h i = rw (e, g, h, i) refl

-- equal ranges have equal hulls
pub hull_same : (a b x y r : Range) → a ≡ x → b ≡ y → r ≡ hull a b → r ≡ hull x y
hull_same a b x y r e f h = h ∙ rw (e, f) refl

-- ---- order

-- the least of four integers
abbrev pub least_of : (p q r s : ℤ) → ℤ
least_of p q r s = int_min (int_min p q) (int_min r s)

-- the greatest of four integers
abbrev pub greatest_of : (p q r s : ℤ) → ℤ
greatest_of p q r s = int_max (int_max p q) (int_max r s)

-- the lesser is at most the greater
pub lesser_at_most : (a b : ℤ) → (int_min a b ≤ℤ a) × (int_min a b ≤ℤ b)
lesser_at_most a b = (omega (arith, ints, clamps), omega (arith, ints, clamps))

-- the greater is at least the lesser
pub greater_at_least : (a b : ℤ) → (a ≤ℤ int_max a b) × (b ≤ℤ int_max a b)
greater_at_least a b = (omega (arith, ints, clamps), omega (arith, ints, clamps))

-- the least of four integers is at most each of them
pub least_at_most : (p q r s : ℤ)
    → (least_of p q r s ≤ℤ p) × (least_of p q r s ≤ℤ q) × (least_of p q r s ≤ℤ r) × (least_of p q r s ≤ℤ s)
least_at_most p q r s =
    let a = lesser_at_most p q in
    let b = lesser_at_most r s in
    let c = lesser_at_most (int_min p q) (int_min r s) in
    (omega (arith, ints, a.0, c.0), omega (arith, ints, a.1, c.0), omega (arith, ints, b.0, c.1), omega (arith, ints, b.1, c.1))

-- the greatest of four integers is at least each of them
pub greatest_at_least : (p q r s : ℤ)
    → (p ≤ℤ greatest_of p q r s) × (q ≤ℤ greatest_of p q r s) × (r ≤ℤ greatest_of p q r s)
    × (s ≤ℤ greatest_of p q r s)
greatest_at_least p q r s =
    let a = greater_at_least p q in
    let b = greater_at_least r s in
    let c = greater_at_least (int_max p q) (int_max r s) in
    (omega (arith, ints, a.0, c.0), omega (arith, ints, a.1, c.0), omega (arith, ints, b.0, c.1), omega (arith, ints, b.1, c.1))

-- the least of four integers is at most the greatest
pub around_ordered : (p q r s : ℤ) → least_of p q r s ≤ℤ greatest_of p q r s
around_ordered p q r s = let a = (least_at_most p q r s).0 in let b = (greatest_at_least p q r s).0 in omega (arith, ints)

-- products with a number from 0 keep the order
pub scaled_ordered : (a b c : ℤ) → a ≤ℤ b → pos 0 ≤ℤ c → (a *ℤ c) ≤ℤ (b *ℤ c)
scaled_ordered a b (pos c) h p = times_rises c a b h
scaled_ordered a b (negsuc c) h p = absurd (omega (arith, ints))

-- a quotient is at most another if its product with the divisor is
quotient_at_most : (q r : ℤ) (d : ℕ) → 0 < d → (q *ℤ pos d) ≤ℤ neg_ℤ (r *ℤ pos d) → q ≤ℤ neg_ℤ r
quotient_at_most q r d p h =
    by_lt_z (neg_ℤ r) q
    (λ lt. let k = times_next (neg_ℤ r) q d lt in let e = neg_times r d in absurd (omega (arith, ints)))
    (λ le. le)

-- a floor is at most the ceiling, over a natural number
floor_below_up : (n : ℤ) (d : ℕ) → 0 < d → floor_over n d ≤ℤ neg_ℤ (floor_over (neg_ℤ n) d)
floor_below_up n d p =
    let l = (floor_over_is n d p).at_most in
    let u = (floor_over_is (neg_ℤ n) d p).at_most in
    quotient_at_most (floor_over n d) (floor_over (neg_ℤ n) d) d p (omega (arith, ints))

-- a floor is at most the ceiling
pub floor_at_most : (n d : ℤ) → d ≢ pos 0 → floor_of n d ≤ℤ up_over n d
floor_at_most n (pos zero) h = absurd (h refl)
floor_at_most n (pos (suc d)) h = floor_below_up n (suc d) (omega arith)
floor_at_most n (negsuc d) h = floor_below_up (neg_ℤ n) (suc d) (omega arith)

-- the floor of the lesser is at most the ceiling of the greater
pub over_ordered : (a b d : ℤ) → a ≤ℤ b → pos 0 <ℤ d → floor_of a d ≤ℤ up_over b d
over_ordered a b (pos zero) h p = absurd (omega (arith, ints))
over_ordered a b (pos (suc d)) h p =
    let k = floor_rises (suc d) a b (omega arith) h in
    let l = floor_below_up b (suc d) (omega arith) in
    omega (arith, ints)
over_ordered a b (negsuc d) h p = absurd (omega (arith, ints))

-- the least end of a range without 0 isn't 0
pub low_nonzero : (lo hi : ℤ) → lo ≤ℤ hi → has_zero (range lo hi) ≡ false → lo ≢ pos 0
low_nonzero (pos zero) (pos m) h e = λ z. grind (arith, ints, nat_tests)
low_nonzero (pos zero) (negsuc m) h e = absurd (omega (arith, ints))
low_nonzero (pos (suc n)) hi h e = λ z. absurd (omega (arith, ints))
low_nonzero (negsuc n) hi h e = λ z. cc

-- ---- ranges with and without 0

-- a range without 0 is above 0 or below 0
pub on_one_side : (x : Range) → has_zero x ≡ false → (pos 0 <ℤ x.low) ⊎ (x.high <ℤ pos 0)
on_one_side x e =
    ⊎_elim
    (λ (above : int_le x.low (pos 0) ≡ false). inl (omega (arith, ints, above)))
    (λ (below : int_le (pos 0) x.high ≡ false). inr (omega (arith, ints, below)))
    (and_cases (int_le x.low (pos 0)) (int_le (pos 0) x.high) e)

-- 0 is in a range that is found to have it
pub zero_in : (x : Range) → has_zero x ≡ true → IsIn (pos 0) x
zero_in x e =
    let both = and_parts (int_le x.low (pos 0)) (int_le (pos 0) x.high) e in
    record { at_least = omega (arith, ints, both.0); at_most = omega (arith, ints, both.1) }

-- and in no other range
pub zero_out : (x : Range) → has_zero x ≡ false → IsIn (pos 0) x → ⊥
zero_out x e i =
    ⊎_elim
    (λ (above : pos 0 <ℤ x.low). omega (arith, ints, i.at_least))
    (λ (below : x.high <ℤ pos 0). omega (arith, ints, i.at_most))
    (on_one_side x e)

-- a range with 0 is found to have it
pub zero_found : (x : Range) → IsIn (pos 0) x → has_zero x ≡ true
zero_found x i = not_false (has_zero x) (λ e. zero_out x e i)
  where
    not_false : (b : Bool) → (b ≡ false → ⊥) → b ≡ true
    not_false true n = refl
    not_false false n = absurd (n refl)

-- ---- members of a hull

-- a member of the first range is in the hull of both
pub in_first : (x y : Range) (z : ℤ) → IsIn z x → IsIn z (hull x y)
in_first x y z m = record { at_least = omega (arith, ints, clamps, m.at_least); at_most = omega (arith, ints, clamps, m.at_most) }

-- and so is a member of the second
pub in_second : (x y : Range) (z : ℤ) → IsIn z y → IsIn z (hull x y)
in_second x y z m = record { at_least = omega (arith, ints, clamps, m.at_least); at_most = omega (arith, ints, clamps, m.at_most) }

-- ---- magnitudes

-- an integer between two small ones is small
pub between_small : (n : ℕ) (lo z hi : ℤ) → unsigned_abs lo ≤ n → unsigned_abs hi ≤ n → lo ≤ℤ z → z ≤ℤ hi → unsigned_abs z ≤ n
between_small n (pos a) (pos b) (pos c) p q h k = omega (arith, ints)
between_small n (negsuc a) (pos b) (pos c) p q h k = omega (arith, ints)
between_small n (negsuc a) (negsuc b) hi p q h k = omega (arith, ints)
between_small n (pos a) (negsuc b) hi p q h k = absurd (omega (arith, ints))
between_small n lo (pos b) (negsuc c) p q h k = absurd (omega (arith, ints))

-- four integers are small if the range around them is
pub corners_small : (n : ℕ) (p q r s : ℤ) → IsWithin n (around p q r s)
    → (unsigned_abs p ≤ n) × (unsigned_abs q ≤ n) × (unsigned_abs r ≤ n) × (unsigned_abs s ≤ n)
corners_small n p q r s h =
    let a = least_at_most p q r s in
    let b = greatest_at_least p q r s in (
      between_small n _ p _ h.low h.high a.0 b.0,
      between_small n _ q _ h.low h.high a.1 b.1,
      between_small n _ r _ h.low h.high a.2 b.2,
      between_small n _ s _ h.low h.high a.3 b.3,
    )

-- the range around four small integers is small
pub around_small : (n : ℕ) (p q r s : ℤ)
    → unsigned_abs p ≤ n → unsigned_abs q ≤ n → unsigned_abs r ≤ n → unsigned_abs s ≤ n → IsWithin n (around p q r s)
around_small n p q r s a b c d =
    let Small : ℤ → Type 0 = λ z. unsigned_abs z ≤ n in
    record {
      low = min_keeps Small (int_min p q) (int_min r s) (min_keeps Small p q a b) (min_keeps Small r s c d);
      high = max_keeps Small (int_max p q) (int_max r s) (max_keeps Small p q a b) (max_keeps Small r s c d);
    }

-- the magnitude of a product is at most the product of bounds
pub product_small : (m n : ℕ) (a b : ℤ) → unsigned_abs a ≤ m → unsigned_abs b ≤ n → unsigned_abs (a *ℤ b) ≤ m * n
product_small m n a b p q = rw (unsigned_abs-mul a b) (mul-le (unsigned_abs a) (unsigned_abs b) m n p q)

-- products of small integers are small
pub times_small : (m n : ℕ) (x y : Range) → IsWithin m x → IsWithin n y → IsWithin (m * n) (times x y)
times_small m n x y p q =
    around_small (m * n) (x.low *ℤ y.low) (x.low *ℤ y.high) (x.high *ℤ y.low) (x.high *ℤ y.high)
    (product_small m n x.low y.low p.low q.low) (product_small m n x.low y.high p.low q.high)
    (product_small m n x.high y.low p.high q.low) (product_small m n x.high y.high p.high q.high)

-- products with a small factor are small
pub scaled_small : (m n : ℕ) (x : Range) (c : ℤ) → IsWithin m x → unsigned_abs c ≤ n → IsWithin (m * n) (scaled x c)
scaled_small m n x c p q = record { low = product_small m n x.low c p.low q; high = product_small m n x.high c p.high q }

-- a range within a bound is within a greater one
pub within_more : (m n : ℕ) (x : Range) → m ≤ n → IsWithin m x → IsWithin n x
within_more m n x h p = let l = p.low in let u = p.high in record { low = omega arith; high = omega arith }

-- a floor over a natural number is no greater in magnitude than the dividend
floor_over_small : (n : ℤ) (d : ℕ) → unsigned_abs (floor_over n d) ≤ unsigned_abs n
floor_over_small (pos n) d = div-le_self n d
floor_over_small (negsuc n) d = let k = div-le_self n d in omega arith

-- a number and its negative have one magnitude
pub negative_magnitude : (n : ℤ) → unsigned_abs (neg_ℤ n) ≡ unsigned_abs n
negative_magnitude n = omega (arith, ints)

-- a floor is no greater in magnitude than the dividend
pub floor_small : (n d : ℤ) → unsigned_abs (floor_of n d) ≤ unsigned_abs n
floor_small n (pos d) = floor_over_small n d
floor_small n (negsuc d) = let k = floor_over_small (neg_ℤ n) (suc d) in let e = negative_magnitude n in omega arith

-- a ceiling is no greater in magnitude than the dividend
pub up_small : (n d : ℤ) → unsigned_abs (up_over n d) ≤ unsigned_abs n
up_small n d =
    let k = floor_small (neg_ℤ n) d in
    let e = negative_magnitude n in
    let f = negative_magnitude (floor_of (neg_ℤ n) d) in
    omega arith

-- quotients with an integer are no greater than the dividends
pub over_small : (n : ℕ) (x : Range) (d : ℤ) → IsWithin n x → IsWithin n (over x d)
over_small n x d p = record { low = omega (arith, floor_small x.low d, p.low); high = omega (arith, up_small x.high d, p.high) }

-- quotients are no greater than the dividends
pub quotients_small : (n : ℕ) (x y : Range) → IsWithin n x → IsWithin n (quotients x y)
quotients_small n x y p =
    let down : (a d : ℤ) → unsigned_abs a ≤ n → unsigned_abs (floor_of a d) ≤ n = λ a d h. omega (arith, floor_small a d, h) in
    let up : (a d : ℤ) → unsigned_abs a ≤ n → unsigned_abs (up_over a d) ≤ n = λ a d h. omega (arith, up_small a d, h) in
    record {
      low = (around_small n (floor_of x.low y.low) (floor_of x.low y.high) (floor_of x.high y.low) (floor_of x.high y.high)
          (down x.low y.low p.low) (down x.low y.high p.low) (down x.high y.low p.high) (down x.high y.high p.high)).low;
      high = (around_small n (up_over x.low y.low) (up_over x.low y.high) (up_over x.high y.low) (up_over x.high y.high)
          (up x.low y.low p.low) (up x.low y.high p.low) (up x.high y.low p.high) (up x.high y.high p.high)).high;
    }

-- quotients, from the hulls of the floors and of the ceilings
pub quotients_are : (x y a b p q lows highs : Range)
    → a ≡ between (floor_of x.low y.low) (floor_of x.low y.high) → b ≡ between (floor_of x.high y.low) (floor_of x.high y.high)
    → p ≡ between (up_over x.low y.low) (up_over x.low y.high) → q ≡ between (up_over x.high y.low) (up_over x.high y.high)
    → lows ≡ hull a b → highs ≡ hull p q → range lows.low highs.high ≡ quotients x y
quotients_are x y a b p q lows highs ea eb ep eq l h = rw (l, h, ea, eb, ep, eq) refl

-- the least of the floors is at most the greatest of the ceilings
pub quotients_ordered : (x y r : Range) → y.low ≤ℤ y.high → has_zero y ≡ false → r ≡ quotients x y → r.low ≤ℤ r.high
quotients_ordered x y r o none e =
    let l = (least_at_most (floor_of x.low y.low) (floor_of x.low y.high) (floor_of x.high y.low) (floor_of x.high y.high)).0 in
    let u = (greatest_at_least (up_over x.low y.low) (up_over x.low y.high) (up_over x.high y.low) (up_over x.high y.high)).0 in
    let m = floor_at_most x.low y.low (low_nonzero y.low y.high o none) in
    rw e (omega (arith, ints))

-- equal ranges are within the same bounds
pub within_same : (n : ℕ) (x y : Range) → x ≡ y → IsWithin n y → IsWithin n x
within_same n x y e h = rw e h

-- a sum is at most as great in magnitude as its parts together
sum_magnitude : (a b : ℤ) → unsigned_abs (a +ℤ b) ≤ unsigned_abs a + unsigned_abs b
sum_magnitude a b = omega (arith, ints)

-- a difference is at most as great in magnitude as its parts together
pub difference_magnitude : (a b : ℤ) → unsigned_abs (a -ℤ b) ≤ unsigned_abs a + unsigned_abs b
difference_magnitude a b = omega (arith, ints)

-- sums of small integers are small
pub plus_small : (m n : ℕ) (x y : Range) → IsWithin m x → IsWithin n y → IsWithin (m + n) (plus x y)
plus_small m n x y p q = record {
  low = omega (arith, sum_magnitude x.low y.low, p.low, q.low);
  high = omega (arith, sum_magnitude x.high y.high, p.high, q.high);
}

-- differences of small integers are small
pub less_small : (m n : ℕ) (x y : Range) → IsWithin m x → IsWithin n y → IsWithin (m + n) (less x y)
less_small m n x y p q = record {
  low = omega (arith, difference_magnitude x.low y.high, p.low, q.high);
  high = omega (arith, difference_magnitude x.high y.low, p.high, q.low);
}
