-- Ranges contain the sums, products and quotients of their members.
use Rattle.std.proofs.Common.{◌≡◌, ℕ, suc, ◌^◌, ◌<◌, ℤ, pos, negsuc, neg_ℤ, ◌+ℤ◌, ◌-ℤ◌, ◌*ℤ◌, ◌≤ℤ◌, ◌<ℤ◌, Bool, true, false, ◌||◌, refl, ap, sym, ◌∙◌, arith}
use Rattle.std.proofs.Math.IntN.{*ℤ_comm, *ℤ-negsuc}
use Rattle.std.proofs.lemmas.Int.{ints, clamps}
use Rattle.std.proofs.lemmas.Bool.{and_parts}
use Rattle.fixed.specs.Arithmetic.{floor_of, floor_over, is_zero, one}
use Rattle.fixed.specs.Rounding.{IsFloor, IsFloorOfFraction}
use Rattle.fixed.proofs.FloorLemmas.{floor_is, floor_over_is, floor_unique, two_pos}
use Rattle.fixed.proofs.IntegerLaws.{zero_alone}
use Rattle.interval_domain.proofs.FloorLemmas.{scale_up}
use Rattle.error_bounds.specs.Approximations.{Approximation, exact_range}
use Rattle.interval_domain.specs.Ranges.{IsIn, Range, less, over, plus, quotients, scaled, times, up_over}
use Rattle.error_bounds.specs.Rules.{is_whole}
use Rattle.error_bounds.proofs.IntegerProducts.{ends_above, ends_below, exchange, minus_times, negative_times, plus_times, times_cancels, times_keeps, times_minus, times_multiple, times_times, times_turns}

-- ---- sums and products of ranges

-- sums of members are members of the sum
pub in_plus : (a b : ℤ) (x y : Range) → IsIn a x → IsIn b y → IsIn (a +ℤ b) (plus x y)
in_plus a b x y i j =
    record { at_least = omega (arith, ints, i.at_least, j.at_least); at_most = omega (arith, ints, i.at_most, j.at_most) }

-- differences of members are members of the difference
pub in_less : (a b : ℤ) (x y : Range) → IsIn a x → IsIn b y → IsIn (a -ℤ b) (less x y)
in_less a b x y i j =
    record { at_least = omega (arith, ints, i.at_least, j.at_most); at_most = omega (arith, ints, i.at_most, j.at_least) }

-- multiples of members are members of the multiple
pub in_scaled : (a : ℤ) (m : ℕ) (x : Range) → IsIn a x → IsIn (a *ℤ pos m) (scaled x (pos m))
in_scaled a m x i =
    record {
      at_least = omega (arith, ints, scale_up m x.low a i.at_least);
      at_most = omega (arith, ints, scale_up m a x.high i.at_most);
    }

-- products of members are members of the product
pub in_times : (a b : ℤ) (x y : Range) → IsIn a x → IsIn b y → IsIn (a *ℤ b) (times x y)
in_times a b x y i j =
    let r = times x y in
    let below_low : (x.low *ℤ b) ≤ℤ r.high =
    ends_below x.low y.low y.high b r.high j.at_least j.at_most (omega (arith, ints, clamps)) (omega (arith, ints, clamps)) in
    let below_high : (x.high *ℤ b) ≤ℤ r.high =
    ends_below x.high y.low y.high b r.high j.at_least j.at_most (omega (arith, ints, clamps)) (omega (arith, ints, clamps)) in
    let above_low : r.low ≤ℤ (x.low *ℤ b) =
    ends_above x.low y.low y.high b r.low j.at_least j.at_most (omega (arith, ints, clamps)) (omega (arith, ints, clamps)) in
    let above_high : r.low ≤ℤ (x.high *ℤ b) =
    ends_above x.high y.low y.high b r.low j.at_least j.at_most (omega (arith, ints, clamps)) (omega (arith, ints, clamps)) in
    record {
      at_least =
          rw (*ℤ_comm a b)
          (ends_above b x.low x.high a r.low i.at_least i.at_most (rw (*ℤ_comm b x.low) above_low) (rw (*ℤ_comm b x.high) above_high));
      at_most =
          rw (*ℤ_comm a b)
          (ends_below b x.low x.high a r.high i.at_least i.at_most (rw (*ℤ_comm b x.low) below_low) (rw (*ℤ_comm b x.high) below_high));
    }

-- ---- quotients, rounded down and up

-- the floor times a positive divisor is at most the dividend
pub floor_above : (n d : ℤ) → pos 0 <ℤ d → (floor_of n d *ℤ d) ≤ℤ n
floor_above n d p = let f = floor_is n d (floor_of n d) p refl in omega (arith, ints, f.at_most)

-- times a negative divisor it is at least the dividend
pub floor_below : (n d : ℤ) → d <ℤ pos 0 → n ≤ℤ (floor_of n d *ℤ d)
floor_below n (pos d) p = absurd (omega (arith, ints))
floor_below n (negsuc d) p =
    let q = floor_over (neg_ℤ n) (suc d) in
    let f = floor_over_is (neg_ℤ n) (suc d) (omega arith) in
    rw (*ℤ-negsuc q d) (omega (arith, ints, f.at_most))

-- the ceiling times a positive divisor is at least the dividend
pub up_above : (n d : ℤ) → pos 0 <ℤ d → n ≤ℤ (up_over n d *ℤ d)
up_above n d p = rw (negative_times (floor_of (neg_ℤ n) d) d) (omega (arith, ints, floor_above (neg_ℤ n) d p))

-- times a negative divisor it is at most the dividend
up_below : (n d : ℤ) → d <ℤ pos 0 → (up_over n d *ℤ d) ≤ℤ n
up_below n d p = rw (negative_times (floor_of (neg_ℤ n) d) d) (omega (arith, ints, floor_below (neg_ℤ n) d p))

-- a range over a divisor above 0, times the divisor, contains the range
pub over_is : (x : Range) (d : ℕ) → 0 < d → (((over x (pos d)).low *ℤ pos d) ≤ℤ x.low) × (x.high ≤ℤ ((over x (pos d)).high *ℤ pos d))
over_is x d p = (floor_above x.low (pos d) (omega (arith, ints)), up_above x.high (pos d) (omega (arith, ints)))

-- an integer q that is at most the floor of a quotient by u above 0, times u
low_at : (q n u v : ℤ) → pos 0 <ℤ u → q ≤ℤ floor_of n u → n ≤ℤ v → (q *ℤ u) ≤ℤ v
low_at q n u v p h k =
    omega (arith, ints, *ℤ_comm q u, *ℤ_comm (floor_of n u) u, times_keeps u q (floor_of n u) (omega (arith, ints)) h, floor_above n u p)

-- and one that is at least the ceiling
high_at : (q n u v : ℤ) → pos 0 <ℤ u → up_over n u ≤ℤ q → v ≤ℤ n → v ≤ℤ (q *ℤ u)
high_at q n u v p h k =
    let c = up_over n u in
    omega (arith, ints, *ℤ_comm q u, *ℤ_comm c u, times_keeps u c q (omega (arith, ints)) h, up_above n u p)

-- the first for u below 0
low_below : (q n u v : ℤ) → u <ℤ pos 0 → q ≤ℤ floor_of n u → v ≤ℤ n → v ≤ℤ (q *ℤ u)
low_below q n u v p h k =
    omega (arith, ints, *ℤ_comm q u, *ℤ_comm (floor_of n u) u, times_turns u q (floor_of n u) (omega (arith, ints)) h, floor_below n u p)

-- and the second
high_below : (q n u v : ℤ) → u <ℤ pos 0 → up_over n u ≤ℤ q → n ≤ℤ v → (q *ℤ u) ≤ℤ v
high_below q n u v p h k =
    let c = up_over n u in
    omega (arith, ints, *ℤ_comm q u, *ℤ_comm c u, times_turns u c q (omega (arith, ints)) h, up_below n u p)

-- the least quotient times a divisor above 0 is at most the dividend, and the greatest at least
pub quotients_above : (x y : Range) (n d : ℤ) → pos 0 <ℤ y.low → IsIn n x → IsIn d y
    → (((quotients x y).low *ℤ d) ≤ℤ n) × (n ≤ℤ ((quotients x y).high *ℤ d))
quotients_above x y n d above i j =
    let q = quotients x y in
    let top : pos 0 <ℤ y.high = omega (arith, ints, j.at_least, j.at_most) in (
      ends_below q.low y.low y.high d n j.at_least j.at_most
          (low_at q.low x.low y.low n above (omega (arith, ints, clamps)) i.at_least)
          (low_at q.low x.low y.high n top (omega (arith, ints, clamps)) i.at_least),
      ends_above q.high y.low y.high d n j.at_least j.at_most
          (high_at q.high x.high y.low n above (omega (arith, ints, clamps)) i.at_most)
          (high_at q.high x.high y.high n top (omega (arith, ints, clamps)) i.at_most),
    )

-- with a divisor below 0 it is the other way round
pub quotients_below : (x y : Range) (n d : ℤ) → y.high <ℤ pos 0 → IsIn n x → IsIn d y
    → (((quotients x y).high *ℤ d) ≤ℤ n) × (n ≤ℤ ((quotients x y).low *ℤ d))
quotients_below x y n d below i j =
    let q = quotients x y in
    let bottom : y.low <ℤ pos 0 = omega (arith, ints, j.at_least, j.at_most) in (
      ends_below q.high y.low y.high d n j.at_least j.at_most
          (high_below q.high x.low y.low n bottom (omega (arith, ints, clamps)) i.at_least)
          (high_below q.high x.low y.high n below (omega (arith, ints, clamps)) i.at_least),
      ends_above q.low y.low y.high d n j.at_least j.at_most
          (low_below q.low x.high y.low n bottom (omega (arith, ints, clamps)) i.at_most)
          (low_below q.low x.high y.high n below (omega (arith, ints, clamps)) i.at_most),
    )

-- a member of a range above 0 is above 0
pub above_least : {a : ℤ} {x : Range} → IsIn a x → pos 0 <ℤ x.low → pos 0 <ℤ a
above_least i p = omega (arith, ints, i.at_least)

-- a member of a range below 0 is below 0
pub below_greatest : {a : ℤ} {x : Range} → IsIn a x → x.high <ℤ pos 0 → a <ℤ pos 0
below_greatest i p = omega (arith, ints, i.at_most)

-- a number less a member of a range is between the number less the range's ends
pub within : (t n : ℤ) (x : Range) (lo hi : ℤ) → IsIn n x → lo ≤ℤ x.low → x.high ≤ℤ hi → ((t -ℤ hi) ≤ℤ (t -ℤ n)) × ((t -ℤ n) ≤ℤ (t -ℤ lo))
within t n x lo hi i l h = (omega (arith, ints, i.at_most), omega (arith, ints, i.at_least))

-- the least member of a range that isn't empty is in it
pub low_in : (x : Range) → x.low ≤ℤ x.high → IsIn x.low x
low_in x o = record { at_least = omega (arith, ints); at_most = o }

-- and so is the greatest
pub high_in : (x : Range) → x.low ≤ℤ x.high → IsIn x.high x
high_in x o = record { at_least = o; at_most = omega (arith, ints) }

-- ---- errors

-- the exact value, in error units, of a computed value with an error
pub exact_in : (p : Approximation) (a e : ℤ) → IsIn a p.computed → IsIn e p.error → IsIn (pos 256 *ℤ a -ℤ e) (exact_range p)
exact_in p a e i j =
    rw (*ℤ_comm (pos 256) a) (in_less (a *ℤ pos 256) e (scaled p.computed (pos 256)) p.error (in_scaled a 256 p.computed i) j)

-- ---- whole factors

-- if one factor is a multiple of the divisor, the quotient is exact
pub whole_times : (d : ℕ) (j a b c : ℤ) → 0 < d → a ≡ j *ℤ pos d → floor_over (a *ℤ b) d ≡ c → a *ℤ b ≡ c *ℤ pos d
whole_times d j a b c p e f =
    let same : a *ℤ b ≡ (j *ℤ b) *ℤ pos d =
    ap (λ s. s *ℤ b) e ∙ times_times j (pos d) b ∙ ap (λ s. j *ℤ s) (*ℤ_comm (pos d) b) ∙ sym (times_times j b (pos d)) in
    let found : j *ℤ b ≡ floor_over (a *ℤ b) d = floor_unique (a *ℤ b) d (j *ℤ b) (exact (a *ℤ b) ((j *ℤ b) *ℤ pos d) same refl) in
    same ∙ ap (λ s. s *ℤ pos d) (found ∙ f)
  where
    exact : (n m : ℤ) → n ≡ m → m ≡ (j *ℤ b) *ℤ pos d → IsFloor n (pos d) (j *ℤ b)
    exact n m g g' = record { at_most = omega (arith, ints); next_above = omega (arith, ints) }

-- a member of a range of one multiple of 1 is a multiple of 1
whole_member : (bits : ℕ) (x : Range) (a : ℤ) → is_whole bits x ≡ true → IsIn a x → a ≡ floor_over x.low (2 ^ bits) *ℤ one bits
whole_member bits x a e i =
    let m = floor_over x.low (2 ^ bits) *ℤ one bits in
    let both = and_parts (is_zero (x.high -ℤ x.low)) (is_zero (x.low -ℤ m)) e in
    let alone = zero_alone (x.high -ℤ x.low) both.0 in
    let multiple = zero_alone (x.low -ℤ m) both.1 in
    omega (arith, ints, i.at_least, i.at_most)

-- a product is exact before it is rounded, if one factor's range is one multiple of 1
pub whole_product : (bits : ℕ) (x y : Range) (a b c : ℤ) → (is_whole bits x || is_whole bits y) ≡ true → IsIn a x → IsIn b y
    → floor_over (a *ℤ b) (2 ^ bits) ≡ c → a *ℤ b ≡ c *ℤ one bits
whole_product bits x y a b c e i j f = by_test (is_whole bits x) refl e
  where
    by_test : (t : Bool) → is_whole bits x ≡ t → (t || is_whole bits y) ≡ true → a *ℤ b ≡ c *ℤ one bits
    by_test true first e = whole_times (2 ^ bits) (floor_over x.low (2 ^ bits)) a b c (two_pos bits) (whole_member bits x a first i) f
    by_test false first e =
        *ℤ_comm a b ∙ whole_times (2 ^ bits) (floor_over y.low (2 ^ bits)) b a c (two_pos bits) (whole_member bits y b e j)
        (ap (λ s. floor_over s (2 ^ bits)) (*ℤ_comm b a) ∙ f)

-- ---- rounded quotients

-- (256 c) (256 b - f) = 65536 c b - 256 c f
spread_out : (c b f : ℤ) → (pos 256 *ℤ c) *ℤ (pos 256 *ℤ b -ℤ f) ≡ pos 65536 *ℤ (c *ℤ b) -ℤ pos 256 *ℤ (c *ℤ f)
spread_out c b f =
    times_minus (pos 256 *ℤ c) (pos 256 *ℤ b) f ∙ ap (λ s. s -ℤ (pos 256 *ℤ c) *ℤ f) (exchange (pos 256) c (pos 256) b)
    ∙ ap (λ s. pos 65536 *ℤ (c *ℤ b) -ℤ s) (times_times (pos 256) c f)

-- how far the exact dividend is from the computed quotient's product with the exact divisor, by the rest of the division
quotient_gap : (u a e b f c : ℤ)
    → (pos 256 *ℤ c) *ℤ (pos 256 *ℤ b -ℤ f) -ℤ (pos 256 *ℤ u) *ℤ (pos 256 *ℤ a -ℤ e)
    ≡ (e *ℤ u -ℤ c *ℤ f) *ℤ pos 256 -ℤ pos 65536 *ℤ (a *ℤ u -ℤ c *ℤ b)
quotient_gap u a e b f c = omega (arith, ints, spread_out c b f, spread_out u a e, *ℤ_comm u a, *ℤ_comm u e)

-- an average of x and y, by the rest r of a division by w
mixture : (w r f x : ℤ) → w *ℤ (x -ℤ pos 65536 *ℤ r) +ℤ r *ℤ (pos 256 *ℤ (pos 256 *ℤ w -ℤ f)) ≡ (w -ℤ r) *ℤ x +ℤ r *ℤ (x -ℤ pos 256 *ℤ f)
mixture w r f x =
    let first = times_minus w x (pos 65536 *ℤ r) in
    let rest = times_multiple (pos 65536) w r in
    let second = times_multiple (pos 256) r (pos 256 *ℤ w -ℤ f) in
    let part = times_minus r (pos 256 *ℤ w) f in
    let same = times_multiple (pos 256) r w in
    let other = times_multiple (pos 256) r f in
    omega (arith, ints, minus_times w r x, times_minus r x (pos 256 *ℤ f), *ℤ_comm w r)

-- an average with weights b - r and r is between common bounds of both
mixed : (b r x y lo hi : ℤ) → pos 0 ≤ℤ r → r ≤ℤ b → lo ≤ℤ x → x ≤ℤ hi → lo ≤ℤ y → y ≤ℤ hi
    → ((b *ℤ lo) ≤ℤ ((b -ℤ r) *ℤ x +ℤ r *ℤ y)) × (((b -ℤ r) *ℤ x +ℤ r *ℤ y) ≤ℤ (b *ℤ hi))
mixed b r x y lo hi p q lx hx ly hy =
    let d : ℤ = b -ℤ r in
    let some : pos 0 ≤ℤ d = omega (arith, ints) in
    let low = of_terms (b *ℤ lo) (r *ℤ lo) (d *ℤ lo) (d *ℤ x) (r *ℤ y) (minus_times b r lo) in
    let high = to_terms (b *ℤ hi) (r *ℤ hi) (d *ℤ hi) (d *ℤ x) (r *ℤ y) (minus_times b r hi) in
    (low (times_keeps d lo x some lx) (times_keeps r lo y p ly), high (times_keeps d x hi some hx) (times_keeps r y hi p hy))
  where
    of_terms : (t u v s w : ℤ) → v ≡ t -ℤ u → v ≤ℤ s → u ≤ℤ w → t ≤ℤ (s +ℤ w)
    of_terms t u v s w e p q = omega (arith, ints)

    to_terms : (t u v s w : ℤ) → v ≡ t -ℤ u → s ≤ℤ v → w ≤ℤ u → (s +ℤ w) ≤ℤ t
    to_terms t u v s w e p q = omega (arith, ints)

-- g is between common bounds of x and y, or up to d below them, if g and a part of d make an average of x and y
pub mixed_above : (b r x y g d lo hi : ℤ) → pos 0 <ℤ b → pos 0 ≤ℤ r → r ≤ℤ b → b *ℤ g +ℤ r *ℤ d ≡ (b -ℤ r) *ℤ x +ℤ r *ℤ y → pos 0 ≤ℤ d
    → lo ≤ℤ x → x ≤ℤ hi → lo ≤ℤ y → y ≤ℤ hi → ((lo -ℤ d) ≤ℤ g) × (g ≤ℤ hi)
mixed_above b r x y g d lo hi some p q e up lx hx ly hy =
    let m = mixed b r x y lo hi p q lx hx ly hy in
    let nothing = times_keeps r (pos 0) d p up in
    let whole = times_keeps d r b up q in (
      times_cancels b (lo -ℤ d) g some (omega (arith, ints, m.0, whole, e, times_minus b lo d, *ℤ_comm d r, *ℤ_comm d b)),
      times_cancels b g hi some (omega (arith, ints, m.1, nothing, e)),
    )

-- and up to -d above it, if d isn't above 0
pub mixed_below : (b r x y g d lo hi : ℤ) → pos 0 <ℤ b → pos 0 ≤ℤ r → r ≤ℤ b → b *ℤ g +ℤ r *ℤ d ≡ (b -ℤ r) *ℤ x +ℤ r *ℤ y → d ≤ℤ pos 0
    → lo ≤ℤ x → x ≤ℤ hi → lo ≤ℤ y → y ≤ℤ hi → (lo ≤ℤ g) × (g ≤ℤ (hi -ℤ d))
mixed_below b r x y g d lo hi some p q e down lx hx ly hy =
    let m = mixed b r x y lo hi p q lx hx ly hy in
    let nothing = times_keeps r d (pos 0) p down in
    let whole = times_turns d r b down q in (
      times_cancels b lo g some (omega (arith, ints, m.0, nothing, e)),
      times_cancels b g (hi -ℤ d) some (omega (arith, ints, m.1, whole, e, times_minus b hi d, *ℤ_comm d r, *ℤ_comm d b)),
    )

-- b and s are the absolute values of a divisor w and of the rest r of a division by it: equations of averages hold of
-- them too
pub record AreWeights (w r b s : ℤ) : Type 0 where
  pub positive : pos 0 <ℤ b
  pub from_zero : pos 0 ≤ℤ s
  pub at_most : s ≤ℤ b
  pub carried : (g d x y : ℤ) → w *ℤ g +ℤ r *ℤ d ≡ (w -ℤ r) *ℤ x +ℤ r *ℤ y → b *ℤ g +ℤ s *ℤ d ≡ (b -ℤ s) *ℤ x +ℤ s *ℤ y

-- the negatives of both weights do as well
weights_turned : (w r b s : ℤ) → w ≡ neg_ℤ b → r ≡ neg_ℤ s → (g d x y : ℤ) → w *ℤ g +ℤ r *ℤ d ≡ (w -ℤ r) *ℤ x +ℤ r *ℤ y
    → b *ℤ g +ℤ s *ℤ d ≡ (b -ℤ s) *ℤ x +ℤ s *ℤ y
weights_turned w r b s ew er g d x y e =
    let wg : w *ℤ g ≡ neg_ℤ (b *ℤ g) = ap (λ t. t *ℤ g) ew ∙ negative_times b g in
    let rd : r *ℤ d ≡ neg_ℤ (s *ℤ d) = ap (λ t. t *ℤ d) er ∙ negative_times s d in
    let wx : w *ℤ x ≡ neg_ℤ (b *ℤ x) = ap (λ t. t *ℤ x) ew ∙ negative_times b x in
    let rx : r *ℤ x ≡ neg_ℤ (s *ℤ x) = ap (λ t. t *ℤ x) er ∙ negative_times s x in
    let ry : r *ℤ y ≡ neg_ℤ (s *ℤ y) = ap (λ t. t *ℤ y) er ∙ negative_times s y in
    opposite (w *ℤ g) (r *ℤ d) (w *ℤ x) (r *ℤ x) (r *ℤ y) (b *ℤ g) (s *ℤ d) (b *ℤ x) (s *ℤ x) (s *ℤ y) wg rd wx rx ry
    (e ∙ ap (λ t. t +ℤ r *ℤ y) (minus_times w r x))
    ∙ ap (λ t. t +ℤ s *ℤ y) (sym (minus_times b s x))
  where
    opposite : (t u v m n t' u' v' m' n' : ℤ) → t ≡ neg_ℤ t' → u ≡ neg_ℤ u' → v ≡ neg_ℤ v' → m ≡ neg_ℤ m' → n ≡ neg_ℤ n'
        → t +ℤ u ≡ v -ℤ m +ℤ n → t' +ℤ u' ≡ v' -ℤ m' +ℤ n'
    opposite t u v m n t' u' v' m' n' et eu ev em en e = omega (arith, ints)

-- the weights of a division that was rounded down
pub weights : (n w c : ℤ) → IsFloorOfFraction n w c → (b : ℤ) × (s : ℤ) × AreWeights w (n -ℤ c *ℤ w) b s
weights n (pos d) c f =
    let l = f.at_most in
    let u = f.next_above in
    let positive : pos 0 <ℤ pos d = omega (arith, ints) in
    (pos d, n -ℤ c *ℤ pos d, record { positive = positive; from_zero = l; at_most = omega (arith, ints); carried = λ g d x y e. e })
weights n (negsuc d) c f =
    let l = f.at_most in
    let u = f.next_above in
    let s = neg_ℤ n -ℤ c *ℤ pos (suc d) in
    let turned : n -ℤ c *ℤ negsuc d ≡ neg_ℤ s = rw (*ℤ-negsuc c d) (omega (arith, ints)) in (
      pos (suc d),
      s,
      record {
        positive = omega (arith, ints);
        from_zero = l;
        at_most = omega (arith, ints);
        carried = weights_turned (negsuc d) (n -ℤ c *ℤ negsuc d) (pos (suc d)) s refl turned;
      },
    )

-- the gap and a part of the divisor make an average
pub gap_average : (u a e b f c : ℤ)
    → let d : ℤ = pos 256 *ℤ b -ℤ f in let r : ℤ = a *ℤ u -ℤ c *ℤ b in let x : ℤ = (e *ℤ u -ℤ c *ℤ f) *ℤ pos 256 in
    b *ℤ ((pos 256 *ℤ c) *ℤ d -ℤ (pos 256 *ℤ u) *ℤ (pos 256 *ℤ a -ℤ e)) +ℤ r *ℤ (pos 256 *ℤ d)
    ≡ (b -ℤ r) *ℤ x +ℤ r *ℤ ((e *ℤ u -ℤ (c +ℤ pos 1) *ℤ f) *ℤ pos 256)
gap_average u a e b f c =
    let d : ℤ = pos 256 *ℤ b -ℤ f in
    let r : ℤ = a *ℤ u -ℤ c *ℤ b in
    let x : ℤ = (e *ℤ u -ℤ c *ℤ f) *ℤ pos 256 in
    let next : x -ℤ pos 256 *ℤ f ≡ (e *ℤ u -ℤ (c +ℤ pos 1) *ℤ f) *ℤ pos 256 = omega (arith, ints, plus_times c (pos 1) f) in
    ap (λ s. b *ℤ s +ℤ r *ℤ (pos 256 *ℤ d)) (quotient_gap u a e b f c) ∙ mixture b r f x ∙ ap (λ s. (b -ℤ r) *ℤ x +ℤ r *ℤ s) next

-- if t d is at most q d above v, then (t - q) d is at most v
pub least_gap : (t q d v : ℤ) → (t *ℤ d -ℤ v) ≤ℤ (q *ℤ d) → ((t -ℤ q) *ℤ d) ≤ℤ v
least_gap t q d v h = omega (arith, ints, minus_times t q d)

-- if it is at least (q - 256) d above v, then (t - (q - 256)) d is at least v
pub greatest_gap : (t q d v : ℤ) → (q *ℤ d -ℤ pos 256 *ℤ d) ≤ℤ (t *ℤ d -ℤ v) → v ≤ℤ ((t -ℤ (q -ℤ pos 256)) *ℤ d)
greatest_gap t q d v h = omega (arith, ints, minus_times t (q -ℤ pos 256) d, minus_times q (pos 256) d)

-- if t d is at least q d above v, then (t - q) d is at least v
pub least_gap_below : (t q d v : ℤ) → (q *ℤ d) ≤ℤ (t *ℤ d -ℤ v) → v ≤ℤ ((t -ℤ q) *ℤ d)
least_gap_below t q d v h = omega (arith, ints, minus_times t q d)

-- if it is at most (q - 256) d above v, then (t - (q - 256)) d is at most v
pub greatest_gap_below : (t q d v : ℤ) → (t *ℤ d -ℤ v) ≤ℤ (q *ℤ d -ℤ pos 256 *ℤ d) → ((t -ℤ (q -ℤ pos 256)) *ℤ d) ≤ℤ v
greatest_gap_below t q d v h = omega (arith, ints, minus_times t (q -ℤ pos 256) d, minus_times q (pos 256) d)
