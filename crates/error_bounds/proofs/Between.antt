-- Integers that enclose sums, products, quotients and roots of exact numbers.
use Rattle.std.proofs.Common.{inl, inr, sym, ap, ◌∙◌, arith, ◌⊎◌, ◌≡◌, ◌≢◌, ℕ, ◌*◌, ◌<◌, ℤ, pos, neg_ℤ, ◌+ℤ◌, ◌-ℤ◌, ◌*ℤ◌, ◌≤ℤ◌, ◌<ℤ◌, false, Some}
use Rattle.std.specs.Int.{int_max}
use Rattle.std.proofs.lemmas.Bool.{both_ways, cases_Bool}
use Rattle.std.proofs.lemmas.Int.{ints}
use Rattle.interval_domain.proofs.OutcomeLemmas.{max_keeps}
use Rattle.derivative.specs.Exact.{Numbers, integer, minus, whole}
use Rattle.derivative.proofs.RingLaws as ring
use Rattle.error_bounds.specs.Ordered.{AreOrdered, AtMost, IsBetween}
use Rattle.error_bounds.proofs.Integers as integers
use Rattle.error_bounds.proofs.IntegerProducts.{times_negative}

-- a b <= c d gives c (-d) <= a (-b)
negatives_turn : (a b c d : ℤ) → (a *ℤ b) ≤ℤ (c *ℤ d) → (c *ℤ neg_ℤ d) ≤ℤ (a *ℤ neg_ℤ b)
negatives_turn a b c d p = omega (arith, ints, times_negative a b, times_negative c d)

module _ {V : Type 0} (k : Numbers V) (h : AreOrdered k) where
  open k.ring use {zero as o, plus, times, negative as neg}
  open h.are_exact use {is_ring as laws}

  -- the integer a in the field
  abbrev int : ℤ → V
  int a = integer k.ring a

  -- the number x in units of 1 / s
  abbrev units : ℕ → V → V
  units s x = times (whole k.ring s) x

  -- ---- orders

  -- x <= y and y <= z give x <= z
  chain : {x y z : V} → AtMost k x y → AtMost k y z → AtMost k x z
  chain {x} {y} {z} p q = h.transitive x y z p q

  -- x <= y and y = z give x <= z
  at_right : {x y z : V} → AtMost k x y → y ≡ z → AtMost k x z
  at_right {x} p e = ap (k.is_at_most x) (sym e) ∙ p

  -- x = y and y <= z give x <= z
  at_left : {x y z : V} → x ≡ y → AtMost k y z → AtMost k x z
  at_left {z = z} e p = ap (λ s. k.is_at_most s z) e ∙ p

  -- z < y and y <= x give z < x
  above_too : (x y z : V) → k.is_at_most y z ≡ false → AtMost k y x → k.is_at_most x z ≡ false
  above_too x y z p q =
      elim (cases_Bool (k.is_at_most x z)) [
        | inl e ↦ absurd (both_ways (k.is_at_most y z) p (chain q e))
        | inr e ↦ e
      ]

  -- x <= y and c <= 0 gives c y <= c x
  times_falls : (c x y : V) → AtMost k c o → AtMost k x y → AtMost k (times c y) (times c x)
  times_falls c x y p q =
      let back : (z : V) → neg (times (neg c) z) ≡ times c z =
      λ z. ap neg (ring.negative_times k.ring laws c z) ∙ ring.negative_twice k.ring laws (times c z) in
      let turned : AtMost k o (neg c) = at_left (sym (ring.negative_zero k.ring laws)) (integers.negative_at_most k h c o p) in
      let grown : AtMost k (times (neg c) x) (times (neg c) y) = integers.times_at_most k h (neg c) x y turned q in
      at_left (sym (back y)) (at_right (integers.negative_at_most k h (times (neg c) x) (times (neg c) y) grown) (back x))

  -- if b is at most c l and c u, it is at most c y for y from l to u
  above_both : (c l u y b : V) → AtMost k l y → AtMost k y u → AtMost k b (times c l) → AtMost k b (times c u)
      → AtMost k b (times c y)
  above_both c l u y b p q pl pu =
      elim (cases_Bool (k.is_at_most o c)) [
        | inl e ↦ chain pl (integers.times_at_most k h c l y e p)
        | inr e ↦ chain pu (times_falls c y u (h.total o c e) q)
      ]

  -- if c l and c u are at most b, so is c y for y from l to u
  below_both : (c l u y b : V) → AtMost k l y → AtMost k y u → AtMost k (times c l) b → AtMost k (times c u) b
      → AtMost k (times c y) b
  below_both c l u y b p q pl pu =
      elim (cases_Bool (k.is_at_most o c)) [
        | inl e ↦ chain (integers.times_at_most k h c y u e q) pu
        | inr e ↦ chain (times_falls c l y (h.total o c e) p) pl
      ]

  -- 0 <= y < x give 0 < x
  positive : (x y : V) → AtMost k o y → k.is_at_most x y ≡ false → k.is_at_most x o ≡ false
  positive x y p e =
      elim (cases_Bool (k.is_at_most x o)) [ inl below ↦ absurd (both_ways (k.is_at_most x y) e (chain below p)) | inr above ↦ above ]

  -- 0 <= y and x x <= y y give x <= y
  squares_at_most : (x y : V) → AtMost k o y → AtMost k (times x x) (times y y) → AtMost k x y
  squares_at_most x y p q =
      elim (cases_Bool (k.is_at_most x y)) [
        | inl e ↦ e
        | inr e ↦
            let smaller : AtMost k (times y y) (times y x) = integers.times_at_most k h y y x p (h.total x y e) in
            integers.times_cancels k h x x y (positive x y p e) (chain q (at_right smaller (laws.times_comm y x)))
      ]

  -- d c <= q d gives c <= q, for d above 0
  cancels : (c q d : V) → k.is_at_most d o ≡ false → AtMost k (times d c) (times q d) → AtMost k c q
  cancels c q d above p = integers.times_cancels k h d c q above (at_right p (laws.times_comm q d))

  -- ---- integers

  -- products of integers keep their order in the field
  products_at_most : (a b c d : ℤ) → (a *ℤ b) ≤ℤ (c *ℤ d) → AtMost k (times (int a) (int b)) (times (int c) (int d))
  products_at_most a b c d p =
      at_left (sym (integers.integer_times k h a b))
      (at_right (integers.integer_at_most k h (a *ℤ b) (c *ℤ d) p) (integers.integer_times k h c d))

  -- a natural number above 0 is above 0 in the field
  pub unit_above : (s : ℕ) → 0 < s → k.is_at_most (whole k.ring s) o ≡ false
  unit_above s some = integers.integer_above k h (pos 0) (pos s) (omega (arith, ints))

  -- (s x) (s y) = s (s (x y))
  units_times : (s : ℕ) (x y : V) → times (units s x) (units s y) ≡ units s (units s (times x y))
  units_times s x y =
      let w : V = whole k.ring s in
      laws.times_assoc w x (times w y)
      ∙ ap (times w) (sym (laws.times_assoc x w y) ∙ ap (λ z. times z y) (laws.times_comm x w) ∙ laws.times_assoc w x y)

  -- numbers in units keep their order
  pub units_at_most : (s : ℕ) (x y : V) → AtMost k x y → AtMost k (units s x) (units s y)
  units_at_most s x y p = integers.times_at_most k h (whole k.ring s) x y (integers.whole_from_zero k h s) p

  -- 0 <= x gives 0 <= s x
  units_from_zero : (s : ℕ) (x : V) → AtMost k o x → AtMost k o (units s x)
  units_from_zero s x p = h.times_kept (whole k.ring s) x (integers.whole_from_zero k h s) p

  -- ---- numbers between two integers

  -- a number between two integers stays between integers further out
  pub wider : (s : ℕ) (lo hi lo' hi' : ℤ) (x : V) → lo' ≤ℤ lo → hi ≤ℤ hi' → IsBetween k s lo hi x → IsBetween k s lo' hi' x
  wider s lo hi lo' hi' x low high b =
      record {
        low = chain (integers.integer_at_most k h lo' lo low) b.low;
        high = chain b.high (integers.integer_at_most k h hi hi' high);
      }

  -- the lower integer is at most the upper one
  pub ordered : (s : ℕ) (lo hi : ℤ) (x : V) → IsBetween k s lo hi x → lo ≤ℤ hi
  ordered s lo hi x b = integers.integers_at_most k h lo hi (chain b.low b.high)

  -- an integer is between itself and itself
  pub of_integer : (s : ℕ) (n : ℤ) → IsBetween k s (pos s *ℤ n) (pos s *ℤ n) (integer k.ring n)
  of_integer s n =
      let same : int (pos s *ℤ n) ≡ units s (int n) = integers.integer_times k h (pos s) n in
      let equal : AtMost k (units s (int n)) (units s (int n)) = integers.at_most_itself k h (units s (int n)) in
      record { low = at_left same equal; high = at_right equal (sym same) }

  -- in units of 1 / (m s) all is m times as large
  pub rescaled : (m s : ℕ) (lo hi : ℤ) (x : V) → IsBetween k s lo hi x → IsBetween k (m * s) (pos m *ℤ lo) (pos m *ℤ hi) x
  rescaled m s lo hi x b =
      let same : units (m * s) x ≡ units m (units s x) =
      ap (λ t. times t x) (ring.whole_times k.ring laws m s) ∙ laws.times_assoc (whole k.ring m) (whole k.ring s) x in
      record {
        low = at_left (integers.integer_times k h (pos m) lo) (at_right (units_at_most m (int lo) (units s x) b.low) (sym same));
        high = at_left same (at_right (units_at_most m (units s x) (int hi) b.high) (sym (integers.integer_times k h (pos m) hi)));
      }

  -- a sum is between the sums of the integers around its parts
  pub of_sum : (s : ℕ) (l1 h1 l2 h2 : ℤ) (x y : V) → IsBetween k s l1 h1 x → IsBetween k s l2 h2 y
      → IsBetween k s (l1 +ℤ l2) (h1 +ℤ h2) (plus x y)
  of_sum s l1 h1 l2 h2 x y b c =
      let u : V = units s x in
      let v : V = units s y in
      let same : units s (plus x y) ≡ plus u v = laws.times_plus (whole k.ring s) x y in
      record {
        low =
            at_left (integers.integer_plus k h l1 l2)
            (at_right (integers.plus_at_most k h (int l1) u (int l2) v b.low c.low) (sym same));
        high =
            at_left same
            (at_right (integers.plus_at_most k h u (int h1) v (int h2) b.high c.high) (sym (integers.integer_plus k h h1 h2)));
      }

  -- a negative is between the negatives of the integers
  pub of_negative : (s : ℕ) (lo hi : ℤ) (x : V) → IsBetween k s lo hi x → IsBetween k s (neg_ℤ hi) (neg_ℤ lo) (neg x)
  of_negative s lo hi x b =
      let u : V = units s x in
      let same : units s (neg x) ≡ neg u = integers.times_negative k h (whole k.ring s) x in
      record {
        low = at_left (integers.integer_negative k h hi) (at_right (integers.negative_at_most k h u (int hi) b.high) (sym same));
        high = at_left same (at_right (integers.negative_at_most k h (int lo) u b.low) (sym (integers.integer_negative k h lo)));
      }

  -- a difference is between the differences of the integers
  pub of_difference : (s : ℕ) (l1 h1 l2 h2 : ℤ) (x y : V) → IsBetween k s l1 h1 x → IsBetween k s l2 h2 y
      → IsBetween k s (l1 -ℤ h2) (h1 -ℤ l2) (minus k.ring x y)
  of_difference s l1 h1 l2 h2 x y b c = of_sum s l1 h1 (neg_ℤ h2) (neg_ℤ l2) x (neg y) b (of_negative s l2 h2 y c)

  -- ---- products

  -- b is at most x y, if it is at most each product of ends
  above_corners : (l1 h1 l2 h2 x y b : V) → AtMost k l1 x → AtMost k x h1 → AtMost k l2 y → AtMost k y h2
      → AtMost k b (times l1 l2) → AtMost k b (times l1 h2) → AtMost k b (times h1 l2) → AtMost k b (times h1 h2)
      → AtMost k b (times x y)
  above_corners l1 h1 l2 h2 x y b pl ph ql qh ll lh hl hh =
      let left : AtMost k b (times y l1) = at_right (above_both l1 l2 h2 y b ql qh ll lh) (laws.times_comm l1 y) in
      let right : AtMost k b (times y h1) = at_right (above_both h1 l2 h2 y b ql qh hl hh) (laws.times_comm h1 y) in
      at_right (above_both y l1 h1 x b pl ph left right) (laws.times_comm y x)

  -- x y is at most b, if each product of ends is
  below_corners : (l1 h1 l2 h2 x y b : V) → AtMost k l1 x → AtMost k x h1 → AtMost k l2 y → AtMost k y h2
      → AtMost k (times l1 l2) b → AtMost k (times l1 h2) b → AtMost k (times h1 l2) b → AtMost k (times h1 h2) b
      → AtMost k (times x y) b
  below_corners l1 h1 l2 h2 x y b pl ph ql qh ll lh hl hh =
      let left : AtMost k (times y l1) b = at_left (laws.times_comm y l1) (below_both l1 l2 h2 y b ql qh ll lh) in
      let right : AtMost k (times y h1) b = at_left (laws.times_comm y h1) (below_both h1 l2 h2 y b ql qh hl hh) in
      at_left (laws.times_comm x y) (below_both y l1 h1 x b pl ph left right)

  -- a product is between two integers, if each product of ends is
  pub of_product : (s : ℕ) (l1 h1 l2 h2 lo hi : ℤ) (x y : V) → 0 < s → IsBetween k s l1 h1 x → IsBetween k s l2 h2 y
      → (lo *ℤ pos s) ≤ℤ (l1 *ℤ l2) → (lo *ℤ pos s) ≤ℤ (l1 *ℤ h2) → (lo *ℤ pos s) ≤ℤ (h1 *ℤ l2) → (lo *ℤ pos s) ≤ℤ (h1 *ℤ h2)
      → (l1 *ℤ l2) ≤ℤ (hi *ℤ pos s) → (l1 *ℤ h2) ≤ℤ (hi *ℤ pos s) → (h1 *ℤ l2) ≤ℤ (hi *ℤ pos s) → (h1 *ℤ h2) ≤ℤ (hi *ℤ pos s)
      → IsBetween k s lo hi (times x y)
  of_product s l1 h1 l2 h2 lo hi x y some b c ll lh hl hh ll' lh' hl' hh' =
      let w : V = whole k.ring s in
      let lowest : AtMost k (times (int lo) w) (times (units s x) (units s y)) =
      above_corners (int l1) (int h1) (int l2) (int h2) (units s x) (units s y) (times (int lo) w) b.low b.high c.low c.high
      (products_at_most lo (pos s) l1 l2 ll) (products_at_most lo (pos s) l1 h2 lh)
      (products_at_most lo (pos s) h1 l2 hl) (products_at_most lo (pos s) h1 h2 hh) in
      let highest : AtMost k (times (units s x) (units s y)) (times (int hi) w) =
      below_corners (int l1) (int h1) (int l2) (int h2) (units s x) (units s y) (times (int hi) w) b.low b.high c.low c.high
      (products_at_most l1 l2 hi (pos s) ll') (products_at_most l1 h2 hi (pos s) lh')
      (products_at_most h1 l2 hi (pos s) hl') (products_at_most h1 h2 hi (pos s) hh') in
      let same : times (units s x) (units s y) ≡ units s (units s (times x y)) = units_times s x y in
      let z : V = units s (times x y) in
      record {
        low = integers.times_cancels k h w (int lo) z (unit_above s some) (at_left (laws.times_comm w (int lo)) (at_right lowest same));
        high = cancels z (int hi) w (unit_above s some) (at_left (sym same) highest);
      }

  -- ---- quotients

  -- a quotient by a number above 0 is between two integers, if their products with the divisor's ends are beyond the
  -- dividend's
  pub of_quotient_above : (s : ℕ) (l1 h1 l2 h2 lo hi : ℤ) (n d q : V) → 0 < s → IsBetween k s l1 h1 n → IsBetween k s l2 h2 d
      → pos 0 <ℤ l2 → k.quotient n d ≡ Some q
      → (lo *ℤ l2) ≤ℤ (pos s *ℤ l1) → (lo *ℤ h2) ≤ℤ (pos s *ℤ l1) → (pos s *ℤ h1) ≤ℤ (hi *ℤ l2) → (pos s *ℤ h1) ≤ℤ (hi *ℤ h2)
      → IsBetween k s lo hi q
  of_quotient_above s l1 h1 l2 h2 lo hi n d q some b c above e ll lh hl hh =
      let u : V = units s d in
      let same : times (units s q) u ≡ units s (units s n) =
      units_times s q d ∙ ap (λ t. units s (units s t)) (h.are_exact.quotient_times n d q e) in
      let over : k.is_at_most u o ≡ false = above_too u (int l2) o (integers.integer_above k h (pos 0) l2 above) c.low in
      let lowest : AtMost k (times (int lo) u) (units s (int l1)) =
      below_both (int lo) (int l2) (int h2) u (units s (int l1)) c.low c.high
      (products_at_most lo l2 (pos s) l1 ll) (products_at_most lo h2 (pos s) l1 lh) in
      let highest : AtMost k (units s (int h1)) (times (int hi) u) =
      above_both (int hi) (int l2) (int h2) u (units s (int h1)) c.low c.high
      (products_at_most (pos s) h1 hi l2 hl) (products_at_most (pos s) h1 hi h2 hh) in
      let low : AtMost k (units s (int l1)) (times (units s q) u) = at_right (units_at_most s (int l1) (units s n) b.low) (sym same) in
      let high : AtMost k (times (units s q) u) (units s (int h1)) = at_left same (units_at_most s (units s n) (int h1) b.high) in
      record {
        low = cancels (int lo) (units s q) u over (at_left (laws.times_comm u (int lo)) (chain lowest low));
        high = cancels (units s q) (int hi) u over (at_left (laws.times_comm u (units s q)) (chain high highest));
      }

  -- the negative of a number that isn't 0 isn't 0
  negative_not_zero : (d : V) → d ≢ o → neg d ≢ o
  negative_not_zero d some e = some (sym (ring.negative_twice k.ring laws d) ∙ ap neg e ∙ ring.negative_zero k.ring laws)

  -- -n / -d = n / d
  negative_quotient : (n d q : V) → k.quotient n d ≡ Some q → k.quotient (neg n) (neg d) ≡ Some q
  negative_quotient n d q e =
      h.are_exact.quotient_there (neg n) (neg d) q (negative_not_zero d (h.are_exact.divisor n d q e))
      (integers.times_negative k h q d ∙ ap neg (h.are_exact.quotient_times n d q e))

  -- and a quotient by a number below 0
  pub of_quotient_below : (s : ℕ) (l1 h1 l2 h2 lo hi : ℤ) (n d q : V) → 0 < s → IsBetween k s l1 h1 n → IsBetween k s l2 h2 d
      → h2 <ℤ pos 0 → k.quotient n d ≡ Some q
      → (pos s *ℤ h1) ≤ℤ (lo *ℤ l2) → (pos s *ℤ h1) ≤ℤ (lo *ℤ h2) → (hi *ℤ l2) ≤ℤ (pos s *ℤ l1) → (hi *ℤ h2) ≤ℤ (pos s *ℤ l1)
      → IsBetween k s lo hi q
  of_quotient_below s l1 h1 l2 h2 lo hi n d q some b c below e ll lh hl hh =
      of_quotient_above s (neg_ℤ h1) (neg_ℤ l1) (neg_ℤ h2) (neg_ℤ l2) lo hi (neg n) (neg d) q some (of_negative s l1 h1 n b)
      (of_negative s l2 h2 d c) (omega (arith, ints)) (negative_quotient n d q e)
      (negatives_turn (pos s) h1 lo h2 lh) (negatives_turn (pos s) h1 lo l2 ll)
      (negatives_turn hi h2 (pos s) l1 hh) (negatives_turn hi l2 (pos s) l1 hl)

  -- ---- roots

  -- a number that has a root isn't negative
  pub root_argument : (s : ℕ) (lo hi : ℤ) (x y : V) → k.root x ≡ Some y → IsBetween k s lo hi x
      → IsBetween k s (int_max (pos 0) lo) hi x
  root_argument s lo hi x y e b =
      let from_zero : AtMost k o x = at_right (integers.square_from_zero k h y) (h.are_exact.root_square x y e) in
      record {
        low = max_keeps (λ n. AtMost k (int n) (units s x)) (pos 0) lo (units_from_zero s x from_zero) b.low;
        high = b.high;
      }

  -- lo <= z, if lo isn't above 0, or if its square is at most s l1, which is at most z z
  root_above : (s : ℕ) (l1 lo : ℤ) (z : V) → AtMost k o z → AtMost k (units s (int l1)) (times z z)
      → (lo ≤ℤ pos 0) ⊎ ((lo *ℤ lo) ≤ℤ (pos s *ℤ l1)) → AtMost k (int lo) z
  root_above s l1 lo z p q (inl l) = chain (integers.integer_at_most k h lo (pos 0) l) p
  root_above s l1 lo z p q (inr l) = squares_at_most (int lo) z p (chain (products_at_most lo lo (pos s) l1 l) q)

  -- a root is between two integers, if their squares are beyond its argument's ends
  pub of_root : (s : ℕ) (l1 h1 lo hi : ℤ) (x y : V) → 0 < s → IsBetween k s l1 h1 x → k.root x ≡ Some y
      → (lo ≤ℤ pos 0) ⊎ ((lo *ℤ lo) ≤ℤ (pos s *ℤ l1)) → pos 0 ≤ℤ hi → (pos s *ℤ h1) ≤ℤ (hi *ℤ hi)
      → IsBetween k s lo hi y
  of_root s l1 h1 lo hi x y some b e low high square =
      let z : V = units s y in
      let from_zero : AtMost k o z = units_from_zero s y (h.root_from_zero x y e) in
      let same : times z z ≡ units s (units s x) =
      units_times s y y ∙ ap (λ t. units s (units s t)) (h.are_exact.root_square x y e) in
      let least : AtMost k (units s (int l1)) (times z z) = at_right (units_at_most s (int l1) (units s x) b.low) (sym same) in
      let greatest : AtMost k (times z z) (units s (int h1)) = at_left same (units_at_most s (units s x) (int h1) b.high) in
      record {
        low = root_above s l1 lo z from_zero least low;
        high =
            squares_at_most z (int hi) (integers.integer_at_most k h (pos 0) hi high)
            (chain greatest (products_at_most (pos s) h1 hi hi square));
      }
