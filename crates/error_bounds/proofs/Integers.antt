-- Integers in ordered exact numbers.
use Rattle.std.proofs.Common.{inl, inr, sym, ap, ◌∙◌, arith, unsigned_abs, ◌≡◌, ℕ, zero, suc, ◌+◌, ◌*◌, ℤ, pos, negsuc, neg_ℤ, ◌+ℤ◌, ◌-ℤ◌, ◌*ℤ◌, ◌≤ℤ◌, ◌<ℤ◌, false, refl}
use Rattle.std.proofs.lemmas.Bool.{both_ways, cases_Bool}
use Rattle.std.proofs.lemmas.Int.{by_lt_z, ints}
use Rattle.derivative.specs.Exact.{Numbers, integer, minus, whole}
use Rattle.derivative.proofs.RingLaws as ring
use Rattle.derivative.proofs.ExactLaws.{cancel_times, one_not_zero, order_by_difference}
use Rattle.error_bounds.specs.Ordered.{AreOrdered, AtMost}

-- an integer is a difference of natural numbers
as_difference : (z : ℤ) → (m : ℕ) × (n : ℕ) × (z +ℤ pos n ≡ pos m)
as_difference (pos p) = (p, 0, omega (arith, ints))
as_difference (negsuc p) = (0, suc p, omega (arith, ints))

-- a + (b - a) = b for a <= b; then b - a is a natural number
gap : (a b : ℤ) → a ≤ℤ b → a +ℤ pos (unsigned_abs (b -ℤ a)) ≡ b
gap a b p = omega (arith, ints)

module _ {V : Type 0} (k : Numbers V) (h : AreOrdered k) where
  open k.ring use {zero as o, one as i, plus, times, negative as neg}
  open h.are_exact use {is_ring as laws, order_kept}

  -- ---- orders

  -- x <= x
  pub at_most_itself : (x : V) → AtMost k x x
  at_most_itself x = elim (cases_Bool (k.is_at_most x x)) [ inl e ↦ e | inr e ↦ h.total x x e ]

  -- x <= y gives x + u <= y + u
  plus_right : (x y u : V) → AtMost k x y → AtMost k (plus x u) (plus y u)
  plus_right x y u p = order_kept x y u ∙ p

  -- u <= v gives x + u <= x + v
  plus_left : (x u v : V) → AtMost k u v → AtMost k (plus x u) (plus x v)
  plus_left x u v p =
      ap (λ s. k.is_at_most s (plus x v)) (laws.plus_comm x u) ∙ ap (k.is_at_most (plus u x)) (laws.plus_comm x v)
      ∙ plus_right u v x p

  -- sums keep the order
  pub plus_at_most : (x y u v : V) → AtMost k x y → AtMost k u v → AtMost k (plus x u) (plus y v)
  plus_at_most x y u v p q = h.transitive (plus x u) (plus y u) (plus y v) (plus_right x y u p) (plus_left y u v q)

  -- -x - -y = y - x
  minus_negatives : (x y : V) → minus k.ring (neg x) (neg y) ≡ minus k.ring y x
  minus_negatives x y = ap (plus (neg x)) (ring.negative_twice k.ring laws y) ∙ laws.plus_comm (neg x) y

  -- negatives turn the order
  pub negative_at_most : (x y : V) → AtMost k x y → AtMost k (neg y) (neg x)
  negative_at_most x y p =
      sym (order_by_difference k h.are_exact (neg y) (neg x)) ∙ ap (k.is_at_most o) (minus_negatives x y)
      ∙ order_by_difference k h.are_exact x y ∙ p

  -- x (-y) = -(x y)
  pub times_negative : (x y : V) → times x (neg y) ≡ neg (times x y)
  times_negative x y = laws.times_comm x (neg y) ∙ ring.negative_times k.ring laws y x ∙ ap neg (laws.times_comm y x)

  -- (-x) (-y) = x y
  negatives_times : (x y : V) → times (neg x) (neg y) ≡ times x y
  negatives_times x y =
      ring.negative_times k.ring laws x (neg y) ∙ ap neg (times_negative x y) ∙ ring.negative_twice k.ring laws (times x y)

  -- c (x - y) = c x - c y
  times_minus : (c x y : V) → times c (minus k.ring x y) ≡ minus k.ring (times c x) (times c y)
  times_minus c x y = laws.times_plus c x (neg y) ∙ ap (plus (times c x)) (times_negative c y)

  -- x <= y and 0 <= c gives c x <= c y
  pub times_at_most : (c x y : V) → AtMost k o c → AtMost k x y → AtMost k (times c x) (times c y)
  times_at_most c x y p q =
      sym (order_by_difference k h.are_exact (times c x) (times c y)) ∙ ap (k.is_at_most o) (sym (times_minus c y x))
      ∙ h.times_kept c (minus k.ring y x) p (order_by_difference k h.are_exact x y ∙ q)

  -- a number above 0 isn't 0
  above_not_zero : (c : V) → k.is_at_most c o ≡ false → c ≡ o → ⊥
  above_not_zero c p e = both_ways (k.is_at_most c o) p (ap (λ s. k.is_at_most s o) e ∙ at_most_itself o)

  -- c x <= c y and 0 < c gives x <= y
  pub times_cancels : (c x y : V) → k.is_at_most c o ≡ false → AtMost k (times c x) (times c y) → AtMost k x y
  times_cancels c x y p q =
      elim (cases_Bool (k.is_at_most x y)) [
        | inl e ↦ e
        | inr e ↦
            let below : AtMost k (times c y) (times c x) = times_at_most c y x (h.total c o p) (h.total x y e) in
            let same : times c x ≡ times c y = h.antisymmetric (times c x) (times c y) q below in
            let equal : x ≡ y =
            cancel_times k h.are_exact x y c (above_not_zero c p) (laws.times_comm x c ∙ same ∙ laws.times_comm c y) in
            ap (k.is_at_most x) (sym equal) ∙ at_most_itself x
      ]

  -- x <= 0 gives 0 <= -x
  negative_from_zero : (x : V) → AtMost k x o → AtMost k o (neg x)
  negative_from_zero x p = ap (λ s. k.is_at_most s (neg x)) (sym (ring.negative_zero k.ring laws)) ∙ negative_at_most x o p

  -- 0 <= x x
  pub square_from_zero : (x : V) → AtMost k o (times x x)
  square_from_zero x =
      elim (cases_Bool (k.is_at_most o x)) [
        | inl e ↦ h.times_kept x x e e
        | inr e ↦
            let n : AtMost k o (neg x) = negative_from_zero x (h.total o x e) in
            ap (k.is_at_most o) (sym (negatives_times x x)) ∙ h.times_kept (neg x) (neg x) n n
      ]

  -- 0 <= 1
  one_from_zero : AtMost k o i
  one_from_zero = ap (k.is_at_most o) (sym (laws.times_one i)) ∙ square_from_zero i

  -- ---- natural numbers

  -- natural numbers aren't below 0
  pub whole_from_zero : (n : ℕ) → AtMost k o (whole k.ring n)
  whole_from_zero zero = at_most_itself o
  whole_from_zero (suc n) =
      ap (λ s. k.is_at_most s (plus (whole k.ring n) i)) (sym (laws.plus_zero o))
      ∙ plus_at_most o (whole k.ring n) o i (whole_from_zero n) one_from_zero

  -- ---- integers

  -- (x + y) + (u + v) = (x + u) + (y + v)
  exchange : (x y u v : V) → plus (plus x y) (plus u v) ≡ plus (plus x u) (plus y v)
  exchange x y u v =
      laws.plus_assoc x y (plus u v)
      ∙ ap (plus x) (sym (laws.plus_assoc y u v) ∙ ap (λ s. plus s v) (laws.plus_comm y u) ∙ laws.plus_assoc u y v)
      ∙ sym (laws.plus_assoc x u (plus y v))

  -- an integer that is m - n is m - n in the field
  integer_difference : (z : ℤ) (m n : ℕ) → z +ℤ pos n ≡ pos m → plus (integer k.ring z) (whole k.ring n) ≡ whole k.ring m
  integer_difference (pos p) m n e =
      let sum : p + n ≡ m = omega (arith, ints) in
      sym (ring.whole_plus k.ring laws p n) ∙ ap (whole k.ring) sum
  integer_difference (negsuc p) m n e =
      let sum : n ≡ m + suc p = omega (arith, ints) in
      let w : V = whole k.ring (suc p) in
      laws.plus_comm (neg w) (whole k.ring n) ∙ ap (λ s. plus s (neg w)) (ap (whole k.ring) sum ∙ ring.whole_plus k.ring laws m (suc p))
      ∙ ring.plus_minus k.ring laws (whole k.ring m) w

  -- the sum of two integers that are differences
  difference_plus : (a b : ℤ) (m n m' n' : ℕ) → a +ℤ pos n ≡ pos m → b +ℤ pos n' ≡ pos m'
      → integer k.ring (a +ℤ b) ≡ plus (integer k.ring a) (integer k.ring b)
  difference_plus a b m n m' n' e e' =
      let sum : (a +ℤ b) +ℤ pos (n + n') ≡ pos (m + m') = omega (arith, ints) in
      let there : plus (plus (integer k.ring a) (integer k.ring b)) (whole k.ring (n + n')) ≡ plus (whole k.ring m) (whole k.ring m') =
      ap (plus (plus (integer k.ring a) (integer k.ring b))) (ring.whole_plus k.ring laws n n')
      ∙ exchange (integer k.ring a) (integer k.ring b) (whole k.ring n) (whole k.ring n')
      ∙ ap (λ s. plus s (plus (integer k.ring b) (whole k.ring n'))) (integer_difference a m n e)
      ∙ ap (plus (whole k.ring m)) (integer_difference b m' n' e') in
      ring.cancel k.ring laws (integer k.ring (a +ℤ b)) (plus (integer k.ring a) (integer k.ring b)) (whole k.ring (n + n'))
      (integer_difference (a +ℤ b) (m + m') (n + n') sum ∙ ring.whole_plus k.ring laws m m' ∙ sym there)

  -- the sum of two integers in the field is their sum as integers
  pub integer_plus : (a b : ℤ) → integer k.ring (a +ℤ b) ≡ plus (integer k.ring a) (integer k.ring b)
  integer_plus a b =
      let d : (m : ℕ) × (n : ℕ) × (a +ℤ pos n ≡ pos m) = as_difference a in
      let d' : (m : ℕ) × (n : ℕ) × (b +ℤ pos n ≡ pos m) = as_difference b in
      difference_plus a b d.0 d.1 d'.0 d'.1 d.2 d'.2

  -- the negative of an integer in the field is its negative as an integer
  pub integer_negative : (a : ℤ) → integer k.ring (neg_ℤ a) ≡ neg (integer k.ring a)
  integer_negative (pos zero) = sym (ring.negative_zero k.ring laws)
  integer_negative (pos (suc n)) = refl
  integer_negative (negsuc n) = sym (ring.negative_twice k.ring laws (whole k.ring (suc n)))

  -- the product of two integers in the field is their product as integers
  pub integer_times : (a b : ℤ) → integer k.ring (a *ℤ b) ≡ times (integer k.ring a) (integer k.ring b)
  integer_times (pos m) (pos n) = ring.whole_times k.ring laws m n
  integer_times (pos m) (negsuc n) =
      integer_negative (pos (m * suc n)) ∙ ap neg (ring.whole_times k.ring laws m (suc n)) ∙ sym (times_negative (whole k.ring m) (whole k.ring (suc n)))
  integer_times (negsuc m) (pos n) =
      integer_negative (pos (suc m * n)) ∙ ap neg (ring.whole_times k.ring laws (suc m) n)
      ∙ sym (ring.negative_times k.ring laws (whole k.ring (suc m)) (whole k.ring n))
  integer_times (negsuc m) (negsuc n) = ring.whole_times k.ring laws (suc m) (suc n) ∙ sym (negatives_times (whole k.ring (suc m)) (whole k.ring (suc n)))

  -- ---- the order of integers

  -- integers keep their order
  pub integer_at_most : (a b : ℤ) → a ≤ℤ b → AtMost k (integer k.ring a) (integer k.ring b)
  integer_at_most a b p =
      let n : ℕ = unsigned_abs (b -ℤ a) in
      let sum : plus (integer k.ring a) (whole k.ring n) ≡ integer k.ring b =
      sym (integer_plus a (pos n)) ∙ ap (integer k.ring) (gap a b p) in
      ap (λ s. k.is_at_most s (integer k.ring b)) (sym (laws.plus_zero (integer k.ring a)))
      ∙ ap (k.is_at_most (plus (integer k.ring a) o)) (sym sum)
      ∙ plus_left (integer k.ring a) o (whole k.ring n) (whole_from_zero n)

  -- 1 is not at most 0
  one_above_zero : AtMost k i o → ⊥
  one_above_zero p = one_not_zero k h.are_exact (h.antisymmetric i o p one_from_zero)

  -- a < b, but b <= a in the field, can't be
  not_turned : (a b : ℤ) → a <ℤ b → AtMost k (integer k.ring b) (integer k.ring a) → ⊥
  not_turned a b p e =
      let x : V = integer k.ring a in
      let next : AtMost k (integer k.ring (pos 1 +ℤ a)) x =
      h.transitive (integer k.ring (pos 1 +ℤ a)) (integer k.ring b) x (integer_at_most (pos 1 +ℤ a) b (omega (arith, ints))) e in
      let one : integer k.ring (pos 1 +ℤ a) ≡ plus i x =
      integer_plus (pos 1) a ∙ ap (λ s. plus s x) (ring.zero_plus k.ring laws i) in
      one_above_zero (sym (order_kept i o x) ∙ ap (λ s. k.is_at_most s (plus o x)) (sym one)
      ∙ ap (k.is_at_most (integer k.ring (pos 1 +ℤ a))) (ring.zero_plus k.ring laws x) ∙ next)

  -- an integer above another is above it in the field
  pub integer_above : (a b : ℤ) → a <ℤ b → k.is_at_most (integer k.ring b) (integer k.ring a) ≡ false
  integer_above a b p =
      elim (cases_Bool (k.is_at_most (integer k.ring b) (integer k.ring a))) [ inl e ↦ absurd (not_turned a b p e) | inr e ↦ e ]

  -- and have it from their integers
  pub integers_at_most : (a b : ℤ) → AtMost k (integer k.ring a) (integer k.ring b) → a ≤ℤ b
  integers_at_most a b p = by_lt_z b a (λ l. absurd (not_turned b a l p)) (λ l. l)
