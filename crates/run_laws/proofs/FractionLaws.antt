-- Fractions are exact numbers.
use Rattle.std.proofs.Common.{◌≡◌, ℕ, zero, suc, ◌+◌, ◌-◌, ◌*◌, ◌^◌, ◌<◌, ◌≤◌, nat_lt, Bool, true, false, ℤ, pos, negsuc, Some, None, arith, refl, sym, ap, subst, ◌∙◌, eq-eqb, eqb-true, ltb-false, ltb-true, pow_pos, if◌then◌else◌, not}
use mathlib.Core.Bool.{Bool-set}
use mathlib.Core.HLevel.{Π_prop}
use mathlib.Core.Quot.{mk, sound, ind, Quot-set}
use Rattle.std.proofs.lemmas.Bool.{eqb-false}
use Rattle.fixed.specs.Roots.{root}
use Rattle.derivative.specs.Exact.{AreExact, IsRing, StandsForFraction, integer, whole}
use Rattle.run_laws.specs.WrittenFractions.{Written, IsSame, both_below, sum_of, negative_of, product_of, natural, is_nothing, is_below_nothing, reciprocal_of, over_square, is_square, root_of, over}
use Rattle.run_laws.specs.Fractions.{AreKept, Fraction, fraction, fraction_ring, fractions, is_below_zero, is_zero, plus, negative, times, reciprocal, quotient, has_root, root_part, square_root}
use Rattle.run_laws.proofs.FractionClasses.{same_written, square_parts}

-- if P holds for every written fraction, P holds for every fraction
pub all : (P : Fraction → Type 0) → ((x : Fraction) → IsProp (P x)) → ((a : Written) → P (mk a)) → (x : Fraction) → P x
all P is h x = ind {r = IsSame} {β = P} is h x

-- an equation holds for one, two or three fractions if it holds for written fractions
of_each : (f g : Fraction → Fraction) → ((a : Written) → f (mk a) ≡ g (mk a)) → (x : Fraction) → f x ≡ g x
of_each f g h x = all (λ x. f x ≡ g x) (λ x. Quot-set _ _) h x

of_both : (f g : Fraction → Fraction → Fraction) → ((a b : Written) → f (mk a) (mk b) ≡ g (mk a) (mk b)) → (x y : Fraction) → f x y ≡ g x y
of_both f g h x y = all (λ x. f x y ≡ g x y) (λ x. Quot-set _ _) (λ a. of_each (f (mk a)) (g (mk a)) (h a) y) x

of_three : (f g : Fraction → Fraction → Fraction → Fraction) → ((a b c : Written) → f (mk a) (mk b) (mk c) ≡ g (mk a) (mk b) (mk c)) → (x y z : Fraction) → f x y z ≡ g x y z
of_three f g h x y z = all (λ x. f x y z ≡ g x y z) (λ x. Quot-set _ _) (λ a. of_both (f (mk a)) (g (mk a)) (h a) y z) x

-- ---- identities of written fractions

sums_apart : (a b c : Written) → IsSame (sum_of (sum_of a b) c) (sum_of a (sum_of b c))
sums_apart a b c =
    let alike : sum_of (sum_of a b) c ≡ sum_of a (sum_of b c) = same_written _ _ (omega arith) (omega arith) (omega arith) in
    subst (λ s. IsSame s (sum_of a (sum_of b c))) (sym alike) refl

sums_swapped : (a b : Written) → IsSame (sum_of a b) (sum_of b a)
sums_swapped a b = omega arith

sum_with_nothing : (a : Written) → IsSame (sum_of a (natural 0)) a
sum_with_nothing a = omega arith

sum_with_negative : (a : Written) → IsSame (sum_of a (negative_of a)) (natural 0)
sum_with_negative a = omega arith

products_apart : (a b c : Written) → IsSame (product_of (product_of a b) c) (product_of a (product_of b c))
products_apart a b c = omega arith

products_swapped : (a b : Written) → IsSame (product_of a b) (product_of b a)
products_swapped a b = omega arith

product_with_one : (a : Written) → IsSame (product_of a (natural 1)) a
product_with_one a = omega arith

product_of_sum : (a b c : Written) → IsSame (product_of a (sum_of b c)) (sum_of (product_of a b) (product_of a c))
product_of_sum a b c =
    let one = product_of a (sum_of b c) in
    let other = sum_of (product_of a b) (product_of a c) in
    let plus : other.plus ≡ one.plus * suc a.below = omega arith in
    let minus : other.minus ≡ one.minus * suc a.below = omega arith in
    let below : suc other.below ≡ suc one.below * suc a.below = omega arith in
    widened one.plus one.minus (suc one.below) (suc a.below) other.plus other.minus (suc other.below) plus minus below
  where
    -- multiplying all fields of a written fraction by one number gives an equal fraction
    widened : (p m b k p' m' b' : ℕ) → p' ≡ p * k → m' ≡ m * k → b' ≡ b * k → p * b' + m' * b ≡ p' * b + m * b'
    widened p m b k p' m' b' ep em eb = rw (ep, em, eb) (omega arith)

-- a product of two differences that aren't 0 isn't 0
more_more : (p m q n : ℕ) → p < m → q < n → p * q + m * n ≡ p * n + m * q → ⊥
more_more p m q n lower lower' e =
    let k : ℕ = m - p - 1 in
    let j : ℕ = n - q - 1 in
    let m_is : m ≡ p + suc k = omega (arith, lower) in
    let n_is : n ≡ q + suc j = omega (arith, lower') in
    let it : p * q + (p + suc k) * (q + suc j) ≡ p * (q + suc j) + (p + suc k) * q =
    ap (λ x. p * q + x * (q + suc j)) (sym m_is) ∙ ap (λ x. p * q + m * x) (sym n_is) ∙ e ∙ ap (λ x. p * x + m * q) n_is ∙ ap (λ x. p * (q + suc j) + x * q) m_is in
    omega (arith, it)

parts : (p m q n : ℕ) → p * q + m * n ≡ p * n + m * q → (q ≡ n → ⊥) → p ≡ m
parts p m q n e some = by_order (nat_lt p m) (nat_lt m p) (nat_lt q n) refl refl refl
  where
    above : n ≤ q → n < q
    above h = grind (arith, h, some)

    by_order : (x y z : Bool) → nat_lt p m ≡ x → nat_lt m p ≡ y → nat_lt q n ≡ z → p ≡ m
    by_order true y true ex ey ez = absurd (more_more p m q n (ltb-true p m ex) (ltb-true q n ez) e)
    by_order true y false ex ey ez = absurd (more_more p m n q (ltb-true p m ex) (above (ltb-false q n ez)) (sym e))
    by_order false true true ex ey ez = absurd (more_more m p q n (ltb-true m p ey) (ltb-true q n ez) (omega (arith, e)))
    by_order false true false ex ey ez = absurd (more_more m p n q (ltb-true m p ey) (above (ltb-false q n ez)) (omega (arith, e)))
    by_order false false z ex ey ez = omega (arith, ltb-false p m ex, ltb-false m p ey)

module _ (kept : AreKept) where
  -- fractions are a commutative ring
  pub are_ring : IsRing (fraction_ring kept)
  are_ring =
      record {
        plus_assoc = of_three (λ x y z. plus kept (plus kept x y) z) (λ x y z. plus kept x (plus kept y z)) (λ a b c. sound {r = IsSame} (sums_apart a b c));
        plus_comm = of_both (λ x y. plus kept x y) (λ x y. plus kept y x) (λ a b. sound {r = IsSame} (sums_swapped a b));
        plus_zero = of_each (λ x. plus kept x (fraction (natural 0))) (λ x. x) (λ a. sound {r = IsSame} (sum_with_nothing a));
        plus_negative = of_each (λ x. plus kept x (negative kept x)) (λ x. fraction (natural 0)) (λ a. sound {r = IsSame} (sum_with_negative a));
        times_assoc = of_three (λ x y z. times kept (times kept x y) z) (λ x y z. times kept x (times kept y z)) (λ a b c. sound {r = IsSame} (products_apart a b c));
        times_comm = of_both (λ x y. times kept x y) (λ x y. times kept y x) (λ a b. sound {r = IsSame} (products_swapped a b));
        times_one = of_each (λ x. times kept x (fraction (natural 1))) (λ x. x) (λ a. sound {r = IsSame} (product_with_one a));
        times_plus = of_three (λ x y z. times kept x (plus kept y z)) (λ x y z. plus kept (times kept x y) (times kept x z)) (λ a b c. sound {r = IsSame} (product_of_sum a b c));
      }

  -- ---- zero

  -- if the zero test is true, a fraction is 0
  pub zero_alone : (x : Fraction) → is_zero kept x ≡ true → x ≡ fraction (natural 0)
  zero_alone x =
      all (λ x. is_zero kept x ≡ true → x ≡ fraction (natural 0)) (λ x. Π_prop (λ t. Quot-set _ _))
      (λ a t. sound {r = IsSame} (nothing a.plus a.minus a.below (eqb-true a.plus a.minus t))) x
    where
      nothing : (p m d : ℕ) → p ≡ m → p * 1 + 0 * suc d ≡ 0 * suc d + m * 1
      nothing p m d e = omega (arith, e)

  -- if a product is 0 and its second factor isn't, the first factor is 0
  no_zero : (x y : Fraction) → is_zero kept (times kept x y) ≡ true → is_zero kept y ≡ false → is_zero kept x ≡ true
  no_zero x y =
      all (λ x. (y : Fraction) → is_zero kept (times kept x y) ≡ true → is_zero kept y ≡ false → is_zero kept x ≡ true) (λ x. Π_prop (λ y. Π_prop (λ t. Π_prop (λ f. Bool-set _ _))))
      (λ a. all (λ y. is_zero kept (times kept (mk a) y) ≡ true → is_zero kept y ≡ false → is_zero kept (mk a) ≡ true) (λ y. Π_prop (λ t. Π_prop (λ f. Bool-set _ _)))
      (λ b t f. eq-eqb a.plus a.minus (parts a.plus a.minus b.plus b.minus (eqb-true _ _ t) (eqb-false b.plus b.minus f)))) x y

  -- if a fraction is 0, the zero test is true
  found_zero : (x : Fraction) → x ≡ fraction (natural 0) → is_zero kept x ≡ true
  found_zero x e = ap (is_zero kept) e

  -- if a fraction isn't 0, the zero test is false
  pub not_found : (x : Fraction) → (x ≡ fraction (natural 0) → ⊥) → is_zero kept x ≡ false
  not_found x some = tested (is_zero kept x) refl
    where
      tested : (b : Bool) → is_zero kept x ≡ b → b ≡ false
      tested true e = absurd (some (zero_alone x e))
      tested false e = refl

  no_zero_divisors : (x y : Fraction) → times kept x y ≡ fraction (natural 0) → (y ≡ fraction (natural 0) → ⊥) → x ≡ fraction (natural 0)
  no_zero_divisors x y e some = zero_alone x (no_zero x y (found_zero (times kept x y) e) (not_found y some))

  -- ---- quotients

  -- one over a fraction, times that fraction, is one
  reciprocal_times : (x : Fraction) → is_zero kept x ≡ false → times kept (reciprocal kept x) x ≡ fraction (natural 1)
  reciprocal_times x =
      all (λ x. is_zero kept x ≡ false → times kept (reciprocal kept x) x ≡ fraction (natural 1)) (λ x. Π_prop (λ t. Quot-set _ _))
      (λ a f. sound {r = IsSame} (one_of a f)) x
    where
      upper : (p m d : ℕ) → m < p → (suc d * p + 0 * m) * 1 + 0 * suc (both_below (p - m - 1) d) ≡ 1 * suc (both_below (p - m - 1) d) + (suc d * m + 0 * p) * 1
      upper p m d more =
          let k : ℕ = p - m - 1 in
          let there : p ≡ m + suc k = omega (arith, more) in
          let it : (suc d * (m + suc k) + 0 * m) * 1 + 0 * suc (both_below k d) ≡ 1 * suc (both_below k d) + (suc d * m + 0 * (m + suc k)) * 1 = omega arith in
          subst (λ x. (suc d * x + 0 * m) * 1 + 0 * suc (both_below k d) ≡ 1 * suc (both_below k d) + (suc d * m + 0 * x) * 1) (sym there) it

      lower : (p m d : ℕ) → p < m → (0 * p + suc d * m) * 1 + 0 * suc (both_below (m - p - 1) d) ≡ 1 * suc (both_below (m - p - 1) d) + (0 * m + suc d * p) * 1
      lower p m d more = omega (arith, upper m p d more)

      one_of : (a : Written) → is_nothing a ≡ false → IsSame (product_of (reciprocal_of a) a) (natural 1)
      one_of a f = by_sign (is_below_nothing a) refl
        where
          by_sign : (b : Bool) → is_below_nothing a ≡ b → IsSame (product_of (reciprocal_of a) a) (natural 1)
          by_sign true e = rw (f, e) (lower a.plus a.minus a.below (ltb-true a.plus a.minus e))
          by_sign false e = rw (f, e) (upper a.plus a.minus a.below (grind (arith, ltb-false a.plus a.minus e, eqb-false a.plus a.minus f)))

  quotient_found : (n d q : Fraction) → quotient kept n d ≡ Some q → (is_zero kept d ≡ false) × (q ≡ times kept n (reciprocal kept d))
  quotient_found n d q e = tested (is_zero kept d) refl e
    where
      tested : (b : Bool) → is_zero kept d ≡ b → (if b then None else Some (times kept n (reciprocal kept d))) ≡ Some q → (is_zero kept d ≡ false) × (q ≡ times kept n (reciprocal kept d))
      tested true t e = absurd (cc)
      tested false t e = (t, sym (cc))

  divisor : (n d q : Fraction) → quotient kept n d ≡ Some q → d ≡ fraction (natural 0) → ⊥
  divisor n d q e nothing =
      let found = found_zero d nothing in
      let other = (quotient_found n d q e).0 in
      absurd (cc)

  abbrev ring : IsRing (fraction_ring kept)
  ring = are_ring

  -- a quotient times its divisor is the dividend
  pub quotient_times : (n d q : Fraction) → quotient kept n d ≡ Some q → times kept q d ≡ n
  quotient_times n d q e =
      let found = quotient_found n d q e in
      ap (λ x. times kept x d) found.1 ∙ ring.times_assoc n (reciprocal kept d) d
      ∙ ap (λ x. times kept n x) (reciprocal_times d found.0) ∙ ring.times_one n

  quotient_there : (n d q : Fraction) → (d ≡ fraction (natural 0) → ⊥) → times kept q d ≡ n → quotient kept n d ≡ Some q
  quotient_there n d q some e =
      let test : is_zero kept d ≡ false = not_found d some in
      let back : times kept n (reciprocal kept d) ≡ q =
      ap (λ x. times kept x (reciprocal kept d)) (sym e) ∙ ring.times_assoc q d (reciprocal kept d)
      ∙ ap (λ x. times kept q x) (ring.times_comm d (reciprocal kept d) ∙ reciprocal_times d test) ∙ ring.times_one q in
      ap (λ b. if b then None else Some (times kept n (reciprocal kept d))) test ∙ ap Some back

  -- ---- roots

  -- If a root exists, the fraction is a square.
  pub root_found : (x y : Fraction) → square_root kept x ≡ Some y → (has_root kept x ≡ true) × (root_part kept x ≡ y)
  root_found x y e = tested (has_root kept x) refl e
    where
      tested : (b : Bool) → has_root kept x ≡ b → (if b then Some (root_part kept x) else None) ≡ Some y
          → (has_root kept x ≡ true) × (root_part kept x ≡ y)
      tested true t e = (t, cc)
      tested false t e = absurd (cc)

  -- the square of a square's root is that square
  part_squared : (x : Fraction) → has_root kept x ≡ true → times kept (root_part kept x) (root_part kept x) ≡ x
  part_squared x =
      all (λ x. has_root kept x ≡ true → times kept (root_part kept x) (root_part kept x) ≡ x) (λ x. Π_prop (λ t. Quot-set _ _))
      (λ a t. sound {r = IsSame} (squared a t)) x
    where
      crossed : (p m d u : ℕ) → m ≤ p → u * u ≡ (p - m) * suc d
          → (u * u + 0 * 0) * suc d + m * suc (both_below d d) ≡ p * suc (both_below d d) + (u * 0 + 0 * u) * suc d
      crossed p m d u some e =
          let i : ℕ = p - m in
          let there : p ≡ m + i = omega (arith, some) in
          let wide : u * u * suc d ≡ i * suc d * suc d = ap (λ s. s * suc d) e in
          let it : (u * u + 0 * 0) * suc d + m * suc (both_below d d) ≡ (m + i) * suc (both_below d d) + (u * 0 + 0 * u) * suc d = omega (arith, wide) in
          it ∙ ap (λ s. s * suc (both_below d d) + (u * 0 + 0 * u) * suc d) (sym there)

      squared : (a : Written) → is_square a ≡ true → IsSame (product_of (root_of a) (root_of a)) a
      squared a t =
          let parts = square_parts a t in
          rw t (crossed a.plus a.minus a.below (root (over_square a)) (ltb-false a.plus a.minus parts.0) parts.1)

  root_square : (x y : Fraction) → square_root kept x ≡ Some y → times kept y y ≡ x
  root_square x y e = let found = root_found x y e in ap (λ s. times kept s s) (sym found.1) ∙ part_squared x found.0

  -- ---- order

  negative_sum : (x z : Fraction) → plus kept z (negative kept (plus kept x z)) ≡ negative kept x
  negative_sum = of_both (λ x z. plus kept z (negative kept (plus kept x z))) (λ x z. negative kept x) (λ a c. sound {r = IsSame} (left a c))
    where
      left : (a c : Written) → IsSame (sum_of c (negative_of (sum_of a c))) (negative_of a)
      left a c = omega arith

  difference_kept : (x y z : Fraction) → plus kept (plus kept y z) (negative kept (plus kept x z)) ≡ plus kept y (negative kept x)
  difference_kept x y z = ring.plus_assoc y z (negative kept (plus kept x z)) ∙ ap (λ s. plus kept y s) (negative_sum x z)

  pub are_exact : (bits : ℕ) → AreExact (fractions kept bits)
  are_exact bits =
      record {
        is_ring = are_ring;
        no_zero_divisors = no_zero_divisors;
        two = λ e. absurd (two_differ e);
        zero_found = refl;
        zero_alone = zero_alone;
        divisor = divisor;
        quotient_times = quotient_times;
        quotient_there = quotient_there;
        root_square = root_square;
        order_kept = λ x y z. ap (λ s. not (is_below_zero kept s)) (difference_kept x y z);
      }
    where
      two_differ : plus kept (fraction (natural 1)) (fraction (natural 1)) ≡ fraction (natural 0) → ⊥
      two_differ e = let t : is_zero kept (plus kept (fraction (natural 1)) (fraction (natural 1))) ≡ true = found_zero _ e in absurd (cc)

  -- ---- numbers of trees

  -- a natural number in the fractions is itself over 1
  pub whole_is : (n : ℕ) → whole (fraction_ring kept) n ≡ fraction (natural n)
  whole_is zero = refl
  whole_is (suc n) = ap (λ x. plus kept x (fraction (natural 1))) (whole_is n) ∙ sound {r = IsSame} (next n)
    where
      next : (n : ℕ) → IsSame (sum_of (natural n) (natural 1)) (natural (suc n))
      next n = omega arith

  -- so is an integer
  pub integer_is : (z : ℤ) → integer (fraction_ring kept) z ≡ fraction (over z 0)
  integer_is (pos n) = whole_is n
  integer_is (negsuc n) = ap (negative kept) (whole_is (suc n))

  pub stands : (bits : ℕ) (z : ℤ) → StandsForFraction (fractions kept bits) bits z
  stands bits z =
      ap (λ x. times kept (fraction (over z (2 ^ bits - 1))) x) (whole_is (2 ^ bits)) ∙ sound {r = IsSame} (at z (2 ^ bits) (pow_pos bits)) ∙ sym (integer_is z)
    where
      at : (z : ℤ) (k : ℕ) → 0 < k → IsSame (product_of (over z (k - 1)) (natural k)) (over z 0)
      at (pos n) k more = let there : suc (k - 1) ≡ k = omega (arith, more) in subst (λ x. (n * x + 0 * 0) * 1 + 0 * suc (both_below (k - 1) 0) ≡ n * suc (both_below (k - 1) 0) + (n * 0 + 0 * x) * 1) there (omega arith)
      at (negsuc n) k more = let there : suc (k - 1) ≡ k = omega (arith, more) in subst (λ x. (0 * x + suc n * 0) * 1 + suc n * suc (both_below (k - 1) 0) ≡ 0 * suc (both_below (k - 1) 0) + (0 * 0 + suc n * x) * 1) there (omega arith)
