-- Fractions are ordered exact numbers.
use Rattle.std.proofs.Common.{◌≡◌, ℕ, zero, suc, ◌+◌, ◌-◌, ◌*◌, ◌/◌, ◌<◌, ◌≤◌, nat_lt, Bool, true, false, ℤ, pos, negsuc, neg_ℤ, ◌+ℤ◌, ◌-ℤ◌, arith, refl, sym, ap, subst, ◌∙◌, lt-ltb, ltb-false, ltb-true, not}
use mathlib.Core.Bool.{Bool-set}
use mathlib.Core.HLevel.{Π_prop}
use mathlib.Core.Quot.{mk, sound, lift, Quot-set}
use Rattle.std.proofs.Math.IntN.{ℤ_set}
use Rattle.std.proofs.Math.Nat.{div-mul-le_self, lt-mul-div-succ, mul-le-mul_right}
use Rattle.std.proofs.lemmas.Bool.{eq-eqb, false_from_ne_true, not-false, not-true, not_from_false, not_from_true}
use Rattle.std.proofs.lemmas.Int.{ints}
use Rattle.derivative.specs.Exact.{IsRing, Numbers, Ring, integer}
use Rattle.derivative.proofs.RingLaws as ring
use Rattle.error_bounds.specs.Ordered.{AreOrdered, AtMost, IsCeilingOf, IsFloorOf}
use Rattle.run_laws.specs.WrittenFractions.{Written, IsSame, sum_of, negative_of, product_of, natural, is_nothing, is_below_nothing, is_square, root_of, floor_of, over}
use Rattle.run_laws.specs.Fractions.{AreKept, Fraction, fraction, fraction_ring, fractions, is_below_zero, is_zero, plus, negative, times, root_part, floor}
use Rattle.run_laws.proofs.FractionClasses.{same_floor}
use Rattle.run_laws.proofs.FractionLaws.{all, are_exact, are_ring, integer_is, root_found, zero_alone}

-- ---- written fractions

-- if m is at most p, the test whether p is below m is false
pub not_below : (p m : ℕ) → m ≤ p → nat_lt p m ≡ false
not_below p m h = false_from_ne_true (nat_lt p m) (λ t. omega (arith, h, ltb-true p m t))

-- sums of fractions that aren't negative aren't negative
sum_from_nothing : (a b : Written) → is_below_nothing a ≡ false → is_below_nothing b ≡ false → is_below_nothing (sum_of a b) ≡ false
sum_from_nothing a b x y =
    let first : a.minus * suc b.below ≤ a.plus * suc b.below = mul-le-mul_right (suc b.below) (ltb-false a.plus a.minus x) in
    let second : b.minus * suc a.below ≤ b.plus * suc a.below = mul-le-mul_right (suc a.below) (ltb-false b.plus b.minus y) in
    not_below (sum_of a b).plus (sum_of a b).minus (omega (arith, first, second))

-- products of fractions that aren't negative aren't negative
product_from_nothing : (a b : Written) → is_below_nothing a ≡ false → is_below_nothing b ≡ false
    → is_below_nothing (product_of a b) ≡ false
product_from_nothing a b x y =
    not_below (product_of a b).plus (product_of a b).minus
    (larger a.plus a.minus b.plus b.minus (ltb-false a.plus a.minus x) (ltb-false b.plus b.minus y))
  where
    larger : (p m q n : ℕ) → m ≤ p → n ≤ q → p * n + m * q ≤ p * q + m * n
    larger p m q n h k =
        let i : ℕ = p - m in
        let j : ℕ = q - n in
        let there : p ≡ m + i = omega (arith, h) in
        let also : q ≡ n + j = omega (arith, k) in
        let it : (m + i) * n + m * (n + j) ≤ (m + i) * (n + j) + m * n = omega arith in
        subst (λ s. s * n + m * q ≤ s * q + m * n) (sym there) (subst (λ s. (m + i) * n + m * s ≤ (m + i) * s + m * n) (sym also) it)

-- a fraction that is neither below 0 nor above is 0
only_nothing : (a : Written) → is_below_nothing a ≡ false → is_below_nothing (negative_of a) ≡ false → is_nothing a ≡ true
only_nothing a x y = eq-eqb a.plus a.minus (omega (arith, ltb-false a.plus a.minus x, ltb-false a.minus a.plus y))

-- the negative of a negative fraction isn't negative
negative_from_nothing : (a : Written) → is_below_nothing a ≡ true → is_below_nothing (negative_of a) ≡ false
negative_from_nothing a x = not_below a.minus a.plus (omega (arith, ltb-true a.plus a.minus x))

-- roots aren't negative
root_from_nothing : (a : Written) → is_below_nothing (root_of a) ≡ false
root_from_nothing a = by_test (is_square a) refl
  where
    by_test : (t : Bool) → is_square a ≡ t → is_below_nothing (root_of a) ≡ false
    by_test true t = rw t (not_below _ 0 (omega arith))
    by_test false t = rw t refl

-- ---- floors of written fractions

-- the floor as an integer
abbrev floor_integer : Written → ℤ
floor_integer a = pos (floor_of a).plus -ℤ pos (floor_of a).minus

-- the floor is that integer
is_floor_integer : (a : Written) → IsSame (floor_of a) (over (floor_integer a) 0)
is_floor_integer a = crossed (floor_of a) (floor_integer a) (whole (is_below_nothing a) refl) (omega (arith, ints))
  where
    whole : (x : Bool) → is_below_nothing a ≡ x → (floor_of a).below ≡ 0
    whole true e = rw e refl
    whole false e = rw e refl

    crossed : (b : Written) (z : ℤ) → b.below ≡ 0 → z +ℤ pos b.minus ≡ pos b.plus → IsSame b (over z 0)
    crossed b (pos n) e h = rw e (omega (arith, ints, h))
    crossed b (negsuc n) e h = rw e (omega (arith, ints, h))

-- the next integer
next_integer : (z : ℤ) → IsSame (over (z +ℤ pos 1) 0) (sum_of (over z 0) (natural 1))
next_integer (pos n) = omega arith
next_integer (negsuc zero) = refl
next_integer (negsuc (suc n)) =
    let next : negsuc (suc n) +ℤ pos 1 ≡ negsuc n = omega (arith, ints) in
    subst (λ z. IsSame (over z 0) (sum_of (over (negsuc (suc n)) 0) (natural 1))) (sym next) (omega arith)

-- the fraction isn't below its floor
floor_at_most : (a : Written) → is_below_nothing (sum_of a (negative_of (floor_of a))) ≡ false
floor_at_most a = by_sign (is_below_nothing a) refl
  where
    d : ℕ
    d = suc a.below

    by_sign : (x : Bool) → is_below_nothing a ≡ x → is_below_nothing (sum_of a (negative_of (floor_of a))) ≡ false
    by_sign true e =
        let c : ℕ = (a.minus - a.plus + a.below) / d in
        let high : a.minus - a.plus + a.below < d * (c + 1) = lt-mul-div-succ (a.minus - a.plus + a.below) (omega arith) in
        rw e (not_below (a.plus * 1 + c * d) (a.minus * 1 + 0 * d) (omega (arith, high)))
    by_sign false e =
        let q : ℕ = (a.plus - a.minus) / d in
        let low : q * d ≤ a.plus - a.minus = div-mul-le_self (a.plus - a.minus) d in
        rw e (not_below (a.plus * 1 + 0 * d) (a.minus * 1 + q * d) (omega (arith, low, ltb-false a.plus a.minus e)))

-- the fraction is below the next integer
floor_next_above : (a : Written) → is_below_nothing (sum_of a (negative_of (sum_of (floor_of a) (natural 1)))) ≡ true
floor_next_above a = by_sign (is_below_nothing a) refl
  where
    d : ℕ
    d = suc a.below

    by_sign : (x : Bool) → is_below_nothing a ≡ x → is_below_nothing (sum_of a (negative_of (sum_of (floor_of a) (natural 1)))) ≡ true
    by_sign true e =
        let c : ℕ = (a.minus - a.plus + a.below) / d in
        let low : c * d ≤ a.minus - a.plus + a.below = div-mul-le_self (a.minus - a.plus + a.below) d in
        rw e (lt-ltb (a.plus * 1 + (c * 1 + 0 * 1) * d) (a.minus * 1 + (0 * 1 + 1 * 1) * d) (omega (arith, low, ltb-true a.plus a.minus e)))
    by_sign false e =
        let q : ℕ = (a.plus - a.minus) / d in
        let high : a.plus - a.minus < d * (q + 1) = lt-mul-div-succ (a.plus - a.minus) (omega arith) in
        rw e (lt-ltb (a.plus * 1 + (0 * 1 + 0 * 1) * d) (a.minus * 1 + (q * 1 + 1 * 1) * d) (omega (arith, high)))

module _ (kept : AreKept) where
  abbrev r : Ring Fraction
  r = fraction_ring kept

  abbrev laws : IsRing r
  laws = are_ring kept

  abbrev zero_fraction : Fraction
  zero_fraction = fraction (natural 0)

  abbrev one_fraction : Fraction
  one_fraction = fraction (natural 1)

  -- y - x
  abbrev difference : Fraction → Fraction → Fraction
  difference x y = plus kept y (negative kept x)

  -- x isn't negative
  abbrev IsFromZero : Fraction → Type 0
  IsFromZero x = is_below_zero kept x ≡ false

  -- ---- signs

  sum_kept : (x y : Fraction) → IsFromZero x → IsFromZero y → IsFromZero (plus kept x y)
  sum_kept x y =
      all (λ x. (y : Fraction) → IsFromZero x → IsFromZero y → IsFromZero (plus kept x y))
      (λ x. Π_prop (λ y. Π_prop (λ p. Π_prop (λ q. Bool-set _ _))))
      (λ a. all (λ y. IsFromZero (mk a) → IsFromZero y → IsFromZero (plus kept (mk a) y))
      (λ y. Π_prop (λ p. Π_prop (λ q. Bool-set _ _))) (λ b. sum_from_nothing a b)) x y

  product_kept : (x y : Fraction) → IsFromZero x → IsFromZero y → IsFromZero (times kept x y)
  product_kept x y =
      all (λ x. (y : Fraction) → IsFromZero x → IsFromZero y → IsFromZero (times kept x y))
      (λ x. Π_prop (λ y. Π_prop (λ p. Π_prop (λ q. Bool-set _ _))))
      (λ a. all (λ y. IsFromZero (mk a) → IsFromZero y → IsFromZero (times kept (mk a) y))
      (λ y. Π_prop (λ p. Π_prop (λ q. Bool-set _ _))) (λ b. product_from_nothing a b)) x y

  only_zero : (x : Fraction) → IsFromZero x → IsFromZero (negative kept x) → is_zero kept x ≡ true
  only_zero x =
      all (λ x. IsFromZero x → IsFromZero (negative kept x) → is_zero kept x ≡ true)
      (λ x. Π_prop (λ p. Π_prop (λ q. Bool-set _ _))) only_nothing x

  negative_above : (x : Fraction) → is_below_zero kept x ≡ true → IsFromZero (negative kept x)
  negative_above x =
      all (λ x. is_below_zero kept x ≡ true → IsFromZero (negative kept x)) (λ x. Π_prop (λ p. Bool-set _ _)) negative_from_nothing x

  root_above : (x : Fraction) → IsFromZero (root_part kept x)
  root_above x = all (λ x. IsFromZero (root_part kept x)) (λ x. Bool-set _ _) root_from_nothing x

  -- ---- differences

  -- (z - y) + (y - x) = z - x
  difference_sum : (x y z : Fraction) → plus kept (difference y z) (difference x y) ≡ difference x z
  difference_sum x y z =
      laws.plus_assoc z (negative kept y) (plus kept y (negative kept x))
      ∙ ap (plus kept z) (sym (laws.plus_assoc (negative kept y) y (negative kept x))
      ∙ ap (λ s. plus kept s (negative kept x)) (ring.negative_plus r laws y) ∙ ring.zero_plus r laws (negative kept x))

  -- x - y = -(y - x)
  difference_turned : (x y : Fraction) → difference y x ≡ negative kept (difference x y)
  difference_turned x y = ring.negative_unique r laws (difference y x) (difference x y) (difference_sum x y x ∙ laws.plus_negative x)

  -- x - 0 = x
  difference_zero : (x : Fraction) → difference zero_fraction x ≡ x
  difference_zero x = ap (plus kept x) (ring.negative_zero r laws) ∙ laws.plus_zero x

  -- ---- floors

  -- the floor as an integer
  abbrev floor_of_fraction : Fraction → ℤ
  floor_of_fraction x =
      lift {r = IsSame} ℤ_set floor_integer (λ a b e. ap (λ (w : Written). pos w.plus -ℤ pos w.minus) (same_floor a b e)) x

  floor_is : (x : Fraction) → floor kept x ≡ integer r (floor_of_fraction x)
  floor_is x =
      all (λ x. floor kept x ≡ integer r (floor_of_fraction x)) (λ x. Quot-set _ _)
      (λ a. sound {r = IsSame} (is_floor_integer a) ∙ sym (integer_is kept (floor_integer a))) x

  floor_below : (x : Fraction) → IsFromZero (difference (floor kept x) x)
  floor_below x = all (λ x. IsFromZero (difference (floor kept x) x)) (λ x. Bool-set _ _) floor_at_most x

  floor_above : (x : Fraction) → is_below_zero kept (difference (plus kept (floor kept x) one_fraction) x) ≡ true
  floor_above x =
      all (λ x. is_below_zero kept (difference (plus kept (floor kept x) one_fraction) x) ≡ true) (λ x. Bool-set _ _) floor_next_above x

  -- z + 1 in the fractions
  next_is : (z : ℤ) → integer r (z +ℤ pos 1) ≡ plus kept (integer r z) one_fraction
  next_is z =
      integer_is kept (z +ℤ pos 1) ∙ sound {r = IsSame} (next_integer z)
      ∙ ap (λ s. plus kept s one_fraction) (sym (integer_is kept z))

  -- -z in the fractions
  negative_is : (z : ℤ) → negative kept (integer r z) ≡ integer r (neg_ℤ z)
  negative_is (pos zero) = ring.negative_zero r laws
  negative_is (pos (suc n)) = refl
  negative_is (negsuc n) = ring.negative_twice r laws (integer r (pos (suc n)))

  -- ---- all laws

  module _ (bits : ℕ) where
    abbrev k : Numbers Fraction
    k = fractions kept bits

    at_most : (x y : Fraction) → IsFromZero (difference x y) → AtMost k x y
    at_most x y p = not_from_false (is_below_zero kept (difference x y)) p

    from_at_most : (x y : Fraction) → AtMost k x y → IsFromZero (difference x y)
    from_at_most x y p = not-true (is_below_zero kept (difference x y)) p

    at_least_zero : (x : Fraction) → IsFromZero x → AtMost k zero_fraction x
    at_least_zero x p = at_most zero_fraction x (ap (is_below_zero kept) (difference_zero x) ∙ p)

    from_at_least_zero : (x : Fraction) → AtMost k zero_fraction x → IsFromZero x
    from_at_least_zero x p = ap (is_below_zero kept) (sym (difference_zero x)) ∙ from_at_most zero_fraction x p

    total : (x y : Fraction) → k.is_at_most x y ≡ false → AtMost k y x
    total x y e =
        at_most y x
        (ap (is_below_zero kept) (difference_turned x y) ∙ negative_above (difference x y) (not-false (is_below_zero kept (difference x y)) e))

    antisymmetric : (x y : Fraction) → AtMost k x y → AtMost k y x → x ≡ y
    antisymmetric x y p q =
        let turned : IsFromZero (negative kept (difference x y)) =
        ap (is_below_zero kept) (sym (difference_turned x y)) ∙ from_at_most y x q in
        let none : difference x y ≡ zero_fraction =
        zero_alone kept (difference x y) (only_zero (difference x y) (from_at_most x y p) turned) in
        sym (ring.zero_plus r laws x) ∙ ap (λ s. plus kept s x) (sym none) ∙ ring.minus_plus r laws y x

    transitive : (x y z : Fraction) → AtMost k x y → AtMost k y z → AtMost k x z
    transitive x y z p q =
        at_most x z
        (ap (is_below_zero kept) (sym (difference_sum x y z))
        ∙ sum_kept (difference y z) (difference x y) (from_at_most y z q) (from_at_most x y p))

    times_kept : (x y : Fraction) → AtMost k zero_fraction x → AtMost k zero_fraction y → AtMost k zero_fraction (times kept x y)
    times_kept x y p q = at_least_zero (times kept x y) (product_kept x y (from_at_least_zero x p) (from_at_least_zero y q))

    floor_found : (x : Fraction) → IsFloorOf k x (floor_of_fraction x)
    floor_found x =
        let next : Fraction = plus kept (floor kept x) one_fraction in
        let next_floor : integer r (floor_of_fraction x +ℤ pos 1) ≡ next =
        next_is (floor_of_fraction x) ∙ ap (λ s. plus kept s one_fraction) (sym (floor_is x)) in
        record {
          at_most = ap (λ s. k.is_at_most s x) (sym (floor_is x)) ∙ at_most (floor kept x) x (floor_below x);
          next_above = ap (λ s. k.is_at_most s x) next_floor ∙ not_from_true (is_below_zero kept (difference next x)) (floor_above x);
        }

    -- x is at most -u exactly if u is at most -x
    turned : (x u : Fraction) → k.is_at_most x (negative kept u) ≡ k.is_at_most u (negative kept x)
    turned x u = ap (λ s. not (is_below_zero kept s)) (laws.plus_comm (negative kept u) (negative kept x))

    ceiling_found : (x : Fraction) (n : ℤ) → IsFloorOf k (negative kept x) n → IsCeilingOf k x (neg_ℤ n)
    ceiling_found x n is =
        let last : neg_ℤ n -ℤ pos 1 ≡ neg_ℤ (n +ℤ pos 1) = omega (arith, ints) in
        record {
          at_least = ap (k.is_at_most x) (sym (negative_is n)) ∙ turned x (integer r n) ∙ is.at_most;
          last_below =
              ap (λ z. k.is_at_most x (integer r z)) last ∙ ap (k.is_at_most x) (sym (negative_is (n +ℤ pos 1)))
              ∙ turned x (integer r (n +ℤ pos 1)) ∙ is.next_above;
        }

    ceiling_is : (x : Fraction) → (n : ℤ) × (k.ceiling x ≡ integer r n) × IsCeilingOf k x n
    ceiling_is x =
        let n : ℤ = floor_of_fraction (negative kept x) in
        let is : k.ceiling x ≡ integer r (neg_ℤ n) = ap (negative kept) (floor_is (negative kept x)) ∙ negative_is n in
        (neg_ℤ n, is, ceiling_found x n (floor_found (negative kept x)))

    -- Fractions are ordered exact numbers.
    pub are_ordered : AreOrdered k
    are_ordered = record {
      are_exact = are_exact kept bits;
      total = total;
      antisymmetric = antisymmetric;
      transitive = transitive;
      times_kept = times_kept;
      root_from_zero = λ x y e. at_least_zero y (ap (is_below_zero kept) (sym (root_found kept x y e).1) ∙ root_above x);
      floor_is = λ x. (floor_of_fraction x, floor_is x, floor_found x);
      ceiling_is = ceiling_is;
    }
