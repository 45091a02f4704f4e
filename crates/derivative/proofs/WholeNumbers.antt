-- The whole numbers are exact numbers: so there are some.
use Rattle.std.proofs.Common.{◌≡◌, ◌≢◌, ℕ, zero, suc, ◌*◌, ◌==◌, ℤ, pos, negsuc, neg_ℤ, ◌+ℤ◌, ◌-ℤ◌, ◌*ℤ◌, Bool, true, false, if◌then◌else◌, Some, None, refl, sym, ap, ◌∙◌, arith, eqb-true}
use Rattle.std.proofs.Math.IntN.{*ℤ_comm, *ℤ-zero}
use Rattle.std.proofs.lemmas.Int.{ints}
use Rattle.fixed.specs.Arithmetic.{floor_of, floor_over, is_zero}
use Rattle.fixed.specs.Roots.{root}
use Rattle.fixed.proofs.IntegerLaws.{sum_times, times_times, neg_times, zero_alone}
use Rattle.derivative.proofs.Ranges.{floor_multiple}
use Rattle.derivative.specs.Exact.{IsRing, AreExact, exact_quotient, exact_root, is_from_zero, whole_numbers}

times_negative : (x y : ℤ) → x *ℤ neg_ℤ y ≡ neg_ℤ (x *ℤ y)
times_negative (pos a) y = *ℤ_comm (pos a) (neg_ℤ y) ∙ sym (neg_times y a) ∙ ap neg_ℤ (*ℤ_comm y (pos a))
times_negative (negsuc a) (pos zero) = *ℤ-zero (negsuc a) ∙ sym (ap neg_ℤ (*ℤ-zero (negsuc a)))
times_negative (negsuc a) (pos (suc b)) = omega (arith, ints)
times_negative (negsuc a) (negsuc b) = omega (arith, ints)

negative_times : (x y : ℤ) → neg_ℤ x *ℤ y ≡ neg_ℤ (x *ℤ y)
negative_times x y = *ℤ_comm (neg_ℤ x) y ∙ times_negative y x ∙ ap neg_ℤ (*ℤ_comm y x)

sum_by : (x y z : ℤ) → (x +ℤ y) *ℤ z ≡ x *ℤ z +ℤ y *ℤ z
sum_by x y (pos n) = sum_times x y n
sum_by x y (negsuc n) =
    let p : ℤ = pos (suc n) in
    let e : neg_ℤ (x *ℤ p +ℤ y *ℤ p) ≡ neg_ℤ (x *ℤ p) +ℤ neg_ℤ (y *ℤ p) = omega (arith, ints) in
    times_negative (x +ℤ y) p ∙ ap neg_ℤ (sum_times x y (suc n)) ∙ e ∙ ap (λ s. s +ℤ neg_ℤ (y *ℤ p)) (sym (times_negative x p))
    ∙ ap (λ s. x *ℤ neg_ℤ p +ℤ s) (sym (times_negative y p))

by_sum : (x y z : ℤ) → x *ℤ (y +ℤ z) ≡ x *ℤ y +ℤ x *ℤ z
by_sum x y z = *ℤ_comm x (y +ℤ z) ∙ sum_by y z x ∙ ap (λ s. s +ℤ z *ℤ x) (*ℤ_comm y x) ∙ ap (λ s. x *ℤ y +ℤ s) (*ℤ_comm z x)

assoc_natural : (x : ℤ) (m : ℕ) (z : ℤ) → (x *ℤ pos m) *ℤ z ≡ x *ℤ (pos m *ℤ z)
assoc_natural x m (pos n) = times_times x m n
assoc_natural x m (negsuc n) =
    times_negative (x *ℤ pos m) (pos (suc n)) ∙ ap neg_ℤ (times_times x m (suc n)) ∙ sym (times_negative x (pos (m * suc n)))
    ∙ ap (λ s. x *ℤ s) (sym (times_negative (pos m) (pos (suc n))))

assoc : (x y z : ℤ) → (x *ℤ y) *ℤ z ≡ x *ℤ (y *ℤ z)
assoc x (pos m) z = assoc_natural x m z
assoc x (negsuc m) z =
    let p : ℤ = pos (suc m) in
    ap (λ s. s *ℤ z) (times_negative x p) ∙ negative_times (x *ℤ p) z ∙ ap neg_ℤ (assoc_natural x (suc m) z) ∙ sym (times_negative x (p *ℤ z))
    ∙ ap (λ s. x *ℤ s) (sym (negative_times p z))

times_one : (x : ℤ) → x *ℤ pos 1 ≡ x
times_one (pos n) = ap pos (omega arith)
times_one (negsuc n) = omega (arith, ints)

are_ring : IsRing whole_numbers.ring
are_ring =
    record {
      plus_assoc = λ x y z. omega (arith, ints);
      plus_comm = λ x y. omega (arith, ints);
      plus_zero = λ x. omega (arith, ints);
      plus_negative = λ x. omega (arith, ints);
      times_assoc = assoc;
      times_comm = *ℤ_comm;
      times_one = times_one;
      times_plus = by_sum;
    }

no_zero_divisors : (x y : ℤ) → x *ℤ y ≡ pos 0 → y ≢ pos 0 → x ≡ pos 0
no_zero_divisors (pos zero) y e some = refl
no_zero_divisors (pos (suc a)) (pos zero) e some = absurd (some refl)
no_zero_divisors (pos (suc a)) (pos (suc b)) e some = absurd (omega (arith, ints))
no_zero_divisors (pos (suc a)) (negsuc b) e some = absurd (omega (arith, ints))
no_zero_divisors (negsuc a) (pos zero) e some = absurd (some refl)
no_zero_divisors (negsuc a) (pos (suc b)) e some = absurd (omega (arith, ints))
no_zero_divisors (negsuc a) (negsuc b) e some = absurd (omega (arith, ints))

-- ---- quotients

found : (n d q : ℤ) (b c : Bool) → is_zero d ≡ b → is_zero (floor_of n d *ℤ d -ℤ n) ≡ c
    → (if b then None else (if c then Some (floor_of n d) else None)) ≡ Some q → (d ≢ pos 0) × (q *ℤ d ≡ n)
found n d q true c eb ec e = absurd (cc)
found n d q false false eb ec e = absurd (cc)
found n d q false true eb ec e =
    let is : floor_of n d ≡ q = cc in
    let nothing : floor_of n d *ℤ d -ℤ n ≡ pos 0 = zero_alone (floor_of n d *ℤ d -ℤ n) ec in
    let exact : floor_of n d *ℤ d ≡ n = omega (arith, ints) in
    (λ (z : d ≡ pos 0). absurd (some_zero z eb), ap (λ s. s *ℤ d) (sym is) ∙ exact)
  where
    some_zero : d ≡ pos 0 → is_zero d ≡ false → ⊥
    some_zero z f = let t : is_zero d ≡ true = ap is_zero z in cc

floor_exact : (n d q : ℤ) → d ≢ pos 0 → q *ℤ d ≡ n → floor_of n d ≡ q
floor_exact n (pos zero) q some e = absurd (some refl)
floor_exact n (pos (suc d)) q some e = ap (λ s. floor_over s (suc d)) (sym e) ∙ floor_multiple q (suc d) (omega arith)
floor_exact n (negsuc d) q some e =
    let turned : neg_ℤ n ≡ q *ℤ pos (suc d) = ap neg_ℤ (sym e) ∙ sym (times_negative q (negsuc d)) in
    ap (λ s. floor_over s (suc d)) turned ∙ floor_multiple q (suc d) (omega arith)

zero_test : (d : ℤ) (b : Bool) → is_zero d ≡ b → d ≢ pos 0 → b ≡ false
zero_test d true e some = absurd (some (zero_alone d e))
zero_test d false e some = refl

there : (n d q : ℤ) → d ≢ pos 0 → q *ℤ d ≡ n → exact_quotient n d ≡ Some q
there n d q some e =
    let floor : floor_of n d ≡ q = floor_exact n d q some e in
    let other : is_zero d ≡ false = zero_test d (is_zero d) refl some in
    let nothing : q *ℤ d -ℤ n ≡ pos 0 = omega (arith, ints) in
    rw (other, floor, nothing) refl

-- ---- roots

squared : (n : ℕ) (y : ℤ) (b : Bool) → (root n * root n == n) ≡ b → (if b then Some (pos (root n)) else None) ≡ Some y → y *ℤ y ≡ pos n
squared n y true e is =
    let same : pos (root n) ≡ y = cc in
    ap (λ s. s *ℤ s) (sym same) ∙ ap pos (eqb-true (root n * root n) n e)
squared n y false e is = absurd (cc)

root_square : (x y : ℤ) → exact_root x ≡ Some y → y *ℤ y ≡ x
root_square (pos n) y e = squared n y (root n * root n == n) refl e
root_square (negsuc n) y e = absurd (cc)

order_kept : (x y z : ℤ) → is_from_zero ((y +ℤ z) -ℤ (x +ℤ z)) ≡ is_from_zero (y -ℤ x)
order_kept x y z =
    let e : (y +ℤ z) -ℤ (x +ℤ z) ≡ y -ℤ x = omega (arith, ints) in
    ap is_from_zero e

two_not_zero : pos 2 ≢ pos 0
two_not_zero e = cc

-- The whole numbers are exact.
pub are_exact : AreExact whole_numbers
are_exact =
    record {
      is_ring = are_ring;
      no_zero_divisors = no_zero_divisors;
      two = two_not_zero;
      zero_found = refl;
      zero_alone = zero_alone;
      divisor = λ n d q e. (found n d q (is_zero d) (is_zero (floor_of n d *ℤ d -ℤ n)) refl refl e).0;
      quotient_times = λ n d q e. (found n d q (is_zero d) (is_zero (floor_of n d *ℤ d -ℤ n)) refl refl e).1;
      quotient_there = there;
      root_square = root_square;
      order_kept = order_kept;
    }
