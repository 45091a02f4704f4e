-- Rounded quotients rise or fall in the dividend, and in a divisor on one side of 0.
use Rattle.std.proofs.Common.{◌≡◌, ◌≢◌, sym, Bool, false, if◌then◌else◌, ℕ, zero, suc, ◌^◌, ◌≤◌, refl, inl, inr, arith, subst, Result, Err, ℤ, pos, negsuc, neg_ℤ, ◌*ℤ◌, ◌≤ℤ◌}
use Rattle.std.proofs.lemmas.Bool.Decides.{nat_tests}
use Rattle.std.proofs.lemmas.Int.{ints}
use Rattle.fixed.specs.Arithmetic.{floor_of, floor_over, is_zero, number_or_overflow, one, quotient_of}
use Rattle.fixed.specs.declared.faults.Fault.{Fault}
use Rattle.fixed.specs.declared.faults.Fault.TheVariants.{ZeroDivisor}
use Rattle.interval_domain.specs.Ranges.{IsIn, Range, has_zero}
use Rattle.interval_domain.proofs.OutcomeLemmas.{number_narrows}
use Rattle.interval_domain.proofs.MonotoneLemmas.{Computes, IsBetween, MovesInEach, passes}
use Rattle.interval_domain.proofs.FloorLemmas.{div_falls, floor_rises, times_rises}
use Rattle.interval_domain.proofs.RangeLemmas.{on_one_side, zero_out}

-- ---- in the dividend

above_rises : (n : ℕ) (x y : ℤ) → x ≤ℤ y → floor_of x (pos (suc n)) ≤ℤ floor_of y (pos (suc n))
above_rises n x y h = floor_rises (suc n) x y (omega arith) h

below_falls : (n : ℕ) (x y : ℤ) → x ≤ℤ y → floor_of y (negsuc n) ≤ℤ floor_of x (negsuc n)
below_falls n x y h = floor_rises (suc n) (neg_ℤ y) (neg_ℤ x) (omega arith) (omega (arith, ints))

-- ---- in the divisor, above 0

up_falls : (a : ℕ) (x y : ℤ) → pos 1 ≤ℤ x → x ≤ℤ y → floor_of (pos a) y ≤ℤ floor_of (pos a) x
up_falls a (pos m) (pos n) p h = omega (arith, ints, div_falls a m n (omega (arith, ints)) (omega (arith, ints)))
up_falls a _ _ p h = absurd (omega (arith, ints))

up_rises : (a : ℕ) (x y : ℤ) → pos 1 ≤ℤ x → x ≤ℤ y → floor_of (negsuc a) x ≤ℤ floor_of (negsuc a) y
up_rises a (pos m) (pos n) p h = omega (arith, ints, div_falls a m n (omega (arith, ints)) (omega (arith, ints)))
up_rises a _ _ p h = absurd (omega (arith, ints))

-- ---- and below 0: the dividend's negative over the divisor's

over_falls : (w m n : ℕ) → n ≤ m → floor_over (pos w) (suc m) ≤ℤ floor_over (pos w) (suc n)
over_falls w m n h = omega (arith, ints, div_falls w (suc n) (suc m) (omega arith) (omega arith))

over_rises : (w m n : ℕ) → n ≤ m → floor_over (negsuc w) (suc n) ≤ℤ floor_over (negsuc w) (suc m)
over_rises w m n h = omega (arith, ints, div_falls w (suc n) (suc m) (omega arith) (omega arith))

down_rises : (w : ℕ) (z x y : ℤ) → neg_ℤ z ≡ pos w → y ≤ℤ negsuc 0 → x ≤ℤ y → floor_of z x ≤ℤ floor_of z y
down_rises w z (negsuc m) (negsuc n) e p h = rw e (over_falls w m n (omega (arith, ints)))
down_rises w z _ _ e p h = absurd (omega (arith, ints))

down_falls : (w : ℕ) (z x y : ℤ) → neg_ℤ z ≡ negsuc w → y ≤ℤ negsuc 0 → x ≤ℤ y → floor_of z y ≤ℤ floor_of z x
down_falls w z (negsuc m) (negsuc n) e p h = rw e (over_rises w m n (omega (arith, ints)))
down_falls w z _ _ e p h = absurd (omega (arith, ints))

-- ---- in both

above_moves : (z a b c : ℤ) → pos 1 ≤ℤ a → a ≤ℤ b → b ≤ℤ c → IsBetween (floor_of z a) (floor_of z b) (floor_of z c)
above_moves (pos n) a b c p h k = inr (up_falls n b c (omega (arith, ints)) k, up_falls n a b p h)
above_moves (negsuc n) a b c p h k = inl (up_rises n a b p h, up_rises n b c (omega (arith, ints)) k)

below_moves : (z a b c : ℤ) → c ≤ℤ negsuc 0 → a ≤ℤ b → b ≤ℤ c → IsBetween (floor_of z a) (floor_of z b) (floor_of z c)
below_moves (pos zero) a b c p h k = inl (down_rises 0 (pos zero) a b refl (omega (arith, ints)) h, down_rises 0 (pos zero) b c refl p k)
below_moves (pos (suc n)) a b c p h k =
    inr (down_falls n (pos (suc n)) b c refl p k, down_falls n (pos (suc n)) a b refl (omega (arith, ints)) h)
below_moves (negsuc n) a b c p h k =
    inl (down_rises (suc n) (negsuc n) a b refl (omega (arith, ints)) h, down_rises (suc n) (negsuc n) b c refl p k)

over_moves : (bits : ℕ) (w a b c : ℤ) → w ≢ pos 0 → a ≤ℤ b → b ≤ℤ c
    → IsBetween (floor_of (a *ℤ one bits) w) (floor_of (b *ℤ one bits) w) (floor_of (c *ℤ one bits) w)
over_moves bits (pos zero) a b c n h k = absurd (n refl)
over_moves bits (pos (suc d)) a b c n h k =
    inl (above_rises d _ _ (times_rises (2 ^ bits) a b h), above_rises d _ _ (times_rises (2 ^ bits) b c k))
over_moves bits (negsuc d) a b c n h k =
    inr (below_falls d _ _ (times_rises (2 ^ bits) b c k), below_falls d _ _ (times_rises (2 ^ bits) a b h))

-- ---- quotients

nonzero_test : (bits : ℕ) (x y : ℤ) (test : Bool) → test ≡ false
    → (if test then Err ZeroDivisor else number_or_overflow (floor_of (x *ℤ one bits) y)) ≡ number_or_overflow (floor_of (x *ℤ one bits) y)
nonzero_test bits x y test e = rw e refl

quotient_exact : (bits : ℕ) (x y : ℤ) → y ≢ pos 0 → quotient_of bits x y ≡ number_or_overflow (floor_of (x *ℤ one bits) y)
quotient_exact bits x (pos zero) n = absurd (n refl)
quotient_exact bits x (pos (suc d)) n = nonzero_test bits x (pos (suc d)) (is_zero (pos (suc d))) (grind (arith, nat_tests))
quotient_exact bits x (negsuc d) n = refl

quotient_passes : (bits : ℕ) (x x' x'' y y' y'' : ℤ) → y ≢ pos 0 → y' ≢ pos 0 → y'' ≢ pos 0
    → IsBetween (floor_of (x *ℤ one bits) y) (floor_of (x' *ℤ one bits) y') (floor_of (x'' *ℤ one bits) y'') → (r : Range)
    → Computes (quotient_of bits x y) r → Computes (quotient_of bits x'' y'') r → Computes (quotient_of bits x' y') r
quotient_passes bits x x' x'' y y' y'' n n' n'' between r c c'' =
    let In : Result ℤ Fault → Type 0 = λ t. Computes t r in
    subst In (sym (quotient_exact bits x' y' n'))
    (passes number_or_overflow number_narrows _ _ _ between r (subst In (quotient_exact bits x y n) c)
    (subst In (quotient_exact bits x'' y'' n'') c''))

-- a member of a range without 0 isn't 0
pub member_not_zero : (y : Range) (z : ℤ) → IsIn z y → has_zero y ≡ false → z ≢ pos 0
member_not_zero y z i none = λ (e : z ≡ pos 0). zero_out y none (subst (λ t. IsIn t y) e i)

-- quotients move with the dividend, and with the divisor in a range without 0
pub quotient_moves : (bits : ℕ) (x y : Range) → has_zero y ≡ false → MovesInEach (quotient_of bits) x y
quotient_moves bits x y none = record {
  first = λ a b c w h k i.
      let n = member_not_zero y w i none in quotient_passes bits a b c w w w n n n (over_moves bits w a b c n h k);
  second = λ a b c w h k low high.
      let outside = λ (z : ℤ) (p : y.low ≤ℤ z) (q : z ≤ℤ y.high). member_not_zero y z (record { at_least = p; at_most = q }) none in
      quotient_passes bits w w w a b c (outside a low (omega (arith, ints))) (outside b (omega (arith, ints)) (omega (arith, ints)))
      (outside c (omega (arith, ints)) high)
      (elim (on_one_side y none) [
        | inl positive ↦ above_moves (w *ℤ one bits) a b c (omega (arith, ints, positive)) h k
        | inr negative ↦ below_moves (w *ℤ one bits) a b c (omega (arith, ints, negative)) h k
      ]);
}
