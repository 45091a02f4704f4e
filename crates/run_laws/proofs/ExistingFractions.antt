-- Quotients, roots and decimals that are fractions.
use Rattle.std.proofs.Common.{◌≡◌, ◌≢◌, ℕ, suc, ◌+◌, ◌-◌, ◌*◌, ◌^◌, ◌<◌, nat_lt, Bool, true, false, ℤ, pos, negsuc, Some, None, arith, refl, sym, ap, ◌∙◌, eq-eqb, eqb-true, ltb-false, ltb-true, if◌then◌else◌}
use mathlib.Core.Bool.{Bool-set}
use Rattle.fixed.specs.Roots.{root}
use Rattle.fixed.proofs.TenLemmas.{ten_pos}
use Rattle.derivative.specs.Exact.{whole}
use Rattle.error_bounds.specs.Meanings.{IsDecimal}
use Rattle.run_laws.specs.WrittenFractions.{Written, both_below, product_of, natural, is_below_nothing, is_square, over_square}
use Rattle.run_laws.specs.Fractions.{AreKept, Fraction, fraction, fraction_ring, fractions, has_root, is_zero, quotient, reciprocal, root_part, square_root, times}
use Rattle.run_laws.proofs.SquareLaws.{root_of_square}
use Rattle.run_laws.proofs.FractionLaws.{all, are_ring, not_found, quotient_times, whole_is}
use Rattle.run_laws.proofs.FractionOrder.{not_below}

-- p^2 + m^2 is 2 p m and the square of the distance of p and m
square_of_difference : (p m : ℕ) → (v : ℕ) × (p * p + m * m ≡ p * m + m * p + v * v)
square_of_difference p m = by_order (nat_lt p m) refl
  where
    apart : (p v : ℕ) → p * p + (p + v) * (p + v) ≡ p * (p + v) + (p + v) * p + v * v
    apart p v = omega arith

    by_order : (t : Bool) → nat_lt p m ≡ t → (v : ℕ) × (p * p + m * m ≡ p * m + m * p + v * v)
    by_order true e =
        let v : ℕ = m - p in
        let there : p + v ≡ m = omega (arith, ltb-true p m e) in
        (v, ap (λ s. p * p + s * s) (sym there) ∙ apart p v ∙ ap (λ s. p * s + s * p + v * v) there)
    by_order false e =
        let v : ℕ = p - m in
        let there : m + v ≡ p = omega (arith, ltb-false p m e) in
        let it : m * m + p * p ≡ m * p + p * m + v * v =
        ap (λ s. m * m + s * s) (sym there) ∙ apart m v ∙ ap (λ s. m * s + s * m + v * v) there in
        (v, omega (arith, it))

-- the square of a written fraction is a square
is_square_of : (a : Written) → is_square (product_of a a) ≡ true
is_square_of a =
    let n : ℕ = over_square (product_of a a) in
    let d : ℕ = suc a.below in
    let p : ℕ = a.plus * a.plus + a.minus * a.minus in
    let m : ℕ = a.plus * a.minus + a.minus * a.plus in
    let there = square_of_difference a.plus a.minus in
    let above : is_below_nothing (product_of a a) ≡ false = not_below p m (omega (arith, there.1)) in
    let numerator : p - m ≡ there.0 * there.0 = omega (arith, there.1) in
    let square : n ≡ (there.0 * d) * (there.0 * d) = ap (λ s. s * suc (both_below a.below a.below)) numerator ∙ omega arith in
    let same : root n ≡ there.0 * d = ap root square ∙ root_of_square (there.0 * d) in
    rw above (eq-eqb (root n * root n) n (ap (λ s. s * s) same ∙ sym square))

module _ (kept : AreKept) where
  -- A fraction has a quotient by each fraction other than 0.
  pub quotient_exists : (n d : Fraction) → d ≢ fraction (natural 0) → (q : Fraction) × (quotient kept n d ≡ Some q)
  quotient_exists n d some =
      (times kept n (reciprocal kept d), ap (λ b. if b then None else Some (times kept n (reciprocal kept d))) (not_found kept d some))

  -- The square of each fraction has a root.
  pub root_exists : (x : Fraction) → (y : Fraction) × (square_root kept (times kept x x) ≡ Some y)
  root_exists x =
      let y : Fraction = root_part kept (times kept x x) in
      let test : has_root kept (times kept x x) ≡ true =
      all (λ x. has_root kept (times kept x x) ≡ true) (λ x. Bool-set _ _) is_square_of x in
      (y, ap (λ b. if b then Some y else None) test)

  -- a natural number other than 0 isn't the fraction 0
  whole_not_zero : (n : ℕ) → 0 < n → whole (fraction_ring kept) n ≢ fraction (natural 0)
  whole_not_zero n some e =
      let found : is_zero kept (fraction (natural n)) ≡ true = ap (is_zero kept) (sym (whole_is kept n) ∙ e) in
      absurd (omega (arith, some, eqb-true n 0 found))

  -- Each decimal is a fraction.
  pub decimal_exists : (bits m : ℕ) (p : ℤ) → (x : Fraction) × IsDecimal (fractions kept bits) m p x
  decimal_exists bits m (pos p) = (whole (fraction_ring kept) (m * 10 ^ p), refl)
  decimal_exists bits m (negsuc p) =
      let n : Fraction = whole (fraction_ring kept) m in
      let d : Fraction = whole (fraction_ring kept) (10 ^ suc p) in
      let it = quotient_exists n d (whole_not_zero (10 ^ suc p) (ten_pos (suc p))) in
      let laws = are_ring kept in
      (it.0, laws.times_comm d it.0 ∙ quotient_times kept n d it.0 it.1)
