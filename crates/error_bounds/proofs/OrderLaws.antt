-- The rules' errors of minima and maxima contain the errors.
use Rattle.std.proofs.Common.{◌≡◌, ℤ, pos, ◌-ℤ◌, ◌*ℤ◌, ◌≤ℤ◌, Bool, true, false, ◌&&◌, refl, arith, int_le}
use Rattle.std.specs.Int.{int_max, int_min}
use Rattle.std.proofs.lemmas.Bool.{and_parts}
use Rattle.std.proofs.lemmas.Int.{ints, clamps}
use Rattle.error_bounds.specs.Approximations.{Approximation, exact_range}
use Rattle.interval_domain.specs.Ranges.{IsIn}
use Rattle.error_bounds.specs.Rules.{errors_of_one, is_below, maximum_error, minimum_error}

-- two tests of order that say yes
at_most_both : (a b c d : ℤ) → (int_le a b && int_le c d) ≡ true → (a ≤ℤ b) × (c ≤ℤ d)
at_most_both a b c d e =
    let p = and_parts (int_le a b) (int_le c d) e in
    let q = p.0 in
    let r = p.1 in
    (grind (arith, ints), grind (arith, ints))

-- the values and the exact ranges of two operands in order
in_order : (p q : Approximation) (z w : ℤ) → IsIn z p.computed → IsIn w q.computed → is_below p q ≡ true
    → (z ≤ℤ w) × ((pos 256 *ℤ z -ℤ p.error.low) ≤ℤ (pos 256 *ℤ w -ℤ q.error.high))
in_order p q z w m n e =
    let b = at_most_both p.computed.high q.computed.low (exact_range p).high (exact_range q).low e in
    let x = b.0 in
    let y = b.1 in
    (omega (arith, ints, m.at_most, n.at_least), omega (arith, ints, m.at_most, n.at_least))

-- the spread of a minimum, by which operand it is
minimum_of : (p q : Approximation) (z w : ℤ) → IsIn z p.computed → IsIn w q.computed → p.error.low ≤ℤ p.error.high → q.error.low ≤ℤ q.error.high
    → (first second : Bool) → is_below p q ≡ first → is_below q p ≡ second
    → ((pos 256 *ℤ int_min z w -ℤ (errors_of_one first second p q).high) ≤ℤ int_min (pos 256 *ℤ z -ℤ p.error.high) (pos 256 *ℤ w -ℤ q.error.high))
    × (int_min (pos 256 *ℤ z -ℤ p.error.low) (pos 256 *ℤ w -ℤ q.error.low) ≤ℤ (pos 256 *ℤ int_min z w -ℤ (errors_of_one first second p q).low))
minimum_of p q z w m n a b true second e f =
    let o = in_order p q z w m n e in
    (omega (arith, ints, clamps, o.0, o.1), omega (arith, ints, clamps, o.0, o.1))
minimum_of p q z w m n a b false true e f =
    let o = in_order q p w z n m f in
    (omega (arith, ints, clamps, o.0, o.1), omega (arith, ints, clamps, o.0, o.1))
minimum_of p q z w m n a b false false e f = (omega (arith, ints, clamps), omega (arith, ints, clamps))

-- the exact minimum is as far from the computed one as the rule allows
pub minimum_spread : (p q : Approximation) (z w : ℤ) → IsIn z p.computed → IsIn w q.computed → p.error.low ≤ℤ p.error.high → q.error.low ≤ℤ q.error.high
    → ((pos 256 *ℤ int_min z w -ℤ (minimum_error p q).high) ≤ℤ int_min (pos 256 *ℤ z -ℤ p.error.high) (pos 256 *ℤ w -ℤ q.error.high))
    × (int_min (pos 256 *ℤ z -ℤ p.error.low) (pos 256 *ℤ w -ℤ q.error.low) ≤ℤ (pos 256 *ℤ int_min z w -ℤ (minimum_error p q).low))
minimum_spread p q z w m n a b = minimum_of p q z w m n a b (is_below p q) (is_below q p) refl refl

-- the spread of a maximum, by which operand it is
maximum_of : (p q : Approximation) (z w : ℤ) → IsIn z p.computed → IsIn w q.computed → p.error.low ≤ℤ p.error.high → q.error.low ≤ℤ q.error.high
    → (first second : Bool) → is_below q p ≡ first → is_below p q ≡ second
    → ((pos 256 *ℤ int_max z w -ℤ (errors_of_one first second p q).high) ≤ℤ int_max (pos 256 *ℤ z -ℤ p.error.high) (pos 256 *ℤ w -ℤ q.error.high))
    × (int_max (pos 256 *ℤ z -ℤ p.error.low) (pos 256 *ℤ w -ℤ q.error.low) ≤ℤ (pos 256 *ℤ int_max z w -ℤ (errors_of_one first second p q).low))
maximum_of p q z w m n a b true second e f =
    let o = in_order q p w z n m e in
    (omega (arith, ints, clamps, o.0, o.1), omega (arith, ints, clamps, o.0, o.1))
maximum_of p q z w m n a b false true e f =
    let o = in_order p q z w m n f in
    (omega (arith, ints, clamps, o.0, o.1), omega (arith, ints, clamps, o.0, o.1))
maximum_of p q z w m n a b false false e f = (omega (arith, ints, clamps), omega (arith, ints, clamps))

-- the exact maximum is as far from the computed one as the rule allows
pub maximum_spread : (p q : Approximation) (z w : ℤ) → IsIn z p.computed → IsIn w q.computed → p.error.low ≤ℤ p.error.high → q.error.low ≤ℤ q.error.high
    → ((pos 256 *ℤ int_max z w -ℤ (maximum_error p q).high) ≤ℤ int_max (pos 256 *ℤ z -ℤ p.error.high) (pos 256 *ℤ w -ℤ q.error.high))
    × (int_max (pos 256 *ℤ z -ℤ p.error.low) (pos 256 *ℤ w -ℤ q.error.low) ≤ℤ (pos 256 *ℤ int_max z w -ℤ (maximum_error p q).low))
maximum_spread p q z w m n a b = maximum_of p q z w m n a b (is_below q p) (is_below p q) refl refl
