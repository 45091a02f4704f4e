-- Rational numbers as a quotient type: equivalence classes of written fractions. Lowest terms would need divisors in
-- each law, and a second notion of equality.
use Rattle.std.specs.Prelude.{◌≡◌, ℕ, ◌-◌, ◌^◌, ℤ, Bool, not, List, Option, Some, None, Ok, if◌then◌else◌}
use mathlib.Core.Bool.{Bool-set}
use mathlib.Core.Quot.{Quot, mk, sound, ind, lift, Quot-set}
use Rattle.energy_program.specs.Programs.{Trees}
use Rattle.derivative.specs.Derive.{slope_program}
use Rattle.derivative.specs.DualNumbers.{IsDerivativeProgram, IsScoped}
use Rattle.derivative.specs.Exact.{AreExact, Numbers, Ring, StandsForFraction}
use Rattle.run_laws.specs.WrittenFractions.{Written, IsSame, sum_of, negative_of, product_of, natural, is_nothing, is_below_nothing, reciprocal_of, is_square, root_of, floor_of, over}

-- The operations and tests on written fractions respect equivalence: equal fractions give equal results.
pub record AreKept : Type 0 where
  pub sum_left : (a b c : Written) → IsSame a b → IsSame (sum_of a c) (sum_of b c)
  pub sum_right : (a b c : Written) → IsSame b c → IsSame (sum_of a b) (sum_of a c)
  pub negative : (a b : Written) → IsSame a b → IsSame (negative_of a) (negative_of b)
  pub product_left : (a b c : Written) → IsSame a b → IsSame (product_of a c) (product_of b c)
  pub product_right : (a b c : Written) → IsSame b c → IsSame (product_of a b) (product_of a c)
  pub reciprocal : (a b : Written) → IsSame a b → IsSame (reciprocal_of a) (reciprocal_of b)
  pub square : (a b : Written) → IsSame a b → is_square a ≡ is_square b
  pub root : (a b : Written) → IsSame a b → IsSame (root_of a) (root_of b)
  pub floor : (a b : Written) → IsSame a b → IsSame (floor_of a) (floor_of b)
  pub nothing : (a b : Written) → IsSame a b → is_nothing a ≡ is_nothing b
  pub below_nothing : (a b : Written) → IsSame a b → is_below_nothing a ≡ is_below_nothing b

-- a rational number: the class of all written fractions that are equal
abbrev pub Fraction : Type 0
Fraction = Quot IsSame

-- the class of a written fraction
abbrev pub fraction : Written → Fraction
fraction a = mk a

-- an operation on one written fraction, or on two, lifted to classes
abbrev pub of_one : (f : Written → Written) → ((a b : Written) → IsSame a b → IsSame (f a) (f b)) → Fraction → Fraction
of_one f same x = lift {r = IsSame} Quot-set (λ a. fraction (f a)) (λ a b e. sound {r = IsSame} (same a b e)) x

abbrev pub of_two : (f : Written → Written → Written) → ((a b c : Written) → IsSame a b → IsSame (f a c) (f b c))
    → ((a b c : Written) → IsSame b c → IsSame (f a b) (f a c))
    → Fraction → Fraction → Fraction
of_two f left right x y =
    lift {r = IsSame} Quot-set (λ a. of_one (f a) (right a) y)
    (λ a b e. ind {r = IsSame} {β = λ z. of_one (f a) (right a) z ≡ of_one (f b) (right b) z} (λ z. Quot-set _ _)
    (λ c. sound {r = IsSame} (left a b c e)) y) x

module _ (kept : AreKept) where
  abbrev pub plus : Fraction → Fraction → Fraction
  plus x y = of_two sum_of kept.sum_left kept.sum_right x y

  abbrev pub negative : Fraction → Fraction
  negative x = of_one negative_of kept.negative x

  abbrev pub times : Fraction → Fraction → Fraction
  times x y = of_two product_of kept.product_left kept.product_right x y

  abbrev pub reciprocal : Fraction → Fraction
  reciprocal x = of_one reciprocal_of kept.reciprocal x

  abbrev pub floor : Fraction → Fraction
  floor x = of_one floor_of kept.floor x

  abbrev pub is_zero : Fraction → Bool
  is_zero x = lift {r = IsSame} Bool-set is_nothing kept.nothing x

  abbrev pub is_below_zero : Fraction → Bool
  is_below_zero x = lift {r = IsSame} Bool-set is_below_nothing kept.below_nothing x

  abbrev pub fraction_ring : Ring Fraction
  fraction_ring = record { zero = fraction (natural 0); one = fraction (natural 1); plus = plus; negative = negative; times = times }

  abbrev pub quotient : Fraction → Fraction → Option Fraction
  quotient n d = if is_zero d then None else Some (times n (reciprocal d))

  -- whether the fraction is the square of a fraction
  abbrev pub has_root : Fraction → Bool
  has_root x = lift {r = IsSame} Bool-set is_square kept.square x

  -- the root that isn't negative; 0 if no fraction is a root
  abbrev pub root_part : Fraction → Fraction
  root_part x = of_one root_of kept.root x

  abbrev pub square_root : Fraction → Option Fraction
  square_root x = if has_root x then Some (root_part x) else None

  -- The numbers of energies over rational numbers: a constant of a tree is its raw value over 2^bits. A quotient is
  -- missing only if the divisor is 0, a root only if it isn't rational.
  abbrev pub fractions : (bits : ℕ) → Numbers Fraction
  fractions bits = record {
    ring = fraction_ring;
    quotient = quotient;
    root = square_root;
    is_zero = is_zero;
    is_at_most = λ x y. not (is_below_zero (plus y (negative x)));
    floor = floor;
    ceiling = λ x. negative (floor (negative x));
    number = λ z. fraction (over z (2 ^ bits - 1));
  }

  -- They satisfy the laws of exact numbers, every constant of a tree is the fraction that it denotes, and so a
  -- slope's program computes the derivative over rational numbers.
  pub record HaveDerivatives (bits : ℕ) : Type 0 where
    pub exact : AreExact (fractions bits)
    pub stands : (z : ℤ) → StandsForFraction (fractions bits) bits z
    pub program : (inputs : List Fraction) (count : ℕ) (energy slope : Trees) → IsScoped count energy
        → slope_program bits energy ≡ Ok slope → IsDerivativeProgram (fractions bits) inputs energy slope
