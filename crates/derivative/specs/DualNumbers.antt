-- Dual numbers x + x' e with e e = 0, and derivatives defined by them: an expression's value at r + e is its value at r
-- plus e times its derivative there. This is the algebra of forward-mode automatic differentiation.
use Rattle.std.specs.Prelude.{◌≡◌, ◌≢◌, ◌↔◌, ℕ, suc, pos, negsuc, true, false, List, Option, Some, IsTrue, length, slice_get}
use Rattle.fixed.specs.declared.operations.Operator.TheVariants as op
use Rattle.fixed.specs.declared.operations.FlatFunction.{FlatFunction}
use Rattle.fixed.specs.declared.operations.Function.TheVariants as f
use Rattle.energy_program.specs.Tree.{Tree, Input, Negated, Binary, Applied, Power, Select, is_free_of_distance, is_scoped, are_scoped, substituted}
use Rattle.energy_program.specs.Programs.{Trees}
use Rattle.derivative.specs.Exact.{Ring, Numbers, minus, power, exact_value, exact_slope}

-- the dual numbers over a ring: (x, x') is x + x' e, so that a product is x y + (x' y + x y') e
abbrev pub dual : {V : Type 0} → Ring V → Ring (V × V)
dual r =
    record {
      zero = (r.zero, r.zero);
      one = (r.one, r.zero);
      plus = λ x y. (r.plus x.0 y.0, r.plus x.1 y.1);
      negative = λ x. (r.negative x.0, r.negative x.1);
      times = λ x y. (r.times x.0 y.0, r.plus (r.times x.1 y.0) (r.times x.0 y.1));
    }

module _ {V : Type 0} (k : Numbers V) (inputs : List V) where
  -- the value of a tree at r
  abbrev value : Tree → Option V
  value t = exact_value k inputs t

  -- the dual numbers over these numbers
  abbrev duals : Ring (V × V)
  duals = dual k.ring

  -- The value of a tree in dual numbers, with the distance at r + e and the other inputs constant. A tree without the
  -- distance is a constant. Sums, products, quotients, roots and powers are dual numbers': a quotient times the divisor
  -- is the dividend, a root times itself is its argument, a power is a product, and a negative power one over it.
  -- `min`, `max`, `abs` and `select` follow the part whose value they have, the first if both have it. A flat function
  -- has derivative 0, at its jumps as well.
  pub data IsNear : Tree → V × V → Type 0 where
    constant : {t : Tree} {v : V} → is_free_of_distance t ≡ true → value t ≡ Some v → IsNear t (v, k.ring.zero)
    distance : {r : V} → slice_get inputs 0 ≡ Some r → IsNear (Input 0) (r, k.ring.one)
    negative : {a : Tree} {x : V × V} → IsNear a x → IsNear (Negated a) (duals.negative x)
    sum : {a b : Tree} {x y : V × V} → IsNear a x → IsNear b y → IsNear (Binary op.Add a b) (duals.plus x y)
    difference : {a b : Tree} {x y : V × V} → IsNear a x → IsNear b y → IsNear (Binary op.Subtract a b) (minus duals x y)
    product : {a b : Tree} {x y : V × V} → IsNear a x → IsNear b y → IsNear (Binary op.Multiply a b) (duals.times x y)
    quotient : {a b : Tree} {n d q : V × V} → IsNear a n → IsNear b d → d.0 ≢ k.ring.zero → duals.times q d ≡ n
        → IsNear (Binary op.Divide a b) q
    minimum_first : {a b : Tree} {x : V × V} {y : V} → IsNear a x → value b ≡ Some y → k.is_at_most x.0 y ≡ true
        → IsNear (Binary op.Minimum a b) x
    minimum_second : {a b : Tree} {x : V} {y : V × V} → value a ≡ Some x → IsNear b y → k.is_at_most x y.0 ≡ false
        → IsNear (Binary op.Minimum a b) y
    maximum_first : {a b : Tree} {x : V × V} {y : V} → IsNear a x → value b ≡ Some y → k.is_at_most y x.0 ≡ true
        → IsNear (Binary op.Maximum a b) x
    maximum_second : {a b : Tree} {x : V} {y : V × V} → value a ≡ Some x → IsNear b y → k.is_at_most y.0 x ≡ false
        → IsNear (Binary op.Maximum a b) y
    root : {a : Tree} {x y : V × V} → IsNear a x → k.root x.0 ≡ Some y.0 → y.0 ≢ k.ring.zero → duals.times y y ≡ x
        → IsNear (Applied f.SquareRoot a) y
    absolute_same : {a : Tree} {x : V × V} → IsNear a x → k.is_at_most k.ring.zero x.0 ≡ true → IsNear (Applied f.Absolute a) x
    absolute_opposite : {a : Tree} {x : V × V} → IsNear a x → k.is_at_most k.ring.zero x.0 ≡ false
        → IsNear (Applied f.Absolute a) (duals.negative x)
    flat : {g : FlatFunction} {a : Tree} {v : V} → value (Applied (f.Flat g) a) ≡ Some v → IsNear (Applied (f.Flat g) a) (v, k.ring.zero)
    whole_power : {a : Tree} {n : ℕ} {x : V × V} → IsNear a x → IsNear (Power a (pos n)) (power duals x n)
    reciprocal_power : {a : Tree} {m : ℕ} {x y : V × V} → IsNear a x
        → duals.times y (power duals x (suc m)) ≡ duals.one → IsNear (Power a (negsuc m)) y
    select_first : {c a b : Tree} {x : V} {y : V × V} → value c ≡ Some x → k.is_zero x ≡ false → IsNear a y → IsNear (Select c a b) y
    select_second : {c a b : Tree} {x : V} {y : V × V} → value c ≡ Some x → k.is_zero x ≡ true → IsNear b y → IsNear (Select c a b) y

  -- The table's slope is the derivative: at r + e the tree is v + s e if and only if v is its value at r, and s its
  -- slope there.
  abbrev pub IsDerivative : Tree → Type 0
  IsDerivative t = (v s : V) → IsNear t (v, s) ↔ ((exact_value k inputs t ≡ Some v) × (exact_slope k inputs t ≡ Some s))

  -- The slope's program computes the derivative: at r + e the program's tree is v + s e if and only if v is its value
  -- at r, and s the value of the slope's program there.
  abbrev pub IsDerivativeProgram : (program slope : Trees) → Type 0
  IsDerivativeProgram program slope =
      (v s : V) → IsNear (substituted program.0 program.1) (v, s)
      ↔ ((exact_value k inputs (substituted program.0 program.1) ≡ Some v) × (exact_value k inputs (substituted slope.0 slope.1) ≡ Some s))

-- every variable of a program is one of `inputs` inputs, every definition uses only later ones, and every exponent is
-- allowed
abbrev pub IsScoped : ℕ → Trees → Type 0
IsScoped inputs program = IsTrue (is_scoped inputs 0 (length program.1) program.0) × IsTrue (are_scoped inputs 0 program.1)
