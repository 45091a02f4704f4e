-- Approximations of trees: of the value and of the slope together, with each definition approximated once.
use Rattle.std.specs.Prelude.{ℕ, ◌+◌, ℤ, pos, Bool, true, false, ◌==◌, ◌&&◌, if◌then◌else◌, List, [], ◌∷◌, Option, Some, None, slice_get}
use Rattle.fixed.specs.declared.constants.Constant.{Constant}
use Rattle.fixed.specs.declared.operations.Operator.{Operator}
use Rattle.fixed.specs.declared.operations.Function.{Function}
use Rattle.energy_program.specs.Programs.{Trees}
use Rattle.energy_program.specs.Tree.{Tree, Number, Input, Definition, Negated, Binary, Applied, Power, Select}
use Rattle.derivative.specs.Slope.{Operations, applied_row, operation_row, power_row, unless_constant}
use Rattle.error_bounds.specs.Approximations.{Approximation}
use Rattle.error_bounds.specs.Approximate as a
use Rattle.error_bounds.specs.Approximate.{approximate, selected}
use Rattle.error_bounds.specs.Rules.{as_read, exactly}

-- whether a tree is free of the distance, and the approximations of its value and of its slope, if there are any
pub record Entry : Type 0 where
  pub free : Bool
  pub value : Option Approximation
  pub slope : Option Approximation

abbrev pub entry : Bool → (value slope : Option Approximation) → Entry
entry free value slope = record { free = free; value = value; slope = slope }

-- the entry of a definition that isn't there, as of the constant 0 without an approximation
abbrev pub missing : Entry
missing = entry true None None

-- the power rule for one over the power n
abbrev pub reciprocal_row : {V : Type 0} → Operations V → Option V → ℕ → Option V → Option V
reciprocal_row on u n du = on.negative (on.quotient (on.product (on.whole n) du) (on.power u (pos (n + 1))))

module _ (bits : ℕ) where
  abbrev on_zero : Approximation
  on_zero = exactly (pos 0)

  abbrev pub number : Constant → Entry
  number c = entry true (Some (as_read c)) (Some on_zero)

  -- input i has this approximation; the slope of the distance, input 0, is 1
  abbrev pub input : ℕ → Option Approximation → Entry
  input i x = entry (if i == 0 then false else true) x (Some (if i == 0 then (approximate bits).one else on_zero))

  abbrev pub negated : Entry → Entry
  negated x =
      entry x.free ((approximate bits).negative x.value)
      (unless_constant on_zero x.free ((approximate bits).negative x.slope))

  abbrev pub binary : Operator → (x y : Entry) → Entry
  binary o x y =
      entry (x.free && y.free) (a.operation bits o x.value y.value)
      (unless_constant on_zero (x.free && y.free)
      (operation_row (approximate bits) o x.free y.free x.value y.value x.slope y.slope))

  abbrev pub applied : Function → Entry → Entry
  applied g x =
      entry x.free (a.applied bits g x.value)
      (unless_constant on_zero x.free (applied_row (approximate bits) g x.value x.slope))

  abbrev pub power : Entry → ℤ → Entry
  power x n =
      entry x.free ((approximate bits).power x.value n)
      (unless_constant on_zero x.free (power_row (approximate bits) x.value n x.slope))

  abbrev pub select : (x y z : Entry) → Entry
  select x y z =
      entry (x.free && (y.free && z.free)) (selected x.value y.value z.value)
      (unless_constant on_zero (x.free && (y.free && z.free)) (selected x.value y.slope z.slope))

  -- the entry of a tree on these approximations of the inputs, if `known` has the entries of definitions
  abbrev pub entry_of : List Approximation → (ℕ → Entry) → Tree → Entry
  entry_of inputs known (Number c) = number c
  entry_of inputs known (Input i) = input i (slice_get inputs i)
  entry_of inputs known (Definition j) = known j
  entry_of inputs known (Negated x) = negated (entry_of inputs known x)
  entry_of inputs known (Binary o x y) = binary o (entry_of inputs known x) (entry_of inputs known y)
  entry_of inputs known (Applied g x) = applied g (entry_of inputs known x)
  entry_of inputs known (Power x n) = power (entry_of inputs known x) n
  entry_of inputs known (Select x y z) = select (entry_of inputs known x) (entry_of inputs known y) (entry_of inputs known z)

  -- the entry of definition j among entries that are numbered from i
  abbrev pub known_from : ℕ → List Entry → ℕ → Entry
  known_from i [] j = missing
  known_from i (x ∷ xs) j = if j == i then x else known_from (i + 1) xs j

  -- the entries of these definitions, which are numbered from i; each uses only later ones
  abbrev pub entries_from : List Approximation → ℕ → List Tree → List Entry
  entries_from inputs i [] = []
  entries_from inputs i (d ∷ ds) =
      entry_of inputs (known_from (i + 1) (entries_from inputs (i + 1) ds)) d ∷ entries_from inputs (i + 1) ds

  -- the entry of a program's body
  abbrev pub entry_of_program : List Approximation → Trees → Entry
  entry_of_program inputs (body, definitions) =
      entry_of inputs (known_from 0 (entries_from inputs 0 definitions)) body
