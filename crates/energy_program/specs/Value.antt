-- The denotational semantics of energy expressions in fixed-point numbers. Operators are from OpenMM's custom force
-- expressions (OpenMM User Guide). A value is partial: there is none if an operation that is evaluated has none.
use Rattle.std.specs.Prelude.{ℕ, ℤ, List, Option, Some, None, Result, Ok, Err, slice_get, if◌then◌else◌}
use Rattle.fixed.specs.declared.faults.Fault.{Fault}
use Rattle.fixed.specs.Arithmetic.{sum_of, difference_of, negative_of, product_of, square_of, quotient_of, square_root_of, step_of, signed_power_of, is_zero}
use Rattle.fixed.specs.Operations.{function_value, operator_value}
use Rattle.fixed.specs.declared.operations.Operator.{Operator}
use Rattle.fixed.specs.declared.operations.Function.{Function}
use Rattle.energy_program.specs.Tree.{Tree, Number, Input, Definition, Negated, Binary, Applied, Power, Select}

-- the number of a result, with any fault forgotten
abbrev pub number_of : Result ℤ Fault → Option ℤ
number_of (Ok z) = Some z
number_of (Err f) = None

-- an operation lifted to values that may be missing
abbrev pub on_one : (ℤ → Result ℤ Fault) → Option ℤ → Option ℤ
on_one f (Some x) = number_of (f x)
on_one f None = None

-- a binary operation lifted to values that may be missing
abbrev pub on_two : (ℤ → ℤ → Result ℤ Fault) → Option ℤ → Option ℤ → Option ℤ
on_two f (Some x) y = on_one (f x) y
on_two f None y = None

-- the operations of the table of derivatives on partial values; a result is missing if the operation faults
abbrev pub negative : Option ℤ → Option ℤ
negative x = on_one negative_of x

abbrev pub sum : Option ℤ → Option ℤ → Option ℤ
sum x y = on_two sum_of x y

abbrev pub difference : Option ℤ → Option ℤ → Option ℤ
difference x y = on_two difference_of x y

abbrev pub product : ℕ → Option ℤ → Option ℤ → Option ℤ
product bits x y = on_two (product_of bits) x y

abbrev pub square : ℕ → Option ℤ → Option ℤ
square bits x = on_one (square_of bits) x

abbrev pub quotient : ℕ → Option ℤ → Option ℤ → Option ℤ
quotient bits x y = on_two (quotient_of bits) x y

abbrev pub square_root : ℕ → Option ℤ → Option ℤ
square_root bits x = on_one (square_root_of bits) x

abbrev pub step : ℕ → Option ℤ → Option ℤ
step bits x = on_one (λ a. Ok (step_of bits a)) x

-- the value of a binary operation
abbrev pub operation : ℕ → Operator → Option ℤ → Option ℤ → Option ℤ
operation bits o x y = on_two (operator_value bits o) x y

-- the value of a function
abbrev pub applied : ℕ → Function → Option ℤ → Option ℤ
applied bits g x = on_one (function_value bits g) x

-- the value of a power with an integer exponent
abbrev pub power : ℕ → Option ℤ → ℤ → Option ℤ
power bits x n = on_one (λ a. signed_power_of bits a n) x

-- the second value if the first isn't 0, else the third; the one that isn't chosen may be missing
abbrev pub selected : Option ℤ → Option ℤ → Option ℤ → Option ℤ
selected None y z = None
selected (Some x) y z = if is_zero x then z else y

-- The value of a tree with `bits` fraction bits on these inputs: the distance first, then the others. A definition has
-- no value here: trees are evaluated after all definitions are substituted.
abbrev pub value_of : ℕ → List ℤ → Tree → Option ℤ
value_of bits inputs (Number c) = Some c.value
value_of bits inputs (Input i) = slice_get inputs i
value_of bits inputs (Definition j) = None
value_of bits inputs (Negated a) = negative (value_of bits inputs a)
value_of bits inputs (Binary o a b) = operation bits o (value_of bits inputs a) (value_of bits inputs b)
value_of bits inputs (Applied g a) = applied bits g (value_of bits inputs a)
value_of bits inputs (Power a n) = power bits (value_of bits inputs a) n
value_of bits inputs (Select x a b) = selected (value_of bits inputs x) (value_of bits inputs a) (value_of bits inputs b)
