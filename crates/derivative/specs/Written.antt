-- The trees built for derivatives. Each function is a row of the table in Slope. In a built tree the use of definition
-- j means its derivative, and the use of definition n + j the old definition j, if there were n definitions. This
-- builder and the table are separate definitions; a theorem joins them.
use Rattle.std.specs.Prelude.{◌≡◌, ℕ, ◌+◌, ◌*◌, ◌^◌, ◌-◌, ℤ, pos, negsuc, neg_ℤ, Bool, true, false, ◌==◌, ◌&&◌, nat_lt, if◌then◌else◌, List, ◌++◌, map, length, slice_index_or}
use Rattle.fixed.specs.Constants.{exactly}
use Rattle.fixed.specs.Arithmetic.{one}
use Rattle.fixed.specs.declared.operations.Operator.{Operator}
use Rattle.fixed.specs.declared.operations.Operator.TheVariants as op
use Rattle.fixed.specs.declared.operations.Function.{Function}
use Rattle.fixed.specs.declared.operations.FlatFunction.TheVariants as flat
use Rattle.fixed.specs.declared.operations.Function.TheVariants as f
use Rattle.energy_program.specs.Tree.{Tree, Number, Input, Definition, Negated, Binary, Applied, Power, Select, is_exponent, is_free_of_distance, meaning}

-- the tree is free of the distance, if `free` holds that for each definition
abbrev pub is_free_given : (ℕ → Bool) → Tree → Bool
is_free_given free (Number c) = true
is_free_given free (Input i) = if i == 0 then false else true
is_free_given free (Definition j) = free j
is_free_given free (Negated a) = is_free_given free a
is_free_given free (Binary o a b) = is_free_given free a && is_free_given free b
is_free_given free (Applied g a) = is_free_given free a
is_free_given free (Power a n) = is_free_given free a
is_free_given free (Select x a b) = is_free_given free x && (is_free_given free a && is_free_given free b)

-- the tree with every definition's number raised by n
abbrev pub moved : ℕ → Tree → Tree
moved n (Number c) = Number c
moved n (Input i) = Input i
moved n (Definition j) = Definition (n + j)
moved n (Negated a) = Negated (moved n a)
moved n (Binary o a b) = Binary o (moved n a) (moved n b)
moved n (Applied g a) = Applied g (moved n a)
moved n (Power a k) = Power (moved n a) k
moved n (Select x a b) = Select (moved n x) (moved n a) (moved n b)

-- every definition's number raised by n fits 32 bits, and every exponent is allowed
abbrev pub is_writable : ℕ → Tree → Bool
is_writable n (Number c) = true
is_writable n (Input i) = true
is_writable n (Definition j) = nat_lt (n + j) (2 ^ 32)
is_writable n (Negated a) = is_writable n a
is_writable n (Binary o a b) = is_writable n a && is_writable n b
is_writable n (Applied g a) = is_writable n a
is_writable n (Power a k) = is_exponent k && is_writable n a
is_writable n (Select x a b) = is_writable n x && (is_writable n a && is_writable n b)

-- `u` and `v` are the parts, `du` and `dv` the trees of their derivatives
abbrev pub product_tree : (u_free v_free : Bool) → (u v du dv : Tree) → Tree
product_tree true v_free u v du dv = Binary op.Multiply u dv
product_tree false true u v du dv = Binary op.Multiply du v
product_tree false false u v du dv = Binary op.Add (Binary op.Multiply du v) (Binary op.Multiply u dv)

abbrev pub quotient_tree : (u_free v_free : Bool) → (u v du dv : Tree) → Tree
quotient_tree u_free true u v du dv = Binary op.Divide du v
quotient_tree true false u v du dv = Binary op.Divide (Negated (Binary op.Multiply u dv)) (Power v (pos 2))
quotient_tree false false u v du dv =
    Binary op.Divide (Binary op.Subtract (Binary op.Multiply du v) (Binary op.Multiply u dv)) (Power v (pos 2))

abbrev pub operation_tree : Operator → (u_free v_free : Bool) → (u v du dv : Tree) → Tree
operation_tree op.Add u_free v_free u v du dv = Binary op.Add du dv
operation_tree op.Subtract u_free v_free u v du dv = Binary op.Subtract du dv
operation_tree op.Multiply u_free v_free u v du dv = product_tree u_free v_free u v du dv
operation_tree op.Divide u_free v_free u v du dv = quotient_tree u_free v_free u v du dv
operation_tree op.Minimum u_free v_free u v du dv = Select (Applied (f.Flat flat.Step) (Binary op.Subtract v u)) du dv
operation_tree op.Maximum u_free v_free u v du dv = Select (Applied (f.Flat flat.Step) (Binary op.Subtract u v)) du dv

-- the constant n
abbrev pub whole_number : ℕ → ℕ → Tree
whole_number bits n = Number (exactly (pos (n * 2 ^ bits)))

-- The derivative of an absolute value is 1 or -1 times the argument's, so that `du` appears once. By the laws of
-- products this tree has the same value and faults as the table's row.
abbrev pub applied_tree : ℕ → Function → (u du : Tree) → Tree
applied_tree bits f.SquareRoot u du = Binary op.Divide du (Binary op.Multiply (whole_number bits 2) (Applied f.SquareRoot u))
applied_tree bits f.Absolute u du =
    Binary op.Multiply (Select (Applied (f.Flat flat.Step) u) (Number (exactly (one bits))) (Number (exactly (neg_ℤ (one bits))))) du
applied_tree bits (f.Flat g) u du = Number (exactly (pos 0))

-- the power rule; negsuc m is -(m + 1)
abbrev pub power_tree : ℕ → ℤ → (u du : Tree) → Tree
power_tree bits (pos n) u du =
    if n == 1 then du else Binary op.Multiply (Binary op.Multiply (whole_number bits n) (Power u (pos (n - 1)))) du
power_tree bits (negsuc m) u du = Negated (Binary op.Divide (Binary op.Multiply (whole_number bits (m + 1)) du) (Power u (pos (m + 2))))

-- zero for a tree that is free of the distance
abbrev pub unless_free : Bool → Tree → Tree
unless_free true e = Number (exactly (pos 0))
unless_free false e = e

-- the derivative of a binary operation on u and v
abbrev pub operation_slope_tree : Operator → (u_free v_free : Bool) → (u v du dv : Tree) → Tree
operation_slope_tree o u_free v_free u v du dv = unless_free (u_free && v_free) (operation_tree o u_free v_free u v du dv)

-- the derivative of a choice, whose condition x isn't differentiated
abbrev pub choice_slope_tree : (x_free u_free v_free : Bool) → (x du dv : Tree) → Tree
choice_slope_tree x_free u_free v_free x du dv = unless_free (x_free && (u_free && v_free)) (Select x du dv)

-- the tree of a tree's derivative
abbrev pub slope_tree : ℕ → (ℕ → Bool) → ℕ → Tree → Tree
slope_tree bits free n (Number c) = Number (exactly (pos 0))
slope_tree bits free n (Input i) = Number (exactly (if i == 0 then one bits else pos 0))
slope_tree bits free n (Definition j) = unless_free (free j) (Definition j)
slope_tree bits free n (Negated a) = unless_free (is_free_given free a) (Negated (slope_tree bits free n a))
slope_tree bits free n (Binary o a b) =
    operation_slope_tree o (is_free_given free a) (is_free_given free b) (moved n a) (moved n b) (slope_tree bits free n a)
    (slope_tree bits free n b)
slope_tree bits free n (Applied g a) = unless_free (is_free_given free a) (applied_tree bits g (moved n a) (slope_tree bits free n a))
slope_tree bits free n (Power a k) = unless_free (is_free_given free a) (power_tree bits k (moved n a) (slope_tree bits free n a))
slope_tree bits free n (Select x a b) =
    choice_slope_tree (is_free_given free x) (is_free_given free a) (is_free_given free b) (moved n x) (slope_tree bits free n a)
    (slope_tree bits free n b)

-- definition j, with later definitions substituted, is free of the distance
abbrev pub free_among : List Tree → ℕ → Bool
free_among definitions j = is_free_of_distance (meaning 0 definitions j)

-- the derivatives of all definitions, followed by the definitions
abbrev pub all_slopes : ℕ → (ℕ → Bool) → List Tree → List Tree
all_slopes bits free definitions =
    map (slope_tree bits free (length definitions)) definitions ++ map (moved (length definitions)) definitions

-- definition j is free of the distance by a table; true for a number past its end
abbrev pub free_in : List Bool → ℕ → Bool
free_in table j = slice_index_or table j true

-- the list holds for each definition whether it is free of the distance
abbrev pub IsFreeTable : List Bool → List Tree → Type 0
IsFreeTable table definitions = (j : ℕ) → free_in table j ≡ free_among definitions j
