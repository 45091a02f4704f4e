-- Abstract syntax of energy expressions: trees without their memory, the scopes of names, and substitution of
-- definitions.
use Rattle.std.specs.Prelude.{ℕ, ◌+◌, ◌*◌, ℤ, pos, negsuc, Bool, true, false, ◌==◌, ◌&&◌, nat_lt, nat_le, if◌then◌else◌, List, [], ◌∷◌, length}
use Rattle.fixed.specs.Constants.{constant, exactly}
use Rattle.fixed.specs.declared.constants.Constant.{Constant}
use Rattle.fixed.specs.declared.operations.Operator.{Operator}
use Rattle.fixed.specs.declared.operations.Function.{Function}
use Rattle.energy_program.specs.declared.trees.Expr.{Expr}
use Rattle.energy_program.specs.declared.trees.Expr.TheVariants as e

-- A number is a constant, with its error of reading; a variable is its input number, a use of a definition the
-- definition's number.
pub data Tree : Type 0 where
  Number : Constant → Tree
  Input : ℕ → Tree
  Definition : ℕ → Tree
  Negated : Tree → Tree
  Binary : Operator → Tree → Tree → Tree
  Applied : Function → Tree → Tree
  Power : Tree → ℤ → Tree
  Select : Tree → Tree → Tree → Tree

-- the abstract syntax tree of an expression in memory
abbrev pub tree_of : {A : Type 0} → Expr A → Tree
tree_of (e.Number z low high) = Number (constant z low high)
tree_of (e.Input i) = Input i
tree_of (e.Definition j) = Definition j
tree_of (e.Negated' p a) = Negated (tree_of a)
tree_of (e.Binary' o p a q b) = Binary o (tree_of a) (tree_of b)
tree_of (e.Applied' f p a) = Applied f (tree_of a)
tree_of (e.Power' p a n) = Power (tree_of a) n
tree_of (e.Select' p x q a s b) = Select (tree_of x) (tree_of a) (tree_of b)

-- ---- scopes

-- the number of inputs: the distance, the parameters of both particles and the globals
abbrev pub variable_count : ℕ → ℕ → ℕ
variable_count parameters globals = 1 + (2 * parameters + globals)

-- an exponent in a text, without its minus: from 1 to 32
abbrev pub is_whole : ℕ → Bool
is_whole n = nat_lt 0 n && nat_le n 32

-- an exponent in a tree: from -32 to 33, except 0
abbrev pub is_exponent : ℤ → Bool
is_exponent (pos n) = nat_lt 0 n && nat_le n 33
is_exponent (negsuc n) = nat_lt n 32

-- Every input number in the tree is below `inputs`, every definition number is from `first` up to but not including
-- `end`, and every exponent is allowed.
abbrev pub is_scoped : ℕ → ℕ → ℕ → Tree → Bool
is_scoped inputs first end (Number c) = true
is_scoped inputs first end (Input i) = nat_lt i inputs
is_scoped inputs first end (Definition j) = nat_le first j && nat_lt j end
is_scoped inputs first end (Negated a) = is_scoped inputs first end a
is_scoped inputs first end (Binary o a b) = is_scoped inputs first end a && is_scoped inputs first end b
is_scoped inputs first end (Applied f a) = is_scoped inputs first end a
is_scoped inputs first end (Power a n) = is_exponent n && is_scoped inputs first end a
is_scoped inputs first end (Select x a b) = is_scoped inputs first end x && (is_scoped inputs first end a && is_scoped inputs first end b)

-- each of these definitions, numbered from i, uses only later ones
abbrev pub are_scoped : ℕ → ℕ → List Tree → Bool
are_scoped inputs i [] = true
are_scoped inputs i (d ∷ ds) = is_scoped inputs (i + 1) (i + (1 + length ds)) d && are_scoped inputs (i + 1) ds

-- the distance, input 0, doesn't appear in the tree itself (trees of definitions that it uses aren't visited)
abbrev pub is_free_of_distance : Tree → Bool
is_free_of_distance (Number c) = true
is_free_of_distance (Input i) = if i == 0 then false else true
is_free_of_distance (Definition j) = true
is_free_of_distance (Negated a) = is_free_of_distance a
is_free_of_distance (Binary o a b) = is_free_of_distance a && is_free_of_distance b
is_free_of_distance (Applied f a) = is_free_of_distance a
is_free_of_distance (Power a n) = is_free_of_distance a
is_free_of_distance (Select x a b) = is_free_of_distance x && (is_free_of_distance a && is_free_of_distance b)

-- ---- substitution

-- the tree with each use of a definition replaced by the tree that `f` gives for its number
abbrev pub put : (ℕ → Tree) → Tree → Tree
put f (Number c) = Number c
put f (Input i) = Input i
put f (Definition j) = f j
put f (Negated a) = Negated (put f a)
put f (Binary o a b) = Binary o (put f a) (put f b)
put f (Applied g a) = Applied g (put f a)
put f (Power a n) = Power (put f a) n
put f (Select x a b) = Select (put f x) (put f a) (put f b)

-- The tree of definition j among these, which are numbered from i, with the later definitions substituted. An unused
-- number gives the constant 0.
abbrev pub meaning : ℕ → List Tree → ℕ → Tree
meaning i [] j = Number (exactly (pos 0))
meaning i (d ∷ ds) j = if j == i then put (meaning (i + 1) ds) d else meaning (i + 1) ds j

-- the body with all definitions substituted
abbrev pub substituted : Tree → List Tree → Tree
substituted body definitions = put (meaning 0 definitions) body
