-- The size of code, and the conditions under which a tree's code can be generated.
use Rattle.std.specs.Prelude.{ℕ, suc, ◌+◌, ◌<◌, ◌≤◌, ℤ, pos, negsuc, List, [], ◌∷◌, length, min, Bool, true, false, IsTrue}
use Rattle.energy_program.specs.Tree.{Tree, is_exponent}
use Rattle.energy_program.specs.Tree as t
use Rattle.energy_program.specs.Uses.{is_marked}
use Rattle.kernel_compiler.specs.Code.{power_code, is_second_first, stack_depth}

abbrev pub raised_size : ℤ → ℕ
raised_size (pos n) = length (power_code n) + 1
raised_size (negsuc n) = length (power_code (suc n)) + 3

abbrev pub pair_size : Bool → ℕ
pair_size false = 1
pair_size true = 5

-- the number of instructions of a tree's code
abbrev pub size : Tree → ℕ
size (t.Negated a) = size a + 1
size (t.Binary o a b) = size a + size b + pair_size (is_second_first (stack_depth a) (stack_depth b))
size (t.Applied g a) = size a + 1
size (t.Power a n) = size a + raised_size n
size (t.Select x a b) = size x + 1 + size a + 1 + size b
size _ = 1

abbrev pub kept_size : Bool → Tree → ℕ
kept_size true d = size d + 1
kept_size false d = 0

-- the number of instructions of the marked definitions among these, which are numbered from j
abbrev pub definitions_size : ℕ → List Bool → List Tree → ℕ
definitions_size j marks [] = 0
definitions_size j marks (d ∷ ds) = definitions_size (j + 1) marks ds + kept_size (is_marked marks j) d

-- a number of instructions, saturating at 2^64 - 1
abbrev pub counted : ℕ → ℕ
counted n = min n 18446744073709551615

-- a tree whose numbers fit instructions: inputs up to 32, locals up to 255, and exponents that are allowed
abbrev pub IsEmittable : Tree → Type 0
IsEmittable (t.Number c) = Unit {0}
IsEmittable (t.Input i) = i ≤ 32
IsEmittable (t.Definition j) = j < 254
IsEmittable (t.Negated a) = IsEmittable a
IsEmittable (t.Binary o a b) = IsEmittable a × IsEmittable b
IsEmittable (t.Applied g a) = IsEmittable a
IsEmittable (t.Power a n) = IsTrue (is_exponent n) × IsEmittable a
IsEmittable (t.Select x a b) = IsEmittable x × IsEmittable a × IsEmittable b

-- each of these definitions, which are numbered from j, has a local and can be compiled
abbrev pub AllEmittable : ℕ → List Tree → Type 0
AllEmittable j [] = Unit {0}
AllEmittable j (d ∷ ds) = (j < 254) × IsEmittable d × AllEmittable (j + 1) ds
