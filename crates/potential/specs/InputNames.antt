-- The inputs of an energy, by the names of its variables: names and values have one order.
use Rattle.std.specs.Prelude.{◌≡◌, ℕ, ◌<◌, List, ◌++◌, length, ℤ, Some, Ok, codes, slice_get}
use Rattle.energy_program.specs.Names.{input_of, names_from}
use Rattle.kernel_code.specs.Tables.{Table, IsTable, inputs_of, row_of}

-- the variable with this name has the value `z`: the input with the variable's number is `z`
abbrev pub StandsFor : (variables : List (List ℕ)) (inputs : List ℤ) → List ℕ → ℤ → Type 0
StandsFor variables inputs name z = (i : ℕ) × (input_of variables name ≡ Some i) × (slice_get inputs i ≡ Some z)

-- The inputs for a pair of types a and b at the distance r: `r` is the distance, `p1` is the parameter `p` of the type
-- a, `p2` is the parameter `p` of the type b, and each global has its value.
pub record HaveNames (parameters globals variables : List (List ℕ)) (t : Table) (a b : ℕ) (r : ℤ) : Type 0 where
  pub distance : StandsFor variables (inputs_of t a b r) (codes "r") r
  pub first : (k : ℕ) (p : List ℕ) (z : ℤ) → slice_get parameters k ≡ Some p → slice_get (row_of t a) k ≡ Some z
      → StandsFor variables (inputs_of t a b r) (p ++ codes "1") z
  pub second : (k : ℕ) (p : List ℕ) (z : ℤ) → slice_get parameters k ≡ Some p → slice_get (row_of t b) k ≡ Some z
      → StandsFor variables (inputs_of t a b r) (p ++ codes "2") z
  pub global : (k : ℕ) (g : List ℕ) (z : ℤ) → slice_get globals k ≡ Some g → slice_get t.globals k ≡ Some z
      → StandsFor variables (inputs_of t a b r) g z

-- The inputs have these names for every table with one parameter and one global per name, if the names make valid
-- variables.
abbrev pub InputsHaveNames : Type 0
InputsHaveNames =
    (parameters globals variables : List (List ℕ)) → names_from parameters globals ≡ Ok variables
    → (t : Table) → IsTable t → length parameters ≡ t.parameters → length globals ≡ length t.globals
    → (a b : ℕ) → a < length t.rows → b < length t.rows → (r : ℤ) → HaveNames parameters globals variables t a b r
