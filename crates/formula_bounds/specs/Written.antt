-- Right entries: of an energy over exact numbers, of which the program has read approximations.
use Rattle.std.specs.Prelude.{◌≡◌, ℕ, suc, ◌+◌, ℤ, List, [], ◌∷◌, ◌++◌, length, Some, slice_get}
use Rattle.fixed.specs.declared.constants.Constant.{Constant}
use Rattle.fixed.specs.declared.operations.Operator.{Operator}
use Rattle.fixed.specs.declared.operations.Function.{Function}
use Rattle.energy_program.specs.Programs.{Trees}
use Rattle.energy_program.specs.Tree.{Tree, Number, Input, Definition, Negated, Binary, Applied, Power, Select, is_free_of_distance}
use Rattle.energy_program.specs.Value.{value_of}
use Rattle.derivative.specs.Exact.{Numbers, exact_slope, exact_value}
use Rattle.derivative.specs.Slope.{slope_of}
use Rattle.error_bounds.specs.Approximations.{Approximation}
use Rattle.error_bounds.specs.Meanings.{ApproximatesIfThere, WasRead}
use Rattle.formula_bounds.specs.Entries.{Entry}

-- ---- the numerals of a program

-- the constants of a tree, from left to right
abbrev pub numerals_of : Tree → List Constant
numerals_of (Number c) = c ∷ []
numerals_of (Input i) = []
numerals_of (Definition j) = []
numerals_of (Negated a) = numerals_of a
numerals_of (Binary o a b) = numerals_of a ++ numerals_of b
numerals_of (Applied g a) = numerals_of a
numerals_of (Power a n) = numerals_of a
numerals_of (Select x a b) = numerals_of x ++ (numerals_of a ++ numerals_of b)

-- the tree with an input for each of its constants: the first one is input n + 1, the next one input n + 2, and so on
abbrev pub with_inputs : (n : ℕ) → Tree → Tree
with_inputs n (Number c) = Input (suc n)
with_inputs n (Input i) = Input i
with_inputs n (Definition j) = Definition j
with_inputs n (Negated a) = Negated (with_inputs n a)
with_inputs n (Binary o a b) = Binary o (with_inputs n a) (with_inputs (n + length (numerals_of a)) b)
with_inputs n (Applied g a) = Applied g (with_inputs n a)
with_inputs n (Power a m) = Power (with_inputs n a) m
with_inputs n (Select x a b) =
    Select (with_inputs n x) (with_inputs (n + length (numerals_of x)) a)
    (with_inputs ((n + length (numerals_of x)) + length (numerals_of a)) b)

-- the constants of these trees, and the trees with an input for each
abbrev pub numerals_of_all : List Tree → List Constant
numerals_of_all [] = []
numerals_of_all (t ∷ ts) = numerals_of t ++ numerals_of_all ts

abbrev pub all_with_inputs : (n : ℕ) → List Tree → List Tree
all_with_inputs n [] = []
all_with_inputs n (t ∷ ts) = with_inputs n t ∷ all_with_inputs (n + length (numerals_of t)) ts

-- the constants of a program, of the body first, and the program with an input for each
abbrev pub numerals_of_program : Trees → List Constant
numerals_of_program (body, definitions) = numerals_of body ++ numerals_of_all definitions

abbrev pub program_with_inputs : (n : ℕ) → Trees → Trees
program_with_inputs n (body, definitions) =
    (with_inputs n body, all_with_inputs (n + length (numerals_of body)) definitions)

-- ---- programs as they were written

module _ {V : Type 0} (k : Numbers V) (bits : ℕ) where
  -- The second tree is the first, as it was written: each constant is replaced by an input, whose exact number was
  -- read as the constant. Equal constants may be replaced by different inputs.
  pub data IsWritten (exacts : List V) : Tree → Tree → Type 0 where
    number : {c : Constant} {j : ℕ} {x : V} → slice_get exacts (suc j) ≡ Some x → WasRead k bits c x
        → IsWritten exacts (Number c) (Input (suc j))
    input : {i : ℕ} → IsWritten exacts (Input i) (Input i)
    definition : {j : ℕ} → IsWritten exacts (Definition j) (Definition j)
    negated : {a a' : Tree} → IsWritten exacts a a' → IsWritten exacts (Negated a) (Negated a')
    binary : {o : Operator} {a b a' b' : Tree} → IsWritten exacts a a' → IsWritten exacts b b'
        → IsWritten exacts (Binary o a b) (Binary o a' b')
    applied : {g : Function} {a a' : Tree} → IsWritten exacts a a' → IsWritten exacts (Applied g a) (Applied g a')
    power : {a a' : Tree} {n : ℤ} → IsWritten exacts a a' → IsWritten exacts (Power a n) (Power a' n)
    select : {x a b x' a' b' : Tree} → IsWritten exacts x x' → IsWritten exacts a a' → IsWritten exacts b b'
        → IsWritten exacts (Select x a b) (Select x' a' b')

  -- each of these trees as it was written
  pub data AreWritten (exacts : List V) : List Tree → List Tree → Type 0 where
    none : AreWritten exacts [] []
    one_more : {t t' : Tree} {ts ts' : List Tree} → IsWritten exacts t t' → AreWritten exacts ts ts'
        → AreWritten exacts (t ∷ ts) (t' ∷ ts')

  -- The second program is the first, as it was written: all uses of a definition have the same exact numbers.
  abbrev pub IsWrittenProgram : (exacts : List V) → (program written : Trees) → Type 0
  IsWrittenProgram exacts (body, definitions) (body', definitions') =
      IsWritten exacts body body' × AreWritten exacts definitions definitions'

  -- each of these constants was read from an exact number: the first one from input n + 1, the next one from input n + 2,
  -- and so on
  abbrev pub HaveNumbers : (exacts : List V) → (n : ℕ) → List Constant → Type 0
  HaveNumbers exacts n constants =
      (i : ℕ) (c : Constant) → slice_get constants i ≡ Some c → (x : V) × (slice_get exacts (suc (n + i)) ≡ Some x) × WasRead k bits c x

  -- each approximation is one of the input with its number
  abbrev pub AreApproximated : List Approximation → List ℤ → List V → Type 0
  AreApproximated approximations inputs exacts =
      (i : ℕ) → ApproximatesIfThere k bits (slice_get approximations i) (slice_get inputs i) (slice_get exacts i)

  -- The entry is right for a tree on these inputs: its approximations hold for the computed value and slope, and for the
  -- exact value and slope of the tree as it was written.
  pub record IsRight (inputs : List ℤ) (exacts : List V) (e : Entry) (tree : Tree) : Type 0 where
    pub free : e.free ≡ is_free_of_distance tree
    pub value : (written : Tree) → IsWritten exacts tree written
        → ApproximatesIfThere k bits e.value (value_of bits inputs tree) (exact_value k exacts written)
    pub slope : (written : Tree) → IsWritten exacts tree written
        → ApproximatesIfThere k bits e.slope (slope_of bits inputs tree) (exact_slope k exacts written)
