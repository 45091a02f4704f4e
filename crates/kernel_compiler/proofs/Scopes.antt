-- The needs of a tree's code, for trees that programs keep.
use Rattle.std.proofs.Common.{◌≡◌, ℕ, ◌+◌, ◌<◌, ◌≤◌, List, [], ◌∷◌, arith, Bool, true, length}
use Rattle.energy_program.specs.Tree.{Tree}
use Rattle.energy_program.specs.Tree as t
use Rattle.energy_program.specs.Uses.{is_marked}
use Rattle.kernel_compiler.specs.Sizes.{AllEmittable, IsEmittable}
use Rattle.energy_program.proofs.Scopes.{IsValid, AreValid}

-- the marked definitions all have locals
abbrev pub HaveLocals : List Bool → Type 0
HaveLocals ms = (k : ℕ) → is_marked ms k ≡ true → k < 254

-- a valid tree can be emitted if there are at most 33 inputs and 254 definitions
pub emittable : (inputs j count : ℕ) (e : Tree) → inputs ≤ 33 → count ≤ 254 → IsValid inputs j count e → IsEmittable e
emittable inputs j count (t.Number c) few short valid = tt
emittable inputs j count (t.Input k) few short valid = omega arith
emittable inputs j count (t.Definition k) few short valid = omega (arith, valid.1)
emittable inputs j count (t.Negated a) few short valid = emittable inputs j count a few short valid
emittable inputs j count (t.Binary o a b) few short valid = (emittable inputs j count a few short valid.0, emittable inputs j count b few short valid.1)
emittable inputs j count (t.Applied g a) few short valid = emittable inputs j count a few short valid
emittable inputs j count (t.Power a n) few short valid = (valid.0, emittable inputs j count a few short valid.1)
emittable inputs j count (t.Select x a b) few short valid = (emittable inputs j count x few short valid.0, emittable inputs j count a few short valid.1, emittable inputs j count b few short valid.2)

-- valid definitions can be emitted if there are at most 33 inputs and 254 definitions
pub all_emittable : (inputs j count : ℕ) (ds : List Tree) → inputs ≤ 33 → count ≤ 254 → j + length ds ≤ count → AreValid inputs j count ds
    → AllEmittable j ds
all_emittable inputs j count [] few short within valid = tt
all_emittable inputs j count (d ∷ ds) few short within valid = (
  omega arith,
  emittable inputs (j + 1) count d few short valid.0,
  all_emittable inputs (j + 1) count ds few short (omega arith) valid.1,
)
