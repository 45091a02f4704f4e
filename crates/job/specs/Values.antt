-- Jobs as values, independent of memory.
use Rattle.std.specs.Prelude.{ℕ, ℤ, List}
use Rattle.fixed.specs.declared.constants.Constant.{Constant}
use Rattle.fixed.specs.declared.frac.Frac.{Frac}

-- a global: its name, and its value as it was read
pub record GlobalValue : Type 0 where
  pub name : List ℕ
  pub value : Constant

-- a type: its mass is in 10^-5 u, and it has one value per parameter, as it was read
pub record TypeValue : Type 0 where
  pub name : List ℕ
  pub mass : ℕ
  pub values : List Constant

-- a job; its numbers have the fraction bits `frac`
pub record JobValue : Type 0 where
  pub frac : Frac
  pub energy : List ℕ
  pub core : ℤ
  pub cutoff : ℤ
  pub time_step : ℕ
  pub slices : ℕ
  pub parameters : List (List ℕ)
  pub globals : List GlobalValue
  pub types : List TypeValue

-- limits of the number of lines of these keys
pub record Counts : Type 0 where
  pub parameters : ℕ
  pub globals : ℕ
  pub types : ℕ
