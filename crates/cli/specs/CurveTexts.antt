-- The tables that `curve` prints: the columns and the types that its arguments request of a job.
use Rattle.command_line.specs.Commands.{CurveView}
use Rattle.std.specs.Prelude.{◌≡◌, ◌⊎◌, ◌<◌, ℕ, Bool, true, false, List, length, Option, Some, None}
use Rattle.curve_lines.specs.declared.columns.CurveColumns.{CurveColumns}
use Rattle.curve_lines.specs.declared.columns.CurveColumns.TheVariants.{All, Energy, Slope}
use Rattle.curves.specs.declared.plans.CurvePlan.{CurvePlan}
use Rattle.engine.specs.RunSpecification.{type_at}
use Rattle.job.specs.JobText.{IsJobText, limits}
use Rattle.job.specs.Values.{JobValue}

-- ---- the types that `--types` names

-- the names of two types, if they are given
abbrev pub Names : Type 0
Names = Option (List ℕ × List ℕ)

-- The type with this number, from 0, has this name. No other type of the job has it.
pub record IsTypeNamed (j : JobValue) (name : List ℕ) (number : ℕ) : Type 0 where
  pub within : number < length j.types
  pub is : (type_at j number).name ≡ name

-- no type of the job has this name
abbrev pub LacksType : JobValue → (name : List ℕ) → Type 0
LacksType j name = (number : ℕ) → IsTypeNamed j name number → ⊥

-- the types with these numbers have these names, in order; there are numbers only if there are names
abbrev pub IsPairNamed : JobValue → Names → (pair : Option (ℕ × ℕ)) → Type 0
IsPairNamed j None None = Unit {0}
IsPairNamed j (Some names) (Some pair) = IsTypeNamed j names.0 pair.0 × IsTypeNamed j names.1 pair.1
IsPairNamed j _ _ = ⊥

-- each of the names, if names are given, is a type's
abbrev pub HasPair : JobValue → Names → Type 0
HasPair j names = (pair : Option (ℕ × ℕ)) × IsPairNamed j names pair

-- one of the names is no type's
abbrev pub LacksPair : JobValue → Names → Type 0
LacksPair j None = ⊥
LacksPair j (Some names) = LacksType j names.0 ⊎ LacksType j names.1

-- this is the first of the names that is no type's
abbrev pub IsFirstLacking : JobValue → Names → (name : List ℕ) → Type 0
IsFirstLacking j None name = ⊥
IsFirstLacking j (Some names) name = (LacksType j name × (name ≡ names.0))
    ⊎ (((number : ℕ) × IsTypeNamed j names.0 number) × LacksType j name × (name ≡ names.1))

-- the text is a job's, and each of the names, if names are given, is the name of a type of the job
pub record HasNamedTypes (job : List ℕ) (names : Names) : Type 0 where
  pub said : JobValue
  pub job_text : IsJobText limits job said
  pub has : HasPair said names

-- ---- the tables

-- the columns: those of the energy with only `--energy`, those of the slope with only `--slope`, otherwise all; with `--grid`
-- also the grid's, which isn't a column of the energy
abbrev pub columns_shown : (energy slope grid : Bool) → CurveColumns
columns_shown true false grid = Energy
columns_shown false true grid = Slope grid
columns_shown _ _ grid = All grid

-- the plan has the number of rows, the columns and the types that the arguments request
pub record IsPlanOf (j : JobValue) (c : CurveView) (plan : CurvePlan) : Type 0 where
  pub points : plan.points ≡ c.points
  pub columns : plan.columns ≡ columns_shown c.energy c.slope c.grid
  pub pair : IsPairNamed j c.types plan.pair

-- the statement `Holds` is true of the plan that the arguments request
abbrev pub OfPlan : JobValue → CurveView → (Holds : CurvePlan → Type 0) → Type 0
OfPlan j c Holds = (plan : CurvePlan) × IsPlanOf j c plan × Holds plan

-- likewise of the job of a text and of the plan
abbrev pub OfTables : (job : List ℕ) → CurveView → (Holds : JobValue → CurvePlan → Type 0) → Type 0
OfTables job c Holds = (said : JobValue) × IsJobText limits job said × OfPlan said c (Holds said)
