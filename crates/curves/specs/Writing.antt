-- Tables of a job's potential that are written as they are made: those that are whole, and the rows that are computed, if
-- not all are there.
use Rattle.std.specs.Prelude.{◌≡◌, ◌⊎◌, ◌<◌, ◌≤◌, ◌+◌, ◌-◌, ◌*◌, ◌++◌, ℕ, List, length, Option, Some, None}
use Rattle.energy_program.specs.Programs.{Trees}
use Rattle.fallible.specs.Out.{Appends, AppendsBeginning, Output}
use Rattle.fallible.specs.declared.failure.Failure.{Failure}
use Rattle.fallible.specs.declared.failure.Failure.TheVariants.{Memory, Refused}
use Rattle.fallible.specs.declared.output.OutFault.{OutFault}
use Rattle.job.specs.Values.{JobValue}
use Rattle.potential.specs.Progress.{slices_of}
use Rattle.curves.specs.Progress.{IsRefusedAfter}
use Rattle.curves.specs.Tables.{AreBothTables, AreTables, HasNoCurve, IsTable, OfPotential, between_tables, separator}
use Rattle.curves.specs.declared.faults.CurveFault.{CurveFault}
use Rattle.curves.specs.declared.faults.CurveFault.TheVariants as fault
use Rattle.curves.specs.declared.plans.CurvePlan.{CurvePlan}

-- ---- rows

-- the number of tables of the types before a, if each ordered pair of types has one
abbrev pub tables_before : (types a : ℕ) → ℕ
tables_before types a = types * types - (types - a) * (types - a)

-- the number of rows that are computed before those of the types a and b: a type with itself has one table, two types have
-- one for each order
abbrev pub rows_before : JobValue → CurvePlan → (a b : ℕ) → ℕ
rows_before j plan a b = (tables_before (length j.types) a + (2 * (b - a) - 1)) * (plan.points + 1)

-- The number n of rows that are computed before a failure: if memory ran out, from the least number to the most; if a
-- write failed, the most.
abbrev pub StopsAt : (least most : ℕ) → Failure OutFault → (n : ℕ) → Type 0
StopsAt least most Memory n = (least ≤ n) × (n ≤ most)
StopsAt least most (Refused f) n = n ≡ most

-- ---- tables

-- a text of this kind was written (`Wrote`)
abbrev pub WroteSome : (Is : List ℕ → Type 0) → (Wrote : List ℕ → Type 0) → Type 0
WroteSome Is Wrote = (text : List ℕ) × Is text × Wrote text

-- What a failure leaves of a text of this kind: if memory ran out, none of it was written; if a write failed, a prefix.
abbrev pub CutsSome : (Is : List ℕ → Type 0) → (before after : Output) → Failure OutFault → Type 0
CutsSome Is before after Memory = after ≡ before
CutsSome Is before after (Refused f) = WroteSome Is (AppendsBeginning before after)

-- the text of the table of a type with itself, or of the tables of two types, behind the tables before
pub data AreNext (j : JobValue) (program : Trees) (plan : CurvePlan) (a b : ℕ) : List ℕ → Type 0 where
  own : {table : List ℕ} → a ≡ b → IsTable j program plan a a table → AreNext j program plan a b (separator a ++ table)
  both : {tables : List ℕ} → a < b → AreBothTables j program plan a b tables → AreNext j program plan a b (between_tables ++ tables)

-- The tables of all pairs of types after a failure, and the number n of rows that are computed before it. The tables before
-- those of some types a and b are written, each whole. If memory ran out, it did at a row of the tables of a and b, or
-- after their last, and the output has no byte of them. If a write failed, all their rows are computed, and the output has
-- a prefix of them.
pub record AreCut (j : JobValue) (program : Trees) (plan : CurvePlan) (before after : Output) (failure : Failure OutFault) (n : ℕ)
    : Type 0 where
  pub a : ℕ
  pub b : ℕ
  pub tables : List ℕ
  pub between : Output
  pub order : a ≤ b
  pub within : b < length j.types
  pub are : AreTables j program plan a b tables
  pub wrote : Appends before between tables
  pub cut : CutsSome (AreNext j program plan a b) between after failure
  pub stops : StopsAt (rows_before j plan a b) (rows_before j plan a (b + 1)) failure n

-- likewise the table of the pair of types with these numbers; without them, the tables of all pairs
abbrev pub AreCutOf : JobValue → Trees → CurvePlan → (pair : Option (ℕ × ℕ)) → (before after : Output) → Failure OutFault → (n : ℕ) → Type 0
AreCutOf j program plan None before after failure n = AreCut j program plan before after failure n
AreCutOf j program plan (Some (a, b)) before after failure n =
    CutsSome (IsTable j program plan a b) before after failure × StopsAt 0 (plan.points + 1) failure n

-- ---- a curve

-- The tables of a job's potential according to a plan after a failure, and the number n of parts that are reported before
-- it: all slices of both codes, and some rows.
abbrev pub IsCurveCut : JobValue → CurvePlan → (before after : Output) → Failure OutFault → (n : ℕ) → Type 0
IsCurveCut j plan before after failure n = OfPotential j (λ program.
    (rows : ℕ) × AreCutOf j program plan plan.pair before after failure rows × (n ≡ 2 * slices_of j + rows))

-- Why not all tables were written, the output after the fault, and the number n of parts that are reported before it. A
-- job without a curve leaves the output unchanged. So does memory that runs out among the slices of both codes.
abbrev pub IsCurveUnwritten : {A : Type 0} → JobValue → CurvePlan → (before after : Output) → CurveFault A → (n : ℕ) → Type 0
IsCurveUnwritten j plan before after (fault.Rejected f) n = HasNoCurve j f × (after ≡ before) × IsRefusedAfter j f n
IsCurveUnwritten j plan before after fault.Memory n =
    ((after ≡ before) × (n ≤ 2 * slices_of j)) ⊎ IsCurveCut j plan before after Memory n
IsCurveUnwritten j plan before after (fault.Out f) n = IsCurveCut j plan before after (Refused f) n
