-- The body of a table, before its text is put together; and tables, while they are written.
use Rattle.std.specs.Prelude.{◌≡◌, ℕ, List, Result, Ok, Err}
use Rattle.energy_program.specs.Programs.{Trees, trees_of}
use Rattle.job.specs.Values.{JobValue}
use Rattle.job.specs.Views.{job_value}
use Rattle.curve_lines.specs.Bodies.{BodyView, HasRows}
use Rattle.curve_lines.specs.declared.rows.Row.{Row}
use Rattle.fallible.specs.Out.{Appends, AppendsBeginning, Output}
use Rattle.fallible.specs.declared.failure.Failure.{Failure}
use Rattle.fallible.specs.declared.failure.Failure.TheVariants.{Memory, Refused}
use Rattle.fallible.specs.declared.output.OutFault.{OutFault}
use Rattle.curves.specs.Potentials.{IsPotentialOf}
use Rattle.curves.specs.Tables.{AreRows, AreTables}
use Rattle.curves.specs.Writing.{CutsSome, WroteSome}
use Rattle.curves.specs.declared.planned.PlannedTables.{PlannedTables}
use Rattle.curves.specs.declared.plans.CurvePlan.{CurvePlan}

-- the job of planned tables, and the program of its energy
abbrev pub job_of : {A : Type 0} → PlannedTables A → JobValue
job_of t = job_value t.job.now

abbrev pub program_of : {A : Type 0} → PlannedTables A → Trees
program_of t = trees_of t.potential.now.slope.energy

-- the potential of planned tables is the job's
abbrev pub IsPlanned : {A : Type 0} → PlannedTables A → Type 0
IsPlanned t = IsPotentialOf (job_of t) t.potential.now

-- the body has all rows of the table for the types a and b
pub record HasBody (j : JobValue) (program : Trees) (plan : CurvePlan) (a b : ℕ) (body : BodyView) : Type 0 where
  pub rows : List Row
  pub are_rows : AreRows j program plan a b rows
  pub has : HasRows body rows
  pub frac : body.frac ≡ j.frac
  pub columns : body.columns ≡ plan.columns

-- ---- tables that are written one after another

-- The result of writing this text, for which memory may run out before the write.
abbrev pub PutsText : {X : Type 0} → (text : List ℕ) → (before after : Output) → Result X (Failure OutFault) → Type 0
PutsText text before after (Ok x) = Appends before after text
PutsText text before after (Err Memory) = after ≡ before
PutsText text before after (Err (Refused f)) = AppendsBeginning before after text

-- the result of writing a text of this kind
abbrev pub PutsSome : {X : Type 0} → (Is : List ℕ → Type 0) → (before after : Output) → Result X (Failure OutFault) → Type 0
PutsSome Is before after (Ok x) = WroteSome Is (Appends before after)
PutsSome Is before after (Err f) = CutsSome Is before after f

module _ (j : JobValue) (program : Trees) (plan : CurvePlan) where
  -- the first tables, up to those of the types a and b, were written
  abbrev pub WroteTables : (a b : ℕ) → (before after : Output) → Type 0
  WroteTables a b before after = WroteSome (AreTables j program plan a b) (Appends before after)
