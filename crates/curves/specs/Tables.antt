-- The text that `curve` prints for a job: a table for each pair of types, or for one pair, with the potential as it is
-- computed, and bounds on its distance from the formula over exact numbers.
use Rattle.std.specs.Prelude.{◌≡◌, ◌≢◌, ◌⊎◌, ◌<◌, ◌+◌, ◌*◌, ◌/◌, ◌==◌, ◌&&◌, ℕ, zero, suc, true, false, if◌then◌else◌, ℤ, pos, ◌+ℤ◌, ◌-ℤ◌, unsigned_abs, List, [], ◌++◌, length, map, slice_get, slice_index_or, Option, Some, None, IfSome, Ok, codes}
use Rattle.std.specs.Int.{int_max}
use Rattle.derivative.specs.Derive.{slope_program}
use Rattle.derivative.specs.DualNumbers.{IsScoped}
use Rattle.derivative.specs.Slope.{slope_of}
use Rattle.energy_program.specs.Programs.{Trees}
use Rattle.energy_program.specs.Tree.{substituted}
use Rattle.energy_program.specs.Value.{value_of}
use Rattle.fixed.specs.Fractions.{bits_of}
use Rattle.fixed.specs.declared.constants.Constant.{Constant}
use Rattle.job.specs.Values.{JobValue}
use Rattle.kernel_code.specs.Tables.{inputs_of}
use Rattle.interval_domain.specs.Ranges.{Range, range}
use Rattle.potential.specs.Energies.{job_program}
use Rattle.potential.specs.EnergyKernels.{HasNoEnergyKernel, IsEnergyKernel}
use Rattle.potential.specs.Progress.{slices_of}
use Rattle.potential.specs.Tables.{name_of_type, no_type, table_of}
use Rattle.potential.specs.Verdicts.{HasNoSlopeKernel, IsSlopeKernel}
use Rattle.potential.specs.declared.faults.EnergyFault.{EnergyFault}
use Rattle.verifier.specs.Kernels.{Kernel}
use Rattle.curve_lines.specs.Bodies.{IsBodyText}
use Rattle.curve_lines.specs.Rows.{has_grid, is_large}
use Rattle.curve_lines.specs.declared.columns.CurveColumns.{CurveColumns}
use Rattle.curve_lines.specs.declared.columns.CurveColumns.TheVariants.{All, Energy, Slope}
use Rattle.curve_lines.specs.declared.rows.Row.{Row}
use Rattle.curves.specs.Grids.{grid_at}
use Rattle.curves.specs.Slices.{AreBoundsOver, BoundsView, bounds_view, jumps_over}
use Rattle.curves.specs.declared.slices.Column.TheVariants as column
use Rattle.curves.specs.declared.plans.CurvePlan.{CurvePlan}

-- ---- distances

-- The distance of row i of the rows from 0 to n: evenly from the core to the last distance below the cutoff, rounded
-- down to a raw value.
abbrev pub distance_of : JobValue → (points i : ℕ) → ℤ
distance_of j points i = j.core +ℤ pos (unsigned_abs (j.cutoff -ℤ j.core -ℤ pos 1) * i / points)

-- The distances that row i covers: from its own up to the one before the next row's, and of the last row its own. If
-- two rows have the same distance, the range has it too.
abbrev pub distances_of : JobValue → (points i : ℕ) → Range
distances_of j points i =
    range (distance_of j points i)
    (if i == points then distance_of j points i
    else int_max (distance_of j points i) (distance_of j points (suc i) -ℤ pos 1))

-- the distances of all rows: from the core to the last one below the cutoff
abbrev pub all_distances : JobValue → Range
all_distances j = range j.core (j.cutoff -ℤ pos 1)

-- ---- rows

-- the parameters of a type of the job, as they were read
abbrev pub constants_of : JobValue → (a : ℕ) → List Constant
constants_of j a = (slice_index_or j.types a no_type).values

-- the inputs of a pair of types besides the distance, as they were read
abbrev pub others_of : JobValue → (a b : ℕ) → List Constant
others_of j a b = constants_of j a ++ (constants_of j b ++ map (λ g. g.value) j.globals)

-- the bounds of a row
abbrev pub bounds_in : Row → BoundsView
bounds_in row = bounds_view row.energy_error row.slope_error

-- if the columns have the grid, the change of the slope from a distance to one unit above it; else none
abbrev pub IsGridOf : JobValue → Trees → CurveColumns → (others : List Constant) → (distance : ℤ) → Option ℕ → Type 0
IsGridOf j program columns others distance grid = (slope : Trees) × (slope_program (bits_of j.frac) program ≡ Ok slope)
    × (grid ≡ (if has_grid columns then grid_at (bits_of j.frac) slope others distance else None))

-- Row i of the rows from 0 to n for the types a and b: the values of the energy and of its slope, as the program
-- computes them, at the row's distance, and bounds on their errors at all distances that the row covers. Of a large bound
-- the row has whether it is a jump. If the plan has the grid, the row has a bound on the part of the slope's error that no
-- spelling of the formula avoids.
pub record IsRow (j : JobValue) (program : Trees) (plan : CurvePlan) (a b i : ℕ) (row : Row) : Type 0 where
  pub distance : row.distance ≡ distance_of j plan.points i
  pub energy : value_of (bits_of j.frac) (inputs_of (table_of j) a b row.distance) (substituted program.0 program.1) ≡ Some row.energy
  pub slope : slope_of (bits_of j.frac) (inputs_of (table_of j) a b row.distance) (substituted program.0 program.1) ≡ Some row.slope
  pub bounds : AreBoundsOver (bits_of j.frac) program (others_of j a b) (distances_of j plan.points i) (bounds_in row)
  pub energy_jumps : row.energy_jumps ≡ (is_large row.energy row.energy_error
      && jumps_over (bits_of j.frac) program (others_of j a b) (all_distances j) column.Energy bounds.energy.1.range)
  pub slope_jumps : row.slope_jumps ≡ (is_large row.slope row.slope_error
      && jumps_over (bits_of j.frac) program (others_of j a b) (all_distances j) column.Slope bounds.slope.1.range)
  pub grid : IsGridOf j program plan.columns (others_of j a b) row.distance row.slope_grid

-- the rows from 0 to n of the table for the types a and b, in order
pub record AreRows (j : JobValue) (program : Trees) (plan : CurvePlan) (a b : ℕ) (rows : List Row) : Type 0 where
  pub count : length rows ≡ suc plan.points
  pub each : (i : ℕ) (row : Row) → slice_get rows i ≡ Some row → IsRow j program plan a b i row

-- ---- tables

-- the line of the names of the types
abbrev pub names_text : (first second : List ℕ) → List ℕ
names_text first second = codes "# " ++ (first ++ (codes " " ++ (second ++ codes "\n")))

-- the names and units of the columns
abbrev pub columns_text : CurveColumns → List ℕ
columns_text (All false) = codes "# r/nm energy/(kJ/mol) energy-error slope/(kJ/mol/nm) slope-error\n"
columns_text (All true) = codes "# r/nm energy/(kJ/mol) energy-error slope/(kJ/mol/nm) slope-error slope-grid\n"
columns_text Energy = codes "# r/nm energy/(kJ/mol) energy-error\n"
columns_text (Slope false) = codes "# r/nm slope/(kJ/mol/nm) slope-error\n"
columns_text (Slope true) = codes "# r/nm slope/(kJ/mol/nm) slope-error slope-grid\n"

-- the body of the table of a pair of types
pub record IsTableBody (j : JobValue) (program : Trees) (plan : CurvePlan) (a b : ℕ) (body : List ℕ) : Type 0 where
  pub rows : List Row
  pub are_rows : AreRows j program plan a b rows
  pub is_body : IsBodyText (bits_of j.frac) plan.columns rows body

-- the line of the names of the types with these numbers
abbrev pub pair_line : JobValue → (a b : ℕ) → List ℕ
pair_line j a b = names_text (name_of_type j a) (name_of_type j b)

-- the table of a pair of types with this body: the line of their names, the line of the columns, and the body
abbrev pub table_text : JobValue → CurvePlan → (a b : ℕ) → (body : List ℕ) → List ℕ
table_text j plan a b body = pair_line j a b ++ (columns_text plan.columns ++ body)

-- the table of a pair of types
pub record IsTable (j : JobValue) (program : Trees) (plan : CurvePlan) (a b : ℕ) (text : List ℕ) : Type 0 where
  pub body : List ℕ
  pub is_body : IsTableBody j program plan a b body
  pub is : text ≡ table_text j plan a b body

-- two empty lines, by which gnuplot separates tables
abbrev pub between_tables : List ℕ
between_tables = codes "\n\n"

-- The tables of the types a and b, and of the types b and a. If they have the same body, one table has the names of both
-- pairs. Otherwise each pair has a table.
pub data AreBothTables (j : JobValue) (program : Trees) (plan : CurvePlan) (a b : ℕ) : List ℕ → Type 0 where
  one : {body : List ℕ} → IsTableBody j program plan a b body → IsTableBody j program plan b a body
      → AreBothTables j program plan a b (pair_line j a b ++ table_text j plan b a body)
  two : {first second : List ℕ} → IsTableBody j program plan a b first → IsTableBody j program plan b a second → first ≢ second
      → AreBothTables j program plan a b (table_text j plan a b first ++ (between_tables ++ table_text j plan b a second))

-- two empty lines before each table but the first
abbrev pub separator : ℕ → List ℕ
separator zero = []
separator (suc p) = between_tables

-- The first tables, and their text: all tables of the types before a, and the tables of the type a with itself and with
-- the types after it, up to the type b. The first type of a pair is the type of the atom with the lower number.
pub data AreTables (j : JobValue) (program : Trees) (plan : CurvePlan) : (a b : ℕ) → List ℕ → Type 0 where
  none : AreTables j program plan 0 0 []
  own : {a : ℕ} {text table : List ℕ} → AreTables j program plan a a text → a < length j.types → IsTable j program plan a a table
      → AreTables j program plan a (suc a) (text ++ (separator a ++ table))
  both : {a b : ℕ} {text tables : List ℕ} → AreTables j program plan a b text → a < b → b < length j.types
      → AreBothTables j program plan a b tables → AreTables j program plan a (suc b) (text ++ (between_tables ++ tables))
  next : {a : ℕ} {text : List ℕ} → AreTables j program plan a (length j.types) text → AreTables j program plan (suc a) (suc a) text

-- the table of the pair of types with these numbers; without them, the tables of all pairs
abbrev pub AreTablesOf : JobValue → Trees → CurvePlan → (pair : Option (ℕ × ℕ)) → List ℕ → Type 0
AreTablesOf j program plan None text = AreTables j program plan (length j.types) (length j.types) text
AreTablesOf j program plan (Some (a, b)) text = IsTable j program plan a b text

-- the number of pairs of types whose rows are computed
abbrev pub table_count : JobValue → (pair : Option (ℕ × ℕ)) → ℕ
table_count j None = length j.types * length j.types
table_count j (Some pair) = 1

-- the numbers of a pair, if there is one, are those of types of the job
abbrev pub IsPairOf : JobValue → (pair : Option (ℕ × ℕ)) → Type 0
IsPairOf j pair = IfSome pair (λ (p : ℕ × ℕ). (p.0 < length j.types) × (p.1 < length j.types))

-- The code of a job's slope and the code of its energy itself are accepted, and `Are` holds of the energy's program.
pub record OfPotential (j : JobValue) (Are : Trees → Type 0) : Type 0 where
  pub slope : Kernel
  pub is_slope : IsSlopeKernel j slope
  pub energy : Kernel
  pub is_energy : IsEnergyKernel j energy
  pub program : Trees
  pub its : job_program j ≡ Ok program
  pub inputs : ℕ
  pub scoped : IsScoped inputs program
  pub tables : Are program

-- the text of a job's potential according to a plan
abbrev pub IsCurve : JobValue → CurvePlan → (text : List ℕ) → Type 0
IsCurve j plan text = OfPotential j (λ program. AreTablesOf j program plan plan.pair text)

-- the number of parts of a curve: the slices of the slope's code, the slices of the energy's code, and the rows of all
-- pairs of types
abbrev pub curve_parts : JobValue → CurvePlan → ℕ
curve_parts j plan = 2 * slices_of j + table_count j plan.pair * (plan.points + 1)

-- why a job has no curve: its slope's code isn't accepted; or it is, and the code of the energy itself isn't
abbrev pub HasNoCurve : {A : Type 0} → JobValue → EnergyFault A → Type 0
HasNoCurve j f = HasNoSlopeKernel j f ⊎ ((k : Kernel) × IsSlopeKernel j k × HasNoEnergyKernel j f)
