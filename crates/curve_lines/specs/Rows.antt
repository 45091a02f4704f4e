-- The lines of a table's rows: values with bounds on their errors, the column of the grid, marks if a bound is large or a jump,
-- and a line for each error without a bound.
use Rattle.std.specs.Prelude.{◌≡◌, ◌*◌, ℕ, nat_lt, Bool, true, false, ℤ, unsigned_abs, List, [], ◌∷◌, ◌++◌, Option, Some, None, codes}
use Rattle.curve_lines.specs.Numbers.{IsBoundText, value_text}
use Rattle.curve_lines.specs.declared.columns.CurveColumns.{CurveColumns}
use Rattle.curve_lines.specs.declared.columns.CurveColumns.TheVariants.{All, Energy, Slope}
use Rattle.curve_lines.specs.declared.rows.Row.{Row}

-- ---- rows

-- a value, a blank and the bound of its error
abbrev pub IsWithError : (bits : ℕ) → (value : ℤ) → (bound : Option ℕ) → List ℕ → Type 0
IsWithError bits value bound text = (error : List ℕ) × IsBoundText bits bound error × (text ≡ value_text bits value ++ (32 ∷ error))

-- the energy and the bound of its error, the slope and the bound of its error, or both
abbrev pub AreColumns : (bits : ℕ) → CurveColumns → Row → List ℕ → Type 0
AreColumns bits (All grid) row text = (energy : List ℕ) × (slope : List ℕ) × IsWithError bits row.energy row.energy_error energy
    × IsWithError bits row.slope row.slope_error slope × (text ≡ energy ++ (32 ∷ slope))
AreColumns bits Energy row text = IsWithError bits row.energy row.energy_error text
AreColumns bits (Slope grid) row text = IsWithError bits row.slope row.slope_error text

-- whether a row's last column is the grid's
abbrev pub has_grid : CurveColumns → Bool
has_grid (All grid) = grid
has_grid Energy = false
has_grid (Slope grid) = grid

-- the column of the grid, behind a blank, if the table has it
abbrev pub IsGridText : (bits : ℕ) → (grid : Bool) → Row → List ℕ → Type 0
IsGridText bits false row text = text ≡ []
IsGridText bits true row text = (number : List ℕ) × IsBoundText bits row.slope_grid number × (text ≡ 32 ∷ number)

-- whether a value's bound exceeds a thousandth of the value's magnitude; 256 error units are a unit of the value
abbrev pub is_large : (value : ℤ) → (bound : Option ℕ) → Bool
is_large value None = false
is_large value (Some bound) = nat_lt (256 * unsigned_abs value) (1000 * bound)

-- whether a value's bound is large, and not because it is a jump
abbrev pub is_only_large : (value : ℤ) → (bound : Option ℕ) → (jumps : Bool) → Bool
is_only_large value bound true = false
is_only_large value bound false = is_large value bound

-- the mark of jumps, by whether the energy and the slope have one
abbrev pub jump_mark : (energy slope : Bool) → List ℕ
jump_mark true true = codes " # jump energy-error slope-error"
jump_mark true false = codes " # jump energy-error"
jump_mark false true = codes " # jump slope-error"
jump_mark false false = []

-- the mark of large bounds, by whether the energy and the slope have one
abbrev pub large_mark : (energy slope : Bool) → List ℕ
large_mark true true = codes " # large energy-error slope-error"
large_mark true false = codes " # large energy-error"
large_mark false true = codes " # large slope-error"
large_mark false false = []

-- the marks at the end of a row, for the columns that it has
abbrev pub jumps_of : CurveColumns → Row → List ℕ
jumps_of (All grid) row = jump_mark row.energy_jumps row.slope_jumps
jumps_of Energy row = jump_mark row.energy_jumps false
jumps_of (Slope grid) row = jump_mark false row.slope_jumps

abbrev pub large_of : CurveColumns → Row → List ℕ
large_of (All grid) row = large_mark (is_only_large row.energy row.energy_error row.energy_jumps)
    (is_only_large row.slope row.slope_error row.slope_jumps)
large_of Energy row = large_mark (is_only_large row.energy row.energy_error row.energy_jumps) false
large_of (Slope grid) row = large_mark false (is_only_large row.slope row.slope_error row.slope_jumps)

abbrev pub marks_of : CurveColumns → Row → List ℕ
marks_of columns row = jumps_of columns row ++ large_of columns row

-- the line of a row: its distance, its other columns, the grid's last, and its marks
abbrev pub IsRowText : (bits : ℕ) → CurveColumns → Row → List ℕ → Type 0
IsRowText bits columns row line = (text : List ℕ) × (grid : List ℕ) × AreColumns bits columns row text
    × IsGridText bits (has_grid columns) row grid
    × (line ≡ value_text bits row.distance ++ (32 ∷ (text ++ (grid ++ (marks_of columns row ++ 10 ∷ [])))))

-- rows, and the text of their lines
pub data AreRowTexts (bits : ℕ) (columns : CurveColumns) : List Row → List ℕ → Type 0 where
  none : AreRowTexts bits columns [] []
  more : {row : Row} {rows : List Row} {line text : List ℕ} → IsRowText bits columns row line
      → AreRowTexts bits columns rows text → AreRowTexts bits columns (row ∷ rows) (line ++ text)

-- ---- errors without a bound

-- the names of the columns of errors
abbrev pub energy_name : List ℕ
energy_name = codes "energy-error"

abbrev pub slope_name : List ℕ
slope_name = codes "slope-error"

-- the line for an error without a bound, with the row's distance; no line if there is a bound
abbrev pub missing_line : (bits : ℕ) → (name : List ℕ) → (distance : ℤ) → (bound : Option ℕ) → List ℕ
missing_line bits name distance (Some bound) = []
missing_line bits name distance None = codes "# no " ++ (name ++ (codes " from " ++ (value_text bits distance ++ 10 ∷ [])))

-- the lines for a row's errors without a bound
abbrev pub missing_lines : (bits : ℕ) → CurveColumns → Row → List ℕ
missing_lines bits (All grid) row = missing_line bits energy_name row.distance row.energy_error
    ++ missing_line bits slope_name row.distance row.slope_error
missing_lines bits Energy row = missing_line bits energy_name row.distance row.energy_error
missing_lines bits (Slope grid) row = missing_line bits slope_name row.distance row.slope_error
