-- Summaries of a table's columns of errors, and the line that has them.
use Rattle.std.specs.Prelude.{◌≡◌, ◌≢◌, ◌≤◌, ◌<◌, ℕ, zero, suc, ℤ, List, [], ◌∷◌, ◌++◌, slice_get, count_by, decimal, Option, Some, None, is_none, IfSome, codes}
use Rattle.curve_lines.specs.Numbers.{IsBoundText, value_text}
use Rattle.curve_lines.specs.Rows.{energy_name, slope_name}
use Rattle.curve_lines.specs.declared.columns.CurveColumns.{CurveColumns}
use Rattle.curve_lines.specs.declared.columns.CurveColumns.TheVariants.{All, Energy, Slope}
use Rattle.curve_lines.specs.declared.rows.Row.{Row}
use Rattle.curve_lines.specs.declared.summaries.Summary.{Summary}

-- The greatest bound of some rows, and the distance of the first row that has it: the bound of each row that has one is
-- at most the greatest.
pub record IsGreatestBound (rows : List Row) (bound_of : Row → Option ℕ) (greatest : ℕ) (distance : ℤ) : Type 0 where
  pub first : ℕ
  pub row : Row
  pub its : slice_get rows first ≡ Some row
  pub has : bound_of row ≡ Some greatest
  pub at : row.distance ≡ distance
  pub most : (i : ℕ) (other : Row) → slice_get rows i ≡ Some other → IfSome (bound_of other) (λ bound. bound ≤ greatest)
  pub before : (i : ℕ) (other : Row) → i < first → slice_get rows i ≡ Some other → bound_of other ≢ Some greatest

-- a greatest bound with its distance, if there is one
abbrev pub Greatest : Type 0
Greatest = Option (ℕ × ℤ)

-- the greatest bound of the rows that have one; none if no row has a bound
abbrev pub IsGreatestOf : (rows : List Row) → (bound_of : Row → Option ℕ) → Greatest → Type 0
IsGreatestOf rows bound_of None = (i : ℕ) (row : Row) → slice_get rows i ≡ Some row → bound_of row ≡ None
IsGreatestOf rows bound_of (Some (greatest, distance)) = IsGreatestBound rows bound_of greatest distance

-- the summary of a column of errors: the greatest bound, and the number of rows without a bound
pub record IsSummaryOf (rows : List Row) (bound_of : Row → Option ℕ) (s : Summary) : Type 0 where
  pub greatest : IsGreatestOf rows bound_of s.greatest
  pub without : s.without ≡ count_by (λ row. is_none (bound_of row)) rows

-- ---- the last line

-- the greatest bound and its distance, or `-` if no row has a bound
abbrev pub IsGreatestText : (bits : ℕ) → Greatest → List ℕ → Type 0
IsGreatestText bits None text = text ≡ codes "-"
IsGreatestText bits (Some (bound, at)) text =
    (number : List ℕ) × IsBoundText bits (Some bound) number × (text ≡ number ++ (codes " at " ++ value_text bits at))

-- the number of rows without a bound, unless it is 0
abbrev pub without_text : ℕ → List ℕ
without_text zero = []
without_text (suc zero) = codes " (1 row without)"
without_text (suc (suc n)) = codes " (" ++ (decimal (suc (suc n)) ++ codes " rows without)")

-- the summary of a column of errors, after the column's name
abbrev pub IsNamed : (bits : ℕ) → (name : List ℕ) → Summary → List ℕ → Type 0
IsNamed bits name s text = (number : List ℕ) × IsGreatestText bits s.greatest number
    × (text ≡ name ++ (32 ∷ (number ++ without_text s.without)))

-- the summary of each column of errors
abbrev pub AreNamed : (bits : ℕ) → CurveColumns → (energy slope : Summary) → List ℕ → Type 0
AreNamed bits (All grid) energy slope text = (first : List ℕ) × (second : List ℕ) × IsNamed bits energy_name energy first
    × IsNamed bits slope_name slope second × (text ≡ first ++ (codes ", " ++ second))
AreNamed bits Energy energy slope text = IsNamed bits energy_name energy text
AreNamed bits (Slope grid) energy slope text = IsNamed bits slope_name slope text

-- the line of the greatest bounds
abbrev pub IsLastLine : (bits : ℕ) → CurveColumns → (energy slope : Summary) → List ℕ → Type 0
IsLastLine bits columns energy slope line = (text : List ℕ) × AreNamed bits columns energy slope text
    × (line ≡ codes "# greatest " ++ (text ++ 10 ∷ []))
