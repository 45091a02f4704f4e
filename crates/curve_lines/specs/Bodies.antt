-- The body of a table: the lines of its rows, lines for errors without a bound, and the line of the greatest bounds.
use Rattle.std.specs.Prelude.{◌≡◌, ℕ, List, ◌++◌, flat_map}
use Rattle.fixed.specs.Fractions.{bits_of}
use Rattle.fixed.specs.declared.frac.Frac.{Frac}
use Rattle.curve_lines.specs.Rows.{AreRowTexts, missing_lines}
use Rattle.curve_lines.specs.Summaries.{IsLastLine, IsSummaryOf}
use Rattle.curve_lines.specs.declared.columns.CurveColumns.{CurveColumns}
use Rattle.curve_lines.specs.declared.rows.Row.{Row}
use Rattle.curve_lines.specs.declared.summaries.Summary.{Summary}

-- what a body has of its rows while they are added: how numbers are written and which columns, the lines of the rows, the
-- lines for errors without a bound, and the summaries of the errors
pub record BodyView : Type 0 where
  pub frac : Frac
  pub columns : CurveColumns
  pub lines : List ℕ
  pub missing : List ℕ
  pub energy : Summary
  pub slope : Summary

abbrev pub body_view : (frac : Frac) → (columns : CurveColumns) → (lines missing : List ℕ) → (energy slope : Summary) → BodyView
body_view frac columns lines missing energy slope =
    record { frac = frac; columns = columns; lines = lines; missing = missing; energy = energy; slope = slope }

-- the body has these rows
pub record HasRows (b : BodyView) (rows : List Row) : Type 0 where
  pub lines : AreRowTexts (bits_of b.frac) b.columns rows b.lines
  pub missing : b.missing ≡ flat_map (missing_lines (bits_of b.frac) b.columns) rows
  pub energy : IsSummaryOf rows (λ row. row.energy_error) b.energy
  pub slope : IsSummaryOf rows (λ row. row.slope_error) b.slope

-- The text of a body with these rows: the lines of the rows, in order a line for each error without a bound, and the line
-- of the greatest bounds.
pub record IsBodyText (bits : ℕ) (columns : CurveColumns) (rows : List Row) (text : List ℕ) : Type 0 where
  pub lines : List ℕ
  pub energy : Summary
  pub slope : Summary
  pub last : List ℕ
  pub are_lines : AreRowTexts bits columns rows lines
  pub of_energy : IsSummaryOf rows (λ row. row.energy_error) energy
  pub of_slope : IsSummaryOf rows (λ row. row.slope_error) slope
  pub is_last : IsLastLine bits columns energy slope last
  pub is : text ≡ lines ++ (flat_map (missing_lines bits columns) rows ++ last)
