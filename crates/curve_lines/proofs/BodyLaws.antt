-- Bodies of tables: one more row, and the text of all.
use Rattle.std.proofs.Common.{◌≡◌, ℕ, ◌∙◌, List, [], ◌∷◌, ◌++◌, flat_map, None, subst, sym, ap, append_assoc, append-nil}
use Rattle.std.proofs.lemmas.List.{flat_map_more}
use Rattle.fixed.specs.Fractions.{bits_of}
use Rattle.curve_lines.specs.Bodies.{BodyView, HasRows, IsBodyText}
use Rattle.curve_lines.specs.Rows.{AreRowTexts, IsRowText, missing_lines}
use Rattle.curve_lines.specs.SoFar.{with_row}
use Rattle.curve_lines.specs.Summaries.{IsLastLine}
use Rattle.curve_lines.specs.declared.columns.CurveColumns.{CurveColumns}
use Rattle.curve_lines.specs.declared.rows.Row.{Row}
use Rattle.curve_lines.proofs.LineLaws.{joined}
use Rattle.curve_lines.proofs.SummaryLaws.{more_summary, no_summary}

-- the lines of rows and one more
more_texts : (bits : ℕ) (columns : CurveColumns) (rows : List Row) (row : Row) (text line : List ℕ) → AreRowTexts bits columns rows text
    → IsRowText bits columns row line → AreRowTexts bits columns (rows ++ (row ∷ [])) (text ++ line)
more_texts bits columns _ row _ line AreRowTexts.none is =
    subst (AreRowTexts bits columns (row ∷ [])) (append-nil line) (AreRowTexts.more is AreRowTexts.none)
more_texts bits columns _ row _ line (AreRowTexts.more {row = first} {rows = rows} {line = start} {text = text} one others) is =
    subst (AreRowTexts bits columns (first ∷ (rows ++ (row ∷ [])))) (sym (append_assoc start text line))
    (AreRowTexts.more one (more_texts bits columns rows row text line others is))

-- a body without rows
pub no_rows : (b : BodyView) → b.lines ≡ [] → b.missing ≡ [] → b.energy ≡ record { greatest = None; without = 0 }
    → b.slope ≡ record { greatest = None; without = 0 } → HasRows b []
no_rows b lines missing energy slope = record {
  lines = subst (AreRowTexts (bits_of b.frac) b.columns []) (sym lines) AreRowTexts.none;
  missing = missing;
  energy = no_summary (λ row. row.energy_error) b.energy energy;
  slope = no_summary (λ row. row.slope_error) b.slope slope;
}

-- a body with one more row
pub one_more : (b c : BodyView) (row : Row) → c.frac ≡ b.frac → c.columns ≡ b.columns
    → (line : List ℕ) × IsRowText (bits_of b.frac) b.columns row line × (c.lines ≡ b.lines ++ line)
    → c.missing ≡ b.missing ++ missing_lines (bits_of b.frac) b.columns row → c.energy ≡ with_row b.energy row.distance row.energy_error
    → c.slope ≡ with_row b.slope row.distance row.slope_error → (rows : List Row) → HasRows b rows → HasRows c (rows ++ (row ∷ []))
one_more b c row frac columns put lacking e s rows has =
    let lines_of = missing_lines (bits_of b.frac) b.columns in
    record {
      lines = rw frac (rw columns (rw put.2 (more_texts (bits_of b.frac) b.columns rows row b.lines put.0 has.lines put.1)));
      missing = rw frac (rw columns (lacking ∙ ap (λ t. t ++ lines_of row) has.missing ∙ flat_map_more lines_of [] rows row));
      energy = more_summary (λ row. row.energy_error) rows row b.energy c.energy has.energy e;
      slope = more_summary (λ row. row.slope_error) rows row b.slope c.slope has.slope s;
    }

-- the text of a body, from the texts after each of its parts
pub body_text : (b : BodyView) (t0 t1 t2 missing : List ℕ) → t0 ≡ b.lines → t1 ≡ t0 ++ missing → missing ≡ b.missing
    → (last : List ℕ) × IsLastLine (bits_of b.frac) b.columns b.energy b.slope last × (t2 ≡ t1 ++ last)
    → (rows : List Row) → HasRows b rows → IsBodyText (bits_of b.frac) b.columns rows t2
body_text b t0 t1 t2 missing lines_are lacking missing_are last rows has =
    let lines_of = missing_lines (bits_of b.frac) b.columns in
    let without = flat_map lines_of rows in
    let missing_is : missing ≡ without = missing_are ∙ has.missing in record {
      lines = b.lines;
      energy = b.energy;
      slope = b.slope;
      last = last.0;
      are_lines = has.lines;
      of_energy = has.energy;
      of_slope = has.slope;
      is_last = last.1;
      is = joined b.lines t1 t2 without last.0 (lacking ∙ ap (λ t. t ++ missing) lines_are ∙ ap (λ m. b.lines ++ m) missing_is) last.2;
    }
