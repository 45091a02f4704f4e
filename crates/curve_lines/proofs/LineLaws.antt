-- Lines of a table, from the texts after each of their parts.
use Rattle.std.proofs.Common.{◌≡◌, ◌∙◌, ap, append_assoc, Bool, ℕ, ℤ, List, [], ◌∷◌, ◌++◌, Some, refl, codes}
use Rattle.curve_lines.specs.Numbers.{IsBoundText, value_text}
use Rattle.curve_lines.specs.Rows.{AreColumns, IsGridText, IsRowText, energy_name, has_grid, jumps_of, large_of, marks_of, slope_name}
use Rattle.curve_lines.specs.Summaries.{AreNamed, IsGreatestText, IsLastLine, IsNamed, without_text}
use Rattle.curve_lines.specs.declared.columns.CurveColumns.{CurveColumns}
use Rattle.curve_lines.specs.declared.columns.CurveColumns.TheVariants.{All}
use Rattle.curve_lines.specs.declared.rows.Row.{Row}
use Rattle.curve_lines.specs.declared.summaries.Summary.{Summary}

-- a text after two pieces
pub joined : (t0 t1 t2 a b : List ℕ) → t1 ≡ t0 ++ a → t2 ≡ t1 ++ b → t2 ≡ t0 ++ (a ++ b)
joined t0 t1 t2 a b first second = second ∙ ap (λ t. t ++ b) first ∙ append_assoc t0 a b

-- the line of a row
pub row_text : (bits : ℕ) (columns : CurveColumns) (row : Row) (t0 t1 t2 t3 t4 t5 t6 t7 jumps large : List ℕ)
    → t1 ≡ t0 ++ value_text bits row.distance → t2 ≡ t1 ++ (32 ∷ []) → (n : List ℕ) × AreColumns bits columns row n × (t3 ≡ t2 ++ n)
    → (n : List ℕ) × IsGridText bits (has_grid columns) row n × (t4 ≡ t3 ++ n) → t5 ≡ t4 ++ jumps → jumps ≡ jumps_of columns row
    → t6 ≡ t5 ++ large → large ≡ large_of columns row → t7 ≡ t6 ++ (10 ∷ [])
    → (line : List ℕ) × IsRowText bits columns row line × (t7 ≡ t0 ++ line)
row_text bits columns row t0 t1 t2 t3 t4 t5 t6 t7 jumps large value blank e grid put is more also last =
    let first : List ℕ = value_text bits row.distance in
    let after : List ℕ = marks_of columns row ++ (10 ∷ []) in
    let behind : List ℕ = grid.0 ++ after in
    let rest : List ℕ = e.0 ++ behind in
    let t6_is : t6 ≡ t4 ++ marks_of columns row = joined t4 t5 t6 (jumps_of columns row) (large_of columns row) (put ∙ ap (λ m. t4 ++ m) is) (more ∙ ap (λ m. t5 ++ m) also) in
    let t7_is : t7 ≡ t4 ++ after = joined t4 t6 t7 (marks_of columns row) (10 ∷ []) t6_is last in
    let behind_is : t7 ≡ t3 ++ behind = joined t3 t4 t7 grid.0 after grid.2 t7_is in (
      first ++ (32 ∷ rest),
      (e.0, grid.0, e.1, grid.1, refl),
      joined t0 t1 t7 first (32 ∷ rest) value (joined t1 t2 t7 (32 ∷ []) rest blank (joined t2 t3 t7 e.0 behind e.2 behind_is)),
    )

-- a bound and its distance
pub greatest_text : (bits bound : ℕ) (at : ℤ) (t0 t1 t2 t3 : List ℕ) → (n : List ℕ) × IsBoundText bits (Some bound) n × (t1 ≡ t0 ++ n)
    → t2 ≡ t1 ++ codes " at " → t3 ≡ t2 ++ value_text bits at
    → (number : List ℕ) × IsGreatestText bits (Some (bound, at)) number × (t3 ≡ t0 ++ number)
greatest_text bits bound at t0 t1 t2 t3 e between value =
    let mid : List ℕ = codes " at " in
    let last : List ℕ = value_text bits at in
    (e.0 ++ (mid ++ last), (e.0, e.1, refl), joined t0 t1 t3 e.0 (mid ++ last) e.2 (joined t1 t2 t3 mid last between value))

-- the summary of a column after the column's name
pub summary_text : (bits : ℕ) (name : List ℕ) (s : Summary) (t0 t1 t2 t3 t4 : List ℕ) → t1 ≡ t0 ++ name → t2 ≡ t1 ++ (32 ∷ [])
    → (n : List ℕ) × IsGreatestText bits s.greatest n × (t3 ≡ t2 ++ n) → t4 ≡ t3 ++ without_text s.without
    → (piece : List ℕ) × IsNamed bits name s piece × (t4 ≡ t0 ++ piece)
summary_text bits name s t0 t1 t2 t3 t4 named blank e without =
    let last : List ℕ = without_text s.without in
    let rest : List ℕ = e.0 ++ last in (
      name ++ (32 ∷ rest),
      (e.0, e.1, refl),
      joined t0 t1 t4 name (32 ∷ rest) named (joined t1 t2 t4 (32 ∷ []) rest blank (joined t2 t3 t4 e.0 last e.2 without)),
    )

-- the summaries of both columns of errors
pub both_summaries : (bits : ℕ) (grid : Bool) (energy slope : Summary) (t0 t1 t2 t3 : List ℕ)
    → (n : List ℕ) × IsNamed bits energy_name energy n × (t1 ≡ t0 ++ n) → t2 ≡ t1 ++ codes ", "
    → (n : List ℕ) × IsNamed bits slope_name slope n × (t3 ≡ t2 ++ n)
    → (piece : List ℕ) × AreNamed bits (All grid) energy slope piece × (t3 ≡ t0 ++ piece)
both_summaries bits grid energy slope t0 t1 t2 t3 e between s =
    let mid : List ℕ = codes ", " in
    (e.0 ++ (mid ++ s.0), (e.0, s.0, e.1, s.1, refl), joined t0 t1 t3 e.0 (mid ++ s.0) e.2 (joined t1 t2 t3 mid s.0 between s.2))

-- the line of the greatest bounds
pub last_line : (bits : ℕ) (columns : CurveColumns) (energy slope : Summary) (t0 t1 t2 t3 : List ℕ) → t1 ≡ t0 ++ codes "# greatest "
    → (n : List ℕ) × AreNamed bits columns energy slope n × (t2 ≡ t1 ++ n) → t3 ≡ t2 ++ (10 ∷ [])
    → (line : List ℕ) × IsLastLine bits columns energy slope line × (t3 ≡ t0 ++ line)
last_line bits columns energy slope t0 t1 t2 t3 put e end =
    let before : List ℕ = codes "# greatest " in
    let last : List ℕ = e.0 ++ (10 ∷ []) in
    (before ++ last, (e.0, e.1, refl), joined t0 t1 t3 before last put (joined t1 t2 t3 e.0 (10 ∷ []) e.2 end))
