-- Rows of a table while they are added to its body.
use Rattle.std.proofs.Common.{◌≡◌, ℕ, ◌+◌, ◌∙◌, List, [], ◌∷◌, ◌++◌, length, Some, inl, inr, refl, subst, sym, ap, add-one, length-append, slice_get}
use Rattle.std.proofs.lemmas.Option.{none-some}
use Rattle.energy_program.specs.Programs.{Trees}
use Rattle.job.specs.Values.{JobValue}
use Rattle.curve_lines.specs.Bodies.{BodyView, HasRows}
use Rattle.curve_lines.specs.declared.rows.Row.{Row}
use Rattle.curve_lines.proofs.SummaryLaws.{seam}
use Rattle.curves.specs.SoFar.{HasBody}
use Rattle.curves.specs.Tables.{IsRow}
use Rattle.curves.specs.declared.plans.CurvePlan.{CurvePlan}

-- the body has the first rows of a table, up to this number
pub record HasFirst (j : JobValue) (program : Trees) (plan : CurvePlan) (a b i : ℕ) (body : BodyView) : Type 0 where
  pub rows : List Row
  pub count : length rows ≡ i
  pub each : (k : ℕ) (row : Row) → slice_get rows k ≡ Some row → IsRow j program plan a b k row
  pub has : HasRows body rows
  pub frac : body.frac ≡ j.frac
  pub columns : body.columns ≡ plan.columns

module _ (j : JobValue) (program : Trees) (plan : CurvePlan) (a b : ℕ) where
  -- no rows yet
  pub no_rows : (body : BodyView) → HasRows body [] → body.frac ≡ j.frac → body.columns ≡ plan.columns → HasFirst j program plan a b 0 body
  no_rows body has frac columns = record {
    rows = [];
    count = refl;
    each = λ k row e. absurd (none-some row e);
    has = has;
    frac = frac;
    columns = columns;
  }

  -- a row at an index of rows and one more
  each_more : (rows : List Row) (row : Row) (i : ℕ) → length rows ≡ i
      → ((k : ℕ) (other : Row) → slice_get rows k ≡ Some other → IsRow j program plan a b k other)
      → IsRow j program plan a b i row
      → (k : ℕ) (other : Row) → slice_get (rows ++ (row ∷ [])) k ≡ Some other → IsRow j program plan a b k other
  each_more rows row i count each is k other its = elim (seam rows row k other its) [
    | inl there ↦ each k other there
    | inr last ↦ subst (λ n. IsRow j program plan a b n other) (sym (last.0 ∙ count))
        (subst (IsRow j program plan a b i) last.1 is)
  ]

  -- one more row
  pub more_rows : (i : ℕ) (body more : BodyView) (row : Row) → HasFirst j program plan a b i body → IsRow j program plan a b i row
      → ((rows : List Row) → HasRows body rows → HasRows more (rows ++ (row ∷ []))) → more.frac ≡ body.frac → more.columns ≡ body.columns
      → HasFirst j program plan a b (i + 1) more
  more_rows i body more row first is add frac columns = record {
    rows = first.rows ++ (row ∷ []);
    count = length-append first.rows (row ∷ []) ∙ ap (λ n. n + 1) first.count;
    each = each_more first.rows row i first.count first.each is;
    has = add first.rows first.has;
    frac = frac ∙ first.frac;
    columns = columns ∙ first.columns;
  }

  -- all rows
  pub all_rows : (i : ℕ) (body : BodyView) → HasFirst j program plan a b i body → i ≡ plan.points + 1 → HasBody j program plan a b body
  all_rows i body first all = record {
    rows = first.rows;
    are_rows = record { count = first.count ∙ all ∙ add-one plan.points; each = first.each };
    has = first.has;
    frac = first.frac;
    columns = first.columns;
  }
