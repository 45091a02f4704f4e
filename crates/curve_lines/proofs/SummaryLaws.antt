-- Summaries of rows and one more.
use Rattle.std.proofs.Common.{◌≡◌, ℕ, zero, suc, ◌+◌, ◌<◌, ◌≤◌, List, [], ◌∷◌, ◌++◌, length, Option, Some, None, ◌⊎◌, inl, inr, refl, subst, sym, ap, ◌∙◌, arith, ℤ, nat_lt, slice_get, ltb-false, ltb-true, IfSome, is_none, cond, if◌then◌else◌}
use Rattle.std.proofs.lemmas.Bool.{cases_Bool}
use Rattle.std.proofs.lemmas.List.Sums.{fold-append}
use Rattle.std.proofs.lemmas.Option.{none-some, same_Some, slice_get_within}
use Rattle.curve_lines.specs.SoFar.{with_bound, with_row}
use Rattle.curve_lines.specs.Summaries.{Greatest, IsGreatestBound, IsGreatestOf, IsSummaryOf}
use Rattle.curve_lines.specs.declared.rows.Row.{Row}
use Rattle.curve_lines.specs.declared.summaries.Summary.{Summary}

-- ---- one more row

-- a row at an index of rows and one more is one of them, or the last
pub seam : (rows : List Row) (row : Row) (i : ℕ) (other : Row) → slice_get (rows ++ (row ∷ [])) i ≡ Some other
    → (slice_get rows i ≡ Some other) ⊎ ((i ≡ length rows) × (row ≡ other))
seam [] row zero other e = inr (refl, same_Some row other e)
seam [] row (suc i) other e = absurd (none-some other e)
seam (x ∷ rows) row zero other e = inl e
seam (x ∷ rows) row (suc i) other e = elim (seam rows row i other e) [
  | inl l ↦ inl l
  | inr r ↦ inr (omega (arith, r.0), r.1)
]

-- a row keeps its index
kept : (rows : List Row) (row : Row) (i : ℕ) (other : Row) → slice_get rows i ≡ Some other → slice_get (rows ++ (row ∷ [])) i ≡ Some other
kept [] row i other e = absurd (none-some other e)
kept (x ∷ rows) row zero other e = e
kept (x ∷ rows) row (suc i) other e = kept rows row i other e

-- the last row is at the number of the others
last_at : (rows : List Row) (row : Row) → slice_get (rows ++ (row ∷ [])) (length rows) ≡ Some row
last_at [] row = refl
last_at (x ∷ rows) row = last_at rows row

-- ---- bounds that may be missing

-- a missing bound is at most any limit
none_most : (bound : Option ℕ) (limit : ℕ) → bound ≡ None → IfSome bound (λ b. b ≤ limit)
none_most bound limit e = subst (λ x. IfSome x (λ b. b ≤ limit)) (sym e) tt

-- a bound is at most a limit
some_most : (bound : Option ℕ) (b limit : ℕ) → bound ≡ Some b → b ≤ limit → IfSome bound (λ x. x ≤ limit)
some_most bound b limit e le = subst (λ x. IfSome x (λ y. y ≤ limit)) (sym e) le

-- a bound is at most a higher limit
still_most : (bound : Option ℕ) (low high : ℕ) → low ≤ high → IfSome bound (λ x. x ≤ low) → IfSome bound (λ x. x ≤ high)
still_most None low high le h = tt
still_most (Some b) low high le h = omega (arith, le, h)

-- the limit of a bound
at_most : (bound : Option ℕ) (b limit : ℕ) → bound ≡ Some b → IfSome bound (λ x. x ≤ limit) → b ≤ limit
at_most bound b limit e h = subst (λ x. IfSome x (λ y. y ≤ limit)) e h

-- ---- columns of errors

-- the bounds of rows, if they have any, are at most this
abbrev pub Most : (rows : List Row) → (bound_of : Row → Option ℕ) → ℕ → Type 0
Most rows bound_of limit = (i : ℕ) (other : Row) → slice_get rows i ≡ Some other → IfSome (bound_of other) (λ bound. bound ≤ limit)

module _ (bound_of : Row → Option ℕ) (rows : List Row) (row : Row) where
  -- all bounds are still at most this
  most_kept : (low high : ℕ) → Most rows bound_of low → low ≤ high → IfSome (bound_of row) (λ bound. bound ≤ high)
      → Most (rows ++ (row ∷ [])) bound_of high
  most_kept low high most le under i other its = elim (seam rows row i other its) [
    | inl there ↦ still_most (bound_of other) low high le (most i other there)
    | inr last ↦ subst (λ x. IfSome (bound_of x) (λ bound. bound ≤ high)) last.1 under
  ]

  -- a row whose bound isn't greater leaves the greatest one
  not_greater : (greatest : ℕ) (at : ℤ) → IsGreatestBound rows bound_of greatest at → IfSome (bound_of row) (λ bound. bound ≤ greatest)
      → IsGreatestBound (rows ++ (row ∷ [])) bound_of greatest at
  not_greater greatest at is under = record {
    first = is.first;
    row = is.row;
    its = kept rows row is.first is.row is.its;
    has = is.has;
    at = is.at;
    most = most_kept greatest greatest is.most (omega arith) under;
    before = λ i other l at. elim (seam rows row i other at) [
      | inl there ↦ is.before i other l there
      | inr last ↦ absurd (omega (arith, l, last.0, slice_get_within rows is.first is.row is.its))
    ];
  }

  -- a bound above all others is the greatest one
  greater : (limit bound : ℕ) → Most rows bound_of limit → limit < bound → bound_of row ≡ Some bound
      → IsGreatestBound (rows ++ (row ∷ [])) bound_of bound row.distance
  greater limit bound most l e = record {
    first = length rows;
    row = row;
    its = last_at rows row;
    has = e;
    at = refl;
    most = most_kept limit bound most (omega (arith, l)) (some_most (bound_of row) bound bound e (omega arith));
    before = λ i other below its same. elim (seam rows row i other its) [
      | inl there ↦ let le : bound ≤ limit = at_most (bound_of other) bound limit same (most i other there) in absurd (omega (arith, le, l))
      | inr last ↦ absurd (omega (arith, below, last.0))
    ];
  }

  -- the only bound is the greatest one
  only : (bound : ℕ) → IsGreatestOf rows bound_of None → bound_of row ≡ Some bound
      → IsGreatestBound (rows ++ (row ∷ [])) bound_of bound row.distance
  only bound none e = record {
    first = length rows;
    row = row;
    its = last_at rows row;
    has = e;
    at = refl;
    most = λ i other its. elim (seam rows row i other its) [
      | inl there ↦ none_most (bound_of other) bound (none i other there)
      | inr last ↦ some_most (bound_of other) bound bound (ap bound_of (sym last.1) ∙ e) (omega arith)
    ];
    before = λ i other below its same. elim (seam rows row i other its) [
      | inl there ↦ absurd (none-some bound (sym (none i other there) ∙ same))
      | inr last ↦ absurd (omega (arith, below, last.0))
    ];
  }

  -- if one more row has no bound, none has still no greatest
  none_kept : IsGreatestOf rows bound_of None → bound_of row ≡ None → IsGreatestOf (rows ++ (row ∷ [])) bound_of None
  none_kept none e i other its = elim (seam rows row i other its) [
    | inl there ↦ none i other there
    | inr last ↦ subst (λ x. bound_of x ≡ None) last.1 e
  ]

  -- the greatest bound after one more row
  more_greatest : (greatest : Greatest) (bound : Option ℕ) → IsGreatestOf rows bound_of greatest → bound_of row ≡ bound
      → IsGreatestOf (rows ++ (row ∷ [])) bound_of (with_bound greatest row.distance bound)
  more_greatest None None is e = none_kept is e
  more_greatest (Some (greatest, at)) None is e = not_greater greatest at is (none_most (bound_of row) greatest e)
  more_greatest None (Some bound) is e = only bound is e
  more_greatest (Some (greatest, at)) (Some bound) is e = elim (cases_Bool (nat_lt greatest bound)) [
    | inl less ↦ rw less (greater greatest bound is.most (ltb-true greatest bound less) e)
    | inr not_less ↦ rw not_less (not_greater greatest at is (some_most (bound_of row) bound greatest e (ltb-false greatest bound not_less)))
  ]

  -- the summary of a column after one more row
  pub more_summary : (s t : Summary) → IsSummaryOf rows bound_of s → t ≡ with_row s row.distance (bound_of row)
      → IsSummaryOf (rows ++ (row ∷ [])) bound_of t
  more_summary s t is e = subst (IsSummaryOf (rows ++ (row ∷ [])) bound_of) (sym e) (record {
    greatest = more_greatest s.greatest (bound_of row) is.greatest refl;
    without = ap (λ n. n + (if is_none (bound_of row) then 1 else 0)) is.without
        ∙ sym (fold-append (λ n x. n + cond (is_none (bound_of x)) 1 0) 0 rows (row ∷ []));
  })

-- the summary of no rows
pub no_summary : (bound_of : Row → Option ℕ) (s : Summary) → s ≡ record { greatest = None; without = 0 } → IsSummaryOf [] bound_of s
no_summary bound_of s e = subst (IsSummaryOf [] bound_of) (sym e) (record {
  greatest = λ i row its. absurd (none-some row its);
  without = refl;
})
