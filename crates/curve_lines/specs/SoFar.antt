-- Summaries while rows are added, as the code keeps them.
use Rattle.std.specs.Prelude.{ℕ, ◌+◌, ℤ, nat_lt, if◌then◌else◌, Option, Some, None, is_none}
use Rattle.curve_lines.specs.Summaries.{Greatest}
use Rattle.curve_lines.specs.declared.summaries.Summary.{Summary}

-- the greatest bound after one more row
abbrev pub with_bound : Greatest → (distance : ℤ) → Option ℕ → Greatest
with_bound greatest distance None = greatest
with_bound None distance (Some bound) = Some (bound, distance)
with_bound (Some (greatest, at)) distance (Some bound) =
    if nat_lt greatest bound then Some (bound, distance) else Some (greatest, at)

-- the summary of a column after one more row
abbrev pub with_row : Summary → (distance : ℤ) → Option ℕ → Summary
with_row s distance bound = record {
  greatest = with_bound s.greatest distance bound;
  without = s.without + (if is_none bound then 1 else 0);
}
