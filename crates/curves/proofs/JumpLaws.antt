-- Distances beside a range, and a bound above four times the greater of two others: it is above four times each.
use Rattle.std.proofs.Common.{◌≡◌, ◌∙◌, ◌&&◌, ◌*◌, ◌+ℤ◌, ◌-ℤ◌, ◌≤ℤ◌, pos, ℕ, ℤ, Bool, true, false, not, List, Option, Some, None, max, nat_lt, refl, sym, ap, arith}
use Rattle.std.specs.Int.{int_max, int_min}
use Rattle.std.proofs.lemmas.Bool.{and_parts, not-true}
use Rattle.std.proofs.lemmas.Bool.Decides.{nat_tests}
use Rattle.std.proofs.lemmas.Int.{clamps, ints}
use Rattle.energy_program.specs.Programs.{Trees}
use Rattle.fixed.specs.declared.constants.Constant.{Constant}
use Rattle.interval_domain.specs.Ranges.{Range}
use Rattle.curves.specs.Slices.{BoundsView, ColumnFlagsView, above, below, bounds_at, bounds_on, flag_of, greater_bound, greater_bounds, in_column, is_local, is_local_on, is_none}
use Rattle.curves.specs.declared.slices.Column.{Column}
use Rattle.curves.specs.declared.slices.Column.TheVariants.{Energy, Slope}

-- a number above another, but at most the end, is no less than the other
pub least_above : (high at : ℤ) (more : ℕ) → at ≤ℤ high → at ≤ℤ int_min high (at +ℤ pos more)
least_above high at more l = omega (arith, ints, clamps)

-- a number below another, but at least the start, is no greater than the other
pub greatest_below : (low at : ℤ) (less : ℕ) → low ≤ℤ at → int_max low (at -ℤ pos less) ≤ℤ at
greatest_below low at less l = omega (arith, ints, clamps)

-- if no column has a property, each lacks it
pub none_there : (f : ColumnFlagsView) → is_none f ≡ true → (column : Column) → flag_of column f ≡ false
none_there f e Energy = not-true f.energy (and_parts (not f.energy) (not f.slope) e).0
none_there f e Slope = not-true f.slope (and_parts (not f.energy) (not f.slope) e).1

never_both : (t : Bool) → (t && false) ≡ false
never_both true = refl
never_both false = refl

above_greater : (a b n : ℕ) → nat_lt (4 * max a b) n ≡ (nat_lt (4 * a) n && nat_lt (4 * b) n)
above_greater a b n = grind (arith, nat_tests)

local_of_both : (bound x y : Option ℕ) → is_local bound (greater_bound x y) ≡ (is_local bound x && is_local bound y)
local_of_both None x y = refl
local_of_both (Some n) None y = refl
local_of_both (Some n) (Some a) None = sym (never_both (nat_lt (4 * a) n))
local_of_both (Some n) (Some a) (Some b) = above_greater a b n

in_both : (column : Column) (bounds low high : BoundsView) → is_local (in_column column bounds) (in_column column (greater_bounds low high))
    ≡ (is_local (in_column column bounds) (in_column column low) && is_local (in_column column bounds) (in_column column high))
in_both Energy bounds low high = local_of_both bounds.energy low.energy high.energy
in_both Slope bounds low high = local_of_both bounds.slope low.slope high.slope

module _ (bits : ℕ) (program : Trees) (others : List Constant) (domain r : Range) (column : Column) where
  abbrev bound : Option ℕ
  bound = in_column column (bounds_on bits program others r)

  abbrev at : ℤ → BoundsView
  at = bounds_at bits program others

  -- whether the bound is above four times the one at a distance beside the range
  at_one : (z beside : ℤ) (bounds one : BoundsView) (f : Bool) → bounds ≡ bounds_on bits program others r → one ≡ at z → z ≡ beside
      → f ≡ is_local (in_column column bounds) (in_column column one) → f ≡ is_local bound (in_column column (at beside))
  at_one z beside bounds one f eb eo ez ef =
      ef ∙ ap (λ (b : BoundsView). is_local (in_column column b) (in_column column one)) eb
      ∙ ap (λ (b : BoundsView). is_local bound (in_column column b)) (eo ∙ ap at ez)

  -- it isn't above four times the one below
  pub not_local : (z : ℤ) (bounds low : BoundsView) (f : Bool) → bounds ≡ bounds_on bits program others r → low ≡ at z → z ≡ below domain r
      → f ≡ is_local (in_column column bounds) (in_column column low) → f ≡ false → f ≡ is_local_on bits program others domain column r
  not_local z bounds low f eb el ez ef off =
      let one = at_one z (below domain r) bounds low f eb el ez ef in
      off ∙ sym (in_both column (bounds_on bits program others r) (at (below domain r)) (at (above domain r))
      ∙ ap (λ (t : Bool). t && is_local bound (in_column column (at (above domain r)))) (sym one ∙ off))

  -- it is compared with both
  pub local_beside : (z y : ℤ) (bounds low high : BoundsView) (f g t : Bool) → bounds ≡ bounds_on bits program others r → low ≡ at z → z ≡ below domain r
      → high ≡ at y → y ≡ above domain r → f ≡ is_local (in_column column bounds) (in_column column low)
      → g ≡ is_local (in_column column bounds) (in_column column high) → t ≡ (f && g) → t ≡ is_local_on bits program others domain column r
  local_beside z y bounds low high f g t eb el ez eh ey ef eg et =
      let one = at_one z (below domain r) bounds low f eb el ez ef in
      let two = at_one y (above domain r) bounds high g eb eh ey eg in
      et ∙ ap (λ (s : Bool). s && g) one ∙ ap (λ (s : Bool). is_local bound (in_column column (at (below domain r))) && s) two
      ∙ sym (in_both column (bounds_on bits program others r) (at (below domain r)) (at (above domain r)))
