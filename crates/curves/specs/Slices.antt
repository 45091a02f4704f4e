-- Bounds on the errors of an energy and of its slope over a range of distances.
use Rattle.std.specs.Prelude.{◌≡◌, ◌⊎◌, ◌<◌, ◌/◌, ◌%◌, ◌==◌, ℕ, suc, nat_le, nat_lt, int_le, max, min, ℤ, pos, ◌+ℤ◌, ◌-ℤ◌, ◌*ℤ◌, ◌*◌, unsigned_abs, Bool, true, false, not, ◌&&◌, ◌||◌, if◌then◌else◌, List, [], ◌∷◌, ◌++◌, take, drop, map, slice_get, Option, Some, None, IfSome}
use Rattle.std.specs.Int.{int_max, int_min}
use Rattle.energy_program.specs.Programs.{Trees}
use Rattle.energy_program.specs.Tree.{substituted}
use Rattle.energy_program.specs.Value.{value_of}
use Rattle.derivative.specs.DualNumbers.{IsNear}
use Rattle.derivative.specs.Exact.{Numbers, exact_slope, exact_value}
use Rattle.derivative.specs.Slope.{slope_of}
use Rattle.fixed.specs.Arithmetic.{floor_over, is_zero}
use Rattle.fixed.specs.declared.constants.Constant.{Constant}
use Rattle.error_bounds.specs.Approximations.{Approximation, scale}
use Rattle.error_bounds.specs.Meanings.{WasRead, WasRoundedDown}
use Rattle.error_bounds.specs.Ordered.{IsBetween}
use Rattle.interval_domain.specs.Ranges.{IsIn, Range, range}
use Rattle.error_bounds.specs.Rules.{as_read, distances}
use Rattle.potential.specs.Tables.{numbers_of}
use Rattle.formula_bounds.specs.Entries.{Entry, entry_of_program}
use Rattle.formula_bounds.specs.Walks.{approximation_of_all, entries_of_program}
use Rattle.formula_bounds.specs.Written.{IsWrittenProgram}
use Rattle.curves.specs.declared.slices.Column.{Column}
use Rattle.curves.specs.declared.slices.Column.TheVariants.{Energy, Slope}

-- ---- bounds

-- bounds on the magnitudes of the errors of an energy and of its slope, in error units; none if no bound is found
pub record BoundsView : Type 0 where
  pub energy : Option ℕ
  pub slope : Option ℕ

abbrev pub bounds_view : (energy slope : Option ℕ) → BoundsView
bounds_view energy slope = record { energy = energy; slope = slope }

-- the bound in a column
abbrev pub in_column : Column → BoundsView → Option ℕ
in_column Energy b = b.energy
in_column Slope b = b.slope

-- the greatest magnitude of an error
abbrev pub bound_of : Option Approximation → Option ℕ
bound_of None = None
bound_of (Some p) = Some (max (unsigned_abs p.error.low) (unsigned_abs p.error.high))

-- the greater of two bounds, none unless both are found
abbrev pub greater_bound : (x y : Option ℕ) → Option ℕ
greater_bound (Some x) (Some y) = Some (max x y)
greater_bound _ _ = None

abbrev pub greater_bounds : (x y : BoundsView) → BoundsView
greater_bounds x y = bounds_view (greater_bound x.energy y.energy) (greater_bound x.slope y.slope)

-- whether bound x is worse than bound y: it is greater, or there is none
abbrev pub is_worse : (x y : Option ℕ) → Bool
is_worse (Some x) (Some y) = nat_lt y x
is_worse None (Some y) = true
is_worse _ None = false

-- the lesser of two bounds, or the one that is found
abbrev pub lesser_bound : (x y : Option ℕ) → Option ℕ
lesser_bound (Some x) (Some y) = Some (min x y)
lesser_bound (Some x) None = Some x
lesser_bound None y = y

-- ---- walks

-- the inputs: the distances are in this range, and the others were read as these constants
abbrev pub inputs_on : (others : List Constant) → Range → List Approximation
inputs_on others r = distances r ∷ map as_read others

abbrev pub bounds_of : Entry → BoundsView
bounds_of e = bounds_view (bound_of e.value) (bound_of e.slope)

-- the bounds of one walk over the program
abbrev pub plain_bounds : (bits : ℕ) → Trees → (inputs : List Approximation) → BoundsView
plain_bounds bits program inputs = bounds_of (entry_of_program bits inputs program)

-- the approximation of a column in an entry
abbrev pub in_entry : Column → Entry → Option Approximation
in_entry Energy e = e.value
in_entry Slope e = e.slope

-- the bound, if any of these approximations may be right for the computed value, and any for the exact one
abbrev pub bound_of_all : List (Option Approximation) → Option ℕ
bound_of_all ps = bound_of (approximation_of_all ps)

-- The lesser of the plain bounds and those of walks with these entries, if there are two or more. A walk that didn't divide
-- has the plain bounds.
abbrev pub least_bounds : (plain : BoundsView) → List Entry → BoundsView
least_bounds plain [] = plain
least_bounds plain (e ∷ []) = plain
least_bounds plain (e ∷ es) =
    bounds_view
    (lesser_bound plain.energy (bound_of_all (map (in_entry Energy) (e ∷ es))))
    (lesser_bound plain.slope (bound_of_all (map (in_entry Slope) (e ∷ es))))

-- the range has more than 16 distances
abbrev pub is_wide : Range → Bool
is_wide r = int_le (pos 16) (r.high -ℤ r.low)

-- The bounds on these inputs: of a walk over the program, or if the range isn't wide, the lesser of these and those of walks
-- that divide at up to three choices.
abbrev pub bounds_by : (bits : ℕ) → Trees → (inputs : List Approximation) → (wide : Bool) → BoundsView
bounds_by bits program inputs wide =
    if wide then plain_bounds bits program inputs
    else least_bounds (plain_bounds bits program inputs) (entries_of_program bits inputs program 3)

-- the bounds on a range of distances
abbrev pub bounds_on : (bits : ℕ) → Trees → (others : List Constant) → Range → BoundsView
bounds_on bits program others r = bounds_by bits program (inputs_on others r) (is_wide r)

-- ---- halving

-- a part of a range of distances, and the bounds on it
pub record Part : Type 0 where
  pub range : Range
  pub bounds : BoundsView

abbrev pub part : Range → BoundsView → Part
part r b = record { range = r; bounds = b }

-- the last distance of the lower half of a range
abbrev pub middle : Range → ℤ
middle r = r.low +ℤ floor_over (r.high -ℤ r.low) 2

-- The worst part of a column, with its number from 0: the first of those without a bound, or else the first of those with
-- the greatest bound.
pub record IsWorst (column : Column) (parts : List Part) (number : ℕ) (worst : Part) : Type 0 where
  pub its : slice_get parts number ≡ Some worst
  pub most : (i : ℕ) (p : Part) → slice_get parts i ≡ Some p → is_worse (in_column column p.bounds) (in_column column worst.bounds) ≡ false
  pub first : (i : ℕ) (p : Part) → i < number → slice_get parts i ≡ Some p
      → is_worse (in_column column worst.bounds) (in_column column p.bounds) ≡ true

-- whether a bound is at most about a sixteenth above the greatest bound at a tried distance, or there is none at one
abbrev pub is_close : (bound tried : Option ℕ) → Bool
is_close (Some bound) (Some tried) = nat_le (bound / 17) (tried / 16)
is_close None (Some tried) = false
is_close _ None = true

-- whether the bounds of both columns are close to the tried ones
abbrev pub are_close : (bounds tried : BoundsView) → Bool
are_close b tried = is_close b.energy tried.energy && is_close b.slope tried.slope

-- whether a column with this worst part is done: the part is a single distance, or its bound is close
abbrev pub is_done : Column → (worst : Part) → (tried : BoundsView) → Bool
is_done column worst tried =
    is_zero (worst.range.high -ℤ worst.range.low) || is_close (in_column column worst.bounds) (in_column column tried)

-- the number of a column's worst part, if the column isn't done
abbrev pub IsToHalve : Column → List Part → (tried : BoundsView) → Option ℕ → Type 0
IsToHalve column parts tried (Some number) = (worst : Part) × IsWorst column parts number worst × (is_done column worst tried ≡ false)
IsToHalve column parts tried None = (number : ℕ) × (worst : Part) × IsWorst column parts number worst × (is_done column worst tried ≡ true)

-- the column whose turn it is after this many halvings, and the other one: the energy's turn is first
abbrev pub turn_of : ℕ → Column × Column
turn_of halvings = if halvings % 2 == 0 then (Energy, Slope) else (Slope, Energy)

-- The number of the part that is halved after this many halvings: the worst one of the column whose turn it is, or if that
-- column is done, of the other one; none if both are done.
pub data IsNext (halvings : ℕ) (parts : List Part) (tried : BoundsView) : Option ℕ → Type 0 where
  turn : {number : ℕ} → IsToHalve (turn_of halvings).0 parts tried (Some number) → IsNext halvings parts tried (Some number)
  other : {number : Option ℕ} → IsToHalve (turn_of halvings).0 parts tried None → IsToHalve (turn_of halvings).1 parts tried number
      → IsNext halvings parts tried number

-- the bound in a column is the greatest one of the parts: that of the worst part
abbrev pub IsGreatest : Column → List Part → BoundsView → Type 0
IsGreatest column parts b = (number : ℕ) × (worst : Part) × IsWorst column parts number worst
    × (in_column column b ≡ in_column column worst.bounds)

-- a bound and a range of distances are those of a column's worst part
abbrev pub AreOfWorst : Column → List Part → (bound : Option ℕ) → Range → Type 0
AreOfWorst column parts bound r = (number : ℕ) × (worst : Part) × IsWorst column parts number worst
    × (bound ≡ in_column column worst.bounds) × (r ≡ worst.range)

-- ---- jumps

-- of each column, whether it has a property
pub record ColumnFlagsView : Type 0 where
  pub energy : Bool
  pub slope : Bool

abbrev pub column_flags : (energy slope : Bool) → ColumnFlagsView
column_flags energy slope = record { energy = energy; slope = slope }

-- whether a column has the property
abbrev pub flag_of : Column → ColumnFlagsView → Bool
flag_of Energy f = f.energy
flag_of Slope f = f.slope

-- whether no column has the property
abbrev pub is_none : ColumnFlagsView → Bool
is_none f = not f.energy && not f.slope

-- whether a bound is above four times the greatest bound beside it
abbrev pub is_local : (bound beside : Option ℕ) → Bool
is_local (Some bound) (Some beside) = nat_lt (4 * beside) bound
is_local _ _ = false

-- the first 16 distances of a range, and the last 16; all, if it has no more
abbrev pub front_of : Range → Range
front_of r = range r.low (int_min r.high (r.low +ℤ pos 15))

abbrev pub back_of : Range → Range
back_of r = range (int_max r.low (r.high -ℤ pos 15)) r.high

-- the distances 1024 below and above a range, or the ends of the domain if these are closer
abbrev pub below : (domain r : Range) → ℤ
below domain r = int_max domain.low (r.low -ℤ pos 1024)

abbrev pub above : (domain r : Range) → ℤ
above domain r = int_min domain.high (r.high +ℤ pos 1024)

module _ (bits : ℕ) (program : Trees) (others : List Constant) where
  -- a range as a part
  abbrev pub part_on : Range → Part
  part_on r = part r (bounds_on bits program others r)

  -- the bounds at a single distance
  abbrev pub bounds_at : ℤ → BoundsView
  bounds_at z = bounds_on bits program others (range z z)

  -- the greater bounds at the ends of a range
  abbrev pub at_ends : Range → BoundsView
  at_ends r = greater_bounds (bounds_at r.low) (bounds_at r.high)

  -- the parts after p, which has this number, is replaced by its halves
  abbrev pub halved_at : List Part → (number : ℕ) → (p : Part) → List Part
  halved_at parts number p =
      take number parts ++ (part_on (range p.range.low (middle p.range))
      ∷ part_on (range (middle p.range +ℤ pos 1) p.range.high) ∷ drop (suc number) parts)

  -- The parts of a range, in order, after some halvings, and the greatest bounds at the distances that were tried: at both
  -- ends of the range, and at the last distance of each lower half.
  pub data AreHalved (r : Range) : (halvings : ℕ) → List Part → (tried : BoundsView) → Type 0 where
    whole : AreHalved r 0 (part_on r ∷ []) (at_ends r)
    halved : {n number : ℕ} {parts : List Part} {p : Part} {tried : BoundsView} → AreHalved r n parts tried → n < 256
        → IsNext n parts tried (Some number) → slice_get parts number ≡ Some p
        → AreHalved r (suc n) (halved_at parts number p) (greater_bounds tried (bounds_at (middle p.range)))

  -- Bounds over a range of distances: the range is halved until both columns are done, or 256 times, and the greatest bounds
  -- of the parts are taken.
  pub record AreBoundsOver (r : Range) (b : BoundsView) : Type 0 where
    pub halvings : ℕ
    pub parts : List Part
    pub tried : BoundsView
    pub are_halved : AreHalved r halvings parts tried
    pub ended : IsNext halvings parts tried None ⊎ (halvings ≡ 256)
    pub energy : IsGreatest Energy parts b
    pub slope : IsGreatest Slope parts b

  -- bounds over a range of distances, and the ranges of the worst parts of the energy and of the slope
  pub record AreWorstOver (r : Range) (b : BoundsView) (energy slope : Range) : Type 0 where
    pub over : AreBoundsOver r b
    pub energy_is : energy ≡ over.energy.1.range
    pub slope_is : slope ≡ over.slope.1.range

  -- whether a column's bound on a range is above four times the greatest of the bounds at the distances beside it
  abbrev pub is_local_on : (domain : Range) → Column → Range → Bool
  is_local_on domain column r =
      is_local (in_column column (bounds_on bits program others r))
      (in_column column (greater_bounds (bounds_at (below domain r)) (bounds_at (above domain r))))

  -- Whether a column jumps in its worst part, which is this range: whether the bound on the part's first or last distances
  -- is far above the bounds at distances beside them, in the domain of a potential.
  abbrev pub jumps_over : (domain : Range) → Column → Range → Bool
  jumps_over domain column r = is_local_on domain column (front_of r) || is_local_on domain column (back_of r)

-- ---- the meaning of bounds

module _ {V : Type 0} (k : Numbers V) (bits : ℕ) where
  -- If there is a bound, there is a computed value, and it differs from the exact value, if there is one, by at most the
  -- bound.
  abbrev pub IsBound : Option ℕ → Option ℤ → Option V → Type 0
  IsBound bound computed exact =
      IfSome bound (λ b. (z : ℤ) × (computed ≡ Some z)
      × ((x : V) → exact ≡ Some x → IsBetween k (scale bits) (pos 256 *ℤ z -ℤ pos b) (pos 256 *ℤ z +ℤ pos b) x))

  -- each exact number was read as the constant with its number
  abbrev pub WereRead : List Constant → List V → Type 0
  WereRead constants exacts =
      (i : ℕ) (c : Constant) → slice_get constants i ≡ Some c → (x : V) → slice_get exacts i ≡ Some x → WasRead k bits c x

  -- The bounds are right for the program at each distance in the range: for the energy and the slope that are computed
  -- there, and for the energy as it was written, and its derivative, at the exact distance. The numbers of a definition are
  -- the same wherever it is used.
  pub record AreRight (program : Trees) (others : List Constant) (r : Range) (b : BoundsView) : Type 0 where
    pub energy : (z : ℤ) (d : V) (xs : List V) (written : Trees) → IsIn z r → WasRoundedDown k bits z d → WereRead others xs
        → IsWrittenProgram k bits (d ∷ xs) program written
        → IsBound b.energy (value_of bits (z ∷ numbers_of others) (substituted program.0 program.1))
        (exact_value k (d ∷ xs) (substituted written.0 written.1))
    pub slope : (z : ℤ) (d : V) (xs : List V) (written : Trees) → IsIn z r → WasRoundedDown k bits z d → WereRead others xs
        → IsWrittenProgram k bits (d ∷ xs) program written
        → IsBound b.slope (slope_of bits (z ∷ numbers_of others) (substituted program.0 program.1))
        (exact_slope k (d ∷ xs) (substituted written.0 written.1))

  -- The bound of the slope is right for the derivative: if the formula as it was written is v + s e at the distance
  -- d + e, in dual numbers, the computed slope differs from s by at most the bound.
  abbrev pub AreRightOfDerivatives : (program : Trees) (others : List Constant) → Range → BoundsView → Type 0
  AreRightOfDerivatives program others r b =
      (z : ℤ) (d : V) (xs : List V) (written : Trees) → IsIn z r → WasRoundedDown k bits z d → WereRead others xs
      → IsWrittenProgram k bits (d ∷ xs) program written → (v s : V)
      → IsNear k (d ∷ xs) (substituted written.0 written.1) (v, s)
      → IsBound b.slope (slope_of bits (z ∷ numbers_of others) (substituted program.0 program.1)) (Some s)
