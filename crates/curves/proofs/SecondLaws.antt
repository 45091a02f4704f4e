-- The approximation of a slope's derivative is one of the exact second derivative.
use Rattle.std.proofs.Common.{◌≡◌, ℕ, zero, suc, ◌+◌, ◌-◌, ◌*◌, ◌^◌, ◌==◌, ◌<◌, ◌≤◌, ◌⊎◌, inl, inr, ℤ, pos, negsuc, neg_ℤ, ◌-ℤ◌, ◌*ℤ◌, ◌≤ℤ◌, max, unsigned_abs, Bool, true, false, ◌&&◌, if◌then◌else◌, List, [], ◌∷◌, ◌++◌, map, length, Option, Some, None, Result, Err, Ok, slice_get, refl, sym, ap, subst, ◌∙◌, arith}
use Rattle.std.proofs.lemmas.Int.{ints}
use Rattle.std.proofs.Math.Nat.{div-add-mod}
use Rattle.std.proofs.lemmas.Nat.{mod_below}
use Rattle.std.proofs.lemmas.Option.{none-some, same_Some}
use Rattle.fixed.specs.Constants.{exactly}
use Rattle.fixed.proofs.FloorLemmas.{two_pos}
use Rattle.fixed.specs.declared.constants.Constant.{Constant}
use Rattle.fixed.specs.declared.operations.Operator.{Operator}
use Rattle.fixed.specs.declared.operations.Operator.TheVariants as op
use Rattle.fixed.specs.declared.operations.Function.{Function}
use Rattle.fixed.specs.declared.operations.Function.TheVariants as f
use Rattle.energy_program.specs.Faults.{Refusal, TooLarge}
use Rattle.energy_program.specs.Programs.{Trees}
use Rattle.energy_program.specs.Tree.{Tree, is_free_of_distance, substituted}
use Rattle.derivative.specs.Derive.{pruned, slope_program, with_all}
use Rattle.derivative.specs.DualNumbers.{IsDerivativeProgram, IsNear, IsScoped}
use Rattle.derivative.specs.Exact.{AreExact, Numbers, StandsForFraction, exact, exact_slope, exact_value, function_value, integer, minus, on_one, on_two, operator_value, power_of, selected, step_of, whole}
use Rattle.derivative.specs.Slope.{applied_row, operation_row, power_row, unless_constant}
use Rattle.derivative.proofs.DualComplete.{derivative}
use Rattle.derivative.proofs.ExactReads.{exact_reads}
use Rattle.derivative.proofs.Left.{left_body_scoped, left_definitions_scoped, same_tree}
use Rattle.derivative.proofs.RingLaws as ring
use Rattle.derivative.proofs.Shared.{with_all_value}
use Rattle.derivative.proofs.Uses.{body_scoped, definitions_scoped}
use Rattle.interval_domain.specs.Ranges.{range}
use Rattle.error_bounds.specs.Approximations.{Approximation, scale}
use Rattle.error_bounds.specs.Meanings.{ApproximatesIfThere, WasRead, WasRoundedDown}
use Rattle.error_bounds.specs.Ordered.{AreOrdered, AtMost, IsBetween}
use Rattle.error_bounds.proofs.Between as between
use Rattle.error_bounds.proofs.Bounded.{scale_above_zero}
use Rattle.error_bounds.proofs.IntegerProducts.{times_negative}
use Rattle.error_bounds.proofs.Integers as integers
use Rattle.fixed.specs.Fractions.{bits_of}
use Rattle.job.specs.Values.{JobValue}
use Rattle.potential.specs.Tables.{numbers_of}
use Rattle.curve_lines.specs.Rows.{has_grid}
use Rattle.curve_lines.specs.declared.columns.CurveColumns.{CurveColumns}
use Rattle.formula_bounds.specs.Entries.{entry_of_program}
use Rattle.formula_bounds.specs.Written.{HaveNumbers, IsRight, IsWritten, IsWrittenProgram, numerals_of, numerals_of_program, program_with_inputs}
use Rattle.formula_bounds.specs.Written as m
use Rattle.formula_bounds.proofs.EntryLaws.{program_is_right}
use Rattle.formula_bounds.proofs.WrittenLaws.{program_written}
use Rattle.curves.specs.Grids.{BoundsSecond, IsChangeBound, change_of, exact_bound, grid_at, up_over}
use Rattle.curves.specs.Slices.{WereRead, inputs_on}
use Rattle.curves.specs.Tables.{IsGridOf}
use Rattle.curves.proofs.NamedLaws.{IsNamed, derivative_named, not_distance}
use Rattle.curves.proofs.NamedLaws as n
use Rattle.curves.proofs.SliceLaws.{inputs_right}

-- an element keeps its index
get_left : {X : Type 0} (xs ys : List X) (i : ℕ) (x : X) → slice_get xs i ≡ Some x → slice_get (xs ++ ys) i ≡ Some x
get_left [] ys i x e = absurd (cc)
get_left (w ∷ ws) ys zero x e = e
get_left (w ∷ ws) ys (suc i) x e = get_left ws ys i x e

-- an element of two lists is one of either
get_either : {X : Type 0} (xs ys : List X) (i : ℕ) (x : X) → slice_get (xs ++ ys) i ≡ Some x
    → (slice_get xs i ≡ Some x) ⊎ ((j : ℕ) × (slice_get ys j ≡ Some x))
get_either [] ys i x e = inr (i, e)
get_either (w ∷ ws) ys zero x e = inl e
get_either (w ∷ ws) ys (suc i) x e = get_either ws ys i x e

-- an element of the second list
get_right : {X : Type 0} (xs ys : List X) (i : ℕ) → slice_get (xs ++ ys) (length xs + i) ≡ slice_get ys i
get_right [] ys i =
    let same : 0 + i ≡ i = omega arith in
    ap (slice_get ys) same
get_right (w ∷ ws) ys i =
    let same : length (w ∷ ws) + i ≡ suc (length ws + i) = omega arith in
    ap (slice_get (w ∷ (ws ++ ys))) same ∙ get_right ws ys i

-- an element after a change of all
get_changed : {X Y : Type 0} (g : X → Y) (xs : List X) (i : ℕ) (x : X) → slice_get xs i ≡ Some x → slice_get (map g xs) i ≡ Some (g x)
get_changed g [] i x e = absurd (cc)
get_changed g (w ∷ ws) zero x e = cc
get_changed g (w ∷ ws) (suc i) x e = get_changed g ws i x e

-- ---- numbers without error

module _ {V : Type 0} (k : Numbers V) (h : AreOrdered k) where
  -- an integer between whose ends nothing is left is the number
  one_number : (s : ℕ) (a : ℤ) (x y : V) → 0 < s → IsBetween k s a a x → IsBetween k s a a y → x ≡ y
  one_number s a x y some p q =
      let above = between.unit_above k h s some in
      h.antisymmetric x y
      (integers.times_cancels k h (whole k.ring s) x y above (h.transitive _ (integer k.ring a) _ p.high q.low))
      (integers.times_cancels k h (whole k.ring s) y x above (h.transitive _ (integer k.ring a) _ q.high p.low))

  -- a number between multiples
  reduced : (m s : ℕ) (lo hi : ℤ) (x : V) → 0 < m → IsBetween k (m * s) (pos m *ℤ lo) (pos m *ℤ hi) x → IsBetween k s lo hi x
  reduced m s lo hi x some b =
      let above = between.unit_above k h m some in
      let w : V = whole k.ring m in
      let scaled : k.ring.times (whole k.ring (m * s)) x ≡ k.ring.times w (k.ring.times (whole k.ring s) x) =
      ap (λ t. k.ring.times t x) (ring.whole_times k.ring h.are_exact.is_ring m s) ∙ h.are_exact.is_ring.times_assoc w (whole k.ring s) x in
      record {
        low = integers.times_cancels k h w (integer k.ring lo) (k.ring.times (whole k.ring s) x) above
            (subst (λ t. AtMost k t (k.ring.times w (k.ring.times (whole k.ring s) x))) (integers.integer_times k h (pos m) lo)
            (subst (AtMost k (integer k.ring (pos m *ℤ lo))) scaled b.low));
        high = integers.times_cancels k h w (k.ring.times (whole k.ring s) x) (integer k.ring hi) above
            (subst (AtMost k (k.ring.times w (k.ring.times (whole k.ring s) x))) (integers.integer_times k h (pos m) hi)
            (subst (λ t. AtMost k t (integer k.ring (pos m *ℤ hi))) scaled b.high));
      }

  module _ (bits : ℕ) (stands : (z : ℤ) → StandsForFraction k bits z) where
    -- a number without error was read
    number_read : (z : ℤ) → WasRead k bits (exactly z) (k.number z)
    number_read z =
        let is : k.ring.times (whole k.ring (2 ^ bits)) (k.number z) ≡ integer k.ring z =
        h.are_exact.is_ring.times_comm (whole k.ring (2 ^ bits)) (k.number z) ∙ stands z in
        let one : IsBetween k (2 ^ bits) z z (k.number z) = record {
          low = subst (AtMost k (integer k.ring z)) (sym is) (integers.at_most_itself k h (integer k.ring z));
          high = subst (λ t. AtMost k t (integer k.ring z)) (sym is) (integers.at_most_itself k h (integer k.ring z));
        } in
        between.wider k h (scale bits) (pos 256 *ℤ z) (pos 256 *ℤ z) _ _ (k.number z) (omega (arith, ints)) (omega (arith, ints))
        (between.rescaled k h 256 (2 ^ bits) z z (k.number z) one)

    -- only the number itself was read without error
    read_number : (z : ℤ) (x : V) → WasRead k bits (exactly z) x → k.number z ≡ x
    read_number z x w = one_number (scale bits) (pos 256 *ℤ z -ℤ pos 0) (k.number z) x (scale_above_zero bits) (number_read z) w

-- ---- values that are kept

-- a value that is there stays
abbrev Keeps : {V : Type 0} → Option V → Option V → Type 0
Keeps {V} x y = (v : V) → x ≡ Some v → y ≡ Some v

same_kept : {V : Type 0} (x : Option V) → Keeps x x
same_kept x v e = e

one_kept : {V : Type 0} (g : V → Option V) (x y : Option V) → Keeps x y → Keeps (on_one g x) (on_one g y)
one_kept g None y p v e = absurd (cc)
one_kept g (Some x) y p v e = ap (on_one g) (p x refl) ∙ e

two_kept : {V : Type 0} (g : V → V → Option V) (x y x' y' : Option V) → Keeps x x' → Keeps y y' → Keeps (on_two g x y) (on_two g x' y')
two_kept g None y x' y' p q v e = absurd (cc)
two_kept g (Some x) y x' y' p q v e = ap (λ t. on_two g t y') (p x refl) ∙ one_kept (g x) y y' q v e

if_kept : {V : Type 0} (b : Bool) (x y x' y' : Option V) → Keeps x x' → Keeps y y' → Keeps (if b then x else y) (if b then x' else y')
if_kept true x y x' y' p q = p
if_kept false x y x' y' p q = q

unless_kept : {V : Type 0} (o : V) (b c : Bool) (x y : Option V) → b ≡ c → Keeps x y → Keeps (unless_constant o b x) (unless_constant o c y)
unless_kept o true true x y e p = same_kept (Some o)
unless_kept o false false x y e p = p
unless_kept o true false x y e p = absurd (cc)
unless_kept o false true x y e p = absurd (cc)

module _ {V : Type 0} (k : Numbers V) where
  selected_kept : (c c' x x' y y' : Option V) → Keeps c c' → Keeps x x' → Keeps y y' → Keeps (selected k c x y) (selected k c' x' y')
  selected_kept None c' x x' y y' p q r v e = absurd (cc)
  selected_kept (Some c) c' x x' y y' p q r v e =
      ap (λ t. selected k t x' y') (p c refl) ∙ if_kept (k.is_zero c) y x y' x' r q v e

  -- the operations on numbers that are there
  abbrev sum_of : V → V → Option V
  sum_of x y = Some (k.ring.plus x y)

  abbrev difference_of : V → V → Option V
  difference_of x y = Some (minus k.ring x y)

  abbrev product_of : V → V → Option V
  product_of x y = Some (k.ring.times x y)

  abbrev negative_of : V → Option V
  negative_of x = Some (k.ring.negative x)

  abbrev step_there : V → Option V
  step_there x = Some (step_of k x)

  -- the row of an operator
  module _ (u u' v v' du du' dv dv' : Option V) (a : Keeps u u') (b : Keeps v v') (c : Keeps du du') (d : Keeps dv dv') where
    u_dv : Keeps (on_two product_of u dv) (on_two product_of u' dv')
    u_dv = two_kept product_of u dv u' dv' a d

    du_v : Keeps (on_two product_of du v) (on_two product_of du' v')
    du_v = two_kept product_of du v du' v' c b

    square_v : Keeps ((exact k).square v) ((exact k).square v')
    square_v = one_kept (λ x. Some (k.ring.times x x)) v v' b

    operation_kept : (o : Operator) (p q : Bool) → Keeps (operation_row (exact k) o p q u v du dv) (operation_row (exact k) o p q u' v' du' dv')
    operation_kept op.Add p q = two_kept sum_of du dv du' dv' c d
    operation_kept op.Subtract p q = two_kept difference_of du dv du' dv' c d
    operation_kept op.Multiply true q = u_dv
    operation_kept op.Multiply false true = du_v
    operation_kept op.Multiply false false =
        two_kept sum_of (on_two product_of du v) (on_two product_of u dv) (on_two product_of du' v') (on_two product_of u' dv') du_v u_dv
    operation_kept op.Divide p true = two_kept k.quotient du v du' v' c b
    operation_kept op.Divide true false =
        two_kept k.quotient (on_one negative_of (on_two product_of u dv)) ((exact k).square v) (on_one negative_of (on_two product_of u' dv'))
        ((exact k).square v') (one_kept negative_of (on_two product_of u dv) (on_two product_of u' dv') u_dv) square_v
    operation_kept op.Divide false false =
        two_kept k.quotient (on_two difference_of (on_two product_of du v) (on_two product_of u dv)) ((exact k).square v)
        (on_two difference_of (on_two product_of du' v') (on_two product_of u' dv')) ((exact k).square v')
        (two_kept difference_of (on_two product_of du v) (on_two product_of u dv) (on_two product_of du' v') (on_two product_of u' dv') du_v u_dv) square_v
    operation_kept op.Minimum p q =
        selected_kept (on_one step_there (on_two difference_of v u)) (on_one step_there (on_two difference_of v' u')) du du' dv dv'
        (one_kept step_there (on_two difference_of v u) (on_two difference_of v' u') (two_kept difference_of v u v' u' b a)) c d
    operation_kept op.Maximum p q =
        selected_kept (on_one step_there (on_two difference_of u v)) (on_one step_there (on_two difference_of u' v')) du du' dv dv'
        (one_kept step_there (on_two difference_of u v) (on_two difference_of u' v') (two_kept difference_of u v u' v' a b)) c d

    -- with the test whether both operands are free of the distance
    row_kept : (o : Operator) (p q p' q' : Bool) → p ≡ p' → q ≡ q'
        → Keeps (unless_constant k.ring.zero (p && q) (operation_row (exact k) o p q u v du dv))
        (unless_constant k.ring.zero (p' && q') (operation_row (exact k) o p' q' u' v' du' dv'))
    row_kept o p q p' q' e f =
        rw (e, f)
        (unless_kept k.ring.zero (p' && q') (p' && q') (operation_row (exact k) o p' q' u v du dv) (operation_row (exact k) o p' q' u' v' du' dv')
        refl (operation_kept o p' q'))

  -- the row of a choice
  choice_kept : (c c' x x' y y' : Option V) → Keeps c c' → Keeps x x' → Keeps y y' → (p q r p' q' r' : Bool) → p ≡ p' → q ≡ q' → r ≡ r'
      → Keeps (unless_constant k.ring.zero (p && (q && r)) (selected k c x y)) (unless_constant k.ring.zero (p' && (q' && r')) (selected k c' x' y'))
  choice_kept c c' x x' y y' of_c of_x of_y p q r p' q' r' e f g =
      rw (e, f, g)
      (unless_kept k.ring.zero (p' && (q' && r')) (p' && (q' && r')) (selected k c x y) (selected k c' x' y') refl
      (selected_kept c c' x x' y y' of_c of_x of_y))

  -- a multiple by an integer
  multiple_kept : (n : ℕ) (x x' : Option V) → Keeps x x' → Keeps (on_two product_of (Some (whole k.ring n)) x) (on_two product_of (Some (whole k.ring n)) x')
  multiple_kept n x x' p = one_kept (product_of (whole k.ring n)) x x' p

  applied_kept : (g : Function) (u u' du du' : Option V) → Keeps u u' → Keeps du du' → Keeps (applied_row (exact k) g u du) (applied_row (exact k) g u' du')
  applied_kept f.SquareRoot u u' du du' a c =
      two_kept k.quotient du (on_two product_of (Some (whole k.ring 2)) (on_one k.root u)) du' (on_two product_of (Some (whole k.ring 2)) (on_one k.root u')) c
      (multiple_kept 2 (on_one k.root u) (on_one k.root u') (one_kept k.root u u' a))
  applied_kept f.Absolute u u' du du' a c =
      selected_kept (on_one step_there u) (on_one step_there u') du du' (on_one negative_of du) (on_one negative_of du') (one_kept step_there u u' a) c
      (one_kept negative_of du du' c)
  applied_kept (f.Flat g) u u' du du' a c = same_kept (Some k.ring.zero)

  power_kept : (e : ℤ) (u u' du du' : Option V) → Keeps u u' → Keeps du du' → Keeps (power_row (exact k) u e du) (power_row (exact k) u' e du')
  power_kept (pos e) u u' du du' a c =
      if_kept (e == 1) du (on_two product_of (on_two product_of (Some (whole k.ring e)) (on_one (power_of k (pos (e - 1))) u)) du) du'
      (on_two product_of (on_two product_of (Some (whole k.ring e)) (on_one (power_of k (pos (e - 1))) u')) du') c
      (two_kept product_of (on_two product_of (Some (whole k.ring e)) (on_one (power_of k (pos (e - 1))) u)) du
      (on_two product_of (Some (whole k.ring e)) (on_one (power_of k (pos (e - 1))) u')) du'
      (multiple_kept e (on_one (power_of k (pos (e - 1))) u) (on_one (power_of k (pos (e - 1))) u') (one_kept (power_of k (pos (e - 1))) u u' a)) c)
  power_kept (negsuc e) u u' du du' a c =
      let above = on_two product_of (Some (whole k.ring (e + 1))) du in
      let above' = on_two product_of (Some (whole k.ring (e + 1))) du' in
      let below = on_one (power_of k (pos (e + 2))) u in
      let below' = on_one (power_of k (pos (e + 2))) u' in
      one_kept negative_of (on_two k.quotient above below) (on_two k.quotient above' below')
      (two_kept k.quotient above below above' below' (multiple_kept (e + 1) du du' c) (one_kept (power_of k (pos (e + 2))) u u' a))

-- ---- trees whose constants are inputs

module _ {V : Type 0} (k : Numbers V) (h : AreOrdered k) (bits : ℕ) (stands : (z : ℤ) → StandsForFraction k bits z) (exacts more : List V) where
  -- A tree, the same tree with named constants, and the one where the others are inputs too: this is the first as it was
  -- written, with the values and slopes of the second.
  record IsCompleted (t t' t'' : Tree) : Type 0 where
    pub written : IsWritten k bits (exacts ++ more) t t''
    pub free : is_free_of_distance t' ≡ is_free_of_distance t''
    pub value : Keeps (exact_value k exacts t') (exact_value k (exacts ++ more) t'')
    pub slope : Keeps (exact_slope k exacts t') (exact_slope k (exacts ++ more) t'')

  completed : {t t' t'' : Tree} → IsNamed k bits exacts t t' → IsWritten k bits (exacts ++ more) t' t'' → IsCompleted t t' t''
  completed (n.number {j = j} r w) m.input = record {
    written = m.number (get_left exacts more (suc j) _ r) w;
    free = refl;
    value = λ v e. get_left exacts more (suc j) v e;
    slope = λ v e. e;
  }
  completed (n.same {z = z}) (m.number {j = j} {x = x} r w) = record {
    written = m.number r w;
    free = rw (not_distance j) refl;
    value = λ v e. r ∙ ap Some (sym (read_number k h bits stands z x w)) ∙ e;
    slope = λ v e. rw (not_distance j) e;
  }
  completed (n.input {i = i}) m.input = record {
    written = m.input;
    free = refl;
    value = λ v e. get_left exacts more i v e;
    slope = λ v e. e;
  }
  completed n.definition m.definition = record { written = m.definition; free = refl; value = λ v e. e; slope = λ v e. e }
  completed (n.negated p) (m.negated w) =
      let a = completed p w in
      record {
        written = m.negated a.written;
        free = a.free;
        value = one_kept (negative_of k) _ _ a.value;
        slope = unless_kept k.ring.zero _ _ _ _ a.free (one_kept (negative_of k) _ _ a.slope);
      }
  completed (n.binary {o = o} p q) (m.binary w y) =
      let a = completed p w in
      let b = completed q y in
      record {
        written = m.binary a.written b.written;
        free = rw (a.free, b.free) refl;
        value = two_kept (operator_value k o) _ _ _ _ a.value b.value;
        slope = row_kept k _ _ _ _ _ _ _ _ a.value b.value a.slope b.slope o _ _ _ _ a.free b.free;
      }
  completed (n.applied {g = g} p) (m.applied w) =
      let a = completed p w in
      record {
        written = m.applied a.written;
        free = a.free;
        value = one_kept (function_value k g) _ _ a.value;
        slope = unless_kept k.ring.zero _ _ _ _ a.free (applied_kept k g _ _ _ _ a.value a.slope);
      }
  completed (n.power {n = e} p) (m.power w) =
      let a = completed p w in
      record {
        written = m.power a.written;
        free = a.free;
        value = one_kept (power_of k e) _ _ a.value;
        slope = unless_kept k.ring.zero _ _ _ _ a.free (power_kept k e _ _ _ _ a.value a.slope);
      }
  completed (n.select p q r) (m.select w y z) =
      let a = completed p w in
      let b = completed q y in
      let c = completed r z in
      record {
        written = m.select a.written b.written c.written;
        free = rw (a.free, b.free, c.free) refl;
        value = selected_kept k _ _ _ _ _ _ a.value b.value c.value;
        slope = choice_kept k _ _ _ _ _ _ a.value b.slope c.slope _ _ _ _ _ _ a.free b.free c.free;
      }

-- ---- the numbers of the other constants

module _ {V : Type 0} (k : Numbers V) (bits : ℕ) (exacts : List V) where
  -- each of these constants has no error
  abbrev AreExactly : List Constant → Type 0
  AreExactly cs = (i : ℕ) (c : Constant) → slice_get cs i ≡ Some c → c ≡ exactly c.value

  exactly_append : (cs ds : List Constant) → AreExactly cs → AreExactly ds → AreExactly (cs ++ ds)
  exactly_append cs ds p q i c e = elim (get_either cs ds i c e) [ inl l ↦ p i c l | inr r ↦ q r.0 c r.1 ]

  -- the constants that are left have no error
  left_exactly : {t t' : Tree} → IsNamed k bits exacts t t' → AreExactly (numerals_of t')
  left_exactly (n.number r w) i c e = absurd (cc)
  left_exactly (n.same {z = z}) zero c e = subst (λ (t : Constant). t ≡ exactly t.value) (same_Some (exactly z) c e) refl
  left_exactly (n.same {z = z}) (suc i) c e = absurd (cc)
  left_exactly n.input i c e = absurd (cc)
  left_exactly n.definition i c e = absurd (cc)
  left_exactly (n.negated p) i c e = left_exactly p i c e
  left_exactly (n.binary p q) i c e = exactly_append _ _ (left_exactly p) (left_exactly q) i c e
  left_exactly (n.applied p) i c e = left_exactly p i c e
  left_exactly (n.power p) i c e = left_exactly p i c e
  left_exactly (n.select p q r) i c e = exactly_append _ _ (left_exactly p) (exactly_append _ _ (left_exactly q) (left_exactly r)) i c e

-- ---- programs

module _ {V : Type 0} (k : Numbers V) (bits : ℕ) (stands : (z : ℤ) → StandsForFraction k bits z) where
  -- The program of a formula's derivative, with all definitions, computes the derivative.
  pub derivative_everywhere : AreExact k → (inputs : List V) (count : ℕ) (formula : Trees) → IsScoped count formula
      → IsDerivativeProgram k inputs formula (with_all bits formula)
  derivative_everywhere h inputs count (body, ds) scoped v s =
      let read : exact_value k inputs (substituted (with_all bits (body, ds)).0 (with_all bits (body, ds)).1) ≡ exact_slope k inputs (substituted body ds) =
      with_all_value bits (exact k) (exact_value k inputs) (exact_reads k h bits stands inputs) count body ds scoped.0 scoped.1 in
      let table = derivative k h inputs (substituted body ds) v s in
      (λ p. ((table.0 p).0, read ∙ (table.0 p).1), λ q. table.1 (q.0, sym read ∙ q.1))

-- the program that is made is the pruned one
made : (b : Bool) (p q : Trees) → ◌≡◌ {A = Result Trees Refusal} (if b then Err TooLarge else Ok p) (Ok q) → p ≡ q
made true p q e = absurd (cc)
made false p q e = cc

-- n is at most d times the quotient that is rounded up
at_most_up : (n d : ℕ) → 0 < d → n ≤ d * up_over n d
at_most_up n d some =
    let all = n + (d - 1) in
    omega (arith, div-add-mod all d, mod_below all d some)

-- the exact values of an approximation are within its bound
within_bound : (z low high first last : ℤ) (b : ℕ) → low ≤ℤ z → z ≤ℤ high
    → 256 * max (unsigned_abs low) (unsigned_abs high) + max (unsigned_abs first) (unsigned_abs last) ≤ b
    → (neg_ℤ (pos b) ≤ℤ (pos 256 *ℤ z -ℤ last)) × ((pos 256 *ℤ z -ℤ first) ≤ℤ pos b)
within_bound z low high first last b p q r = (omega (arith, ints), omega (arith, ints))

module _ {V : Type 0} (k : Numbers V) (h : AreOrdered k) (bits : ℕ) where
  -- the change by an approximation bounds the change by the exact number that it approximates
  change_right : (p : Option Approximation) (computed : Option ℤ) (x : Option V) (s : V) → ApproximatesIfThere k bits p computed x → x ≡ Some s
      → IsChangeBound k (change_of bits p) s
  change_right None computed x s t e = tt
  change_right (Some p) computed x s t e =
      let agrees = t.3 s e in
      let change : ℕ = up_over (exact_bound p) (2 ^ bits) in
      let most : ℕ = 2 ^ bits * change in
      let w = within_bound t.0 p.computed.low p.computed.high p.error.low p.error.high most agrees.computed.at_least agrees.computed.at_most
      (at_most_up (exact_bound p) (2 ^ bits) (two_pos bits)) in
      let wide : IsBetween k (scale bits) (neg_ℤ (pos most)) (pos most) s = between.wider k h (scale bits) _ _ _ _ s w.0 w.1 agrees.near in
      let units : scale bits ≡ 2 ^ bits * 256 = omega arith in
      let lower : neg_ℤ (pos most) ≡ pos (2 ^ bits) *ℤ neg_ℤ (pos change) = sym (times_negative (pos (2 ^ bits)) (pos change)) in
      reduced k h (2 ^ bits) 256 (neg_ℤ (pos change)) (pos change) s (two_pos bits)
      (subst (λ n. IsBetween k n (pos (2 ^ bits) *ℤ neg_ℤ (pos change)) (pos most) s) units
      (subst (λ lo. IsBetween k (scale bits) lo (pos most) s) lower wide))

  -- ---- the second derivative

  module _ (stands : (z : ℤ) → StandsForFraction k bits z) (count : ℕ) (program slope : Trees) (scoped : IsScoped count program)
      (is : slope_program bits program ≡ Ok slope) where
    whole_scoped : IsScoped count (with_all bits program)
    whole_scoped = (body_scoped count bits program.0 program.1 scoped.0, definitions_scoped count bits program.0 program.1 scoped.1)

    slope_is : pruned (with_all bits program) ≡ slope
    slope_is = made _ (pruned (with_all bits program)) slope is

    slope_scoped : IsScoped count slope
    slope_scoped =
        subst (IsScoped count) slope_is (
          left_body_scoped count (with_all bits program).0 (with_all bits program).1 whole_scoped.0 whole_scoped.1,
          left_definitions_scoped count (with_all bits program).0 (with_all bits program).1 whole_scoped.0 whole_scoped.1,
        )

    -- the tree of the derivative's program, and that with all definitions
    tree_is : substituted slope.0 slope.1 ≡ substituted (with_all bits program).0 (with_all bits program).1
    tree_is =
        ap (λ (p : Trees). substituted p.0 p.1) (sym slope_is)
        ∙ same_tree count (with_all bits program).0 (with_all bits program).1 whole_scoped.0 whole_scoped.1

    module _ (others : List Constant) (z : ℤ) (d : V) (xs : List V) (written : Trees) (rounded : WasRoundedDown k bits z d)
        (have : HaveNumbers k bits (d ∷ xs) 0 others) (is_written : IsWrittenProgram k bits (d ∷ xs) program written) where
      abbrev derived : Tree
      derived = substituted (with_all bits written).0 (with_all bits written).1

      named : IsNamed k bits (d ∷ xs) (substituted (with_all bits program).0 (with_all bits program).1) derived
      named = derivative_named k bits (d ∷ xs) program written is_written

      -- the derivative's own constants, and their numbers
      abbrev own : List Constant
      own = numerals_of_program (derived, [])

      abbrev more : List V
      more = map (λ (c : Constant). k.number c.value) own

      own_exactly : AreExactly k bits (d ∷ xs) own
      own_exactly = exactly_append k bits (d ∷ xs) _ [] (left_exactly k bits (d ∷ xs) named) (λ i c e. absurd (none-some c e))

      have_own : HaveNumbers k bits (d ∷ (xs ++ more)) (length xs) own
      have_own i c e = (
        k.number c.value,
        get_right xs more i ∙ get_changed (λ (c : Constant). k.number c.value) own i c e,
        subst (λ (c' : Constant). WasRead k bits c' (k.number c.value)) (sym (own_exactly i c e)) (number_read k h bits stands c.value),
      )

      abbrev complete : Trees
      complete = program_with_inputs (length xs) (derived, [])

      its : IsCompleted k h bits stands (d ∷ xs) more (substituted (with_all bits program).0 (with_all bits program).1) derived complete.0
      its = completed k h bits stands (d ∷ xs) more named (program_written k bits (d ∷ (xs ++ more)) (length xs) (derived, []) have_own).0

      were_read : WereRead k bits others (xs ++ more)
      were_read i c e x f =
          let had = have i c e in
          let same : 0 + i ≡ i = omega arith in
          let there : slice_get (xs ++ more) i ≡ Some had.0 =
          get_left xs more i had.0 (ap (λ j. slice_get (d ∷ xs) (suc j)) (sym same) ∙ had.1) in
          subst (WasRead k bits c) (same_Some had.0 x (sym there ∙ f)) had.2

      right : IsRight k bits (z ∷ numbers_of others) (d ∷ (xs ++ more)) (entry_of_program bits (inputs_on others (range z z)) slope) (substituted slope.0 slope.1)
      right =
          program_is_right k h bits (z ∷ numbers_of others) (d ∷ (xs ++ more)) (inputs_on others (range z z))
          (inputs_right k h bits (range z z) z d others (xs ++ more) (record { at_least = omega (arith, ints); at_most = omega (arith, ints) }) rounded were_read)
          count slope slope_scoped

      second_bounded : (v s : V) → IsNear k (d ∷ xs) derived (v, s) → IsChangeBound k (grid_at bits slope others z) s
      second_bounded v s near =
          change_right _ _ _ s (right.slope complete.0 (subst (λ t. IsWritten k bits (d ∷ (xs ++ more)) t complete.0) (sym tree_is) its.written))
          (its.slope s ((derivative k h.are_exact (d ∷ xs) derived v s).0 near).1)

    -- The change of a slope over one unit is at least the second derivative's.
    pub bounds_second : (others : List Constant) (z : ℤ) → BoundsSecond k bits program others z (grid_at bits slope others z)
    bounds_second others z d xs written rounded have is_written v s near = second_bounded others z d xs written rounded have is_written v s near

-- the column of the grid, if there is one
pub column_bounds : {V : Type 0} (k : Numbers V) → AreOrdered k → (j : JobValue) → ((z : ℤ) → StandsForFraction k (bits_of j.frac) z) → (count : ℕ) (program : Trees)
    → IsScoped count program → (columns : CurveColumns) (others : List Constant) (z : ℤ) (grid : Option ℕ) → IsGridOf j program columns others z grid
    → BoundsSecond k (bits_of j.frac) program others z grid
column_bounds k h j stands count program scoped columns others z grid (slope, is, at) =
    subst (BoundsSecond k (bits_of j.frac) program others z) (sym at) (of_test (has_grid columns))
  where
    of_test : (b : Bool) → BoundsSecond k (bits_of j.frac) program others z (if b then grid_at (bits_of j.frac) slope others z else None)
    of_test true = bounds_second k h (bits_of j.frac) stands count program slope scoped is others z
    of_test false = λ d xs written rounded have is_written v s near. tt
