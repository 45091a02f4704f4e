-- Branches: the branch that the program takes has the computed value and slope of a choice, and the branch that the exact
-- numbers take has the exact ones.
use Rattle.std.proofs.Common.{◌≡◌, ℕ, ◌&&◌, ℤ, pos, negsuc, ◌-ℤ◌, ◌≤ℤ◌, Bool, true, false, Option, Some, None, Result, Ok, Err, refl, sym, ap, subst, ◌∙◌, ◌⊎◌, inl, inr, if◌then◌else◌, arith}
use Rattle.std.specs.Int.{int_max, int_min}
use Rattle.std.proofs.lemmas.Bool.Decides.{nat_tests}
use Rattle.std.proofs.lemmas.Int.{ints, clamps}
use Rattle.fixed.proofs.FloorLemmas.{two_pos}
use Rattle.std.proofs.lemmas.Option.{none-some, same_Some}
use Rattle.fixed.specs.Arithmetic.{difference_of, is_zero, number_or_overflow, step_of}
use Rattle.fixed.specs.declared.faults.Fault.{Fault}
use Rattle.fixed.specs.declared.operations.Operator.{Operator}
use Rattle.fixed.specs.declared.operations.Operator.TheVariants as op
use Rattle.fixed.specs.declared.operations.Function.{Function}
use Rattle.fixed.specs.declared.operations.Function.TheVariants as f
use Rattle.interval_domain.proofs.OutcomeLemmas.{number_is}
use Rattle.energy_program.specs.Value as v
use Rattle.derivative.specs.Exact as numbers
use Rattle.derivative.specs.Exact.{Numbers, exact}
use Rattle.derivative.specs.Slope.{applied_row, fixed_point, operation_row, power_row, unless_constant}
use Rattle.error_bounds.specs.Approximations.{Approximation}
use Rattle.error_bounds.specs.Meanings.{ApproximatesIfThere}
use Rattle.error_bounds.specs.Ordered.{AreOrdered}
use Rattle.formula_bounds.specs.Entries as e
use Rattle.formula_bounds.specs.Entries.{Entry}
use Rattle.formula_bounds.specs.Walks.{is_open, taken}
use Rattle.formula_bounds.proofs.EntryLaws as laws

-- ---- computed choices

-- the sign of a number whose step is 0 or not
of_step : (bits : ℕ) (d : ℤ) → (is_zero (step_of bits d) ≡ false → pos 0 ≤ℤ d) × (is_zero (step_of bits d) ≡ true → d ≤ℤ negsuc 0)
of_step bits (pos n) = (λ e. omega (arith, ints), λ e. let some = two_pos bits in grind (arith, nat_tests))
of_step bits (negsuc n) = (λ e. absurd (cc), λ e. omega (arith, ints))

-- the first value if a test is true, else the second, is what a choice computes
abbrev pub Chooses : (computed first second : Option ℤ) → ℤ → Type 0
Chooses computed first second s = (is_zero s ≡ false → computed ≡ first) × (is_zero s ≡ true → computed ≡ second)

-- n is a if c - d isn't negative, else b: it is chosen by the step of c - d
chosen_by_step : (bits : ℕ) (a b c d n s : ℤ) → (pos 0 ≤ℤ (c -ℤ d) → n ≡ a) → ((c -ℤ d) ≤ℤ negsuc 0 → n ≡ b)
    → v.step bits (v.difference (Some c) (Some d)) ≡ Some s → Chooses (Some n) (Some a) (Some b) s
chosen_by_step bits a b c d n s first second e = by_result (difference_of c d) refl e
  where
    by_result : (r : Result ℤ Fault) → difference_of c d ≡ r → v.step bits (v.number_of r) ≡ Some s → Chooses (Some n) (Some a) (Some b) s
    by_result (Err fault) er es = absurd (none-some s es)
    by_result (Ok t) er es =
        let same : c -ℤ d ≡ t = number_is (c -ℤ d) t er in
        let step : step_of bits t ≡ s = same_Some (step_of bits t) s es in (
          λ u. let up = (of_step bits t).0 (ap is_zero step ∙ u) in ap (λ (m : ℤ). Some m) (first (subst (λ m. pos 0 ≤ℤ m) (sym same) up)),
          λ u.
              let down = (of_step bits t).1 (ap is_zero step ∙ u) in ap (λ (m : ℤ). Some m) (second (subst (λ m. m ≤ℤ negsuc 0) (sym same) down)),
        )

-- a minimum chooses by the step of the second operand less the first
pub minimum_chooses : (bits : ℕ) (z w : Option ℤ) (s : ℤ) → v.step bits (v.difference w z) ≡ Some s
    → Chooses (v.operation bits op.Minimum z w) z w s
minimum_chooses bits z None s e = absurd (none-some s e)
minimum_chooses bits None (Some b) s e = absurd (none-some s e)
minimum_chooses bits (Some a) (Some b) s e =
    chosen_by_step bits a b b a (int_min a b) s (λ up. omega (arith, ints, clamps, up)) (λ down. omega (arith, ints, clamps, down)) e

-- a maximum chooses by the step of the first operand less the second
pub maximum_chooses : (bits : ℕ) (z w : Option ℤ) (s : ℤ) → v.step bits (v.difference z w) ≡ Some s
    → Chooses (v.operation bits op.Maximum z w) z w s
maximum_chooses bits None w s e = absurd (none-some s e)
maximum_chooses bits (Some a) None s e = absurd (none-some s e)
maximum_chooses bits (Some a) (Some b) s e =
    chosen_by_step bits a b a b (int_max a b) s (λ up. omega (arith, ints, clamps, up)) (λ down. omega (arith, ints, clamps, down)) e

-- an absolute value that is there chooses by the step of its operand
pub absolute_chooses : (bits : ℕ) (z : Option ℤ) (n s : ℤ) → v.applied bits f.Absolute z ≡ Some n → v.step bits z ≡ Some s
    → Chooses (v.applied bits f.Absolute z) z (v.negative z) s
absolute_chooses bits None n s there e = absurd (none-some s e)
absolute_chooses bits (Some a) n s there e =
    let step : step_of bits a ≡ s = same_Some (step_of bits a) s e in
    (λ t. from_zero a there ((of_step bits a).0 (ap is_zero step ∙ t)), λ t. below_zero a ((of_step bits a).1 (ap is_zero step ∙ t)))
  where
    of_result : (m : ℤ) (r : Result ℤ Fault) → number_or_overflow m ≡ r → v.number_of r ≡ Some n → v.number_of r ≡ Some m
    of_result m (Err fault) er es = absurd (none-some n es)
    of_result m (Ok d) er es = ap (λ (i : ℤ). Some i) (sym (number_is m d er))

    from_zero : (a : ℤ) → v.applied bits f.Absolute (Some a) ≡ Some n → pos 0 ≤ℤ a → v.applied bits f.Absolute (Some a) ≡ Some a
    from_zero (pos m) there up = of_result (pos m) (number_or_overflow (pos m)) refl there
    from_zero (negsuc m) there up = absurd (omega (arith, ints, up))

    below_zero : (a : ℤ) → a ≤ℤ negsuc 0 → v.applied bits f.Absolute (Some a) ≡ v.negative (Some a)
    below_zero (pos m) down = absurd (omega (arith, ints, down))
    below_zero (negsuc m) down = refl

-- so does a choice by a number
pub selected_chooses : (z w c : Option ℤ) (s : ℤ) → z ≡ Some s → Chooses (v.selected z w c) w c s
selected_chooses z w c s e = (
  λ t. ap (λ (o : Option ℤ). v.selected o w c) e ∙ ap (λ (b : Bool). if b then c else w) t,
  λ t. ap (λ (o : Option ℤ). v.selected o w c) e ∙ ap (λ (b : Bool). if b then c else w) t,
)

-- ---- fitting entries

module _ {V : Type 0} (k : Numbers V) (h : AreOrdered k) (bits : ℕ) where
  open k.ring use {zero as o, one as i}

  abbrev There : Option Approximation → Option ℤ → Option V → Type 0
  There = ApproximatesIfThere k bits

  -- the same approximation, of exact values that are fewer
  pub fewer : (q : Option Approximation) (w : Option ℤ) (y y' : Option V) → ((t : V) → y' ≡ Some t → y ≡ Some t) → There q w y → There q w y'
  fewer None w y y' less t = tt
  fewer (Some p) w y y' less t = (t.0, t.1, t.2, λ u e. t.3 u (less u e))

  -- The entry approximates a computed value z and slope dz, and an exact value x and slope dx, of a tree that is free of the
  -- distance or not.
  pub record Fits (a : Entry) (free : Bool) (z dz : Option ℤ) (x dx : Option V) : Type 0 where
    pub free_is : a.free ≡ free
    pub value : There a.value z x
    pub slope : There a.slope dz dx

  -- fewer exact values
  pub weaker : (a : Entry) (free : Bool) (z dz : Option ℤ) (x dx x' dx' : Option V) → ((t : V) → x' ≡ Some t → x ≡ Some t)
      → ((t : V) → dx' ≡ Some t → dx ≡ Some t) → Fits a free z dz x dx → Fits a free z dz x' dx'
  weaker a free z dz x dx x' dx' less less' p = record {
    free_is = p.free_is;
    value = fewer a.value z x x' less p.value;
    slope = fewer a.slope dz dx dx' less' p.slope;
  }

  pub negated_fits : (a : Entry) (free : Bool) (z dz : Option ℤ) (x dx : Option V) → Fits a free z dz x dx
      → Fits (e.negated bits a) free (v.negative z) (unless_constant (pos 0) free (v.negative dz)) ((exact k).negative x)
      (unless_constant o free ((exact k).negative dx))
  negated_fits a free z dz x dx p = record {
    free_is = p.free_is;
    value = laws.negative_there k h bits a.value z x p.value;
    slope = rw (p.free_is) (laws.constant_there k h bits free _ _ _ (laws.negative_there k h bits a.slope dz dx p.slope));
  }

  pub binary_fits : (g : Operator) (a b : Entry) (p q : Bool) (z w dz dw : Option ℤ) (x y dx dy : Option V) → Fits a p z dz x dx
      → Fits b q w dw y dy
      → Fits (e.binary bits g a b) (p && q) (v.operation bits g z w)
      (unless_constant (pos 0) (p && q) (operation_row (fixed_point bits) g p q z w dz dw)) (numbers.operation k g x y)
      (unless_constant o (p && q) (operation_row (exact k) g p q x y dx dy))
  binary_fits g a b p q z w dz dw x y dx dy s t = record {
    free_is = rw (s.free_is, t.free_is) refl;
    value = laws.operation_there k h bits g a.value b.value z w x y s.value t.value;
    slope = rw (s.free_is, t.free_is)
        (laws.row_there k h bits _ _ _ _ _ _ _ _ _ _ _ _
        (record { first = s.value; second = t.value; first_slope = s.slope; second_slope = t.slope }) g p q);
  }

  pub applied_fits : (g : Function) (a : Entry) (free : Bool) (z dz : Option ℤ) (x dx : Option V) → Fits a free z dz x dx
      → Fits (e.applied bits g a) free (v.applied bits g z) (unless_constant (pos 0) free (applied_row (fixed_point bits) g z dz))
      (numbers.applied k g x) (unless_constant o free (applied_row (exact k) g x dx))
  applied_fits g a free z dz x dx p = record {
    free_is = p.free_is;
    value = laws.applied_there k h bits g a.value z x p.value;
    slope = rw (p.free_is) (laws.constant_there k h bits free _ _ _ (laws.applied_row_there k h bits g _ _ _ _ _ _ p.value p.slope));
  }

  pub power_fits : (n : ℤ) (a : Entry) (free : Bool) (z dz : Option ℤ) (x dx : Option V) → (n ≡ pos 0 → ⊥) → Fits a free z dz x dx
      → Fits (e.power bits a n) free (v.power bits z n) (unless_constant (pos 0) free (power_row (fixed_point bits) z n dz))
      ((exact k).power x n) (unless_constant o free (power_row (exact k) x n dx))
  power_fits n a free z dz x dx some p = record {
    free_is = p.free_is;
    value = laws.power_there k h bits n a.value z x some p.value;
    slope = rw (p.free_is) (laws.constant_there k h bits free _ _ _ (laws.power_row_there k h bits n _ _ _ _ _ _ some p.value p.slope));
  }

  pub select_fits : (a b c : Entry) (p q r : Bool) (z w u dz dw du : Option ℤ) (x y t dx dy dt : Option V) → Fits a p z dz x dx
      → Fits b q w dw y dy → Fits c r u du t dt
      → Fits (e.select bits a b c) (p && (q && r)) (v.selected z w u) (unless_constant (pos 0) (p && (q && r)) (v.selected z dw du))
      (numbers.selected k x y t) (unless_constant o (p && (q && r)) (numbers.selected k x dy dt))
  select_fits a b c p q r z w u dz dw du x y t dx dy dt s s' s'' = record {
    free_is = rw (s.free_is, s'.free_is, s''.free_is) refl;
    value = laws.selected_there k h bits a.value b.value c.value z w u x y t s.value s'.value s''.value;
    slope = rw (s.free_is, s'.free_is, s''.free_is)
        (laws.constant_there k h bits (p && (q && r)) _ _ _
        (laws.selected_there k h bits a.value b.slope c.slope z dw du x dy dt s.value s'.slope s''.slope));
  }

  -- a branch fits a choice that has its values
  pub taken_fits : (a : Entry) (p : Bool) (z dz z' dz' : Option ℤ) (x dx x' dx' : Option V) → Fits a p z dz x dx → z' ≡ z → dz' ≡ dz
      → ((t : V) → x' ≡ Some t → x ≡ Some t) → ((t : V) → dx' ≡ Some t → dx ≡ Some t) → Fits (taken a) false z' dz' x' dx'
  taken_fits a p z dz z' dz' x dx x' dx' s ez es less less' = record {
    free_is = refl;
    value = fewer a.value z' x x' less (subst (λ (n : Option ℤ). There a.value n x) (sym ez) s.value);
    slope = fewer a.slope dz' dx dx' less' (subst (λ (n : Option ℤ). There a.slope n dx) (sym es) s.slope);
  }

  -- ---- the computed side

  pub none_there : (x : Option V) (t : V) → ◌≡◌ {A = Option V} None (Some t) → x ≡ Some t
  none_there x t e = absurd (none-some t e)

  -- an open condition has a computed number
  pub open_is : (c : Option Approximation) (z : Option ℤ) (x : Option V) → is_open c ≡ true → There c z x → (s : ℤ) × (z ≡ Some s)
  open_is None z x e t = absurd (cc)
  open_is (Some p) z x e t = (t.0, t.1)

  -- of two branches, one fits what is computed
  pub computed_branch : (a b : Entry) (p q free : Bool) (z w dz dw n dn : Option ℤ) (x y dx dy : Option V) (s : ℤ) → Fits a p z dz x dx
      → Fits b q w dw y dy → free ≡ false → Chooses n z w s → Chooses dn dz dw s
      → Fits (taken a) free n dn None None ⊎ Fits (taken b) free n dn None None
  computed_branch a b p q free z w dz dw n dn x y dx dy s s1 s2 varies choice slopes = by_test (is_zero s) refl
    where
      by_test : (test : Bool) → is_zero s ≡ test → Fits (taken a) free n dn None None ⊎ Fits (taken b) free n dn None None
      by_test false t =
          inl (subst (λ (c : Bool). Fits (taken a) c n dn None None) (sym varies)
          (taken_fits a p z dz n dn x dx None None s1 (choice.0 t) (slopes.0 t) (none_there x) (none_there dx)))
      by_test true t =
          inr (subst (λ (c : Bool). Fits (taken b) c n dn None None) (sym varies)
          (taken_fits b q w dw n dn y dy None None s2 (choice.1 t) (slopes.1 t) (none_there y) (none_there dy)))

  -- a slope that varies chooses as its row does
  pub varies_chooses : (free : Bool) (dn first second : Option ℤ) (s : ℤ) → free ≡ false → Chooses dn first second s
      → Chooses (unless_constant (pos 0) free dn) first second s
  varies_chooses free dn first second s e c = rw (e) c
