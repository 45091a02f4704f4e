-- The two sides of a walk: what the program computes, and the exact numbers. Each step of a walk keeps either.
use Rattle.std.proofs.Common.{◌≡◌, ℕ, ◌&&◌, ℤ, pos, Bool, true, false, List, Option, Some, None, refl, sym, ap, subst, ◌∙◌, ◌⊎◌, inl, inr, if◌then◌else◌}
use Rattle.std.proofs.lemmas.Option.{none-some}
use Rattle.fixed.specs.declared.operations.Operator.{Operator}
use Rattle.fixed.specs.declared.operations.Operator.TheVariants as op
use Rattle.fixed.specs.declared.operations.Function.{Function}
use Rattle.fixed.specs.declared.operations.Function.TheVariants as f
use Rattle.fixed.specs.declared.operations.FlatFunction.TheVariants as flat
use Rattle.energy_program.specs.Tree.{Tree, Number, Input, Binary, Applied, Select, is_free_of_distance}
use Rattle.energy_program.specs.Value as v
use Rattle.energy_program.specs.Value.{value_of}
use Rattle.derivative.specs.Exact as numbers
use Rattle.derivative.specs.Exact.{Numbers, exact, exact_slope, exact_value, minus}
use Rattle.derivative.specs.Slope.{applied_row, fixed_point, operation_row, power_row, slope_of, unless_constant}
use Rattle.derivative.proofs.ExactLaws.{chosen, order_by_difference}
use Rattle.error_bounds.specs.Approximations.{Approximation}
use Rattle.error_bounds.specs.Approximate as a
use Rattle.error_bounds.specs.Meanings.{ApproximatesIfThere}
use Rattle.error_bounds.specs.Ordered.{AreOrdered}
use Rattle.formula_bounds.specs.Entries as e
use Rattle.formula_bounds.specs.Entries.{Entry}
use Rattle.formula_bounds.specs.Walks.{condition_of_one, condition_of_two, if_there, is_open, taken}
use Rattle.formula_bounds.specs.Written.{AreApproximated, IsWritten}
use Rattle.formula_bounds.proofs.EntryLaws as laws
use Rattle.formula_bounds.proofs.BranchLaws as branch
use Rattle.formula_bounds.proofs.BranchLaws.{Chooses, Fits, absolute_chooses, maximum_chooses, minimum_chooses, selected_chooses}
use Rattle.formula_bounds.proofs.WalkLaws.{IsKept}

module _ {V : Type 0} (k : Numbers V) (h : AreOrdered k) (bits : ℕ) (inputs : List ℤ) (exacts : List V) (approximations : List Approximation)
    (are : AreApproximated k bits approximations inputs exacts) where
  open k.ring use {zero as o, one as i}

  abbrev There : Option Approximation → Option ℤ → Option V → Type 0
  There = ApproximatesIfThere k bits

  abbrev computed : Tree → Option ℤ
  computed t = value_of bits inputs t

  abbrev computed_slope : Tree → Option ℤ
  computed_slope t = slope_of bits inputs t

  -- ---- what is computed

  -- the entry approximates the value and the slope that the program computes of a tree
  abbrev pub OfComputed : Tree → Tree → Entry → Type 0
  OfComputed t t' x = Fits k h bits x (is_free_of_distance t) (computed t) (computed_slope t) None None

  less : (x x' : Option V) (t : V) → ◌≡◌ {A = Option V} None (Some t) → x ≡ Some t
  less x x' t e = absurd (none-some t e)

  abbrev drops : (x : Entry) (free : Bool) (z dz : Option ℤ) (y dy : Option V) → Fits k h bits x free z dz y dy → Fits k h bits x free z dz None None
  drops x free z dz y dy p = branch.weaker k h bits x free z dz y dy None None (less y None) (less dy None) p

  two_branches : (g : Operator) (t t' u u' : Tree) (x y : Entry) → OfComputed t t' x → OfComputed u u' y → (x.free && y.free) ≡ false
      → is_open (condition_of_two bits g x y) ≡ true
      → OfComputed (Binary g t u) (Binary g t' u') (taken x) ⊎ OfComputed (Binary g t u) (Binary g t' u') (taken y)
  two_branches op.Minimum t t' u u' x y p q varies wide =
      let there : There (condition_of_two bits op.Minimum x y) (v.step bits (v.difference (computed u) (computed t))) _ =
      laws.applied_there k h bits (f.Flat flat.Step) _ _ _ (laws.operation_there k h bits op.Subtract y.value x.value _ _ None None q.value p.value) in
      let s = branch.open_is k h bits _ _ _ wide there in
      let free : (is_free_of_distance t && is_free_of_distance u) ≡ false = rw (sym p.free_is, sym q.free_is) varies in
      branch.computed_branch k h bits x y _ _ _ _ _ _ _ _ _ _ _ _ _ s.0 p q free (minimum_chooses bits (computed t) (computed u) s.0 s.1)
      (branch.varies_chooses k h bits _ _ _ _ s.0 free (selected_chooses _ (computed_slope t) (computed_slope u) s.0 s.1))
  two_branches op.Maximum t t' u u' x y p q varies wide =
      let there : There (condition_of_two bits op.Maximum x y) (v.step bits (v.difference (computed t) (computed u))) _ =
      laws.applied_there k h bits (f.Flat flat.Step) _ _ _ (laws.operation_there k h bits op.Subtract x.value y.value _ _ None None p.value q.value) in
      let s = branch.open_is k h bits _ _ _ wide there in
      let free : (is_free_of_distance t && is_free_of_distance u) ≡ false = rw (sym p.free_is, sym q.free_is) varies in
      branch.computed_branch k h bits x y _ _ _ _ _ _ _ _ _ _ _ _ _ s.0 p q free (maximum_chooses bits (computed t) (computed u) s.0 s.1)
      (branch.varies_chooses k h bits _ _ _ _ s.0 free (selected_chooses _ (computed_slope t) (computed_slope u) s.0 s.1))
  two_branches op.Add t t' u u' x y p q varies wide = absurd (cc)
  two_branches op.Subtract t t' u u' x y p q varies wide = absurd (cc)
  two_branches op.Multiply t t' u u' x y p q varies wide = absurd (cc)
  two_branches op.Divide t t' u u' x y p q varies wide = absurd (cc)

  -- a condition that is open only if another approximation is there
  there_of : (c q : Option Approximation) → is_open (if_there c q) ≡ true → (p : Approximation) × (c ≡ Some p) × (is_open q ≡ true)
  there_of None q e = absurd (cc)
  there_of (Some p) q e = (p, refl, e)

  computed_there : (c : Option Approximation) (p : Approximation) (z : Option ℤ) (x : Option V) → c ≡ Some p → There c z x → (n : ℤ) × (z ≡ Some n)
  computed_there None p z x e t = absurd (none-some p e)
  computed_there (Some q) p z x e t = (t.0, t.1)

  unless_false : (free : Bool) (n : Option ℤ) → free ≡ false → unless_constant (pos 0) free n ≡ n
  unless_false free n e = rw (e) refl

  one_branch : (g : Function) (t t' : Tree) (x : Entry) → OfComputed t t' x → x.free ≡ false → is_open (condition_of_one bits g x) ≡ true
      → OfComputed (Applied g t) (Applied g t') (taken x) ⊎ OfComputed (Applied g t) (Applied g t') (taken (e.negated bits x))
  one_branch f.Absolute t t' x p varies wide =
      let both = there_of (a.applied bits f.Absolute x.value) ((a.approximate bits).step x.value) wide in
      let value = computed_there _ both.0 _ _ both.1 (laws.applied_there k h bits f.Absolute x.value (computed t) None p.value) in
      let s = branch.open_is k h bits _ _ _ both.2 (laws.applied_there k h bits (f.Flat flat.Step) x.value (computed t) None p.value) in
      let free : is_free_of_distance t ≡ false = sym p.free_is ∙ varies in
      let slopes : Chooses (v.selected (v.step bits (computed t)) (computed_slope t) (v.negative (computed_slope t))) (computed_slope t)
      (unless_constant (pos 0) (is_free_of_distance t) (v.negative (computed_slope t))) s.0 =
      subst (λ (n : Option ℤ). Chooses (v.selected (v.step bits (computed t)) (computed_slope t) (v.negative (computed_slope t))) (computed_slope t) n s.0)
      (sym (unless_false (is_free_of_distance t) (v.negative (computed_slope t)) free))
      (selected_chooses _ (computed_slope t) (v.negative (computed_slope t)) s.0 s.1) in
      branch.computed_branch k h bits x (e.negated bits x) _ _ _ _ _ _ _ _ _ _ _ _ _ s.0 p (branch.negated_fits k h bits x _ _ _ _ _ p) free
      (absolute_chooses bits (computed t) value.0 s.0 value.1 s.1) (branch.varies_chooses k h bits _ _ _ _ s.0 free slopes)
  one_branch f.SquareRoot t t' x p varies wide = absurd (cc)
  one_branch (f.Flat g) t t' x p varies wide = absurd (cc)

  select_branch : (s s' t t' u u' : Tree) (x y z : Entry) → OfComputed s s' x → OfComputed t t' y → OfComputed u u' z
      → (x.free && (y.free && z.free)) ≡ false → is_open x.value ≡ true
      → OfComputed (Select s t u) (Select s' t' u') (taken y) ⊎ OfComputed (Select s t u) (Select s' t' u') (taken z)
  select_branch s s' t t' u u' x y z p q r varies wide =
      let n = branch.open_is k h bits x.value (computed s) None wide p.value in
      let free : (is_free_of_distance s && (is_free_of_distance t && is_free_of_distance u)) ≡ false =
      rw (sym p.free_is, sym q.free_is, sym r.free_is) varies in
      branch.computed_branch k h bits y z _ _ _ _ _ _ _ _ _ _ _ _ _ n.0 q r free
      (selected_chooses (computed s) (computed t) (computed u) n.0 n.1)
      (branch.varies_chooses k h bits _ _ _ _ n.0 free (selected_chooses (computed s) (computed_slope t) (computed_slope u) n.0 n.1))

  pub computed_kept : IsKept bits approximations (IsWritten k bits exacts) OfComputed
  computed_kept = record {
    number = λ c t w.
        drops _ _ _ _ _ _ (record { free_is = refl; value = laws.number_value k h bits inputs exacts approximations are c t w; slope = laws.number_slope k h bits inputs exacts approximations are c t w });
    input = λ j.
        drops _ _ _ _ _ _ (record { free_is = refl; value = laws.input_value k h bits inputs exacts approximations are j (Input j) IsWritten.input; slope = laws.input_slope k h bits inputs exacts approximations are j (Input j) IsWritten.input });
    missed = record { free_is = refl; value = tt; slope = tt };
    negated = λ t t' x p. drops _ _ _ _ _ _ (branch.negated_fits k h bits x _ _ _ _ _ p);
    binary = λ g t t' u u' x y p q. drops _ _ _ _ _ _ (branch.binary_fits k h bits g x y _ _ _ _ _ _ _ _ _ _ p q);
    branch_of_two = two_branches;
    applied = λ g t t' x p. drops _ _ _ _ _ _ (branch.applied_fits k h bits g x _ _ _ _ _ p);
    branch_of_one = one_branch;
    power = λ t t' n x some p. drops _ _ _ _ _ _ (branch.power_fits k h bits n x _ _ _ _ _ some p);
    select = λ s s' t t' u u' x y z p q r. drops _ _ _ _ _ _ (branch.select_fits k h bits x y z _ _ _ _ _ _ _ _ _ _ _ _ _ _ _ p q r);
    branch_of_select = select_branch;
  }

  -- ---- what is exact

  abbrev value : Tree → Option V
  value t = exact_value k exacts t

  abbrev slope : Tree → Option V
  slope t = exact_slope k exacts t

  -- the entry approximates the exact value and slope of a tree as it was written, and some computed ones
  abbrev pub OfExact : Tree → Tree → Entry → Type 0
  OfExact t t' x =
      (is_free_of_distance t' ≡ is_free_of_distance t) × (z : Option ℤ) × (dz : Option ℤ)
      × Fits k h bits x (is_free_of_distance t) z dz (value t') (slope t')

  -- one of two branches has the exact value and slope
  abbrev Takes : (x first second dx dfirst dsecond : Option V) → Type 0
  Takes x first second dx dfirst dsecond =
      (b : Bool) × ((t : V) → x ≡ Some t → (if b then first else second) ≡ Some t) × ((t : V) → dx ≡ Some t → (if b then dfirst else dsecond) ≡ Some t)

  -- x is taken if u is at most w, else y
  taken_by_order : (x y u w : V) (dx dy : Option V)
      → Takes (Some (if k.is_at_most u w then x else y)) (Some x) (Some y) (numbers.selected k (Some (numbers.step_of k (minus k.ring w u))) dx dy) dx dy
  taken_by_order x y u w dx dy = by_test (k.is_at_most u w) refl
    where
      by_test : (c : Bool) → k.is_at_most u w ≡ c
          → Takes (Some (if k.is_at_most u w then x else y)) (Some x) (Some y) (numbers.selected k (Some (numbers.step_of k (minus k.ring w u))) dx dy) dx dy
      by_test true e = (
        true,
        λ t et. ap (λ (b : Bool). Some (if b then x else y)) (sym e) ∙ et,
        λ t et. sym (chosen k h.are_exact true (minus k.ring w u) dx dy (order_by_difference k h.are_exact u w ∙ e)) ∙ et,
      )
      by_test false e = (
        false,
        λ t et. ap (λ (b : Bool). Some (if b then x else y)) (sym e) ∙ et,
        λ t et. sym (chosen k h.are_exact false (minus k.ring w u) dx dy (order_by_difference k h.are_exact u w ∙ e)) ∙ et,
      )

  minimum_takes : (x y dx dy : Option V)
      → Takes (numbers.operation k op.Minimum x y) x y (numbers.selected k ((exact k).step ((exact k).difference y x)) dx dy) dx dy
  minimum_takes None None dx dy = (true, λ t e. absurd (none-some t e), λ t e. absurd (none-some t e))
  minimum_takes None (Some y) dx dy = (true, λ t e. absurd (none-some t e), λ t e. absurd (none-some t e))
  minimum_takes (Some x) None dx dy = (true, λ t e. absurd (none-some t e), λ t e. absurd (none-some t e))
  minimum_takes (Some x) (Some y) dx dy = taken_by_order x y x y dx dy

  maximum_takes : (x y dx dy : Option V)
      → Takes (numbers.operation k op.Maximum x y) x y (numbers.selected k ((exact k).step ((exact k).difference x y)) dx dy) dx dy
  maximum_takes None y dx dy = (true, λ t e. absurd (none-some t e), λ t e. absurd (none-some t e))
  maximum_takes (Some x) None dx dy = (true, λ t e. absurd (none-some t e), λ t e. absurd (none-some t e))
  maximum_takes (Some x) (Some y) dx dy = taken_by_order x y y x dx dy

  absolute_takes : (x dx : Option V)
      → Takes (numbers.applied k f.Absolute x) x ((exact k).negative x) (numbers.selected k ((exact k).step x) dx ((exact k).negative dx)) dx ((exact k).negative dx)
  absolute_takes None dx = (true, λ t e. absurd (none-some t e), λ t e. absurd (none-some t e))
  absolute_takes (Some x) dx = by_test (k.is_at_most o x) refl
    where
      by_test : (c : Bool) → k.is_at_most o x ≡ c
          → Takes (Some (if k.is_at_most o x then x else k.ring.negative x)) (Some x) (Some (k.ring.negative x))
          (numbers.selected k (Some (numbers.step_of k x)) dx ((exact k).negative dx)) dx ((exact k).negative dx)
      by_test true e = (
        true,
        λ t et. ap (λ (b : Bool). Some (if b then x else k.ring.negative x)) (sym e) ∙ et,
        λ t et. sym (chosen k h.are_exact true x dx ((exact k).negative dx) e) ∙ et,
      )
      by_test false e = (
        false,
        λ t et. ap (λ (b : Bool). Some (if b then x else k.ring.negative x)) (sym e) ∙ et,
        λ t et. sym (chosen k h.are_exact false x dx ((exact k).negative dx) e) ∙ et,
      )

  selected_takes : (c x y dx dy : Option V) → Takes (numbers.selected k c x y) x y (numbers.selected k c dx dy) dx dy
  selected_takes None x y dx dy = (true, λ t e. absurd (none-some t e), λ t e. absurd (none-some t e))
  selected_takes (Some u) x y dx dy = by_test (k.is_zero u)
    where
      by_test : (c : Bool) → Takes (if c then y else x) x y (if c then dy else dx) dx dy
      by_test true = (false, λ t e. e, λ t e. e)
      by_test false = (true, λ t e. e, λ t e. e)

  -- a branch has the exact value and slope, and some computed ones
  abbrev HasExact : Entry → Bool → (x dx : Option V) → Type 0
  HasExact a free x dx = (z : Option ℤ) × (dz : Option ℤ) × Fits k h bits a free z dz x dx

  exact_branch : (a b : Entry) (p q free : Bool) (z w dz dw : Option ℤ) (x y dx dy n dn : Option V) → Fits k h bits a p z dz x dx
      → Fits k h bits b q w dw y dy → free ≡ false → Takes n x y dn dx dy → HasExact (taken a) free n dn ⊎ HasExact (taken b) free n dn
  exact_branch a b p q free z w dz dw x y dx dy n dn s1 s2 varies (true, less1, less2) =
      inl (z, dz, subst (λ (c : Bool). Fits k h bits (taken a) c z dz n dn) (sym varies) (branch.taken_fits k h bits a p z dz z dz x dx n dn s1 refl refl less1 less2))
  exact_branch a b p q free z w dz dw x y dx dy n dn s1 s2 varies (false, less1, less2) =
      inr (w, dw, subst (λ (c : Bool). Fits k h bits (taken b) c w dw n dn) (sym varies) (branch.taken_fits k h bits b q w dw w dw y dy n dn s2 refl refl less1 less2))

  takes_varying : (free : Bool) (x first second dx dfirst dsecond : Option V) → free ≡ false → Takes x first second dx dfirst dsecond
      → Takes x first second (unless_constant o free dx) dfirst dsecond
  takes_varying free x first second dx dfirst dsecond e c = rw (e) c

  takes_either : (free : Bool) (x first second dx dfirst dsecond : Option V) → free ≡ false → Takes x first second dx dfirst dsecond
      → Takes x first second dx dfirst (unless_constant o free dsecond)
  takes_either free x first second dx dfirst dsecond e c = rw (e) c

  two_exact : (g : Operator) (t t' u u' : Tree) (x y : Entry) → OfExact t t' x → OfExact u u' y → (x.free && y.free) ≡ false
      → is_open (condition_of_two bits g x y) ≡ true
      → OfExact (Binary g t u) (Binary g t' u') (taken x) ⊎ OfExact (Binary g t u) (Binary g t' u') (taken y)
  two_exact op.Minimum t t' u u' x y p q varies wide =
      let free : (is_free_of_distance t && is_free_of_distance u) ≡ false = rw (sym p.3.free_is, sym q.3.free_is) varies in
      let same : (is_free_of_distance t' && is_free_of_distance u') ≡ (is_free_of_distance t && is_free_of_distance u) = rw (p.0, q.0) refl in
      elim (exact_branch x y _ _ (is_free_of_distance t && is_free_of_distance u) p.1 q.1 p.2 q.2 (value t') (value u') (slope t') (slope u') _ _ p.3 q.3 free
      (takes_varying (is_free_of_distance t' && is_free_of_distance u') _ _ _ _ _ _ (same ∙ free)
      (minimum_takes (value t') (value u') (slope t') (slope u')))) [
        | inl b ↦ inl (same, b.0, b.1, b.2)
        | inr b ↦ inr (same, b.0, b.1, b.2)
      ]
  two_exact op.Maximum t t' u u' x y p q varies wide =
      let free : (is_free_of_distance t && is_free_of_distance u) ≡ false = rw (sym p.3.free_is, sym q.3.free_is) varies in
      let same : (is_free_of_distance t' && is_free_of_distance u') ≡ (is_free_of_distance t && is_free_of_distance u) = rw (p.0, q.0) refl in
      elim (exact_branch x y _ _ (is_free_of_distance t && is_free_of_distance u) p.1 q.1 p.2 q.2 (value t') (value u') (slope t') (slope u') _ _ p.3 q.3 free
      (takes_varying (is_free_of_distance t' && is_free_of_distance u') _ _ _ _ _ _ (same ∙ free)
      (maximum_takes (value t') (value u') (slope t') (slope u')))) [
        | inl b ↦ inl (same, b.0, b.1, b.2)
        | inr b ↦ inr (same, b.0, b.1, b.2)
      ]
  two_exact op.Add t t' u u' x y p q varies wide = absurd (cc)
  two_exact op.Subtract t t' u u' x y p q varies wide = absurd (cc)
  two_exact op.Multiply t t' u u' x y p q varies wide = absurd (cc)
  two_exact op.Divide t t' u u' x y p q varies wide = absurd (cc)

  one_exact : (g : Function) (t t' : Tree) (x : Entry) → OfExact t t' x → x.free ≡ false → is_open (condition_of_one bits g x) ≡ true
      → OfExact (Applied g t) (Applied g t') (taken x) ⊎ OfExact (Applied g t) (Applied g t') (taken (e.negated bits x))
  one_exact f.Absolute t t' x p varies wide =
      let free : is_free_of_distance t ≡ false = sym p.3.free_is ∙ varies in
      elim (exact_branch x (e.negated bits x) _ _ (is_free_of_distance t) p.1 _ p.2 _ (value t') _ (slope t') _ _ _ p.3
      (branch.negated_fits k h bits x _ p.1 p.2 (value t') (slope t') p.3) free
      (takes_either (is_free_of_distance t) _ _ _ _ _ _ free
      (takes_varying (is_free_of_distance t') _ _ _ _ _ _ (p.0 ∙ free) (absolute_takes (value t') (slope t'))))) [
        | inl b ↦ inl (p.0, b.0, b.1, b.2)
        | inr b ↦ inr (p.0, b.0, b.1, b.2)
      ]
  one_exact f.SquareRoot t t' x p varies wide = absurd (cc)
  one_exact (f.Flat g) t t' x p varies wide = absurd (cc)

  select_exact : (s s' t t' u u' : Tree) (x y z : Entry) → OfExact s s' x → OfExact t t' y → OfExact u u' z
      → (x.free && (y.free && z.free)) ≡ false → is_open x.value ≡ true
      → OfExact (Select s t u) (Select s' t' u') (taken y) ⊎ OfExact (Select s t u) (Select s' t' u') (taken z)
  select_exact s s' t t' u u' x y z p q r varies wide =
      let free : (is_free_of_distance s && (is_free_of_distance t && is_free_of_distance u)) ≡ false =
      rw (sym p.3.free_is, sym q.3.free_is, sym r.3.free_is) varies in
      let same : (is_free_of_distance s' && (is_free_of_distance t' && is_free_of_distance u'))
      ≡ (is_free_of_distance s && (is_free_of_distance t && is_free_of_distance u)) = rw (p.0, q.0, r.0) refl in
      elim (exact_branch y z _ _ (is_free_of_distance s && (is_free_of_distance t && is_free_of_distance u)) q.1 r.1 q.2 r.2
      (value t') (value u') (slope t') (slope u') _ _ q.3 r.3 free
      (takes_varying (is_free_of_distance s' && (is_free_of_distance t' && is_free_of_distance u')) _ _ _ _ _ _ (same ∙ free)
      (selected_takes (value s') (value t') (value u') (slope t') (slope u')))) [
        | inl b ↦ inl (same, b.0, b.1, b.2)
        | inr b ↦ inr (same, b.0, b.1, b.2)
      ]

  pub exact_kept : IsKept bits approximations (IsWritten k bits exacts) OfExact
  exact_kept = record {
    number = λ c t w. (
      laws.written_free k h bits inputs exacts approximations are (Number c) t w,
      Some c.value,
      Some (pos 0),
      record { free_is = refl; value = laws.number_value k h bits inputs exacts approximations are c t w; slope = laws.number_slope k h bits inputs exacts approximations are c t w },
    );
    input = λ j. (
      refl,
      computed (Input j),
      computed_slope (Input j),
      record { free_is = refl; value = laws.input_value k h bits inputs exacts approximations are j (Input j) IsWritten.input; slope = laws.input_slope k h bits inputs exacts approximations are j (Input j) IsWritten.input },
    );
    missed = (refl, None, None, record { free_is = refl; value = tt; slope = tt });
    negated = λ t t' x p. (
      p.0,
      v.negative p.1,
      unless_constant (pos 0) (is_free_of_distance t) (v.negative p.2),
      rw (p.0) (branch.negated_fits k h bits x _ p.1 p.2 (value t') (slope t') p.3),
    );
    binary = λ g t t' u u' x y p q. (
      rw (p.0, q.0) refl,
      v.operation bits g p.1 q.1,
      unless_constant (pos 0) (is_free_of_distance t && is_free_of_distance u)
          (operation_row (fixed_point bits) g (is_free_of_distance t) (is_free_of_distance u) p.1 q.1 p.2 q.2),
      rw (p.0, q.0) (branch.binary_fits k h bits g x y _ _ p.1 q.1 p.2 q.2 (value t') (value u') (slope t') (slope u') p.3 q.3),
    );
    branch_of_two = two_exact;
    applied = λ g t t' x p. (
      p.0,
      v.applied bits g p.1,
      unless_constant (pos 0) (is_free_of_distance t) (applied_row (fixed_point bits) g p.1 p.2),
      rw (p.0) (branch.applied_fits k h bits g x _ p.1 p.2 (value t') (slope t') p.3),
    );
    branch_of_one = one_exact;
    power = λ t t' n x some p. (
      p.0,
      v.power bits p.1 n,
      unless_constant (pos 0) (is_free_of_distance t) (power_row (fixed_point bits) p.1 n p.2),
      rw (p.0) (branch.power_fits k h bits n x _ p.1 p.2 (value t') (slope t') some p.3),
    );
    select = λ s s' t t' u u' x y z p q r. (
      rw (p.0, q.0, r.0) refl,
      v.selected p.1 q.1 r.1,
      unless_constant (pos 0) (is_free_of_distance s && (is_free_of_distance t && is_free_of_distance u)) (v.selected p.1 q.2 r.2),
      rw (p.0, q.0, r.0)
          (branch.select_fits k h bits x y z _ _ _ p.1 q.1 r.1 p.2 q.2 r.2 (value s') (value t') (value u') (slope s') (slope t') (slope u') p.3 q.3 r.3),
    );
    branch_of_select = select_exact;
  }
