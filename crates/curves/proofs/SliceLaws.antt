-- Bounds over a range of distances are right.
use Rattle.std.proofs.Common.{◌≡◌, ℕ, zero, suc, ◌≤◌, ℤ, pos, ◌+ℤ◌, ◌-ℤ◌, ◌*ℤ◌, ◌≤ℤ◌, max, min, nat_le, unsigned_abs, Bool, true, false, if◌then◌else◌, List, [], ◌∷◌, map, Option, Some, None, slice_get, refl, sym, ap, subst, arith}
use Rattle.std.proofs.lemmas.Bool.Decides.{nat_tests}
use Rattle.std.proofs.lemmas.Int.{ints}
use Rattle.energy_program.specs.Programs.{Trees}
use Rattle.energy_program.specs.Tree.{Tree, substituted}
use Rattle.energy_program.specs.Value.{value_of}
use Rattle.derivative.specs.DualNumbers.{IsScoped}
use Rattle.derivative.proofs.DualComplete.{derivative}
use Rattle.derivative.specs.Exact.{Numbers, exact_slope, exact_value}
use Rattle.derivative.specs.Slope.{slope_of}
use Rattle.error_bounds.specs.Approximations.{Agrees, Approximation, scale}
use Rattle.error_bounds.specs.Meanings.{ApproximatesIfThere, WasRoundedDown}
use Rattle.error_bounds.specs.Ordered.{AreOrdered}
use Rattle.interval_domain.specs.Ranges.{IsIn, Range}
use Rattle.error_bounds.specs.Rules.{as_read, distances}
use Rattle.potential.specs.Tables.{numbers_of}
use Rattle.fixed.specs.declared.constants.Constant.{Constant}
use Rattle.error_bounds.proofs.Between.{wider}
use Rattle.error_bounds.proofs.JumpLaws.{distance_agrees, read_agrees}
use Rattle.formula_bounds.specs.Entries.{Entry, entry_of_program}
use Rattle.curves.specs.Slices.{AreBoundsOver, AreRight, AreRightOfDerivatives, BoundsView, IsBound, Part, WereRead, bound_of, bounds_on, in_entry, inputs_on, is_wide, is_worse, least_bounds, lesser_bound, part_on}
use Rattle.formula_bounds.specs.Walks.{entries_of_program}
use Rattle.formula_bounds.specs.Written.{AreApproximated, IsRight, IsWritten, IsWrittenProgram}
use Rattle.curves.specs.declared.slices.Column.TheVariants.{Energy, Slope}
use Rattle.formula_bounds.proofs.EntryLaws.{program_is_right}
use Rattle.curves.proofs.HalvingLaws.{part_with}
use Rattle.formula_bounds.proofs.OutcomeLaws.{SomeComputed, all_there}
use Rattle.formula_bounds.proofs.SideLaws.{OfComputed, OfExact, computed_kept, exact_kept}
use Rattle.formula_bounds.proofs.WalkLaws.{Some_of, over_map, some_entry}
use Rattle.formula_bounds.proofs.WrittenLaws.{written_tree}

module _ {V : Type 0} (k : Numbers V) (h : AreOrdered k) (bits : ℕ) where
  -- the least and the greatest error are within the greatest magnitude
  within : (z low high : ℤ) → ((pos 256 *ℤ z -ℤ pos (max (unsigned_abs low) (unsigned_abs high))) ≤ℤ (pos 256 *ℤ z -ℤ high))
      × ((pos 256 *ℤ z -ℤ low) ≤ℤ (pos 256 *ℤ z +ℤ pos (max (unsigned_abs low) (unsigned_abs high))))
  within z low high = (omega (arith, ints), omega (arith, ints))

  bound_right : (p : Option Approximation) (computed : Option ℤ) (exact : Option V) → ApproximatesIfThere k bits p computed exact
      → IsBound k bits (bound_of p) computed exact
  bound_right None computed exact t = tt
  bound_right (Some p) computed exact t = (
    t.0,
    t.1,
    λ x e.
        let w = within t.0 p.error.low p.error.high in
        wider k h (scale bits) _ _ _ _ x w.0 w.1 (t.3 x e).near,
  )

  -- ---- inputs

  some_is : (x y : V) → ◌≡◌ {A = Option V} (Some x) (Some y) → x ≡ y
  some_is x y e = cc

  others_right : (others : List Constant) (xs : List V) → WereRead k bits others xs → (i : ℕ)
      → ApproximatesIfThere k bits (slice_get (map as_read others) i) (slice_get (numbers_of others) i) (slice_get xs i)
  others_right [] xs r i = tt
  others_right (c ∷ cs) [] r zero = (c.value, refl, record { at_least = omega (arith, ints); at_most = omega (arith, ints) }, λ x e. absurd (cc))
  others_right (c ∷ cs) (x ∷ xs) r zero =
      (c.value, refl, record { at_least = omega (arith, ints); at_most = omega (arith, ints) }, λ y e. read_agrees k h bits c y (r 0 c refl y e))
  others_right (c ∷ cs) [] r (suc i) = others_right cs [] (λ j w e y f. absurd (cc)) i
  others_right (c ∷ cs) (x ∷ xs) r (suc i) = others_right cs xs (λ j w e y f. r (suc j) w e y f) i

  -- the inputs on a range are approximations of a distance in it and of the exact numbers
  pub inputs_right : (r : Range) (z : ℤ) (d : V) (others : List Constant) (xs : List V) → IsIn z r → WasRoundedDown k bits z d → WereRead k bits others xs
      → AreApproximated k bits (distances r ∷ map as_read others) (z ∷ numbers_of others) (d ∷ xs)
  inputs_right r z d others xs m w o zero = (z, refl, (distance_agrees k h bits r z d m w).computed, λ x e. subst (Agrees k bits (distances r) z) (some_is d x e) (distance_agrees k h bits r z d m w))
  inputs_right r z d others xs m w o (suc i) = others_right others xs o i

  -- ---- parts

  -- a bound that isn't worse than another is right only if the other is
  not_worse_right : (x y : Option ℕ) (computed : Option ℤ) (exact : Option V) → is_worse x y ≡ false → IsBound k bits x computed exact
      → IsBound k bits y computed exact
  not_worse_right x None computed exact e t = tt
  not_worse_right None (Some y) computed exact e t = absurd (cc)
  not_worse_right (Some x) (Some y) computed exact e t =
      let le : x ≤ y = grind (arith, nat_tests) in
      (t.0, t.1, λ v f. wider k h (scale bits) _ _ _ _ v (omega (arith, ints, le)) (omega (arith, ints, le)) (t.2 v f))

  -- the lesser of two bounds is right, if both are
  lesser_right : (x y : Option ℕ) (computed : Option ℤ) (exact : Option V) → IsBound k bits x computed exact → IsBound k bits y computed exact
      → IsBound k bits (lesser_bound x y) computed exact
  lesser_right None y computed exact s t = t
  lesser_right (Some x) None computed exact s t = s
  lesser_right (Some x) (Some y) computed exact s t = by_test (nat_le x y) refl
    where
      by_test : (c : Bool) → nat_le x y ≡ c → IsBound k bits (Some (min x y)) computed exact
      by_test true e =
          let le : x ≤ y = grind (arith, nat_tests) in
          let same : x ≡ min x y = omega (arith, le) in subst (λ n. IsBound k bits (Some n) computed exact) same s
      by_test false e =
          let le : y ≤ x = grind (arith, nat_tests) in
          let same : y ≡ min x y = omega (arith, le) in subst (λ n. IsBound k bits (Some n) computed exact) same t

  of_either : (test : Bool) (b c : BoundsView) (computed : Option ℤ) (exact : Option V) → IsBound k bits b.energy computed exact
      → IsBound k bits c.energy computed exact → IsBound k bits (if test then b else c).energy computed exact
  of_either true b c computed exact s t = s
  of_either false b c computed exact s t = t

  of_either_slope : (test : Bool) (b c : BoundsView) (computed : Option ℤ) (exact : Option V) → IsBound k bits b.slope computed exact
      → IsBound k bits c.slope computed exact → IsBound k bits (if test then b else c).slope computed exact
  of_either_slope true b c computed exact s t = s
  of_either_slope false b c computed exact s t = t

  -- the bounds of walks that divide are right
  least_energy : (es : List Entry) (plain : BoundsView) (computed : Option ℤ) (exact : Option V) → IsBound k bits plain.energy computed exact
      → Some_of (λ p. ApproximatesIfThere k bits p computed None) (map (in_entry Energy) es)
      → Some_of (SomeComputed k h bits exact) (map (in_entry Energy) es) → IsBound k bits (least_bounds plain es).energy computed exact
  least_energy [] plain computed exact b s t = b
  least_energy (e ∷ []) plain computed exact b s t = b
  least_energy (e ∷ f ∷ es) plain computed exact b s t =
      lesser_right _ _ computed exact b (bound_right _ computed exact (all_there k h bits (map (in_entry Energy) (e ∷ f ∷ es)) computed exact s t))

  least_slope : (es : List Entry) (plain : BoundsView) (computed : Option ℤ) (exact : Option V) → IsBound k bits plain.slope computed exact
      → Some_of (λ p. ApproximatesIfThere k bits p computed None) (map (in_entry Slope) es)
      → Some_of (SomeComputed k h bits exact) (map (in_entry Slope) es) → IsBound k bits (least_bounds plain es).slope computed exact
  least_slope [] plain computed exact b s t = b
  least_slope (e ∷ []) plain computed exact b s t = b
  least_slope (e ∷ f ∷ es) plain computed exact b s t =
      lesser_right _ _ computed exact b (bound_right _ computed exact (all_there k h bits (map (in_entry Slope) (e ∷ f ∷ es)) computed exact s t))

  module _ (count : ℕ) (program : Trees) (scoped : IsScoped count program) (others : List Constant) where
    abbrev tree : Tree
    tree = substituted program.0 program.1

    -- a formula at a distance of the range, and the entries of walks over the range
    module _ (r : Range) (z : ℤ) (d : V) (xs : List V) (written : Trees) (within_range : IsIn z r) (rounded : WasRoundedDown k bits z d)
        (were_read : WereRead k bits others xs) (is_written : IsWrittenProgram k bits (d ∷ xs) program written) where
      abbrev inputs : List Approximation
      inputs = inputs_on others r

      abbrev raws : List ℤ
      raws = z ∷ numbers_of others

      abbrev exact_tree : Tree
      exact_tree = substituted written.0 written.1

      are : AreApproximated k bits inputs raws (d ∷ xs)
      are = inputs_right r z d others xs within_range rounded were_read

      plain : IsRight k bits raws (d ∷ xs) (entry_of_program bits inputs program) tree
      plain = program_is_right k h bits raws (d ∷ xs) inputs are count program scoped

      tree_written : IsWritten k bits (d ∷ xs) tree exact_tree
      tree_written = written_tree k bits (d ∷ xs) count program written scoped is_written

      abbrev entries : List Entry
      entries = entries_of_program bits inputs program 3

      computed_entry : Some_of (OfComputed k h bits raws (d ∷ xs) inputs are tree exact_tree) entries
      computed_entry =
          some_entry k bits (d ∷ xs) inputs (OfComputed k h bits raws (d ∷ xs) inputs are) (computed_kept k h bits raws (d ∷ xs) inputs are) count program written
          scoped is_written 3

      exact_entry : Some_of (OfExact k h bits raws (d ∷ xs) inputs are tree exact_tree) entries
      exact_entry =
          some_entry k bits (d ∷ xs) inputs (OfExact k h bits raws (d ∷ xs) inputs are) (exact_kept k h bits raws (d ∷ xs) inputs are) count program written
          scoped is_written 3

      energy_right : IsBound k bits (bounds_on bits program others r).energy (value_of bits raws tree) (exact_value k (d ∷ xs) exact_tree)
      energy_right =
          of_either (is_wide r) _ _ _ _ (bound_right _ _ _ (plain.value exact_tree tree_written))
          (least_energy entries _ _ _ (bound_right _ _ _ (plain.value exact_tree tree_written))
          (over_map _ (λ p. ApproximatesIfThere k bits p (value_of bits raws tree) None) (in_entry Energy) (λ x p. p.value) entries computed_entry)
          (over_map _ (SomeComputed k h bits (exact_value k (d ∷ xs) exact_tree)) (in_entry Energy) (λ x p. (p.1, p.3.value)) entries exact_entry))

      slope_right : IsBound k bits (bounds_on bits program others r).slope (slope_of bits raws tree) (exact_slope k (d ∷ xs) exact_tree)
      slope_right =
          of_either_slope (is_wide r) _ _ _ _ (bound_right _ _ _ (plain.slope exact_tree tree_written))
          (least_slope entries _ _ _ (bound_right _ _ _ (plain.slope exact_tree tree_written))
          (over_map _ (λ p. ApproximatesIfThere k bits p (slope_of bits raws tree) None) (in_entry Slope) (λ x p. p.slope) entries computed_entry)
          (over_map _ (SomeComputed k h bits (exact_slope k (d ∷ xs) exact_tree)) (in_entry Slope) (λ x p. (p.2, p.3.slope)) entries exact_entry))

    walk_right : (r : Range) → AreRight k bits program others r (bounds_on bits program others r)
    walk_right r = record {
      energy = λ z d xs written m w o wr. energy_right r z d xs written m w o wr;
      slope = λ z d xs written m w o wr. slope_right r z d xs written m w o wr;
    }

    -- the bounds of a part are right
    part_right : (p : Part) → p ≡ part_on bits program others p.range → AreRight k bits program others p.range p.bounds
    part_right p is =
        subst (AreRight k bits program others p.range) (sym (ap (λ (q : Part). q.bounds) is)) (walk_right p.range)

    -- bounds over a range of distances are right
    pub bounds_are_right : (r : Range) (b : BoundsView) → AreBoundsOver bits program others r b → AreRight k bits program others r b
    bounds_are_right r b over = record {
      energy = λ z d xs written m w o wr.
          let at = part_with bits program others r over.halvings over.parts over.tried over.are_halved z m in
          subst (λ t. IsBound k bits t (value_of bits (z ∷ numbers_of others) tree) (exact_value k (d ∷ xs) (substituted written.0 written.1))) (sym over.energy.3)
          (not_worse_right _ _ _ _ (over.energy.2.most at.0 at.1 at.2) ((part_right at.1 at.4).energy z d xs written at.3 w o wr));
      slope = λ z d xs written m w o wr.
          let at = part_with bits program others r over.halvings over.parts over.tried over.are_halved z m in
          subst (λ t. IsBound k bits t (slope_of bits (z ∷ numbers_of others) tree) (exact_slope k (d ∷ xs) (substituted written.0 written.1))) (sym over.slope.3)
          (not_worse_right _ _ _ _ (over.slope.2.most at.0 at.1 at.2) ((part_right at.1 at.4).slope z d xs written at.3 w o wr));
    }

  -- bounds that are right for slopes are right for derivatives
  pub derivatives_are_right : (program : Trees) (others : List Constant) (r : Range) (b : BoundsView) → AreRight k bits program others r b
      → AreRightOfDerivatives k bits program others r b
  derivatives_are_right program others r b right z d xs written m w o wr v s near =
      let slope : exact_slope k (d ∷ xs) (substituted written.0 written.1) ≡ Some s = ((derivative k h.are_exact (d ∷ xs) (substituted written.0 written.1) v s).0 near).1 in
      subst (IsBound k bits b.slope (slope_of bits (z ∷ numbers_of others) (substituted program.0 program.1))) slope (right.slope z d xs written m w o wr)
