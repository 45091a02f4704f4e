-- Rules lifted to approximations that may be missing.
use Rattle.std.proofs.Common.{◌≡◌, ℕ, ℤ, Bool, true, false, Option, Some, None, Result, Ok, refl, sym, ap, subst, inl, inr, if◌then◌else◌, ◌⊎◌}
use Rattle.std.proofs.lemmas.Option.{same_Some}
use Rattle.fixed.specs.declared.faults.Fault.{Fault}
use Rattle.fixed.specs.Arithmetic.{is_zero}
use Rattle.energy_program.specs.Value as v
use Rattle.derivative.specs.Exact as exact
use Rattle.derivative.specs.Exact.{Numbers, on_one, on_two}
use Rattle.error_bounds.specs.Approximations.{Agrees, Approximation}
use Rattle.error_bounds.specs.Approximate as a
use Rattle.error_bounds.specs.Meanings.{ApproximatesIfThere}
use Rattle.error_bounds.specs.Ordered.{AreOrdered}
use Rattle.error_bounds.specs.Rules.{either, either_of, is_not_zero, is_only_zero, select_rule}
use Rattle.error_bounds.proofs.ChoiceLaws.{either_computes, not_zero_computes, only_zero_computes}
use Rattle.interval_domain.specs.Ranges.{IsIn}
use Rattle.interval_domain.proofs.MonotoneLemmas.{Computes}
use Rattle.error_bounds.proofs.JumpLaws as jump

-- a rule for one operand
abbrev pub RuleOfOne : Type 0
RuleOfOne = Approximation → Option Approximation

-- a rule for two operands
abbrev pub RuleOfTwo : Type 0
RuleOfTwo = Approximation → Approximation → Option Approximation

-- an operation on one computed operand
abbrev pub OperationOfOne : Type 0
OperationOfOne = ℤ → Result ℤ Fault

-- an operation on two
abbrev pub OperationOfTwo : Type 0
OperationOfTwo = ℤ → ℤ → Result ℤ Fault

module _ {V : Type 0} (k : Numbers V) (h : AreOrdered k) (bits : ℕ) where
  -- the computed and the exact value are approximated, if there is an approximation
  abbrev There : Option Approximation → Option ℤ → Option V → Type 0
  There = ApproximatesIfThere k bits

  -- an exact number that is there agrees
  abbrev AgreesIfThere : Approximation → ℤ → Option V → Type 0
  AgreesIfThere p z exact = (x : V) → exact ≡ Some x → Agrees k bits p z x

  -- a rule of one operand is right: if it gives an approximation, the operation has a result in its range, and exact
  -- results agree
  pub record IsRightOfOne (rule : RuleOfOne) (f : OperationOfOne) (g : V → Option V) : Type 0 where
    pub computes : (p r : Approximation) (z : ℤ) → IsIn z p.computed → rule p ≡ Some r → Computes (f z) r.computed
    pub agrees : (p r : Approximation) (z c : ℤ) (x y : V) → Agrees k bits p z x → f z ≡ Ok c → g x ≡ Some y → rule p ≡ Some r
        → Agrees k bits r c y

  -- a rule of two operands is right in the same way
  pub record IsRightOfTwo (rule : RuleOfTwo) (f : OperationOfTwo) (g : V → V → Option V) : Type 0 where
    pub computes : (p q r : Approximation) (z w : ℤ) → IsIn z p.computed → IsIn w q.computed → rule p q ≡ Some r
        → Computes (f z w) r.computed
    pub agrees : (p q r : Approximation) (z w c : ℤ) (x y t : V) → Agrees k bits p z x → Agrees k bits q w y → f z w ≡ Ok c
        → g x y ≡ Some t → rule p q ≡ Some r → Agrees k bits r c t

  -- a computed and an exact number that agree are approximated
  pub agreed_there : (p : Approximation) (z : ℤ) (x : V) → Agrees k bits p z x → There (Some p) (Some z) (Some x)
  agreed_there p z x a = (z, refl, a.computed, λ y e. subst (Agrees k bits p z) (same_Some x y e) a)

  -- ---- one operand

  module _ (rule : RuleOfOne) (f : OperationOfOne) (g : V → Option V) (right : IsRightOfOne rule f g) where
    -- the exact result agrees, if it is there
    exact_of_one : (p r : Approximation) (z c : ℤ) → rule p ≡ Some r → f z ≡ Ok c → (exact : Option V) → AgreesIfThere p z exact
        → AgreesIfThere r c (on_one g exact)
    exact_of_one p r z c e ez None a y ey = absurd (cc)
    exact_of_one p r z c e ez (Some x) a y ey = right.agrees p r z c x y (a x refl) ez ey e

    -- the results are approximated, if the rule gives an approximation
    one_there : (p : Approximation) (z : ℤ) (exact : Option V) (found : Option Approximation) → rule p ≡ found → IsIn z p.computed
        → AgreesIfThere p z exact → There found (v.on_one f (Some z)) (on_one g exact)
    one_there p z exact None e m a = tt
    one_there p z exact (Some r) e m a =
        let c = right.computes p r z m e in
        (c.0, ap v.number_of c.1, c.2, exact_of_one p r z c.0 e c.1 exact a)

    -- a right rule of one operand, applied to an operand that may be missing, approximates
    pub lift_one : (p : Option Approximation) (z : Option ℤ) (x : Option V) → There p z x
        → There (on_one rule p) (v.on_one f z) (on_one g x)
    lift_one None z x t = tt
    lift_one (Some p) z x t =
        subst (λ (o : Option ℤ). There (rule p) (v.on_one f o) (on_one g x)) (sym t.1) (one_there p t.0 x (rule p) refl t.2 t.3)

  -- ---- two operands

  module _ (rule : RuleOfTwo) (f : OperationOfTwo) (g : V → V → Option V) (right : IsRightOfTwo rule f g) where
    -- the exact result agrees, if it is there
    exact_of_two : (p q r : Approximation) (z w c : ℤ) → rule p q ≡ Some r → f z w ≡ Ok c → (x y : Option V) → AgreesIfThere p z x
        → AgreesIfThere q w y → AgreesIfThere r c (on_two g x y)
    exact_of_two p q r z w c e ez None y a b t et = absurd (cc)
    exact_of_two p q r z w c e ez (Some x) None a b t et = absurd (cc)
    exact_of_two p q r z w c e ez (Some x) (Some y) a b t et = right.agrees p q r z w c x y t (a x refl) (b y refl) ez et e

    -- the results are approximated, if the rule gives an approximation
    two_there : (p q : Approximation) (z w : ℤ) (x y : Option V) (found : Option Approximation) → rule p q ≡ found → IsIn z p.computed
        → AgreesIfThere p z x → IsIn w q.computed → AgreesIfThere q w y → There found (v.on_two f (Some z) (Some w)) (on_two g x y)
    two_there p q z w x y None e m a n b = tt
    two_there p q z w x y (Some r) e m a n b =
        let c = right.computes p q r z w m n e in
        (c.0, ap v.number_of c.1, c.2, exact_of_two p q r z w c.0 e c.1 x y a b)

    -- a right rule of two operands, applied to operands that may be missing, approximates
    pub lift_two : (p q : Option Approximation) (z w : Option ℤ) (x y : Option V) → There p z x → There q w y
        → There (on_two rule p q) (v.on_two f z w) (on_two g x y)
    lift_two None q z w x y s t = tt
    lift_two (Some p) None z w x y s t = tt
    lift_two (Some p) (Some q) z w x y s t =
        subst (λ (o : Option ℤ). There (rule p q) (v.on_two f o w) (on_two g x y)) (sym s.1)
        (subst (λ (o : Option ℤ). There (rule p q) (v.on_two f (Some s.0) o) (on_two g x y)) (sym t.1)
        (two_there p q s.0 t.0 x y (rule p q) refl s.2 s.3 t.2 t.3))

  -- ---- choices

  -- the same approximation, of exact values that are fewer
  fewer : (q : Option Approximation) (w : Option ℤ) (y y' : Option V) → ((t : V) → y' ≡ Some t → y ≡ Some t) → There q w y → There q w y'
  fewer None w y y' less t = tt
  fewer (Some p) w y y' less t = (t.0, t.1, t.2, λ u e. t.3 u (less u e))

  -- the choice by an exact number, if it is known whether the number is 0
  selected_is : (wanted : Bool) (x y y' : Option V) → ((u : V) → x ≡ Some u → k.is_zero u ≡ wanted) → (t : V)
      → exact.selected k x y y' ≡ Some t → (if wanted then y' else y) ≡ Some t
  selected_is wanted None y y' known t e = absurd (cc)
  selected_is wanted (Some u) y y' known t e = subst (λ (b : Bool). (if b then y' else y) ≡ Some t) (known u refl) e

  -- the choice by a number of which it is known whether it is 0
  of_known : (wanted : Bool) (q : Option Approximation) (z : ℤ) (w w' : Option ℤ) (x y y' : Option V) → is_zero z ≡ wanted
      → ((u : V) → x ≡ Some u → k.is_zero u ≡ wanted) → There q (if wanted then w' else w) (if wanted then y' else y)
      → There q (v.selected (Some z) w w') (exact.selected k x y y')
  of_known wanted q z w w' x y y' e known t =
      subst (λ (b : Bool). There q (if b then w' else w) (exact.selected k x y y')) (sym e)
      (fewer q (if wanted then w' else w) (if wanted then y' else y) (exact.selected k x y y')
      (λ u eu. selected_is wanted x y y' known u eu) t)

  -- an exact number agrees with either approximation, with some computed value
  abbrev AgreesWithEither : (p p' : Approximation) → V → Type 0
  AgreesWithEither p p' t = (n : ℤ) × ((Agrees k bits p n t) ⊎ (Agrees k bits p' n t))

  -- so does the exact number that is selected
  exact_if : (p p' : Approximation) (z z' : ℤ) (y y' : Option V) → AgreesIfThere p z y → AgreesIfThere p' z' y' → (t : V) (zero_in : Bool)
      → (if zero_in then y' else y) ≡ Some t → AgreesWithEither p p' t
  exact_if p p' z z' y y' a a' t true e = (z', inr (a' t e))
  exact_if p p' z z' y y' a a' t false e = (z, inl (a t e))

  -- whatever it is selected by
  exact_of_either : (p p' : Approximation) (z z' : ℤ) (x y y' : Option V) → AgreesIfThere p z y → AgreesIfThere p' z' y' → (t : V)
      → exact.selected k x y y' ≡ Some t → AgreesWithEither p p' t
  exact_of_either p p' z z' None y y' a a' t e = absurd (cc)
  exact_of_either p p' z z' (Some u) y y' a a' t e = exact_if p p' z z' y y' a a' t (k.is_zero u) e

  -- the choice between two values that are there, if the rule gives an approximation
  either_if : (p p' : Approximation) (zero_in : Bool) (w w' : Option ℤ) (x y y' : Option V) (found : Option Approximation)
      → either p p' ≡ found → There (Some p) w y → There (Some p') w' y'
      → There found (if zero_in then w' else w) (exact.selected k x y y')
  either_if p p' zero_in w w' x y y' None e t t' = tt
  either_if p p' zero_in w w' x y y' (Some r) e t t' = by_test zero_in
    where
      agree : (c : ℤ) → (IsIn c p.computed) ⊎ (IsIn c p'.computed) → AgreesIfThere r c (exact.selected k x y y')
      agree c i u eu =
          let n = exact_of_either p p' t.0 t'.0 x y y' t.3 t'.3 u eu in
          jump.either_agrees k h bits p p' r c n.0 u e i n.1

      by_test : (b : Bool) → There (Some r) (if b then w' else w) (exact.selected k x y y')
      by_test true = (t'.0, t'.1, either_computes p p' r t'.0 e (inr t'.2), agree t'.0 (inr t'.2))
      by_test false = (t.0, t.1, either_computes p p' r t.0 e (inl t.2), agree t.0 (inl t.2))

  -- the choice between two values, each of which may be missing
  of_either : (q q' : Option Approximation) (z : ℤ) (w w' : Option ℤ) (x y y' : Option V)
      → There q w y → There q' w' y' → There (either_of q q') (v.selected (Some z) w w') (exact.selected k x y y')
  of_either None q' z w w' x y y' t t' = tt
  of_either (Some p) None z w w' x y y' t t' = tt
  of_either (Some p) (Some p') z w w' x y y' t t' = either_if p p' (is_zero z) w w' x y y' (either p p') refl t t'

  -- the choice by an existing operand, for each finding of the rule
  select_if : (p : Approximation) (q q' : Option Approximation) (z : ℤ) (w w' : Option ℤ) (x y y' : Option V) (not_zero only_zero : Bool)
      → is_not_zero p ≡ not_zero → is_only_zero p ≡ only_zero → IsIn z p.computed → AgreesIfThere p z x → There q w y → There q' w' y'
      → There (if not_zero then q else if only_zero then q' else either_of q q') (v.selected (Some z) w w') (exact.selected k x y y')
  select_if p q q' z w w' x y y' true only_zero en eo m a t t' =
      of_known false q z w w' x y y' (not_zero_computes p z m en) (λ u eu. jump.not_zero_agrees k h bits p z u (a u eu) en) t
  select_if p q q' z w w' x y y' false true en eo m a t t' =
      of_known true q' z w w' x y y' (only_zero_computes p z m eo) (λ u eu. jump.only_zero_agrees k h bits p z u (a u eu) eo) t'
  select_if p q q' z w w' x y y' false false en eo m a t t' = of_either q q' z w w' x y y' t t'

  -- the rule of choices, applied to operands that may be missing, approximates
  pub lift_select : (p q q' : Option Approximation) (z w w' : Option ℤ) (x y y' : Option V)
      → There p z x → There q w y → There q' w' y' → There (a.selected p q q') (v.selected z w w') (exact.selected k x y y')
  lift_select None q q' z w w' x y y' s t t' = tt
  lift_select (Some p) q q' z w w' x y y' s t t' =
      subst (λ (o : Option ℤ). There (select_rule p q q') (v.selected o w w') (exact.selected k x y y')) (sym s.1)
      (select_if p q q' s.0 w w' x y y' (is_not_zero p) (is_only_zero p) refl refl s.2 s.3 t t')
