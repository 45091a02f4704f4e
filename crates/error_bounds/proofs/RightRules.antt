-- Each rule is right: its operation has a result in its range, and computed and exact results agree.
use Rattle.std.proofs.Common.{◌≡◌, ℕ, zero, suc, ◌+◌, ◌*◌, ◌/◌, ◌%◌, ◌^◌, ◌==◌, ◌<◌, ◌≤◌, ℤ, pos, negsuc, ◌*ℤ◌, ◌≤ℤ◌, Bool, true, false, Option, Some, None, Result, Ok, Err, IfOk, refl, sym, ap, ◌∙◌, subst, arith, if◌then◌else◌}
use Rattle.std.proofs.lemmas.Bool.{eqb-false, eqb-true}
use Rattle.std.proofs.lemmas.Bool.Decides.{nat_tests}
use Rattle.std.proofs.lemmas.Int.{ints}
use Rattle.std.proofs.lemmas.Option.{same_Some}
use Rattle.fixed.specs.declared.faults.Fault.{Fault}
use Rattle.fixed.specs.declared.operations.Operator.{Operator}
use Rattle.fixed.specs.declared.operations.Operator.TheVariants as op
use Rattle.fixed.specs.declared.operations.UnaryOperator.{UnaryOperator}
use Rattle.fixed.specs.declared.operations.UnaryOperator.TheVariants as unary
use Rattle.fixed.specs.declared.operations.Function.TheVariants as f
use Rattle.fixed.specs.Operations.{operator_value, unary_value}
use Rattle.fixed.specs.Arithmetic as fixed
use Rattle.fixed.specs.Arithmetic.{floor_over, one, product_of, square_of, square_root_of}
use Rattle.fixed.specs.Roots.{root}
use Rattle.fixed.proofs.FloorLemmas.{narrowed}
use Rattle.interval_domain.specs.Ranges.{IsIn, Range, operator_range, turn_of, unary_range}
use Rattle.interval_domain.proofs.MonotoneLemmas.{Computes, Ends, ends_around}
use Rattle.interval_domain.proofs.OperationLemmas.{operator_computes, unary_computes}
use Rattle.interval_domain.proofs.OutcomeLemmas.{number_is}
use Rattle.derivative.specs.Exact as exact
use Rattle.derivative.specs.Exact.{Numbers, on_one, power, power_of}
use Rattle.error_bounds.specs.Approximations.{Agrees, Approximation}
use Rattle.error_bounds.specs.Approximate.{power_rule, power_within}
use Rattle.error_bounds.specs.Ordered.{AreOrdered}
use Rattle.error_bounds.specs.Rules.{exactly, has_room, operator_errors, operator_rule, product_error, unary_errors, unary_rule}
use Rattle.error_bounds.proofs.Bounded as agreement
use Rattle.error_bounds.proofs.Bounded.{bounded_of, if_passed}
use Rattle.error_bounds.proofs.JumpLaws as jump
use Rattle.error_bounds.proofs.Lifted.{IsRightOfOne, IsRightOfTwo, OperationOfOne, OperationOfTwo, RuleOfOne, RuleOfTwo}
use Rattle.error_bounds.proofs.RuleLaws as rules
use Rattle.error_bounds.proofs.Tests.{above_zero}

-- ---- results

-- a result that is there is the one in the range
found_in : (result : Result ℤ Fault) (x : Range) (c : ℤ) → Computes result x → result ≡ Ok c → IsIn c x
found_in result x c there e =
    let is = there.1 in
    let same : there.0 ≡ c = cc in
    subst (λ z. IsIn z x) same there.2

-- a root isn't negative
root_from_zero : (bits : ℕ) (z : ℤ) → IfOk (square_root_of bits z) (λ v. pos 0 ≤ℤ v)
root_from_zero bits (pos n) = narrowed (λ v. pos 0 ≤ℤ v) (pos (root (n * 2 ^ bits))) _ refl (omega (arith, ints))
root_from_zero bits (negsuc n) = tt

-- so no root in a range of roots is negative
roots_from_zero : (bits : ℕ) (x s : Range) → unary_range bits (unary.Apply f.SquareRoot) x ≡ Ok s → pos 0 ≤ℤ s.low
roots_from_zero bits x s e =
    let Sign : Result ℤ Fault → Type 0 = λ r. IfOk r (λ v. pos 0 ≤ℤ v) in
    let turn = root_from_zero bits (turn_of x) in
    (subst (Ends Sign) e (ends_around Sign _ _ _ _ (root_from_zero bits x.low) turn turn (root_from_zero bits x.high))).0

-- ---- exponents

-- an odd number is one more than twice its half
odd_is : (n : ℕ) → (n % 2 ≡ 0 → ⊥) → n ≡ suc (n / 2 + n / 2)
odd_is n odd = grind arith

-- a number above 0 that isn't found to be 1 is above 1
above_one : (n : ℕ) → (n == 1) ≡ false → 0 < n → 1 < n
above_one n e some = grind (arith, nat_tests)

module _ {V : Type 0} (k : Numbers V) (h : AreOrdered k) (bits : ℕ) where
  open k.ring use {one as i, plus, times, negative as neg}

  -- the exact value x is as near to the computed value z as such errors say
  abbrev IsNear : Range → ℤ → V → Type 0
  IsNear = agreement.IsNear k h bits

  -- an exact result that an operation always has, and errors that a rule always has
  same_near : (e e' : Range) (c : ℤ) (x y : V) → ◌≡◌ {A = Option Range} (Some e) (Some e') → ◌≡◌ {A = Option V} (Some x) (Some y) → IsNear e c x
      → IsNear e' c y
  same_near e e' c x y is is' near = subst (λ r. IsNear r c y) (same_Some e e' is) (subst (IsNear e c) (same_Some x y is') near)

  -- a computed result that an operation always has
  ok_near : (e : Range) (c d : ℤ) (x : V) → ◌≡◌ {A = Result ℤ Fault} (Ok c) (Ok d) → IsNear e c x → IsNear e d x
  ok_near e c d x is near = let same : c ≡ d = cc in subst (λ (n : ℤ). IsNear e n x) same near

  -- ---- operators

  -- the exact result of an operator is as near to the computed one as its errors say
  operator_near : (o : Operator) (p q : Approximation) (s e : Range) (z w c : ℤ) (x y t : V) → Agrees k bits p z x → Agrees k bits q w y
      → operator_value bits o z w ≡ Ok c → exact.operator_value k o x y ≡ Some t → IsIn c s → operator_errors bits o p q s ≡ Some e
      → IsNear e c t
  operator_near op.Add p q s e z w c x y t a b is is' i rule = same_near _ e c _ t rule is' (rules.sum_near k h bits p q z w c x y a b is)
  operator_near op.Subtract p q s e z w c x y t a b is is' i rule = same_near _ e c _ t rule is' (rules.difference_near k h bits p q z w c x y a b is)
  operator_near op.Multiply p q s e z w c x y t a b is is' i rule =
      same_near _ e c _ t (if_passed (has_room p q) (Some (product_error bits p q)) e rule) is'
      (rules.product_near k h bits p q z w c x y a b (number_is (floor_over (z *ℤ w) (2 ^ bits)) c is))
  operator_near op.Divide p q s e z w c x y t a b is is' i rule = rules.quotient_rule_near k h bits p q s e z w c x y t a b is is' i rule
  operator_near op.Minimum p q s e z w c x y t a b is is' i rule = same_near _ e c _ t rule is' (ok_near _ _ c _ is (jump.minimum_near k h bits p q z w x y a b))
  operator_near op.Maximum p q s e z w c x y t a b is is' i rule = same_near _ e c _ t rule is' (ok_near _ _ c _ is (jump.maximum_near k h bits p q z w x y a b))

  -- the rule of each operator is right
  pub operator_right : (o : Operator) → IsRightOfTwo k h bits (operator_rule bits o) (operator_value bits o) (exact.operator_value k o)
  operator_right o = record {
    computes = λ p q r z w m n rule.
        operator_computes bits o p.computed q.computed r.computed (bounded_of _ (operator_errors bits o p q) r rule).computed z w m n;
    agrees = λ p q r z w c x y t a b is is' rule.
        let bound = bounded_of (operator_range bits o p.computed q.computed) (operator_errors bits o p q) r rule in
        let there = operator_computes bits o p.computed q.computed r.computed bound.computed z w a.computed b.computed in
        let inside = found_in (operator_value bits o z w) r.computed c there is in
        record { computed = inside; near = operator_near o p q r.computed r.error z w c x y t a b is is' inside bound.error };
  }

  -- ---- unary operators

  -- the exact result of a unary operator
  abbrev exact_unary : UnaryOperator → V → Option V
  exact_unary unary.Negate x = Some (neg x)
  exact_unary unary.Square x = Some (times x x)
  exact_unary (unary.Apply g) x = exact.function_value k g x

  -- the exact result of a unary operator is as near to the computed one as its errors say
  unary_near : (o : UnaryOperator) (p : Approximation) (s e : Range) (z c : ℤ) (x t : V) → Agrees k bits p z x → unary_range bits o p.computed ≡ Ok s
      → unary_value bits o z ≡ Ok c → exact_unary o x ≡ Some t → IsIn c s → unary_errors bits o p s ≡ Some e → IsNear e c t
  unary_near unary.Negate p s e z c x t a there is is' i rule = same_near _ e c _ t rule is' (rules.negative_near k h bits p z c x a is)
  unary_near unary.Square p s e z c x t a there is is' i rule =
      same_near _ e c _ t (if_passed (has_room p p) (Some (product_error bits p p)) e rule) is'
      (rules.product_near k h bits p p z z c x x a a (number_is (floor_over (z *ℤ z) (2 ^ bits)) c is))
  unary_near (unary.Apply f.SquareRoot) p s e z c x t a there is is' i rule =
      same_near _ e c _ t rule refl (rules.root_rule_near k h bits p s z c x t a is is' i (roots_from_zero bits p.computed s there))
  unary_near (unary.Apply f.Absolute) p s e z c x t a there is is' i rule = same_near _ e c _ t rule is' (jump.absolute_near k h bits p z c x a is)
  unary_near (unary.Apply (f.Flat g)) p s e z c x t a there is is' i rule = same_near _ e c _ t rule is' (jump.flat_near k h bits g p s z c x a i)

  -- the rule of each unary operator is right
  pub unary_right : (o : UnaryOperator) → IsRightOfOne k h bits (unary_rule bits o) (unary_value bits o) (exact_unary o)
  unary_right o = record {
    computes = λ p r z m rule. unary_computes bits o p.computed r.computed (bounded_of _ (unary_errors bits o p) r rule).computed z m;
    agrees = λ p r z c x t a is is' rule.
        let bound = bounded_of (unary_range bits o p.computed) (unary_errors bits o p) r rule in
        let inside = found_in (unary_value bits o z) r.computed c (unary_computes bits o p.computed r.computed bound.computed z a.computed) is in
        record { computed = inside; near = unary_near o p r.computed r.error z c x t a bound.computed is is' inside bound.error };
  }

  -- ---- powers

  -- x^(m + n) = x^m x^n
  power_sum : (x : V) (m n : ℕ) → power k.ring x (m + n) ≡ times (power k.ring x m) (power k.ring x n)
  power_sum x m zero = let e : m + 0 ≡ m = omega arith in ap (power k.ring x) e ∙ sym (h.are_exact.is_ring.times_one (power k.ring x m))
  power_sum x m (suc n) =
      let e : m + suc n ≡ suc (m + n) = omega arith in
      ap (power k.ring x) e ∙ ap (λ s. times s x) (power_sum x m n)
      ∙ h.are_exact.is_ring.times_assoc (power k.ring x m) (power k.ring x n) x

  -- the same rule, with another form of the exact result
  other_exact : (rule : RuleOfOne) (f : OperationOfOne) (g g' : V → Option V) → ((x : V) → g' x ≡ g x) → IsRightOfOne k h bits rule f g
      → IsRightOfOne k h bits rule f g'
  other_exact rule f g g' same right = record {
    computes = right.computes;
    agrees = λ p r z c x y a e e' is. right.agrees p r z c x y a e (sym (same x) ∙ e') is;
  }

  -- a rule of two operands, with a first operand that is given
  with_first : (rule : RuleOfTwo) (f : OperationOfTwo) (g : V → V → Option V) → IsRightOfTwo k h bits rule f g → (p : Approximation) (z : ℤ)
      (x : V) → Agrees k bits p z x → IsRightOfOne k h bits (rule p) (f z) (g x)
  with_first rule f g right p z x a = record {
    computes = λ q r w m e. right.computes p q r z w a.computed m e;
    agrees = λ q r w c y t b e e' is. right.agrees p q r z w c x y t a b e e' is;
  }

  -- a rule of one operand, as one that ignores a second
  ignoring : (rule : RuleOfOne) (f : OperationOfOne) (g : V → Option V) → IsRightOfOne k h bits rule f g
      → IsRightOfTwo k h bits (λ p q. rule p) (λ z w. f z) (λ x y. g x)
  ignoring rule f g right = record {
    computes = λ p q r z w m n e. right.computes p r z m e;
    agrees = λ p q r z w c x y t a b e e' is. right.agrees p r z c x t a e e' is;
  }

  -- two right rules, the second of which is for the first one's result and its operand
  module _ (rule : RuleOfOne) (f : OperationOfOne) (g : V → Option V) (right : IsRightOfOne k h bits rule f g)
      (rule' : RuleOfTwo) (f' : OperationOfTwo) (g' : V → V → Option V) (right' : IsRightOfTwo k h bits rule' f' g') where
    -- both operations have results in their ranges
    then_computes : (p r : Approximation) (z : ℤ) → IsIn z p.computed → (found : Option Approximation) → rule p ≡ found
        → on_one (λ q. rule' q p) found ≡ Some r → Computes (fixed.then_apply (f z) (λ c. f' c z)) r.computed
    then_computes p r z m None e is = absurd (cc)
    then_computes p r z m (Some q) e is =
        let c = right.computes p q z m e in
        subst (λ (s : Result ℤ Fault). Computes (fixed.then_apply s (λ n. f' n z)) r.computed) (sym c.1)
        (right'.computes q p r c.0 z c.2 m is)

    -- and their results agree
    then_agrees : (p r : Approximation) (z d : ℤ) (x t : V) → Agrees k bits p z x → (found : Option Approximation) → rule p ≡ found
        → on_one (λ q. rule' q p) found ≡ Some r → (result : Result ℤ Fault) → f z ≡ result → fixed.then_apply result (λ c. f' c z) ≡ Ok d
        → (exact : Option V) → g x ≡ exact → on_one (λ y. g' y x) exact ≡ Some t → Agrees k bits r d t
    then_agrees p r z d x t a None e is result er ed exact ex et = absurd (cc)
    then_agrees p r z d x t a (Some q) e is (Err fault) er ed exact ex et = absurd (cc)
    then_agrees p r z d x t a (Some q) e is (Ok c) er ed None ex et = absurd (cc)
    then_agrees p r z d x t a (Some q) e is (Ok c) er ed (Some y) ex et =
        right'.agrees q p r c z d y x t (right.agrees p q z c x y a er ex e) a ed et is

    -- so the rule for both operations is right
    then_right : IsRightOfOne k h bits (λ p. on_one (λ q. rule' q p) (rule p)) (λ z. fixed.then_apply (f z) (λ c. f' c z))
        (λ x. on_one (λ y. g' y x) (g x))
    then_right = record {
      computes = λ p r z m e. then_computes p r z m (rule p) refl e;
      agrees = λ p r z d x t a ed et e. then_agrees p r z d x t a (rule p) refl e (f z) refl ed (g x) refl et;
    }

  -- x^1 = x
  power_one : (x : V) → power k.ring x 1 ≡ x
  power_one x = h.are_exact.is_ring.times_comm i x ∙ h.are_exact.is_ring.times_one x

  -- x^n = x^(n / 2) x^(n / 2) for an even n
  square_power : (n : ℕ) (x : V) → n % 2 ≡ 0 → power k.ring x n ≡ times (power k.ring x (n / 2)) (power k.ring x (n / 2))
  square_power n x even = let e : n ≡ n / 2 + n / 2 = omega arith in ap (power k.ring x) e ∙ power_sum x (n / 2) (n / 2)

  -- x^n = (x^(n / 2) x^(n / 2)) x for an odd n
  odd_power : (n : ℕ) (x : V) → (n % 2 ≡ 0 → ⊥)
      → power k.ring x n ≡ times (times (power k.ring x (n / 2)) (power k.ring x (n / 2))) x
  odd_power n x odd =
      let e : n ≡ suc (n / 2 + n / 2) = odd_is n odd in
      ap (power k.ring x) e ∙ ap (λ s. times s x) (power_sum x (n / 2) (n / 2))

  -- the rule for powers by squaring, within so many halvings of the exponent, is right
  abbrev IsPowerRight : (halvings n : ℕ) → Type 0
  IsPowerRight halvings n =
      IsRightOfOne k h bits (λ p. power_within halvings bits p n) (λ z. fixed.power_within halvings bits z n)
      (λ x. Some (power k.ring x n))

  -- the rule for one turn of squaring is right
  abbrev IsTurnRight : (halvings n : ℕ) (once even : Bool) → Type 0
  IsTurnRight halvings n once even =
      IsRightOfOne k h bits
      (λ p. if once then Some p else if even then on_one (unary_rule bits unary.Square) (power_within halvings bits p (n / 2))
      else on_one (λ y. operator_rule bits op.Multiply y p) (on_one (unary_rule bits unary.Square) (power_within halvings bits p (n / 2))))
      (λ z. if once then Ok z else if even then fixed.then_apply (fixed.power_within halvings bits z (n / 2)) (square_of bits)
      else fixed.then_apply (fixed.then_apply (fixed.power_within halvings bits z (n / 2)) (square_of bits)) (λ y. product_of bits y z))
      (λ x. Some (power k.ring x n))

  -- the power 1 is the operand
  once_right : (n : ℕ) → n ≡ 1 → IsRightOfOne k h bits (λ p. Some p) (λ z. Ok z) (λ x. Some (power k.ring x n))
  once_right n e =
      other_exact (λ p. Some p) (λ z. Ok z) (λ x. Some x) (λ x. Some (power k.ring x n))
      (λ x. ap Some (ap (power k.ring x) e ∙ power_one x))
      (record {
        computes = λ p r z m rule. (z, refl, subst (λ (q : Approximation). IsIn z q.computed) (same_Some p r rule) m);
        agrees = λ p r z c x y a is is' rule.
            let same : z ≡ c = cc in
            subst (λ (n : ℤ). Agrees k bits r n y) same
            (subst (Agrees k bits r z) (same_Some x y is') (subst (λ (q : Approximation). Agrees k bits q z x) (same_Some p r rule) a));
      })

  -- one turn of squaring is right, by the tests of n
  turn_right : (halvings n : ℕ) (once even : Bool) → (n == 1) ≡ once → (n % 2 == 0) ≡ even → IsPowerRight halvings (n / 2)
      → IsTurnRight halvings n once even
  turn_right halvings n true even eo ee half = once_right n (eqb-true n 1 eo)
  turn_right halvings n false true eo ee half =
      other_exact _ _ _ (λ x. Some (power k.ring x n)) (λ x. ap Some (square_power n x (eqb-true (n % 2) 0 ee)))
      (then_right _ _ _ half _ _ _ (ignoring (unary_rule bits unary.Square) (square_of bits) (λ x. Some (times x x)) (unary_right unary.Square)))
  turn_right halvings n false false eo ee half =
      other_exact _ _ _ (λ x. Some (power k.ring x n)) (λ x. ap Some (odd_power n x (eqb-false (n % 2) 0 ee)))
      (then_right _ _ _
      (then_right _ _ _ half _ _ _ (ignoring (unary_rule bits unary.Square) (square_of bits) (λ x. Some (times x x)) (unary_right unary.Square)))
      _ _ _ (operator_right op.Multiply))

  -- it is right if the power with half the exponent is
  turn_if : (halvings n : ℕ) (once : Bool) → (n == 1) ≡ once → 0 < n → n ≤ suc halvings
      → (0 < n / 2 → n / 2 ≤ halvings → IsPowerRight halvings (n / 2)) → IsTurnRight halvings n once (n % 2 == 0)
  turn_if halvings n true e some enough half = once_right n (eqb-true n 1 e)
  turn_if halvings n false e some enough half =
      let more : 1 < n = above_one n e some in
      turn_right halvings n false (n % 2 == 0) e refl (half (omega arith) (omega arith))

  -- the rule for powers by squaring is right
  within_right : (halvings n : ℕ) → 0 < n → n ≤ halvings → IsPowerRight halvings n
  unfolding power_within fixed.power_within
  within_right zero n some enough = absurd (omega arith)
  within_right (suc halvings) n some enough =
      turn_if halvings n (n == 1) refl some enough (λ some' enough'. within_right halvings (n / 2) some' enough')

  -- the rule for powers is right, for every exponent other than 0
  pub power_right : (n : ℤ) → (n ≡ pos 0 → ⊥)
      → IsRightOfOne k h bits (power_rule bits n) (λ z. fixed.signed_power_of bits z n) (power_of k n)
  power_right (pos n) some = within_right n n (above_zero n some) (omega arith)
  power_right (negsuc m) some =
      then_right _ _ _ (within_right (suc m) (suc m) (omega arith) (omega arith)) _ _ _
      (ignoring _ _ _ (with_first _ _ _ (operator_right op.Divide) (exactly (one bits)) (one bits) i (jump.one_agrees k h bits)))
