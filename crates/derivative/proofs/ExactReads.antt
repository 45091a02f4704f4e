-- The trees that are written for a slope, read over exact numbers.
use Rattle.std.proofs.Common.{◌≡◌, ◌≢◌, ℕ, zero, suc, ◌+◌, ◌-◌, ◌*◌, ◌^◌, ◌==◌, ℤ, pos, negsuc, neg_ℤ, Bool, true, false, if◌then◌else◌, List, Option, Some, None, refl, sym, ap, ◌∙◌, arith}
use Rattle.fixed.specs.Arithmetic.{one}
use Rattle.fixed.specs.declared.operations.Operator.{Operator}
use Rattle.fixed.specs.declared.operations.Operator.TheVariants as op
use Rattle.fixed.specs.declared.operations.Function.{Function}
use Rattle.fixed.specs.declared.operations.Function.TheVariants as f
use Rattle.energy_program.specs.Tree.{Tree}
use Rattle.derivative.specs.Slope.{operation_row, applied_row, power_row, slope_by}
use Rattle.derivative.specs.Exact.{Numbers, AreExact, StandsForFraction, exact, exact_value, integer, selected, step_of, whole}
use Rattle.derivative.specs.Written.{operation_tree, applied_tree, power_tree}
use Rattle.derivative.proofs.RingLaws as ring
use Rattle.derivative.proofs.ExactLaws.{cancel_times, chosen, one_not_zero, product_not_zero, two_not_zero}
use Rattle.derivative.proofs.Readings.{Reads, value_if}

module _ {V : Type 0} (k : Numbers V) (h : AreExact k) where
  open k.ring use {zero as o, one as i, plus, times, negative as neg}

  scale_not_zero : (bits : ℕ) → whole k.ring (2 ^ bits) ≢ o
  scale_not_zero zero e = one_not_zero k h (sym (ring.zero_plus k.ring h.is_ring i) ∙ e)
  scale_not_zero (suc bits) e =
      let next : 2 ^ suc bits ≡ 2 * 2 ^ bits = omega arith in
      product_not_zero k h (whole k.ring 2) (whole k.ring (2 ^ bits)) (two_not_zero k h) (scale_not_zero bits)
      (sym (ap (whole k.ring) next ∙ ring.whole_times k.ring h.is_ring 2 (2 ^ bits)) ∙ e)

  negative_integer : (n : ℕ) → integer k.ring (neg_ℤ (pos n)) ≡ neg (whole k.ring n)
  negative_integer zero = sym (ring.negative_zero k.ring h.is_ring)
  negative_integer (suc n) = refl

  module _ (bits : ℕ) (stands : (z : ℤ) → StandsForFraction k bits z) where
    number_is : (z : ℤ) (v : V) → times v (whole k.ring (2 ^ bits)) ≡ integer k.ring z → k.number z ≡ v
    number_is z v e = cancel_times k h (k.number z) v (whole k.ring (2 ^ bits)) (scale_not_zero bits) (stands z ∙ sym e)

    number_whole : (n : ℕ) → k.number (pos (n * 2 ^ bits)) ≡ whole k.ring n
    number_whole n = number_is (pos (n * 2 ^ bits)) (whole k.ring n) (sym (ring.whole_times k.ring h.is_ring n (2 ^ bits)))

    number_zero : k.number (pos 0) ≡ o
    number_zero = number_is (pos 0) o (ring.zero_times k.ring h.is_ring (whole k.ring (2 ^ bits)))

    number_one : k.number (one bits) ≡ i
    number_one = number_is (one bits) i (ring.one_times k.ring h.is_ring (whole k.ring (2 ^ bits)))

    number_minus_one : k.number (neg_ℤ (one bits)) ≡ neg i
    number_minus_one =
        number_is (neg_ℤ (one bits)) (neg i)
        (ring.negative_times k.ring h.is_ring i (whole k.ring (2 ^ bits)) ∙ ap neg (ring.one_times k.ring h.is_ring (whole k.ring (2 ^ bits)))
        ∙ sym (negative_integer (2 ^ bits)))

    module _ (inputs : List V) where
      abbrev value : Tree → Option V
      value t = exact_value k inputs t

      power_two : (x : Option V) → (exact k).power x (pos 2) ≡ (exact k).square x
      power_two None = refl
      power_two (Some x) = ap (λ s. Some (times s x)) (ring.one_times k.ring h.is_ring x)

      exact_operation : (g : Operator) (p q : Bool) (u v du dv : Tree)
          → value (operation_tree g p q u v du dv) ≡ operation_row (exact k) g p q (value u) (value v) (value du) (value dv)
      exact_operation op.Multiply true q u v du dv = refl
      exact_operation op.Multiply false true u v du dv = refl
      exact_operation op.Multiply false false u v du dv = refl
      exact_operation op.Divide p true u v du dv = refl
      exact_operation op.Divide true false u v du dv = ap (λ s. (exact k).quotient ((exact k).negative ((exact k).product (value u) (value dv))) s) (power_two (value v))
      exact_operation op.Divide false false u v du dv =
          ap (λ s. (exact k).quotient ((exact k).difference ((exact k).product (value du) (value v)) ((exact k).product (value u) (value dv))) s) (power_two (value v))
      exact_operation _ p q u v du dv = refl

      one_product : (x : Option V) → (exact k).product (Some (k.number (one bits))) x ≡ x
      one_product None = refl
      one_product (Some x) = ap Some (ap (λ s. times s x) number_one ∙ ring.one_times k.ring h.is_ring x)

      minus_one_product : (x : Option V) → (exact k).product (Some (k.number (neg_ℤ (one bits)))) x ≡ (exact k).negative x
      minus_one_product None = refl
      minus_one_product (Some x) =
          ap Some (ap (λ s. times s x) number_minus_one ∙ ring.negative_times k.ring h.is_ring i x ∙ ap neg (ring.one_times k.ring h.is_ring x))

      -- one or minus one times the slope, by the step of w
      signed : (b : Bool) (w : V) (du : Option V) → k.is_at_most o w ≡ b
          → (exact k).product (selected k (Some (step_of k w)) (Some (k.number (one bits))) (Some (k.number (neg_ℤ (one bits))))) du
          ≡ selected k (Some (step_of k w)) du ((exact k).negative du)
      signed true w du e =
          ap (λ s. (exact k).product s du) (chosen k h true w (Some (k.number (one bits))) (Some (k.number (neg_ℤ (one bits)))) e) ∙ one_product du
          ∙ sym (chosen k h true w du ((exact k).negative du) e)
      signed false w du e =
          ap (λ s. (exact k).product s du) (chosen k h false w (Some (k.number (one bits))) (Some (k.number (neg_ℤ (one bits)))) e) ∙ minus_one_product du
          ∙ sym (chosen k h false w du ((exact k).negative du) e)

      sign_times : (u du : Option V)
          → (exact k).product (selected k ((exact k).step u) (Some (k.number (one bits))) (Some (k.number (neg_ℤ (one bits))))) du
          ≡ selected k ((exact k).step u) du ((exact k).negative du)
      sign_times None du = refl
      sign_times (Some w) du = signed (k.is_at_most o w) w du refl

      exact_applied : (g : Function) (u du e : Tree) → value du ≡ slope_by (exact k) value e
          → value (applied_tree bits g u du) ≡ applied_row (exact k) g (value u) (value du)
      exact_applied f.SquareRoot u du e is =
          ap (λ s. (exact k).quotient (value du) ((exact k).product (Some s) ((exact k).square_root (value u)))) (number_whole 2)
      exact_applied f.Absolute u du e is = sign_times (value u) (value du)
      exact_applied (f.Flat g) u du e is = ap Some number_zero

      exact_power : (n : ℤ) (u du : Tree) → value (power_tree bits n u du) ≡ power_row (exact k) (value u) n (value du)
      exact_power (pos n) u du =
          value_if value (n == 1) du _
          ∙ ap (λ s. if n == 1 then value du else (exact k).product ((exact k).product (Some s) ((exact k).power (value u) (pos (n - 1)))) (value du)) (number_whole n)
      exact_power (negsuc m) u du =
          ap (λ s. (exact k).negative ((exact k).quotient ((exact k).product (Some s) (value du)) ((exact k).power (value u) (pos (m + 2))))) (number_whole (m + 1))

      -- the trees that are written for the rows have the rows' exact values
      pub exact_reads : Reads bits (exact k) value
      exact_reads =
          record {
            zero = ap Some number_zero;
            one = ap Some number_one;
            negated = λ x. refl;
            operation = exact_operation;
            applied = exact_applied;
            power = exact_power;
            select = λ c a b. refl;
          }
