-- The tree that is written at each kind of tree.
use Rattle.std.proofs.Common.{◌≡◌, ℕ, ℤ, Bool, ◌&&◌, Result, Ok, Err, OnOk, refl, ◌∙◌}
use Rattle.fixed.specs.declared.operations.Operator.{Operator}
use Rattle.fixed.specs.declared.operations.Function.{Function}
use Rattle.energy_program.specs.Tree.{Tree, Negated, Binary, Applied, Power, Select}
use Rattle.derivative.specs.Written.{is_free_given, moved, operation_tree, applied_tree, power_tree, unless_free, slope_tree}

-- a tree that is written unless memory runs out, and equals a first one, equals the second that this equals
pub on_ok_is : {T F : Type 0} (r : Result T F) (a x y : Tree) → OnOk r (a ≡ x) → x ≡ y → OnOk r (a ≡ y)
on_ok_is (Ok s) a x y h p = h ∙ p
on_ok_is (Err f) a x y h p = h

module _ (bits : ℕ) (free : ℕ → Bool) (n : ℕ) where
  -- Negating the operand's derivative tree, or writing 0 if the operand is free, gives a negative's derivative tree.
  pub at_negated : (e u x : Tree) (p : Bool) → e ≡ Negated u → {u1 : Tree} → u1 ≡ u
      → x ≡ slope_tree bits free n u1 → p ≡ is_free_given free u1 → unless_free p (Negated x) ≡ slope_tree bits free n e
  at_negated e u x p is d1 hx hp = rw (is, hx, hp, d1) refl

  -- The row of an operation, or 0 if both operands are free, gives the derivative tree of the operation.
  pub at_binary : (e : Tree) (o : Operator) (u v x y : Tree) (p q : Bool) → e ≡ Binary o u v
      → {u1 v1 u2 v2 : Tree} → u1 ≡ u → v1 ≡ v → u2 ≡ u → v2 ≡ v
      → x ≡ slope_tree bits free n u1 → p ≡ is_free_given free u1 → y ≡ slope_tree bits free n v1 → q ≡ is_free_given free v1
      → unless_free (p && q) (operation_tree o p q (moved n u2) (moved n v2) x y) ≡ slope_tree bits free n e
  at_binary e o u v x y p q is d1 d2 d3 d4 hx hp hy hq = rw (is, hx, hy, hp, hq, d1, d2, d3, d4) refl

  -- The row of a function, or 0 if the argument is free, gives the derivative tree of the function's value.
  pub at_applied : (e : Tree) (f : Function) (u x : Tree) (p : Bool) → e ≡ Applied f u → {u1 u2 : Tree} → u1 ≡ u → u2 ≡ u
      → x ≡ slope_tree bits free n u1 → p ≡ is_free_given free u1
      → unless_free p (applied_tree bits f (moved n u2) x) ≡ slope_tree bits free n e
  at_applied e f u x p is d1 d2 hx hp = rw (is, hx, hp, d1, d2) refl

  -- The row of a power, or 0 if the base is free, gives the derivative tree of the power.
  pub at_power : (e u : Tree) (k : ℤ) (x : Tree) (p : Bool) → e ≡ Power u k → {u1 u2 : Tree} → u1 ≡ u → u2 ≡ u
      → x ≡ slope_tree bits free n u1 → p ≡ is_free_given free u1
      → unless_free p (power_tree bits k (moved n u2) x) ≡ slope_tree bits free n e
  at_power e u k x p is d1 d2 hx hp = rw (is, hx, hp, d1, d2) refl

  -- The choice between two derivative trees, or 0 if all three parts are free, gives the derivative tree of the choice.
  pub at_select : (e c u v x y : Tree) (r p q : Bool) → e ≡ Select c u v → {u1 v1 c1 c2 : Tree} → u1 ≡ u → v1 ≡ v → c1 ≡ c → c2 ≡ c
      → x ≡ slope_tree bits free n u1 → p ≡ is_free_given free u1 → y ≡ slope_tree bits free n v1 → q ≡ is_free_given free v1 → r ≡ is_free_given free c1
      → unless_free (r && (p && q)) (Select (moved n c2) x y) ≡ slope_tree bits free n e
  at_select e c u v x y r p q is d1 d2 d3 d4 hx hp hy hq hr = rw (is, hx, hy, hp, hq, hr, d1, d2, d3, d4) refl
