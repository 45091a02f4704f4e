-- The tree that is written has the slope as its value, however numbers are read.
use Rattle.std.proofs.Common.{◌≡◌, ℕ, ◌+◌, ◌<◌, ◌≤◌, ◌==◌, ℤ, pos, negsuc, Bool, true, false, ◌&&◌, if◌then◌else◌, Option, Some, refl, sym, ap, ◌∙◌}
use Rattle.std.specs.Bool.{IsTrue}
use Rattle.fixed.specs.Constants.{exactly}
use Rattle.fixed.specs.Arithmetic.{one}
use Rattle.fixed.specs.declared.operations.Operator.{Operator}
use Rattle.fixed.specs.declared.operations.Operator.TheVariants as op
use Rattle.fixed.specs.declared.operations.Function.{Function}
use Rattle.fixed.specs.declared.operations.Function.TheVariants as f
use Rattle.energy_program.specs.Tree.{Tree, Number, Input, Definition, Negated, Binary, Applied, Power, Select, is_exponent, is_scoped, is_free_of_distance, put}
use Rattle.derivative.specs.Slope.{Operations, unless_constant, slope_by}
use Rattle.derivative.specs.Written.{is_free_given, moved, operation_tree, applied_tree, power_tree, unless_free, slope_tree}
use Rattle.derivative.proofs.Bool.{left_of, right_of}
use Rattle.derivative.proofs.Readings.{Reads, free_slope}
use Rattle.derivative.proofs.Table.{free_put, from_uses}

-- Substitution in a written tree.
module _ (new : ℕ → Tree) where
  put_unless : (b : Bool) (x : Tree) → put new (unless_free b x) ≡ unless_free b (put new x)
  put_unless true x = refl
  put_unless false x = refl

  put_operation : (o : Operator) (p q : Bool) (u v du dv : Tree)
      → put new (operation_tree o p q u v du dv) ≡ operation_tree o p q (put new u) (put new v) (put new du) (put new dv)
  put_operation op.Multiply true q u v du dv = refl
  put_operation op.Multiply false true u v du dv = refl
  put_operation op.Multiply false false u v du dv = refl
  put_operation op.Divide p true u v du dv = refl
  put_operation op.Divide true false u v du dv = refl
  put_operation op.Divide false false u v du dv = refl
  put_operation _ p q u v du dv = refl

  put_applied : (bits : ℕ) (g : Function) (u du : Tree) → put new (applied_tree bits g u du) ≡ applied_tree bits g (put new u) (put new du)
  put_applied bits f.SquareRoot u du = refl
  put_applied bits _ u du = refl

  put_if : (b : Bool) (x y : Tree) → put new (if b then x else y) ≡ (if b then put new x else put new y)
  put_if true x y = refl
  put_if false x y = refl

  put_power : (bits : ℕ) (k : ℤ) (u du : Tree) → put new (power_tree bits k u du) ≡ power_tree bits k (put new u) (put new du)
  put_power bits (pos n) u du = put_if (n == 1) du _
  put_power bits (negsuc m) u du = refl

-- The meaning of a use before (`old`), and of it and its slope now (`new`).
pub record Follows {V : Type 0} (on : Operations V) (value : Tree → Option V) (free : ℕ → Bool) (n first : ℕ) (new old : ℕ → Tree) : Type 0 where
  pub is_free : (j : ℕ) → first ≤ j → j < n → free j ≡ is_free_of_distance (old j)
  pub same : (j : ℕ) → first ≤ j → j < n → new (n + j) ≡ old j
  pub slope : (j : ℕ) → first ≤ j → j < n → value (new j) ≡ slope_by on value (old j)

module _ (count n first : ℕ) (new old : ℕ → Tree) (same : (j : ℕ) → first ≤ j → j < n → new (n + j) ≡ old j) where
  -- Substituting the new meanings in the moved tree gives the tree with the old meanings substituted.
  pub moved_put : (e : Tree) → IsTrue (is_scoped count first n e) → put new (moved n e) ≡ put old e
  moved_put (Number c) h = refl
  moved_put (Input i) h = refl
  moved_put (Definition j) h = from_uses _ first n j h (same j)
  moved_put (Negated a) h = ap Negated (moved_put a h)
  moved_put (Binary o a b) h =
      let ha = moved_put a (left_of (is_scoped count first n a) _ h) in
      let hb = moved_put b (right_of (is_scoped count first n a) _ h) in
      rw (ha, hb) refl
  moved_put (Applied g a) h = ap (Applied g) (moved_put a h)
  moved_put (Power a k) h = ap (λ x. Power x k) (moved_put a (right_of (is_exponent k) _ h))
  moved_put (Select c a b) h =
      let hab = right_of (is_scoped count first n c) _ h in
      let hc = moved_put c (left_of (is_scoped count first n c) _ h) in
      let ha = moved_put a (left_of (is_scoped count first n a) _ hab) in
      let hb = moved_put b (right_of (is_scoped count first n a) _ hab) in
      rw (hc, ha, hb) refl

module _ {V : Type 0} (bits : ℕ) (on : Operations V) (value : Tree → Option V) (reads : Reads bits on value) (free : ℕ → Bool) (count n first : ℕ)
    (new old : ℕ → Tree) (follows : Follows on value free n first new old) where
  value_unless : (b : Bool) (x : Tree) → value (unless_free b x) ≡ unless_constant on.zero b (value x)
  value_unless true x = reads.zero
  value_unless false x = refl

  value_input : (b : Bool) → value (Number (exactly (if b then one bits else pos 0))) ≡ Some (if b then on.one else on.zero)
  value_input true = reads.one
  value_input false = reads.zero

  at_use : (j : ℕ) (b : Bool) → b ≡ is_free_of_distance (old j) → value (new j) ≡ slope_by on value (old j)
      → value (put new (unless_free b (Definition j))) ≡ slope_by on value (old j)
  at_use j true h e = reads.zero ∙ sym (free_slope on value (old j) (sym h))
  at_use j false h e = e

  -- the tree that is written for a tree's slope has that slope as its value
  pub slope_value : (e : Tree) → IsTrue (is_scoped count first n e) → value (put new (slope_tree bits free n e)) ≡ slope_by on value (put old e)
  slope_value (Number c) h = reads.zero
  slope_value (Input i) h = value_input (i == 0)
  slope_value (Definition j) h = from_uses _ first n j h (λ a b. at_use j (free j) (follows.is_free j a b) (follows.slope j a b))
  slope_value (Negated a) h =
      rw (
        put_unless new (is_free_given free a) (Negated (slope_tree bits free n a)),
        value_unless (is_free_given free a) (Negated (put new (slope_tree bits free n a))),
        reads.negated (put new (slope_tree bits free n a)),
        free_put free count n first old follows.is_free a h,
        slope_value a h,
      ) refl
  slope_value (Binary o a b) h =
      let ha = left_of (is_scoped count first n a) _ h in
      let hb = right_of (is_scoped count first n a) _ h in
      rw (
        put_unless new (is_free_given free a && is_free_given free b),
        value_unless (is_free_given free a && is_free_given free b),
        put_operation new o (is_free_given free a) (is_free_given free b),
        reads.operation o (is_free_given free a) (is_free_given free b),
        free_put free count n first old follows.is_free a ha,
        free_put free count n first old follows.is_free b hb,
        moved_put count n first new old follows.same a ha,
        moved_put count n first new old follows.same b hb,
        slope_value a ha,
        slope_value b hb,
      ) refl
  slope_value (Applied g a) h =
      let slope = slope_value a h in
      rw (
        put_unless new (is_free_given free a),
        value_unless (is_free_given free a),
        put_applied new bits g (moved n a) (slope_tree bits free n a),
        reads.applied g (put new (moved n a)) (put new (slope_tree bits free n a)) (put old a) slope,
        free_put free count n first old follows.is_free a h,
        moved_put count n first new old follows.same a h,
        slope,
      ) refl
  slope_value (Power a k) h =
      let ha = right_of (is_exponent k) _ h in
      rw (
        put_unless new (is_free_given free a) (power_tree bits k (moved n a) (slope_tree bits free n a)),
        value_unless (is_free_given free a),
        put_power new bits k (moved n a) (slope_tree bits free n a),
        reads.power k (put new (moved n a)) (put new (slope_tree bits free n a)),
        free_put free count n first old follows.is_free a ha,
        moved_put count n first new old follows.same a ha,
        slope_value a ha,
      ) refl
  slope_value (Select c a b) h =
      let hc = left_of (is_scoped count first n c) _ h in
      let hab = right_of (is_scoped count first n c) _ h in
      let ha = left_of (is_scoped count first n a) _ hab in
      let hb = right_of (is_scoped count first n a) _ hab in
      rw (
        put_unless new (is_free_given free c && (is_free_given free a && is_free_given free b)),
        value_unless (is_free_given free c && (is_free_given free a && is_free_given free b)),
        reads.select (put new (moved n c)) (put new (slope_tree bits free n a)) (put new (slope_tree bits free n b)),
        free_put free count n first old follows.is_free c hc,
        free_put free count n first old follows.is_free a ha,
        free_put free count n first old follows.is_free b hb,
        moved_put count n first new old follows.same c hc,
        slope_value a ha,
        slope_value b hb,
      ) refl
