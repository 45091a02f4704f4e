-- Trees in which the constants that were read are inputs with exact numbers, and the trees of their derivatives.
use Rattle.std.proofs.Common.{◌≡◌, ℕ, suc, ◌+◌, ◌==◌, ℤ, pos, negsuc, Bool, true, false, if◌then◌else◌, List, [], ◌∷◌, ◌++◌, map, length, slice_get, Some, refl, ap, arith}
use Rattle.std.proofs.lemmas.Bool.Decides.{nat_tests}
use Rattle.fixed.specs.Constants.{exactly}
use Rattle.fixed.specs.declared.constants.Constant.{Constant}
use Rattle.fixed.specs.declared.operations.Operator.{Operator}
use Rattle.fixed.specs.declared.operations.Operator.TheVariants as op
use Rattle.fixed.specs.declared.operations.Function.{Function}
use Rattle.fixed.specs.declared.operations.Function.TheVariants as f
use Rattle.energy_program.specs.Programs.{Trees}
use Rattle.energy_program.specs.Tree.{Tree, Number, Input, Definition, Negated, Binary, Applied, Power, Select, is_free_of_distance, meaning, put, substituted}
use Rattle.derivative.specs.Derive.{with_all}
use Rattle.derivative.specs.Exact.{Numbers}
use Rattle.derivative.specs.Written.{applied_tree, free_among, is_free_given, moved, operation_tree, power_tree, slope_tree, unless_free}
use Rattle.error_bounds.specs.Meanings.{WasRead}
use Rattle.formula_bounds.specs.Written.{AreWritten, IsWritten, IsWrittenProgram}
use Rattle.formula_bounds.specs.Written as m

-- an input after the first isn't the distance
pub not_distance : (j : ℕ) → (suc j == 0) ≡ false
not_distance j = grind (arith, nat_tests)

module _ {V : Type 0} (k : Numbers V) (bits : ℕ) (exacts : List V) where
  -- The second tree is the first, in which constants that were read are inputs with exact numbers. The other constants
  -- have no error.
  pub data IsNamed : Tree → Tree → Type 0 where
    number : {c : Constant} {j : ℕ} {x : V} → slice_get exacts (suc j) ≡ Some x → WasRead k bits c x → IsNamed (Number c) (Input (suc j))
    same : {z : ℤ} → IsNamed (Number (exactly z)) (Number (exactly z))
    input : {i : ℕ} → IsNamed (Input i) (Input i)
    definition : {j : ℕ} → IsNamed (Definition j) (Definition j)
    negated : {a a' : Tree} → IsNamed a a' → IsNamed (Negated a) (Negated a')
    binary : {o : Operator} {a b a' b' : Tree} → IsNamed a a' → IsNamed b b' → IsNamed (Binary o a b) (Binary o a' b')
    applied : {g : Function} {a a' : Tree} → IsNamed a a' → IsNamed (Applied g a) (Applied g a')
    power : {a a' : Tree} {n : ℤ} → IsNamed a a' → IsNamed (Power a n) (Power a' n)
    select : {x a b x' a' b' : Tree} → IsNamed x x' → IsNamed a a' → IsNamed b b' → IsNamed (Select x a b) (Select x' a' b')

  -- each of these trees
  pub data AreNamed : List Tree → List Tree → Type 0 where
    none : AreNamed [] []
    one_more : {t t' : Tree} {ts ts' : List Tree} → IsNamed t t' → AreNamed ts ts' → AreNamed (t ∷ ts) (t' ∷ ts')

  -- a tree as it was written has named constants
  of_written : {t t' : Tree} → IsWritten k bits exacts t t' → IsNamed t t'
  of_written (m.number r w) = number r w
  of_written m.input = input
  of_written m.definition = definition
  of_written (m.negated w) = negated (of_written w)
  of_written (m.binary w y) = binary (of_written w) (of_written y)
  of_written (m.applied w) = applied (of_written w)
  of_written (m.power w) = power (of_written w)
  of_written (m.select w y z) = select (of_written w) (of_written y) (of_written z)

  of_all_written : {ts ts' : List Tree} → AreWritten k bits exacts ts ts' → AreNamed ts ts'
  of_all_written m.none = none
  of_all_written (m.one_more w ws) = one_more (of_written w) (of_all_written ws)

  -- both trees are free of the distance, or neither is
  free_named : {t t' : Tree} → IsNamed t t' → is_free_of_distance t ≡ is_free_of_distance t'
  free_named (number {j = j} r w) = rw (not_distance j) refl
  free_named same = refl
  free_named input = refl
  free_named definition = refl
  free_named (negated w) = free_named w
  free_named (binary w y) = rw (free_named w, free_named y) refl
  free_named (applied w) = free_named w
  free_named (power w) = free_named w
  free_named (select w y z) = rw (free_named w, free_named y, free_named z) refl

  moved_named : (n : ℕ) {t t' : Tree} → IsNamed t t' → IsNamed (moved n t) (moved n t')
  moved_named n (number r w) = number r w
  moved_named n same = same
  moved_named n input = input
  moved_named n definition = definition
  moved_named n (negated w) = negated (moved_named n w)
  moved_named n (binary w y) = binary (moved_named n w) (moved_named n y)
  moved_named n (applied w) = applied (moved_named n w)
  moved_named n (power w) = power (moved_named n w)
  moved_named n (select w y z) = select (moved_named n w) (moved_named n y) (moved_named n z)

  -- ---- definitions

  put_named : (g g' : ℕ → Tree) → ((j : ℕ) → IsNamed (g j) (g' j)) → {t t' : Tree} → IsNamed t t' → IsNamed (put g t) (put g' t')
  put_named g g' all (number r w) = number r w
  put_named g g' all same = same
  put_named g g' all input = input
  put_named g g' all (definition {j = j}) = all j
  put_named g g' all (negated w) = negated (put_named g g' all w)
  put_named g g' all (binary w y) = binary (put_named g g' all w) (put_named g g' all y)
  put_named g g' all (applied w) = applied (put_named g g' all w)
  put_named g g' all (power w) = power (put_named g g' all w)
  put_named g g' all (select w y z) = select (put_named g g' all w) (put_named g g' all y) (put_named g g' all z)

  if_named : (b : Bool) {t t' u u' : Tree} → IsNamed t t' → IsNamed u u' → IsNamed (if b then t else u) (if b then t' else u')
  if_named true w y = w
  if_named false w y = y

  meaning_named : (i : ℕ) {ds ds' : List Tree} → AreNamed ds ds' → (j : ℕ) → IsNamed (meaning i ds j) (meaning i ds' j)
  meaning_named i none j = same
  meaning_named i (one_more w ws) j =
      if_named (j == i) (put_named _ _ (meaning_named (i + 1) ws) w) (meaning_named (i + 1) ws j)

  -- ---- derivatives

  unless_named : (b : Bool) {t t' : Tree} → IsNamed t t' → IsNamed (unless_free b t) (unless_free b t')
  unless_named true w = same
  unless_named false w = w

  operation_named : (o : Operator) (p q : Bool) {u v du dv u' v' du' dv' : Tree} → IsNamed u u' → IsNamed v v' → IsNamed du du' → IsNamed dv dv'
      → IsNamed (operation_tree o p q u v du dv) (operation_tree o p q u' v' du' dv')
  operation_named op.Add p q u v du dv = binary du dv
  operation_named op.Subtract p q u v du dv = binary du dv
  operation_named op.Multiply true q u v du dv = binary u dv
  operation_named op.Multiply false true u v du dv = binary du v
  operation_named op.Multiply false false u v du dv = binary (binary du v) (binary u dv)
  operation_named op.Divide p true u v du dv = binary du v
  operation_named op.Divide true false u v du dv = binary (negated (binary u dv)) (power v)
  operation_named op.Divide false false u v du dv = binary (binary (binary du v) (binary u dv)) (power v)
  operation_named op.Minimum p q u v du dv = select (applied (binary v u)) du dv
  operation_named op.Maximum p q u v du dv = select (applied (binary u v)) du dv

  applied_named : (g : Function) {u du u' du' : Tree} → IsNamed u u' → IsNamed du du' → IsNamed (applied_tree bits g u du) (applied_tree bits g u' du')
  applied_named f.SquareRoot u du = binary du (binary same (applied u))
  applied_named f.Absolute u du = binary (select (applied u) same same) du
  applied_named (f.Flat g) u du = same

  power_named : (n : ℤ) {u du u' du' : Tree} → IsNamed u u' → IsNamed du du' → IsNamed (power_tree bits n u du) (power_tree bits n u' du')
  power_named (pos n) u du = if_named (n == 1) du (binary (binary same (power u)) du)
  power_named (negsuc n) u du = negated (binary (binary same du) (power u))

  module _ (n : ℕ) (free free' : ℕ → Bool) (alike : (j : ℕ) → free j ≡ free' j) where
    given_named : {t t' : Tree} → IsNamed t t' → is_free_given free t ≡ is_free_given free' t'
    given_named (number {j = j} r w) = rw (not_distance j) refl
    given_named same = refl
    given_named input = refl
    given_named (definition {j = j}) = alike j
    given_named (negated w) = given_named w
    given_named (binary w y) = rw (given_named w, given_named y) refl
    given_named (applied w) = given_named w
    given_named (power w) = given_named w
    given_named (select w y z) = rw (given_named w, given_named y, given_named z) refl

    slope_named : {t t' : Tree} → IsNamed t t' → IsNamed (slope_tree bits free n t) (slope_tree bits free' n t')
    slope_named (number {j = j} r w) = rw (not_distance j) same
    slope_named same = same
    slope_named input = same
    slope_named (definition {j = j}) = rw (alike j) (unless_named (free' j) definition)
    slope_named (negated w) = rw (given_named w) (unless_named _ (negated (slope_named w)))
    slope_named (binary {o = o} w y) =
        rw (given_named w, given_named y)
        (unless_named _ (operation_named o _ _ (moved_named n w) (moved_named n y) (slope_named w) (slope_named y)))
    slope_named (applied {g = g} w) = rw (given_named w) (unless_named _ (applied_named g (moved_named n w) (slope_named w)))
    slope_named (power {n = e} w) = rw (given_named w) (unless_named _ (power_named e (moved_named n w) (slope_named w)))
    slope_named (select w y z) =
        rw (given_named w, given_named y, given_named z) (unless_named _ (select (moved_named n w) (slope_named y) (slope_named z)))

    slopes_named : {ts ts' : List Tree} → AreNamed ts ts' → AreNamed (map (slope_tree bits free n) ts) (map (slope_tree bits free' n) ts')
    slopes_named none = none
    slopes_named (one_more w ws) = one_more (slope_named w) (slopes_named ws)

  all_moved_named : (n : ℕ) {ts ts' : List Tree} → AreNamed ts ts' → AreNamed (map (moved n) ts) (map (moved n) ts')
  all_moved_named n none = none
  all_moved_named n (one_more w ws) = one_more (moved_named n w) (all_moved_named n ws)

  append_named : {ts ts' us us' : List Tree} → AreNamed ts ts' → AreNamed us us' → AreNamed (ts ++ us) (ts' ++ us')
  append_named none us = us
  append_named (one_more w ws) us = one_more w (append_named ws us)

  same_length : {ts ts' : List Tree} → AreNamed ts ts' → length ts ≡ length ts'
  same_length none = refl
  same_length (one_more w ws) = ap suc (same_length ws)

  -- The program of the derivative of a program as it was written has the named constants of the derivative.
  pub derivative_named : (program written : Trees) → IsWrittenProgram k bits exacts program written
      → IsNamed (substituted (with_all bits program).0 (with_all bits program).1) (substituted (with_all bits written).0 (with_all bits written).1)
  derivative_named (body, ds) (body', ds') w =
      let all : AreNamed ds ds' = of_all_written w.1 in
      let alike : (j : ℕ) → free_among ds j ≡ free_among ds' j = λ j. free_named (meaning_named 0 all j) in
      rw (same_length all)
      (put_named _ _
      (meaning_named 0 (append_named (slopes_named (length ds') (free_among ds) (free_among ds') alike all) (all_moved_named (length ds') all)))
      (slope_named (length ds') (free_among ds) (free_among ds') alike (of_written w.0)))
