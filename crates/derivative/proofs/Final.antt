-- The program of the derivative, as the pruned program of all written definitions.
use Rattle.std.proofs.Common.{◌≡◌, ℕ, ◌<◌, ◌≤◌, nat_lt, ℤ, true, false, List, map, length, Ok, Err, refl, sym, ap, ◌∙◌, subst, arith, lt-ltb, le-ltb}
use Rattle.std.specs.Bool.{IsTrue}
use Rattle.std.proofs.lemmas.List.{length-map}
use Rattle.fixed.specs.declared.frac.Frac.{Frac}
use Rattle.fixed.specs.declared.frac.Frac.TheVariants.{F24, F32, F40}
use Rattle.fixed.specs.Arithmetic.{one, in_range}
use Rattle.fixed.specs.Fractions.{bits_of}
use Rattle.energy_program.specs.declared.trees.Expr.{Expr}
use Rattle.energy_program.specs.Faults.{TooLarge}
use Rattle.energy_program.specs.Tree.{Tree, tree_of, is_scoped, are_scoped, substituted}
use Rattle.energy_program.specs.Value.{value_of}
use Rattle.energy_program.specs.Programs.{Trees}
use Rattle.derivative.specs.Slope.{fixed_point, slope_of}
use Rattle.derivative.specs.Used.{AllNeeded}
use Rattle.derivative.specs.Derive.{with_all, pruned, slope_program}
use Rattle.derivative.proofs.Left.{same_tree, left_body_scoped, left_definitions_scoped}
use Rattle.derivative.proofs.Readings.{fixed_reads}
use Rattle.derivative.proofs.Shared.{with_all_value}
use Rattle.derivative.proofs.Sources.{all_needed}
use Rattle.derivative.proofs.Uses.{body_scoped, definitions_scoped}

one_fits : (f : Frac) → IsTrue (in_range (one (bits_of f)))
one_fits F24 = refl
one_fits F32 = refl
one_fits F40 = refl

-- of the trees of a program
record IsSlope (f : Frac) (count : ℕ) (body : Tree) (ds : List Tree) (slope : Trees) : Type 0 where
  pub value : (inputs : List ℤ) → value_of (bits_of f) inputs (substituted slope.0 slope.1) ≡ slope_of (bits_of f) inputs (substituted body ds)
  pub needed : AllNeeded slope.0 slope.1
  pub body_in : IsTrue (is_scoped count 0 (length slope.1) slope.0)
  pub definitions_in : IsTrue (are_scoped count 0 slope.1)

slope_is : (f : Frac) (count : ℕ) (body : Tree) (ds : List Tree) → IsTrue (is_scoped count 0 (length ds) body) → IsTrue (are_scoped count 0 ds)
    → IsSlope f count body ds (pruned (with_all (bits_of f) (body, ds)))
slope_is f count body ds hb hd =
    let bits = bits_of f in
    let whole_body = (with_all (bits_of f) (body, ds)).0 in
    let whole_ds = (with_all (bits_of f) (body, ds)).1 in
    let wb : IsTrue (is_scoped count 0 (length whole_ds) whole_body) = body_scoped count (bits_of f) body ds hb in
    let wd : IsTrue (are_scoped count 0 whole_ds) = definitions_scoped count (bits_of f) body ds hd in
    record {
      value = λ inputs. ap (value_of (bits_of f) inputs) (same_tree count whole_body whole_ds wb wd) ∙ with_all_value (bits_of f) (fixed_point (bits_of f)) (value_of (bits_of f) inputs) (fixed_reads (bits_of f) (one_fits f) inputs) count body ds hb hd;
      needed = all_needed count whole_body whole_ds wb wd;
      body_in = left_body_scoped count whole_body whole_ds wb wd;
      definitions_in = left_definitions_scoped count whole_body whole_ds wb wd;
    }

-- in the words of the code
pub record IsDerived {A : Type 0} (f : Frac) (count : ℕ) (body slope_body : Expr A) (ds slope_ds : List (Expr A)) : Type 0 where
  pub value : (inputs : List ℤ) → value_of (bits_of f) inputs (substituted (tree_of slope_body) (map tree_of slope_ds)) ≡ slope_of (bits_of f) inputs (substituted (tree_of body) (map tree_of ds))
  pub needed : AllNeeded (tree_of slope_body) (map tree_of slope_ds)
  pub body_in : IsTrue (is_scoped count 0 (length slope_ds) (tree_of slope_body))
  pub definitions_in : IsTrue (are_scoped count 0 (map tree_of slope_ds))

-- the program that is left of the one with all definitions has the slope as its value, needs each of its definitions,
-- and uses only those
pub derived : {A : Type 0} (f : Frac) (count : ℕ) (body slope_body : Expr A) (ds slope_ds : List (Expr A)) (whole : Trees)
    → whole ≡ with_all (bits_of f) (tree_of body, map tree_of ds) → (tree_of slope_body, map tree_of slope_ds) ≡ pruned whole
    → IsTrue (is_scoped count 0 (length ds) (tree_of body)) → IsTrue (are_scoped count 0 (map tree_of ds))
    → IsDerived f count body slope_body ds slope_ds
derived f count body slope_body ds slope_ds whole e1 e2 hb hd =
    let long : length (map tree_of ds) ≡ length ds = simp length-map in
    let slope_long : length (map tree_of slope_ds) ≡ length slope_ds = simp length-map in
    let is : (tree_of slope_body, map tree_of slope_ds) ≡ pruned (with_all (bits_of f) (tree_of body, map tree_of ds)) = e2 ∙ ap pruned e1 in
    let known : IsSlope f count (tree_of body) (map tree_of ds) (tree_of slope_body, map tree_of slope_ds) =
    subst (λ x. IsSlope f count (tree_of body) (map tree_of ds) x) (sym is)
    (slope_is f count (tree_of body) (map tree_of ds) (subst (λ k. IsTrue (is_scoped count 0 k (tree_of body))) (sym long) hb) hd) in
    record {
      value = known.value;
      needed = known.needed;
      body_in = subst (λ k. IsTrue (is_scoped count 0 k (tree_of slope_body))) slope_long known.body_in;
      definitions_in = known.definitions_in;
    }

module _ {A : Type 0} (bits : ℕ) (body slope_body : Expr A) (ds slope_ds : List (Expr A)) (whole : Trees)
    (e1 : whole ≡ with_all bits (tree_of body, map tree_of ds)) (e2 : (tree_of slope_body, map tree_of slope_ds) ≡ pruned whole) where
  is_long : length slope_ds ≡ length (pruned (with_all bits (tree_of body, map tree_of ds))).1
  is_long =
      let slope_long : length (map tree_of slope_ds) ≡ length slope_ds = simp length-map in
      sym slope_long ∙ ap (λ x. length x.1) (e2 ∙ ap pruned e1)

  -- If at most 128 definitions are left, the pruned program is the program of the derivative.
  pub few : length slope_ds ≤ 128 → slope_program bits (tree_of body, map tree_of ds) ≡ Ok (tree_of slope_body, map tree_of slope_ds)
  few h =
      let l = is_long in
      let test : nat_lt 128 (length (pruned (with_all bits (tree_of body, map tree_of ds))).1) ≡ false = le-ltb 128 _ (omega arith) in
      rw test (ap Ok (sym (e2 ∙ ap pruned e1)))

  -- If more than 128 definitions are left, the derivative has no program, and the error is TooLarge.
  pub many : 128 < length slope_ds → slope_program bits (tree_of body, map tree_of ds) ≡ Err TooLarge
  many h =
      let l = is_long in
      let test : nat_lt 128 (length (pruned (with_all bits (tree_of body, map tree_of ds))).1) ≡ true = lt-ltb 128 _ (omega arith) in
      rw test refl
