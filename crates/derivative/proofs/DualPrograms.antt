-- The program of the derivative, read over exact numbers, computes the derivative.
use Rattle.std.proofs.Common.{◌≡◌, ℕ, ℤ, Bool, true, false, if◌then◌else◌, List, Result, length, Ok, Err, sym, ap, ◌∙◌}
use Rattle.std.specs.Bool.{IsTrue}
use Rattle.energy_program.specs.Faults.{Refusal, TooLarge}
use Rattle.energy_program.specs.Tree.{Tree, is_scoped, are_scoped, substituted}
use Rattle.energy_program.specs.Programs.{Trees}
use Rattle.derivative.specs.Derive.{with_all, pruned, slope_program}
use Rattle.derivative.specs.Exact.{Numbers, AreExact, StandsForFraction, exact, exact_slope, exact_value}
use Rattle.derivative.specs.DualNumbers.{IsDerivativeProgram, IsScoped}
use Rattle.derivative.proofs.DualComplete.{derivative}
use Rattle.derivative.proofs.ExactReads.{exact_reads}
use Rattle.derivative.proofs.Left.{same_tree}
use Rattle.derivative.proofs.Shared.{with_all_value}
use Rattle.derivative.proofs.Uses.{body_scoped, definitions_scoped}

few : (b : Bool) (p q : Trees) → ◌≡◌ {A = Result Trees Refusal} (if b then Err TooLarge else Ok p) (Ok q) → p ≡ q
few true p q e = absurd (cc)
few false p q e = cc

module _ {V : Type 0} (k : Numbers V) (h : AreExact k) (bits : ℕ) (stands : (z : ℤ) → StandsForFraction k bits z) (inputs : List V) (count : ℕ) where
  slope_read : (body : Tree) (ds : List Tree) → IsTrue (is_scoped count 0 (length ds) body) → IsTrue (are_scoped count 0 ds)
      → exact_value k inputs (substituted (pruned (with_all bits (body, ds))).0 (pruned (with_all bits (body, ds))).1) ≡ exact_slope k inputs (substituted body ds)
  slope_read body ds hb hd =
      let whole_body = (with_all bits (body, ds)).0 in
      let whole_ds = (with_all bits (body, ds)).1 in
      let wb : IsTrue (is_scoped count 0 (length whole_ds) whole_body) = body_scoped count bits body ds hb in
      let wd : IsTrue (are_scoped count 0 whole_ds) = definitions_scoped count bits body ds hd in
      ap (exact_value k inputs) (same_tree count whole_body whole_ds wb wd)
      ∙ with_all_value bits (exact k) (exact_value k inputs) (exact_reads k h bits stands inputs) count body ds hb hd

  -- If a program has a derivative program, this computes the program's derivative over exact numbers.
  pub derivative_program : (program slope : Trees) → IsScoped count program → slope_program bits program ≡ Ok slope → IsDerivativeProgram k inputs program slope
  derivative_program program slope scoped e v s =
      let is : pruned (with_all bits program) ≡ slope = few _ (pruned (with_all bits program)) slope e in
      let read : exact_value k inputs (substituted slope.0 slope.1) ≡ exact_slope k inputs (substituted program.0 program.1) =
      ap (λ x. exact_value k inputs (substituted x.0 x.1)) (sym is) ∙ slope_read program.0 program.1 scoped.0 scoped.1 in
      let table = derivative k h inputs (substituted program.0 program.1) v s in
      (λ p. ((table.0 p).0, read ∙ (table.0 p).1), λ q. table.1 (q.0, sym read ∙ q.1))
