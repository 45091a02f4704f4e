use Rattle.std.proofs.Common.{◌≡◌, ℕ, ◌+◌, ◌<◌, ◌≤◌, List, [], ◌∷◌, ◌++◌, Option, Some, sum_by, Bool, false, true, ap, ◌∙◌, arith, sym, ⊎_elim, ℤ, pos, negsuc, ◌==◌, length, vec_len, refl, lt_of_lt_of_le}
use Rattle.std.specs.Borrow.{Bor}
use Rattle.std.specs.Option.{option_to_list}
use Rattle.std.proofs.lemmas.Bool.Decides.{nat_tests}
use Rattle.std.proofs.lemmas.List.Sums.{sum_by-cons, sum_by_push}
use Rattle.energy_program.specs.Tree.{Tree, tree_of}
use Rattle.energy_program.specs.Tree as t
use Rattle.energy_program.specs.declared.trees.Expr.{Expr}
use Rattle.kernel_compiler.specs.Sizes.{pair_size, raised_size, size}
use Rattle.kernel_compiler.specs.Code.{is_second_first, stack_depth}
use Rattle.kernel_compiler.proofs.code_limits.is_small.Goals as goal
use Rattle.kernel_compiler.proofs.code_limits.is_small.Goals.{in-Binary+in_ok-push-in-Binary+in_ok-push-in-Binary-2, in-Select+in_ok-push-in-Select+in_ok-push-in-Select-2+in_ok-push-in-Select-3, in-Number, in-Number-2, in-Number-3, in-Negated+in_ok-push-in-Negated}

-- each tree has an instruction
some_size : (e : Tree) → 0 < size e
some_size (t.Binary o a b) = let h = some_size a in omega arith
some_size (t.Power a n) = let h = some_size a in omega arith
some_size _ = omega arith

some_raised : (n : ℤ) → 0 < raised_size n
some_raised (pos n) = omega arith
some_raised (negsuc n) = omega arith

some_pair : (is_second_first : Bool) → 0 < pair_size is_second_first
some_pair false = omega arith
some_pair true = omega arith

module _ {A : Type 0} where
  sizes : List (Bor (Expr A)) → ℕ
  sizes trees = sum_by (λ e. size (tree_of e.now)) trees

  pushed : (before after : List (Bor (Expr A))) (e : Bor (Expr A)) (part : Expr A) → after ≡ before ++ e ∷ [] → e.now ≡ part
      → sizes after ≡ sizes before + size (tree_of part)
  unfolding sizes
  pushed before after e part is same = ap sizes is ∙ sum_by_push (λ x. size (tree_of x.now)) before e ∙ ap (λ x. sizes before + size (tree_of x)) same

  -- an expression is taken, and its parts replace it
  taken : (n all : ℕ) (before rest after : List (Bor (Expr A))) (r : Option (Bor (Expr A))) (e : Bor (Expr A)) → r ≡ Some e
      → before ≡ rest ++ option_to_list r → n + sizes before ≤ all → sizes after < sizes rest + size (tree_of e.now) → n + 1 + sizes after ≤ all
  taken n all before rest after r e found is kept fewer =
      let out = pushed rest before e e.now (is ∙ ap (λ x. rest ++ option_to_list x) found) refl in
      omega arith

  some_sizes : (trees : List (Bor (Expr A))) → 0 < length trees → 0 < sizes trees
  unfolding sizes
  some_sizes [] h = absurd (omega arith)
  some_sizes (e ∷ es) h =
      let own = some_size (tree_of e.now) in
      let all = sum_by-cons (λ (x : Bor (Expr A)). size (tree_of x.now)) e es in
      omega arith

pub loop-node-preserved : goal.loop-node-preserved
unfolding sizes
loop-node-preserved g c =
    let rest = c.pop.new.self.items in
    let e = c.in-Some.e.now in
    let go = λ (after : List (Bor (Expr g.row.A.Denot))).
    taken c.loop-node._node (size (tree_of c.args.e.now)) c.loop-node.pending.items rest after c.pop.result c.in-Some.e c.in-Some.is c.pop.ensures.items c.loop-node.invariant
    in
    let some : sizes rest < sizes rest + size (tree_of e) = let h = some_size (tree_of e) in omega arith in
    elim c.match-e.branch [
      | in-Binary+in_ok-push-in-Binary+in_ok-push-in-Binary-2 w ↦
          (let whole = ap (λ x. size (tree_of x)) w.in-Binary.is in
          let own = some_pair (is_second_first (stack_depth (tree_of w.in-Binary.a.value)) (stack_depth (tree_of w.in-Binary.b.value))) in
          let one = pushed rest w.push-in-Binary.new.self.items w.deref.result w.in-Binary.a.value w.in_ok-push-in-Binary.ensures.items w.deref.ensures in
          let two = pushed w.push-in-Binary.new.self.items w.push-in-Binary-2.new.self.items w.deref-in-Binary.result w.in-Binary.b.value w.in_ok-push-in-Binary-2.ensures.items w.deref-in-Binary.ensures in
          rw w.pending-is (go w.push-in-Binary-2.new.self.items (omega arith)))
      | in-Select+in_ok-push-in-Select+in_ok-push-in-Select-2+in_ok-push-in-Select-3 w ↦
          (let whole = ap (λ x. size (tree_of x)) w.in-Select.is in
          let one = pushed rest w.push-in-Select.new.self.items w.deref-in-Select.result w.in-Select.condition.value w.in_ok-push-in-Select.ensures.items w.deref-in-Select.ensures in
          let two = pushed w.push-in-Select.new.self.items w.push-in-Select-2.new.self.items w.deref-in-Select-2.result w.in-Select.a.value w.in_ok-push-in-Select-2.ensures.items w.deref-in-Select-2.ensures in
          let three = pushed w.push-in-Select-2.new.self.items w.push-in-Select-3.new.self.items w.deref-in-Select-3.result w.in-Select.b.value w.in_ok-push-in-Select-3.ensures.items w.deref-in-Select-3.ensures in
          rw w.pending-is (go w.push-in-Select-3.new.self.items (omega arith)))
      | in-Number w ↦ rw w.pending-is (go rest some)
      | in-Number-2 w ↦ rw w.pending-is (go rest some)
      | in-Number-3 w ↦ rw w.pending-is (go rest some)
      | in-Negated+in_ok-push-in-Negated w ↦
          (let part : size (tree_of w.in-Negated.a.value) < size (tree_of e) =
          ⊎_elim (λ h. let own = ap (λ x. size (tree_of x)) h in omega arith)
          (⊎_elim (λ h. let own = ap (λ x. size (tree_of x)) h.1 in omega arith)
          (λ h. let own = ap (λ x. size (tree_of x)) h.1 in let more = some_raised h.0 in omega arith))
          w.in-Negated.is in
          let one = pushed rest w.push-in-Negated.new.self.items w.deref-in-Negated.result w.in-Negated.a.value w.in_ok-push-in-Negated.ensures.items w.deref-in-Negated.ensures in
          rw w.pending-is (go w.push-in-Negated.new.self.items (omega arith)))
    ]

pub returns : goal.returns
unfolding sizes
returns g c = λ large.
    let left : (vec_len c.loop-node.pending == 0) ≡ false = sym c.is_empty.ensures ∙ large in
    let some = some_sizes c.loop-node.pending.items (grind (arith, nat_tests, left)) in
    let kept = c.loop-node.invariant in
    let all = c.loop-node-test.false in
    lt_of_lt_of_le (omega arith) kept
