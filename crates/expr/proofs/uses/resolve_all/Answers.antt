use Rattle.std.proofs.Common.{◌+◌, ◌-◌, IsTrue, Ok, ap, subst, sym, ◌∙◌, drop, length, length-append, length-drop, map, arith}
use Rattle.std.proofs.lemmas.List.{drop_all, length-map, map_push, take_all}
use Rattle.std.proofs.lemmas.Result.{err_from_is_err_and}
use Rattle.energy_program.specs.Tree.{variable_count, is_scoped, tree_of}
use Rattle.energy_program.specs.Variables.{names_of}
use Rattle.energy_program.proofs.Scopes.{from_below}
use Rattle.expr.specs.Syntax.{definition_of}
use Rattle.expr.proofs.Resolving.{fails, more, ends, scoped_more}
use Rattle.expr.proofs.uses.resolve_all.Goals as goal

pub returns-in_err-tree-clause-value : goal.returns-in_err-tree-clause-value
returns-in_err-tree-clause-value g c =
    let p = err_from_is_err_and c.from_residual.result c.from_residual.ensures.1 in
    let later = length-drop (c.loop-number.number + 1) c.args.definitions.now in
    let whole = take_all (length c.args.definitions.now - (c.loop-number.number + 1)) (drop (c.loop-number.number + 1) c.args.definitions.now) (omega (arith, later)) in
    rw (p.1, p.2, c.loop-number.invariant.left) (fails definition_of c.args.definitions.now c.loop-number.number _ c.loop-number-test.true (names_of c.args.names.now) _ _ (rw (whole, c.deref.ensures) at c.in_err-tree.ensures.value))

pub loop-number-preserved : goal.loop-number-preserved
loop-number-preserved g c =
    let pushed = ap (map tree_of) c.in_ok-push.ensures.items ∙ map_push _ c.loop-number.trees.items _ in
    let count = length-map c.loop-number.trees.items tree_of in
    let later = length-drop (c.loop-number.number + 1) c.args.definitions.now in
    let whole = take_all (length c.args.definitions.now - (c.loop-number.number + 1)) (drop (c.loop-number.number + 1) c.args.definitions.now) (omega (arith, later)) in
    let inputs = variable_count c.args.names.now.parameters c.args.names.now.globals in
    record {
      count = ap length c.in_ok-push.ensures.items ∙ length-append c.loop-number.trees.items _ ∙ ap (λ n. n + 1) c.loop-number.invariant.count;
      left =
          c.loop-number.invariant.left
          ∙ more definition_of c.args.definitions.now c.loop-number.number _ c.loop-number-test.true (names_of c.args.names.now) _ _ _ pushed ((rw (whole, c.deref.ensures) at c.in_ok-tree.ensures.value) ∙ ap (λ e. Ok (tree_of e)) (sym c.into_inner.ensures));
      scoped =
          rw pushed
          (scoped_more inputs 0 (length c.args.definitions.now) (c.loop-number.number + 1) (map tree_of c.loop-number.trees.items) _ (omega (arith, count, c.loop-number.invariant.count)) c.loop-number.invariant.scoped
          (subst (λ e. IsTrue (is_scoped inputs (c.loop-number.number + 1) (length c.args.definitions.now) (tree_of e))) (sym c.into_inner.ensures)
          (subst (λ end. IsTrue (is_scoped inputs (c.loop-number.number + 1) end (tree_of c.in_ok-tree.tree.value))) (omega (arith, later, c.loop-number-test.true)) (rw whole at c.in_ok-tree.ensures.scoped))));
    }

pub returns-clause-value : goal.returns-clause-value
returns-clause-value g c =
    c.loop-number.invariant.left
    ∙ ends _ (names_of c.args.names.now) c.loop-number.number _ (ap (map definition_of) (drop_all c.loop-number.number c.args.definitions.now (omega (arith, c.loop-number-test.false))))

pub returns-clause-scoped : goal.returns-clause-scoped
returns-clause-scoped g c =
    let count = length-map c.loop-number.trees.items tree_of in
    from_below (variable_count c.args.names.now.parameters c.args.names.now.globals) (length c.args.definitions.now) 0 (map tree_of c.loop-number.trees.items)
    (omega (arith, count, c.loop-number.invariant.count, c.loop-number-test.false, c.loop-number.auto.number-end)) c.loop-number.invariant.scoped
