use Rattle.std.proofs.Common.{◌≡◌, true, false, sym, subst, ◌∙◌, ap, map, bytes_eq, arith}
use Rattle.std.proofs.lemmas.List.{drop_all}
use Rattle.expr.specs.Definitions.{number_from}
use Rattle.expr.specs.Syntax.{definition_of, defined_names}
use Rattle.expr.specs.declared.sources.Definition.{Definition}
use Rattle.expr.proofs.Checked.{name_next, number_here, number_later}
use Rattle.expr.proofs.definitions.number_from.Goals as goal

pub returns-then-eq-clause-value : goal.returns-then-eq-clause-value
returns-then-eq-clause-value g c =
    let x = c.definition-item in
    let next = name_next definition_of c.args.definitions.now c.loop-definition.definition-index x.result c.loop-definition-test.true in
    let same = subst (λ (d : Definition g.row.A.Denot). bytes_eq d.name.now c.args.name.now ≡ true) x.is (sym c.eq.ensures ∙ c.if-eq.true) in
    sym (c.loop-definition.invariant.left ∙ number_here _ _ _ _ _ next same)

pub loop-definition-preserved : goal.loop-definition-preserved
loop-definition-preserved g c =
    let x = c.definition-item in
    let next = name_next definition_of c.args.definitions.now c.loop-definition.definition-index x.result c.loop-definition-test.true in
    let other = subst (λ (d : Definition g.row.A.Denot). bytes_eq d.name.now c.args.name.now ≡ false) x.is (sym c.eq.ensures ∙ c.if-eq.false) in
    record { at = omega arith; left = c.loop-definition.invariant.left ∙ number_later _ _ _ _ _ next other }

pub returns-clause-value : goal.returns-clause-value
returns-clause-value g c =
    let none = drop_all c.loop-definition.definition-index c.args.definitions.now (omega (arith, c.loop-definition-test.false)) in
    sym (c.loop-definition.invariant.left ∙ ap (λ ds. number_from c.loop-definition.number (defined_names (map definition_of ds)) c.args.name.now) none)
