use Rattle.std.proofs.Common.{sym, ◌∙◌, ◌+◌, ap, Ok, Err, drop, map, arith, take_all, is_some}
use Rattle.std.proofs.lemmas.List.{drop_all}
use Rattle.energy_program.specs.Variables.{names_of}
use Rattle.expr.specs.Definitions.{checked}
use Rattle.expr.specs.Syntax.{definition_of, defined_names}
use Rattle.expr.proofs.Checked.{name_next, name_more, refused_taken, refused_given, goes_on, all_checked}
use Rattle.energy_program.specs.Faults.{RepeatedDefinition, ReservedName}
use Rattle.expr.proofs.definitions.check_names.Goals as goal

pub returns-then-is_taken : goal.returns-then-is_taken
returns-then-is_taken g c =
    let x = c.index-definitions-number in
    let next = name_next definition_of c.args.definitions.now c.loop-number.number x.result c.loop-number-test.true in
    c.loop-number.invariant
    ∙ refused_taken (names_of c.args.names.now) _ _ _ _ next (sym c.is_taken.ensures ∙ c.if-is_taken.true)
    ∙ ap (λ n. Err (ReservedName n)) (sym c.in_ok-name.ensures)

pub returns-then-is_some : goal.returns-then-is_some
returns-then-is_some g c =
    let x = c.index-definitions-number in
    let next = name_next definition_of c.args.definitions.now c.loop-number.number x.result c.loop-number-test.true in
    let given = ap is_some (sym c.number_from.ensures.value) ∙ sym c.is_some.ensures ∙ c.if-is_some.true in
    c.loop-number.invariant
    ∙ refused_given (names_of c.args.names.now) _ _ _ _ next (sym c.is_taken.ensures ∙ c.if-is_taken.false) given
    ∙ ap (λ n. Err (RepeatedDefinition n)) (sym c.in_ok-name-2.ensures)

pub loop-number-preserved : goal.loop-number-preserved
loop-number-preserved g c =
    let x = c.index-definitions-number in
    let next = name_next definition_of c.args.definitions.now c.loop-number.number x.result c.loop-number-test.true in
    let more = name_more definition_of c.args.definitions.now c.loop-number.number x.result c.loop-number-test.true in
    let given = ap is_some (sym c.number_from.ensures.value) ∙ sym c.is_some.ensures ∙ c.if-is_some.false in
    c.loop-number.invariant
    ∙ goes_on (names_of c.args.names.now) _ _ _ _ next (sym c.is_taken.ensures ∙ c.if-is_taken.false) given
    ∙ ap (λ before. checked (names_of c.args.names.now) before (defined_names (map definition_of (drop (c.loop-number.number + 1) c.args.definitions.now)))) (sym more)

pub returns : goal.returns
returns g c =
    let n = c.loop-number.number in
    let end = c.loop-number-test.false in
    c.loop-number.invariant
    ∙ all_checked (names_of c.args.names.now) _ _ (ap (λ ds. defined_names (map definition_of ds)) (drop_all n c.args.definitions.now (omega arith)))
    ∙ ap (λ ds. Ok (defined_names (map definition_of ds))) (take_all n c.args.definitions.now (omega arith))
