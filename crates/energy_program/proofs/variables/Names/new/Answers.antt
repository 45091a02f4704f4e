use Rattle.std.proofs.Common.{◌∙◌, map, sym}
use Rattle.std.proofs.lemmas.List.{length-map}
use Rattle.std.proofs.lemmas.Result.{err_from_is_err_and}
use Rattle.energy_program.proofs.NameLemmas.{few_names, many_parameters, many_globals, names_many, parameter_repeated, global_repeated, names_filled, variables_counted}
use Rattle.energy_program.proofs.variables.Names.new.Goals as goal
use Rattle.energy_program.proofs.variables.Names.new.Goals.{then-parameters-gt-MAX_PARAMETERS-via-then-parameters-gt-MAX_PARAMETERS, then-parameters-gt-MAX_PARAMETERS-via-else-parameters-gt-MAX_PARAMETERS+then-globals-gt-MAX_GLOBALS}

pub returns-then-parameters-gt-MAX_PARAMETERS-clause-exact : goal.returns-then-parameters-gt-MAX_PARAMETERS-clause-exact
returns-then-parameters-gt-MAX_PARAMETERS-clause-exact g c =
    elim c.then-parameters-gt-MAX_PARAMETERS.branch [
      | then-parameters-gt-MAX_PARAMETERS-via-then-parameters-gt-MAX_PARAMETERS w ↦
          names_many _ _ (many_parameters (λ p. p.now) (λ g. g.now) c.args.parameters.now c.args.globals.now w.if-parameters-gt-MAX_PARAMETERS.true)
      | then-parameters-gt-MAX_PARAMETERS-via-else-parameters-gt-MAX_PARAMETERS+then-globals-gt-MAX_GLOBALS w ↦
          names_many _ _ (many_globals (λ p. p.now) (λ g. g.now) c.args.parameters.now c.args.globals.now w.if-globals-gt-MAX_GLOBALS.true)
    ]

pub returns-in_err-refuse_repeated-clause-exact : goal.returns-in_err-refuse_repeated-clause-exact
returns-in_err-refuse_repeated-clause-exact g c =
    let p = err_from_is_err_and c.from_residual.result c.from_residual.ensures.1 in
    let few = few_names (λ p. p.now) (λ g. g.now) c.args.parameters.now c.args.globals.now c.if-parameters-gt-MAX_PARAMETERS.false c.if-globals-gt-MAX_GLOBALS.false in
    rw (p.1, p.2) (parameter_repeated _ _ few _ c.in_err-refuse_repeated.ensures.refused)

pub returns-in_err-refuse_repeated-2-clause-exact : goal.returns-in_err-refuse_repeated-2-clause-exact
returns-in_err-refuse_repeated-2-clause-exact g c =
    let p = err_from_is_err_and c.from_residual-in_err-refuse_repeated-2.result c.from_residual-in_err-refuse_repeated-2.ensures.1 in
    let few = few_names (λ p. p.now) (λ g. g.now) c.args.parameters.now c.args.globals.now c.if-parameters-gt-MAX_PARAMETERS.false c.if-globals-gt-MAX_GLOBALS.false in
    rw (p.1, p.2) (global_repeated _ _ few _ c.in_ok-refuse_repeated.ensures.once c.in_err-refuse_repeated-2.ensures.refused)

pub returns-in_err-all_variables-clause-exact : goal.returns-in_err-all_variables-clause-exact
returns-in_err-all_variables-clause-exact g c =
    let p = err_from_is_err_and c.from_residual-in_err-all_variables.result c.from_residual-in_err-all_variables.ensures.1 in
    let few = few_names (λ p. p.now) (λ g. g.now) c.args.parameters.now c.args.globals.now c.if-parameters-gt-MAX_PARAMETERS.false c.if-globals-gt-MAX_GLOBALS.false in
    rw (p.1, p.2, names_filled _ _ few c.in_ok-refuse_repeated.ensures.once c.in_ok-refuse_repeated-2.ensures.once) c.in_err-all_variables.ensures

pub invariant_of-result-clause-counted : goal.invariant_of-result-clause-counted
invariant_of-result-clause-counted g c =
    sym (length-map c.in_ok-all_variables.field-0.keys (λ v. v.items))
    ∙ variables_counted (map (λ p. p.now) c.args.parameters.now) (map (λ g. g.now) c.args.globals.now) _ c.in_ok-all_variables.ensures
    ∙ simp length-map

pub returns-clause-exact : goal.returns-clause-exact
returns-clause-exact g c =
    let few = few_names (λ p. p.now) (λ g. g.now) c.args.parameters.now c.args.globals.now c.if-parameters-gt-MAX_PARAMETERS.false c.if-globals-gt-MAX_GLOBALS.false in
    names_filled _ _ few c.in_ok-refuse_repeated.ensures.once c.in_ok-refuse_repeated-2.ensures.once ∙ c.in_ok-all_variables.ensures
