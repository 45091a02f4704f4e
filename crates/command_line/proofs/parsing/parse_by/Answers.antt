use Rattle.std.proofs.Common.{inr, map, subst}
use Rattle.std.proofs.lemmas.Result.{err_from_is_err_and}
use Rattle.clap.specs.Words.{app_of}
use Rattle.command_line.specs.CommandLine.{IsNamedOf}
use Rattle.command_line.specs.Views.{command_view}
use Rattle.command_line.proofs.CommandLineLaws.{faultless_has_kind, faulty_has_kind, faulty_names_none, program_fails, program_meets, program_passes, silent_names_none}
use Rattle.command_line.proofs.parsing.parse_by.Goals as goal

pub returns-in_err-matches-clause-none : goal.returns-in_err-matches-clause-none
returns-in_err-matches-clause-none g c =
    let words = map g.S.AsStr.text c.args.words.now in
    let fault = c.in_err-matches.field-0.0 in
    let has = program_fails (app_of c.args.parser.now) words fault c.requires c.in_err-matches.ensures.kinds in
    let end = err_from_is_err_and c.from_residual.result c.from_residual.ensures.1 in
    rw (end.1, end.2) (faulty_names_none words fault has)

pub returns-in_err-matches-clause-kind : goal.returns-in_err-matches-clause-kind
returns-in_err-matches-clause-kind g c =
    let words = map g.S.AsStr.text c.args.words.now in
    let fault = c.in_err-matches.field-0.0 in
    let has = program_fails (app_of c.args.parser.now) words fault c.requires c.in_err-matches.ensures.kinds in
    let end = err_from_is_err_and c.from_residual.result c.from_residual.ensures.1 in
    rw (end.1, end.2) (faulty_has_kind words fault has)

pub returns-in-Some-clause-command : goal.returns-in-Some-clause-command
returns-in-Some-clause-command g c =
    let words = map g.S.AsStr.text c.args.words.now in
    let matches = c.in_ok-matches in
    let passes = program_passes (app_of c.args.parser.now) words c.requires matches.ensures.kinds in
    let meets = program_meets (app_of c.args.parser.now) words _ c.requires matches.ensures.ok.2 in
    (passes, subst (λ o. IsNamedOf o (command_view c.in-Some.command)) meets c.in-Some.ensures)

pub returns-clause-none : goal.returns-clause-none
returns-clause-none g c =
    let words = map g.S.AsStr.text c.args.words.now in
    let meets = program_meets (app_of c.args.parser.now) words _ c.requires c.in_ok-matches.ensures.ok.2 in
    inr (silent_names_none words _ meets c.in-None.ensures)

pub returns-clause-kind : goal.returns-clause-kind
returns-clause-kind g c =
    let words = map g.S.AsStr.text c.args.words.now in
    let passes = program_passes (app_of c.args.parser.now) words c.requires c.in_ok-matches.ensures.kinds in
    faultless_has_kind words c.in_ok-unnamed-in-None.field-0 passes c.in_ok-unnamed-in-None.ensures
