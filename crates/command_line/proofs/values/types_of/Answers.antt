use Rattle.std.proofs.Common.{◌∙◌, codes, sym}
use Rattle.clap.specs.Words.{found_of, rows_of}
use Rattle.clap.proofs.WalkLemmas.{raw_values-rows}
use Rattle.command_line.proofs.CommandLineLaws.{no_types, types_said}
use Rattle.command_line.proofs.values.types_of.Goals as goal

pub returns-in-None : goal.returns-in-None
returns-in-None c = sym (c.in-None.ensures ∙ raw_values-rows (found_of c.args.matches.now) (codes "types"))

pub returns-in-Some-two_of : goal.returns-in-Some-two_of
returns-in-Some-two_of c =
    let values = c.in-Some.ensures ∙ raw_values-rows (found_of c.args.matches.now) (codes "types") in
    types_said (rows_of (found_of c.args.matches.now)) _ c.in-Some-two_of.pair.0 c.in-Some-two_of.pair.1 values c.in-Some-two_of.ensures

pub returns-in-None-two_of : goal.returns-in-None-two_of
returns-in-None-two_of c =
    let values = c.in-Some.ensures ∙ raw_values-rows (found_of c.args.matches.now) (codes "types") in
    no_types (rows_of (found_of c.args.matches.now)) _ values c.in-None-two_of.ensures
