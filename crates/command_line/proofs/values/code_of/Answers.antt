use Rattle.std.proofs.Common.{◌∙◌, [], Option, List, ℕ, ap, codes, unwrap_or}
use Rattle.clap.specs.Words.{found_of}
use Rattle.clap.proofs.WalkLemmas.{raw_values-rows}
use Rattle.command_line.specs.Explanations.{code_in}
use Rattle.command_line.proofs.values.code_of.Goals as goal

-- the code in the values of an argument, if it has values
abbrev code_of_values : Option (List (List ℕ)) → Option (List ℕ)
code_of_values values = code_in (unwrap_or values [])

pub returns-in_err-arguments : goal.returns-in_err-arguments
returns-in_err-arguments c =
    let values = c.in_err-arguments.ensures ∙ raw_values-rows (found_of c.args.matches.now) (codes "CODE") in
    rw c.from_residual.ensures (ap code_of_values values)

pub returns : goal.returns
returns c =
    let values = c.in_ok-arguments.ensures ∙ raw_values-rows (found_of c.args.matches.now) (codes "CODE") in
    c.code_in.ensures ∙ ap code_of_values values
