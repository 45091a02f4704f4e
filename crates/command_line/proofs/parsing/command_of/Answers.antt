use Rattle.std.proofs.Common.{◌≡◌, List, MatchOption, None, Option, Some, subst, sym, option_map}
use Rattle.clap.specs.Words.{Row, Text}
use Rattle.clap.specs.declared.parser.matches.ArgMatches.TheViews.{out-ArgMatches}
use Rattle.command_line.specs.CommandLine.{IsNamedOf}
use Rattle.command_line.specs.Commands.{CommandView}
use Rattle.command_line.specs.Views.{command_view}
use Rattle.command_line.proofs.parsing.command_of.Goals as goal

-- the name and the arguments of a command that was found
called : {B : Type 0} (said : B → Text × List Row) (found : Option B) (name : Text) (rows : List Row)
    → Some name ≡ option_map (λ b. (said b).0) found → Some rows ≡ option_map (λ s. s.1) (option_map said found)
    → option_map said found ≡ Some (name, rows)
called said None name rows is also = let bad : Some name ≡ None = is in cc
called said (Some b) name rows is also =
    let first : name ≡ (said b).0 = cc in
    let second : rows ≡ (said b).1 = cc in
    rw (first, second)

pub returns : goal.returns
returns c =
    let said = c.in_ok-name.ensures in
    subst (λ s. MatchOption c.command_by.result ((d : CommandView) → IsNamedOf s d → ⊥) (λ d. IsNamedOf s (command_view d)))
    (sym (called _ (out-ArgMatches c.args.matches.now).subcommand _ _ said.name said.rows)) c.command_by.ensures
