-- What the tables of arguments and of commands describe, as the parser's model has it.
use Rattle.std.specs.Prelude.{ℕ, List, [], ◌∷◌, Option, Some, None, length, map, negsuc, pos, true}
use Rattle.std.specs.Borrow.{Bor}
use Rattle.clap.specs.Words.{Rule, Shape, Text, new_app}
use Rattle.clap.specs.declared.builder.value_parser.ValueParser.{ValueParser}
use Rattle.clap.specs.declared.builder.value_parser.ValueParser.TheVariants.{Signed, Unsigned}
use Rattle.command_line.specs.CommandLine.{flag_rule, operand_rule, option_rule, taking, values_rule}
use Rattle.command_line.specs.declared.arguments.Defaulted.{Defaulted}
use Rattle.command_line.specs.declared.arguments.Form.{Form}
use Rattle.command_line.specs.declared.arguments.Form.TheVariants as form
use Rattle.command_line.specs.declared.arguments.Range.{Range}
use Rattle.command_line.specs.declared.arguments.Range.TheVariants as range
use Rattle.command_line.specs.declared.syntax.Syntax.{Syntax}

-- an option with values of these names
abbrev pub optional_rule : Text → List (Bor Text) → Rule
optional_rule name values = record (option_rule name) { value_names = length values }

-- an option that may also be given by this letter
abbrev pub lettered : Rule → Option ℕ → Rule
lettered rule None = rule
lettered rule (Some letter) = record rule { short = Some letter }

-- an option whose value is in this range
abbrev pub ranged : Rule → Range → Rule
ranged rule range.Text = rule
ranged rule (range.Number least most) = record rule { parser = Some (Unsigned least most) }
ranged rule range.Counter = record rule { parser = Some (Signed (negsuc 9223372036854775807) (pos 9223372036854775807)) }

-- an option with a default value
abbrev pub defaulted_rule : Text → Defaulted → Rule
defaulted_rule name given =
    ranged (lettered (record (optional_rule name given.value.now) { defaults = given.default.now ∷ [] }) given.letter) given.range

-- an argument of this form
abbrev pub rule_by : Text → Form → Rule
rule_by name form.Operand = operand_rule name
rule_by name form.Operands = values_rule name
rule_by name form.Flag = flag_rule name
rule_by name (form.Optional values) = optional_rule name values.now
rule_by name (form.Required letter value) = record (optional_rule name value.now) { short = Some letter; required = true }
rule_by name (form.Defaulted given) = defaulted_rule name given

abbrev pub rule_of_argument : Bor Text × Form × Bor Text → Rule
rule_of_argument argument = rule_by argument.0.now argument.1

abbrev pub shape_of_syntax : Syntax → Shape
shape_of_syntax syntax = (taking (new_app syntax.name.now) (map rule_of_argument syntax.arguments.now)).top
