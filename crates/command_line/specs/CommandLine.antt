-- The command line: which arguments name which command. Arguments follow the rules of utilities (POSIX.1-2017, Utility
-- Syntax Guidelines), as the toolchain's model of `clap` states them.
use Rattle.std.specs.Prelude.{◌≡◌, ◌≢◌, ◌≤◌, ◌<◌, ◌==◌, ◌&&◌, ◌*◌, ◌^◌, ◌⊎◌, ◌++◌, if◌then◌else◌, ℕ, ℤ, pos, negsuc, FitsSigned, Bool, List, [], ◌∷◌, MatchOption, Option, Some, None, Result, IfOk, option_map, true, false, codes, unwrap_or}
use Rattle.std.specs.Str.{bytes_eq}
use Rattle.std.specs.Int.{w64}
use Rattle.std.specs.Str.Parse.{IsNumeral, digits_value, signed_digits_value, without_leading_plus, without_leading_sign}
use Rattle.std.specs.declared.alloc.AllocError.{AllocError}
use Rattle.clap.specs.Words.{App, IsAmong, Kinds, Row, Rule, Shape, Text, all_of, app_of, fault_of, first_of, new_app, new_rule, one_of, rule_of, shape_of, subcommand_of, with_rule, with_subcommand}
use Rattle.clap.specs.declared.builder.arg.Arg.{Arg}
use Rattle.clap.specs.declared.builder.command.Command as parser
use Rattle.clap.specs.declared.builder.command.Command.TheViews.{out-Command}
use Rattle.clap.specs.Kinds.{or_else}
use Rattle.clap.specs.declared.error.kind.ErrorKind.{ErrorKind}
use Rattle.clap.specs.declared.error.kind.ErrorKind.TheVariants.{DisplayHelp, DisplayVersion, InvalidValue}
use Rattle.clap.specs.declared.builder.action.ArgAction.TheVariants.{Append, SetTrue}
use Rattle.clap.specs.declared.builder.value_parser.ValueParser.TheVariants.{Signed, Unsigned}
use Rattle.command_line.specs.Explanations.{code_in, text_for}
use Rattle.integrator.specs.declared.direction.Direction.{Direction}
use Rattle.integrator.specs.declared.direction.Direction.TheVariants.{Forward, Back}
use Rattle.command_line.specs.Commands.{Check, Code, CommandView, Curve, Each, Explain, Frame, Measure, Observe, Replay, Run, RunView, Start, States, Trajectory, VisitsView}
use Rattle.command_line.specs.declared.commands.EachOutput.{EachOutput}
use Rattle.command_line.specs.declared.commands.EachOutput.TheVariants as shown
use Rattle.command_line.specs.declared.commands.Quantity.{Quantity}
use Rattle.command_line.specs.declared.commands.Quantity.TheVariants as quantity
use Rattle.command_line.specs.declared.commands.Table.{Table}

-- ---- the arguments of the program

-- an operand, which has no name in front, and must be given
abbrev pub operand_rule : Text → Rule
operand_rule name = record (new_rule name) { required = true }

-- an operand that may be given any number of times, or not at all
abbrev pub values_rule : Text → Rule
values_rule name = record (new_rule name) { action = Some Append }

-- an option: an argument that is given after its name
abbrev pub option_rule : Text → Rule
option_rule name = record (new_rule name) { long = Some name; value_names = 1 }

-- an option whose value is a number in this range, with this default
abbrev pub number_rule : (name default : Text) → (least most : ℕ) → Rule
number_rule name default least most =
    record (option_rule name) { defaults = default ∷ []; parser = Some (Unsigned least most) }

-- an option with this letter as a second name, which must be given
abbrev pub required_rule : Text → (letter : ℕ) → Rule
required_rule name letter = record (option_rule name) { short = Some letter; required = true }

-- an option that needs a value, with this default instead
abbrev pub with_default : Rule → Text → Rule
with_default rule text = record rule { required = false; defaults = text ∷ [] }

-- `--frame k`, from 1; the default is 1
abbrev pub frame_rule : Rule
frame_rule = number_rule (codes "frame") (codes "1") 1 18446744073709551615

-- `--steps n` or `-n n`. The parser takes any text for n; `WritesSteps` says which texts are numbers of steps.
abbrev pub steps_rule : Rule
steps_rule = required_rule (codes "steps") 110

-- `--every k` or `-k k`, with any text for k
abbrev pub every_rule : Rule
every_rule = required_rule (codes "every") 107

-- `--workers w` or `-w w`, from 1 to 64; the default is 1
abbrev pub workers_rule : Rule
workers_rule = record (number_rule (codes "workers") (codes "1") 1 64) { short = Some 119 }

-- `--points n`, from 1 to 1,000,000; the default is 100
abbrev pub points_rule : Rule
points_rule = number_rule (codes "points") (codes "100") 1 1000000

-- an option whose value is a step counter, a signed number of 64 bits, with this default
abbrev pub counter_rule : (name default : Text) → Rule
counter_rule name default = record (option_rule name) {
  defaults = default ∷ [];
  parser = Some (Signed (negsuc 9223372036854775807) (pos 9223372036854775807));
}

-- `--from s`; the default is the least counter
abbrev pub from_rule : Rule
from_rule = counter_rule (codes "from") (codes "-9223372036854775808")

-- `--to s`; the default is the greatest counter
abbrev pub to_rule : Rule
to_rule = counter_rule (codes "to") (codes "9223372036854775807")

-- `--part i/n`, with any text for i/n; `WritesPart` says which texts are parts. The default is the only part of one.
abbrev pub part_rule : Rule
part_rule = record (option_rule (codes "part")) { defaults = codes "1/1" ∷ [] }

-- a flag: an option without a value
abbrev pub flag_rule : Text → Rule
flag_rule name = record (new_rule name) { long = Some name; action = Some SetTrue }

-- `--each JOB` of `frame`, which need not be given
abbrev pub each_job_rule : Rule
each_job_rule = option_rule (codes "each")

-- `--types A B`, which has two values and need not be given
abbrev pub types_rule : Rule
types_rule = record (option_rule (codes "types")) { value_names = 2 }

-- `--code LISTING`, which need not be given
abbrev pub code_rule : Rule
code_rule = option_rule (codes "code")

-- a command with these arguments in addition
abbrev pub taking : App → List Rule → App
taking app [] = app
taking app (rule ∷ more) = taking (with_rule app rule) more

-- a command that takes a job, and these arguments
abbrev pub of_job : Text → List Rule → App
of_job name rules = taking (new_app name) (operand_rule (codes "JOB") ∷ rules)

-- a command that takes a job, a state, and these arguments
abbrev pub of_state : Text → List Rule → App
of_state name rules = of_job name (operand_rule (codes "STATE") ∷ rules)

abbrev pub starting : Shape
starting = (of_job (codes "start") (operand_rule (codes "GRO") ∷ frame_rule ∷ [])).top

-- the shape of a command that takes a job and a state, and may take `--each`
abbrev pub weighing : Text → Shape
weighing name = (of_state name (flag_rule (codes "each") ∷ [])).top

-- a command that takes a job, a state, a number of steps, a number of workers, and `--progress`
abbrev pub stepped : Text → App
stepped name = of_state name (steps_rule ∷ workers_rule ∷ flag_rule (codes "progress") ∷ [])

-- the shape of `stepped`
abbrev pub stepping : Text → Shape
stepping name = (stepped name).top

-- a command that takes the arguments of `stepped`, `--every` (the steps from one shown state to the next) and `--back`
abbrev pub visiting : Text → Shape
visiting name = (taking (stepped name) (every_rule ∷ flag_rule (codes "back") ∷ [])).top

-- `replay`, which takes a job, a stream of states, a number of workers, which segments it replays, and `--progress`
abbrev pub replaying : Shape
replaying = (of_job (codes "replay") (operand_rule (codes "STATES") ∷ workers_rule ∷ from_rule ∷ to_rule ∷ part_rule
    ∷ flag_rule (codes "progress") ∷ [])).top

-- the command `observe` with the arguments of `visiting`; the defaults are 0 steps, and a row after each step
abbrev pub observed : App
observed = of_state (codes "observe") (with_default steps_rule (codes "0") ∷ workers_rule
    ∷ flag_rule (codes "progress") ∷ with_default every_rule (codes "1") ∷ flag_rule (codes "back") ∷ [])

-- `observe`, which also takes `--exact`, `--tensor` and `--each`
abbrev pub observing : Shape
observing = (taking observed (flag_rule (codes "exact") ∷ flag_rule (codes "tensor") ∷ flag_rule (codes "each") ∷ [])).top

abbrev pub checking : Shape
checking = (of_job (codes "check") (code_rule ∷ flag_rule (codes "progress") ∷ [])).top

abbrev pub listing : Shape
listing = (of_job (codes "code") (flag_rule (codes "energy") ∷ [])).top

abbrev pub curving : Shape
curving = (of_job (codes "curve") (points_rule ∷ flag_rule (codes "energy") ∷ flag_rule (codes "slope")
    ∷ flag_rule (codes "grid") ∷ types_rule ∷ flag_rule (codes "progress") ∷ [])).top

abbrev pub explaining : Shape
explaining = (taking (new_app (codes "explain")) (values_rule (codes "CODE") ∷ [])).top

abbrev pub framing : Shape
framing = (taking (new_app (codes "frame")) (operand_rule (codes "STATE") ∷ each_job_rule ∷ [])).top

-- the program without its commands: it requires a command, and takes only `--help` and `--version` besides
abbrev pub bare : App
bare = let a = new_app (codes "pairmd") in
    record a { top = record a.top { no_binary_name = true; subcommand_required = true; has_version = true } }

-- a program with these commands in addition
abbrev pub with_commands : App → List Shape → App
with_commands app [] = app
with_commands app (shape ∷ more) = with_commands (with_subcommand app shape) more

-- the program with the commands up to `replay`
abbrev pub running : App
running = with_commands bare (starting ∷ stepping (codes "run") ∷ stepping (codes "back") ∷ visiting (codes "trajectory")
    ∷ visiting (codes "states") ∷ replaying ∷ [])

-- the program with the commands up to `velocities`
abbrev pub measuring : App
measuring = with_commands running (observing ∷ framing ∷ weighing (codes "energy") ∷ weighing (codes "forces")
    ∷ weighing (codes "velocities") ∷ [])

-- the program with all its commands
abbrev pub program : App
program = with_commands measuring (checking ∷ listing ∷ curving ∷ explaining ∷ [])

-- ---- commands, as the parser builds them

-- The argument has this description, and isn't passed on to other commands.
abbrev pub IsArgument : Arg → Rule → Type 0
IsArgument arg rule = (rule_of arg ≡ rule) × (arg.global ≡ false)

-- Unless memory ran out, the command has this description, and none of its arguments is passed on to the commands below
-- it.
abbrev pub IsBuilt : Result parser.Command AllocError → App → Type 0
IsBuilt built app = IfOk built (λ c. (app_of c ≡ app) × ((out-Command c).has_globals ≡ false))

-- `IsBuilt` for a command below another command, which has a shape and no commands of its own
abbrev pub IsShaped : Result parser.Command AllocError → Shape → Type 0
IsShaped built shape = IfOk built (λ c. (shape_of c ≡ shape) × ((out-Command c).has_globals ≡ false))

-- ---- the values of arguments

-- a decimal numeral, which may have a plus in front
abbrev pub WritesNumber : Text → ℕ → Type 0
WritesNumber text n = IsNumeral 10 (without_leading_plus text) × (digits_value 10 (without_leading_plus text) ≡ n)

-- the argument with this name has this number as its value
abbrev pub SaysNumber : Text → List Row → ℕ → Type 0
SaysNumber name rows n = (text : Text) × (one_of name rows ≡ Some text) × WritesNumber text n

-- a decimal numeral without a sign
abbrev pub WritesPlain : Text → ℕ → Type 0
WritesPlain text n = IsNumeral 10 text × (digits_value 10 text ≡ n)

-- a decimal numeral, which may have a plus or a minus in front, for a step counter
abbrev pub WritesCounter : Text → ℤ → Type 0
WritesCounter text counter = IsNumeral 10 (without_leading_sign text) × (signed_digits_value 10 text ≡ counter)
    × FitsSigned w64 counter

-- the value of the argument with this name writes this step counter
abbrev pub SaysCounter : Text → List Row → ℤ → Type 0
SaysCounter name rows counter = (text : Text) × (first_of name rows ≡ Some text) × WritesCounter text counter

-- The text writes the part with the number `part.0`, from 1, of `part.1` parts as two numerals with a slash (47) between
-- them: 2/8 is the second of eight parts.
pub record WritesPart (text : Text) (part : ℕ × ℕ) : Type 0 where
  pub number : Text
  pub all : Text
  pub text' : text ≡ number ++ 47 ∷ all
  pub part' : WritesPlain number part.0
  pub parts : WritesPlain all part.1
  pub some : 1 ≤ part.0
  pub within : part.0 ≤ part.1
  pub fits : part.1 < 2 ^ 64

-- the value of the argument with this name writes this part
abbrev pub SaysPart : Text → List Row → ℕ × ℕ → Type 0
SaysPart name rows part = (text : Text) × (first_of name rows ≡ Some text) × WritesPart text part

-- the letter that separates a number from an exponent of 10: `e` or `E`
abbrev pub IsExponentLetter : ℕ → Type 0
IsExponentLetter byte = (byte ≡ 101) ⊎ (byte ≡ 69)

-- the text has no such letter
abbrev pub HasNoExponentLetter : Text → Type 0
HasNoExponentLetter [] = Unit {0}
HasNoExponentLetter (byte ∷ rest) = (IsExponentLetter byte → ⊥) × HasNoExponentLetter rest

-- n is the number times a power of 10, whose exponent is a decimal numeral of at most 12, without a sign
abbrev pub IsScaled : (number exponent : Text) → ℕ → Type 0
IsScaled number exponent n = (m : ℕ) × WritesNumber number m × IsNumeral 10 exponent
    × (digits_value 10 exponent ≤ 12) × (m * 10 ^ digits_value 10 exponent ≡ n)

-- the text writes n with an exponent of 10: 5e3 is 5000
pub record WritesScaled (text : Text) (n : ℕ) : Type 0 where
  pub number : Text
  pub letter : ℕ
  pub exponent : Text
  pub separates : IsExponentLetter letter
  pub parts : text ≡ number ++ letter ∷ exponent
  pub scaled : IsScaled number exponent n

-- the text writes n as a decimal numeral, or with an exponent of 10
abbrev pub WritesSteps : Text → ℕ → Type 0
WritesSteps text n = WritesNumber text n ⊎ WritesScaled text n

-- the value of the argument with this name writes this number of steps
abbrev pub SaysCount : Text → List Row → ℕ → Type 0
SaysCount name rows n = (text : Text) × (first_of name rows ≡ Some text) × WritesSteps text n

-- the flag is given if the value is true, and isn't given if the value is false
abbrev pub IsGiven : Text → List Row → Bool → Type 0
IsGiven flag rows true = first_of flag rows ≡ Some (codes "true")
IsGiven flag rows false = first_of flag rows ≢ Some (codes "true")

-- the values of an argument, in their order
abbrev pub values_of : Text → List Row → List Text
values_of name rows = unwrap_or (all_of name rows) []

-- the kinds of arguments by their values: a text; a text that may be missing; a flag; a flag that can't be given with
-- another one, which may be given; a number in a range; a number of steps in a range; a step counter; a part, and the
-- number of all parts; two names, if they are given; the code of an error that the words name, if they name one
pub data Kind : Type 0 where
  AText : Kind
  Perhaps : Kind
  AFlag : Kind
  AFlagUnless : (other : Bool) → Kind
  ANumber : (least most : ℕ) → Kind
  ACount : (least most : ℕ) → Kind
  ACounter : Kind
  APart : Kind
  Names : Kind
  ACode : Kind

abbrev pub ValueOf : Kind → Type 0
ValueOf AText = Text
ValueOf Perhaps = Option Text
ValueOf AFlag = Bool
ValueOf (AFlagUnless other) = Bool
ValueOf (ANumber least most) = ℕ
ValueOf (ACount least most) = ℕ
ValueOf ACounter = ℤ
ValueOf APart = ℕ × ℕ
ValueOf Names = Option (Text × Text)
ValueOf ACode = Option Text

-- the list of two names, if they are given
abbrev pub both_of : Option (Text × Text) → Option (List Text)
both_of names = option_map (λ two. two.0 ∷ two.1 ∷ []) names

-- The code is that of an error, and the words name it; or the words name no code.
abbrev pub IsCodeIn : List Text → Option Text → Type 0
IsCodeIn words code = (code ≡ code_in words) × ((text : Text) × (text_for code ≡ Some text))

-- the argument with this name has this value
abbrev pub Says : Text → List Row → (kind : Kind) → ValueOf kind → Type 0
Says name rows AText text = first_of name rows ≡ Some text
Says name rows Perhaps text = first_of name rows ≡ text
Says name rows AFlag given = IsGiven name rows given
Says name rows (AFlagUnless other) given = IsGiven name rows given × (other && given ≡ false)
Says name rows (ANumber least most) n = (least ≤ n) × (n ≤ most) × SaysNumber name rows n
Says name rows (ACount least most) n = (least ≤ n) × (n ≤ most) × SaysCount name rows n
Says name rows ACounter counter = SaysCounter name rows counter
Says name rows APart part = SaysPart name rows part
Says name rows Names names = all_of name rows ≡ both_of names
Says name rows ACode code = IsCodeIn (values_of name rows) code

-- ---- the command that the arguments name

-- What the arguments mean: a value; or, once an argument has a value, what the others mean. Arguments that `Takes` doesn't
-- name have no effect.
pub data Usage (T : Type 0) : Type 0 where
  Gives : T → Usage T
  Takes : (name : Text) → (kind : Kind) → (ValueOf kind → Usage T) → Usage T

-- the arguments mean this value
abbrev pub IsMeant : {T : Type 0} → List Row → Usage T → T → Type 0
IsMeant rows (Gives value) meant = meant ≡ value
IsMeant rows (Takes name kind next) meant =
    (value : ValueOf kind) × Says name rows kind value × IsMeant rows (next value) meant

-- the arguments that the value of the first determines
abbrev pub followed_by : {T W : Type 0} → Usage T → (T → Usage W) → Usage W
followed_by (Gives value) next = next value
followed_by (Takes name kind more) next = Takes name kind (λ value. followed_by (more value) next)

-- the paths of a job, and of a state or a stream of states
abbrev pub paths_usage : Usage (Text × Text)
paths_usage = Takes (codes "JOB") AText (λ job. Takes (codes "STATE") AText (λ state. Gives (job, state)))

abbrev pub start_usage : Usage CommandView
start_usage = Takes (codes "JOB") AText (λ job. Takes (codes "GRO") AText
    (λ gro. Takes (codes "frame") (ANumber 1 18446744073709551615) (λ frame. Gives (Start job gro frame))))

-- a run of at most 1,000,000,000,000 steps in this direction, of a job and a state at these paths
abbrev pub steps_usage : Direction → (paths : Text × Text) → Usage RunView
steps_usage direction paths = Takes (codes "steps") (ACount 0 1000000000000) (λ steps. Takes (codes "workers") (ANumber 1 64)
    (λ workers. Takes (codes "progress") AFlag (λ progress. Gives (record {
      direction = direction;
      job = paths.0;
      state = paths.1;
      steps = steps;
      workers = workers;
      progress = progress;
    }))))

abbrev pub run_usage : Direction → Usage RunView
run_usage direction = followed_by paths_usage (steps_usage direction)

-- the direction with `--back`, and without
abbrev pub turned : (back : Bool) → Direction
turned true = Back
turned false = Forward

-- the number of steps from one shown state of a run to the next
abbrev pub every_usage : RunView → Usage VisitsView
every_usage run = Takes (codes "every") (ACount 1 1000000000000) (λ every. Gives (record { run = run; every = every }))

-- a run in the direction that `--back` gives, with its shown states
abbrev pub visits_usage : Usage VisitsView
visits_usage = Takes (codes "back") AFlag (λ back. followed_by (run_usage (turned back)) every_usage)

-- `replay`, of the segments in this range, and of this part of them
abbrev pub replay_usage : Usage CommandView
replay_usage = Takes (codes "JOB") AText (λ job. Takes (codes "STATES") AText (λ states. Takes (codes "workers") (ANumber 1 64)
    (λ workers. Takes (codes "from") ACounter (λ from. Takes (codes "to") ACounter (λ to. Takes (codes "part") APart
    (λ part. Takes (codes "progress") AFlag (λ progress. Gives (Replay (record {
      job = job;
      states = states;
      workers = workers;
      from = from;
      to = to;
      part = part.0;
      parts = part.1;
      progress = progress;
    })))))))))

abbrev pub table_usage : Usage Table
table_usage = Takes (codes "exact") AFlag
    (λ exact. Takes (codes "tensor") AFlag (λ tensor. Gives (record { exact = exact; tensor = tensor })))

-- the command that prints this of each state of a stream
abbrev pub each_state : EachOutput → (job states : Text) → CommandView
each_state shown job states = Each (record { job = job; states = states; shown = shown })

-- `run` and `back`
abbrev pub run_command : Direction → Usage CommandView
run_command direction = followed_by (run_usage direction) (λ run. Gives (Run run))

-- `trajectory` and `states`
abbrev pub visits_command : (VisitsView → CommandView) → Usage CommandView
visits_command command = followed_by visits_usage (λ visits. Gives (command visits))

-- the command that prints a row of this table for each state of a stream
abbrev pub rows_usage : (job states : Text) → Usage CommandView
rows_usage job states = followed_by table_usage (λ table. Gives (each_state (shown.Row table) job states))

-- `observe` takes a run. With `--each` it takes a stream and no steps; `--every` has no effect then.
abbrev pub observe_usage : (each : Bool) → Usage CommandView
observe_usage false = followed_by visits_usage (λ visits. followed_by table_usage (λ table. Gives (Observe visits table)))
observe_usage true = Takes (codes "steps") (ACount 0 0) (λ steps. Takes (codes "every") (ACount 1 1000000000000)
    (λ every. followed_by paths_usage (λ paths. rows_usage paths.0 paths.1)))

abbrev pub observe_command : Usage CommandView
observe_command = Takes (codes "each") AFlag observe_usage

-- `frame` prints the frame of a state, and with `--each JOB` of each state of a stream.
abbrev pub frame_of : (state : Text) → (job : Option Text) → CommandView
frame_of state None = Frame state
frame_of states (Some job) = each_state shown.Frame job states

abbrev pub frame_usage : Usage CommandView
frame_usage = Takes (codes "STATE") AText (λ state. Takes (codes "each") Perhaps (λ job. Gives (frame_of state job)))

-- the command that prints a quantity of a state, or with `--each` of each state of a stream
abbrev pub quantity_of : Quantity → (each : Bool) → (job state : Text) → CommandView
quantity_of q false job state = Measure q job state
quantity_of q true job states = each_state (shown.Measured q) job states

abbrev pub quantity_usage : Quantity → Usage CommandView
quantity_usage q =
    followed_by paths_usage (λ paths. Takes (codes "each") AFlag (λ each. Gives (quantity_of q each paths.0 paths.1)))

abbrev pub check_usage : Usage CommandView
check_usage = Takes (codes "JOB") AText (λ job. Takes (codes "code") Perhaps
    (λ listing. Takes (codes "progress") AFlag (λ progress. Gives (Check job listing progress))))

abbrev pub code_usage : Usage CommandView
code_usage = Takes (codes "JOB") AText (λ job. Takes (codes "energy") AFlag (λ energy. Gives (Code job energy)))

abbrev pub curve_usage : Usage CommandView
curve_usage = Takes (codes "JOB") AText (λ job. Takes (codes "points") (ANumber 1 1000000)
    (λ points. Takes (codes "types") Names (λ types. Takes (codes "energy") AFlag (λ energy. Takes (codes "slope") AFlag
    (λ slope. Takes (codes "grid") (AFlagUnless energy) (λ grid. Takes (codes "progress") AFlag (λ progress. Gives (Curve (record {
      job = job;
      points = points;
      energy = energy;
      slope = slope;
      grid = grid;
      types = types;
      progress = progress;
    })))))))))

abbrev pub explain_usage : Usage CommandView
explain_usage = Takes (codes "CODE") ACode (λ code. Gives (Explain code))

-- the commands by their names. A new command is a row.
abbrev pub usages : List (Text × Usage CommandView)
usages = (codes "start", start_usage)
    ∷ (codes "run", run_command Forward)
    ∷ (codes "back", run_command Back)
    ∷ (codes "trajectory", visits_command Trajectory)
    ∷ (codes "states", visits_command States)
    ∷ (codes "replay", replay_usage)
    ∷ (codes "observe", observe_command)
    ∷ (codes "frame", frame_usage)
    ∷ (codes "energy", quantity_usage quantity.Energy)
    ∷ (codes "forces", quantity_usage quantity.Forces)
    ∷ (codes "velocities", quantity_usage quantity.Velocities)
    ∷ (codes "check", check_usage)
    ∷ (codes "code", code_usage)
    ∷ (codes "curve", curve_usage)
    ∷ (codes "explain", explain_usage)
    ∷ []

-- the first usage with this name
abbrev pub usage_in : List (Text × Usage CommandView) → Text → Option (Usage CommandView)
usage_in [] name = None
usage_in (row ∷ rows) name = if bytes_eq name row.0 then Some row.1 else usage_in rows name

-- the arguments mean this command, by the usage of a command's name, if there is such a command
abbrev pub IsMeantBy : Option (Usage CommandView) → List Row → CommandView → Type 0
IsMeantBy None rows c = ⊥
IsMeantBy (Some usage) rows c = IsMeant rows usage c

-- the name and the arguments of a command name this command
abbrev pub IsNamed : Text → List Row → CommandView → Type 0
IsNamed name rows c = IsMeantBy (usage_in usages name) rows c

-- the name and the arguments that the parser found, if any, name this command
abbrev pub IsNamedOf : Option (Text × List Row) → CommandView → Type 0
IsNamedOf None c = ⊥
IsNamedOf (Some said) c = IsNamed said.0 said.1 c

-- What a function reads of arguments: the value that they mean, or none if they mean none. `view` is the value's view.
abbrev pub Reads : {R T : Type 0} → Usage T → List Row → (view : R → T) → Option R → Type 0
Reads {R} {T} usage rows view result =
    MatchOption result ((meant : T) → IsMeant rows usage meant → ⊥) (λ value. IsMeant rows usage (view value))

-- the parser finds no fault in the arguments, and they name this command
abbrev pub IsParsed : List Text → CommandView → Type 0
IsParsed words c = (fault_of program words ≡ []) × IsNamedOf (subcommand_of program words) c

-- the argument begins with `-` (45)
abbrev pub is_option : Text → Bool
is_option [] = false
is_option (byte ∷ rest) = byte == 45

-- the arguments, if there are any and the first doesn't begin with `-`
abbrev pub unless_option : List Text → Option (List Text)
unless_option [] = None
unless_option (first ∷ rest) = if is_option first then None else Some (first ∷ rest)

-- The arguments of `explain`, if the first doesn't begin with `-`. The parser doesn't read them: they may be an error with
-- words that look like options.
abbrev pub pasted : List Text → Option (List Text)
pasted [] = None
pasted (name ∷ arguments) = if bytes_eq name (codes "explain") then unless_option arguments else None

-- the command is `explain` for the code that these arguments name, or without a code if they name none
abbrev pub IsExplained : List Text → CommandView → Type 0
IsExplained arguments c = (code : Option Text) × IsCodeIn arguments code × (c ≡ Explain code)

-- the arguments name this command: those of a pasted error, if there are any, or else all of them
abbrev pub IsCommandOf : Option (List Text) → List Text → CommandView → Type 0
IsCommandOf None words c = IsParsed words c
IsCommandOf (Some arguments) words c = IsExplained arguments c

-- the arguments name this command
abbrev pub IsCommand : List Text → CommandView → Type 0
IsCommand words c = IsCommandOf (pasted words) words c

-- the kinds of fault of arguments that the parser reads: the kinds of the first step of the parse that fails; if no step
-- fails, the kind is `InvalidValue`: `--steps` or `--every` isn't a number in its range, `--part` isn't a part, `explain`
-- has an unknown code, `observe` has both `--each` and steps, or `curve` has both `--energy` and `--grid`
abbrev pub parser_faults_of : List Text → Kinds
parser_faults_of words = or_else (fault_of program words) (InvalidValue ∷ [])

-- the kinds of fault of arguments that name no command; the only fault of a pasted error is an unknown code
abbrev pub faults_in : Option (List Text) → List Text → Kinds
faults_in None words = parser_faults_of words
faults_in (Some arguments) words = InvalidValue ∷ []

-- the kinds of fault of arguments that name no command
abbrev pub faults_of : List Text → Kinds
faults_of words = faults_in (pasted words) words

-- the arguments request help
abbrev pub AsksForHelp : List Text → Type 0
AsksForHelp words = IsAmong DisplayHelp (faults_of words)

-- the arguments request the version
abbrev pub AsksForVersion : List Text → Type 0
AsksForVersion words = IsAmong DisplayVersion (faults_of words)

-- the arguments name no command, and request neither help nor the version
abbrev pub IsMisuse : List Text → Type 0
IsMisuse words = ((k : ErrorKind) × IsAmong k (faults_of words) × (k ≢ DisplayHelp) × (k ≢ DisplayVersion))
    × ((c : CommandView) → IsCommand words c → ⊥)
