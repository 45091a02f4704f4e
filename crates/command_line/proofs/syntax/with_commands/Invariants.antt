-- The program that is built so far has all commands but those that are left.
use Rattle.std.proofs.Common.{◌≡◌, length, map}
use Rattle.clap.specs.Words.{App}
use Rattle.command_line.specs.CommandLine.{IsBuilt, with_commands}
use Rattle.command_line.specs.Syntax.{shape_of_syntax}
use Rattle.command_line.proofs.syntax.with_commands.Given as goal

abbrev pub invariant-loop-commands : goal.invariant-loop-commands
invariant-loop-commands l = (app : App) → IsBuilt l.fn.program app → (now : App) × IsBuilt l.all now
    × (with_commands now (map shape_of_syntax l.commands) ≡ with_commands app (map shape_of_syntax l.fn.commands))

abbrev pub decreases-loop-commands : goal.decreases-loop-commands
decreases-loop-commands l = length l.commands
