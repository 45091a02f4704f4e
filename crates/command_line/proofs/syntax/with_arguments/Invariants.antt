-- The command that is built so far takes all arguments but those that are left.
use Rattle.std.proofs.Common.{◌≡◌, length, map}
use Rattle.clap.specs.Words.{App}
use Rattle.command_line.specs.CommandLine.{IsBuilt, taking}
use Rattle.command_line.specs.Syntax.{rule_of_argument}
use Rattle.command_line.proofs.syntax.with_arguments.Given as goal

abbrev pub invariant-loop-arguments : goal.invariant-loop-arguments
invariant-loop-arguments l = (app : App) → IsBuilt l.fn.command app → (now : App) × IsBuilt l.built now
    × (taking now (map rule_of_argument l.arguments) ≡ taking app (map rule_of_argument l.fn.arguments))

abbrev pub decreases-loop-arguments : goal.decreases-loop-arguments
decreases-loop-arguments l = length l.arguments
