-- The rows that are left have the text that the whole table has.
use Rattle.std.proofs.Common.{◌≡◌, length}
use Rattle.command_line.specs.Explanations.{rows_of, text_in}
use Rattle.command_line.proofs.explanations.text_in.Given as goal

abbrev pub invariant-loop-table : goal.invariant-loop-table
invariant-loop-table l = text_in (rows_of l.table) l.code ≡ text_in (rows_of l.fn.table) l.code

abbrev pub decreases-loop-table : goal.decreases-loop-table
decreases-loop-table l = length l.table
