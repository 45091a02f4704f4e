-- The text from the index on is still to be written.
use Rattle.std.proofs.Common.{◌-◌, ◌≤◌, length, drop}
use Rattle.fallible.proofs.Appends.{HasToWrite}
use Rattle.fallible.proofs.output.write_all.Given as goal

abbrev pub invariant-loop-at : goal.invariant-loop-at
invariant-loop-at g l = HasToWrite (g.O.Out.output l.fn.out) (g.O.Out.output l.out) l.text (drop l.at l.text) × (l.at ≤ length l.text)

abbrev pub decreases-loop-at : goal.decreases-loop-at
decreases-loop-at g l = length l.text - l.at
