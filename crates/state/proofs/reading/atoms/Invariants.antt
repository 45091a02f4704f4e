use Rattle.std.proofs.Common.{◌≡◌, ◌++◌, length, map}
use Rattle.state.specs.StateText.{atom_lines}
use Rattle.state.specs.StateViews.{atom_view}
use Rattle.state.proofs.reading.atoms.Given as goal

abbrev pub invariant-loop-i : goal.invariant-loop-i
invariant-loop-i g l = record { text : l.bytes ≡ atom_lines (map atom_view l.atoms.items) ++ l.rest; len : length l.atoms.items ≡ l.i }
