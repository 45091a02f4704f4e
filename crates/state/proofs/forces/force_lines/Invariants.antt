-- The text so far and the lines of the atoms that are left make the whole text.
use Rattle.std.proofs.Common.{◌≡◌, ◌++◌, length, map}
use Rattle.state.specs.ForceLines.{force_lines}
use Rattle.state.specs.StateViews.{atom_view}
use Rattle.state.proofs.forces.force_lines.Given as goal

abbrev pub invariant-loop-atoms : goal.invariant-loop-atoms
invariant-loop-atoms g l = l.text.items ++ force_lines (map atom_view l.atoms) l.forces ≡ force_lines (map atom_view l.fn.atoms) l.fn.forces

abbrev pub decreases-loop-atoms : goal.decreases-loop-atoms
decreases-loop-atoms g l = length l.atoms
