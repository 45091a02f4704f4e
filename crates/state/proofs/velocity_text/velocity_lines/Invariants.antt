-- The text so far has the lines of the atoms so far.
use Rattle.std.proofs.Common.{◌≡◌, map, take}
use Rattle.state.specs.StateViews.{atom_view, sides_view}
use Rattle.state.specs.VelocityLines.{velocity_lines}
use Rattle.state.proofs.velocity_text.velocity_lines.Given as goal

abbrev pub invariant-loop-atom : goal.invariant-loop-atom
invariant-loop-atom g l = l.text.items ≡ velocity_lines l.time_step (sides_view l.ring) (map atom_view (take l.atom-index l.atoms))
