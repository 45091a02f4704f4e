use Rattle.std.proofs.Common.{map, drop}
use Rattle.fallible.proofs.Appends.{HasToWrite}
use Rattle.state.specs.StateText.{atom_lines}
use Rattle.state.specs.StateViews.{atom_view}
use Rattle.state.proofs.writing.write_atoms.Given as goal

abbrev pub invariant-loop-atom : goal.invariant-loop-atom
invariant-loop-atom g l =
    HasToWrite (g.O.Out.output l.initial.out) (g.O.Out.output l.out) (atom_lines (map atom_view l.atoms)) (atom_lines (drop l.atom-index (map atom_view l.atoms)))
