use Rattle.std.proofs.Common.{◌≡◌, ◌+◌, map, take, drop}
use Rattle.std.specs.List.{AllByRecursion}
use Rattle.fallible.proofs.Appends.{HasToWrite}
use Rattle.gro.specs.Frames.{atom_view}
use Rattle.gro.specs.GroWriting.{atom_lines, HasForm}
use Rattle.gro.proofs.writing.write_atoms.Given as goal

abbrev pub invariant-loop-atom : goal.invariant-loop-atom
invariant-loop-atom g l = record {
  left : HasToWrite (g.O.Out.output l.initial.out) (g.O.Out.output l.out) (atom_lines 1 (map atom_view l.atoms)) (atom_lines l.index (drop l.atom-index (map atom_view l.atoms)));
  forms : AllByRecursion HasForm (take l.atom-index (map atom_view l.atoms));
  index : l.index ≡ 1 + l.atom-index;
}
