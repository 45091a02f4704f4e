use Rattle.std.proofs.Common.{◌≡◌, ◌≤◌, ◌+◌, length, map}
use Rattle.gro.specs.Frames.{atom_view}
use Rattle.gro.specs.GroText.{AreAtoms}
use Rattle.gro.proofs.reading.atoms.Given as goal

abbrev pub invariant-loop-i : goal.invariant-loop-i
invariant-loop-i g l = record {
  atoms : AreAtoms l.bytes (map atom_view l.atoms.items) l.rest;
  len : length l.atoms.items ≡ l.i;
  left : length l.rest + l.i ≤ length l.bytes;
}
