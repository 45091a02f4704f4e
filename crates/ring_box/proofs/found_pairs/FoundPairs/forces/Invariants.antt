use Rattle.std.proofs.Common.{◌*◌}
use Rattle.ring_box.specs.FoundPairs.{AreForcesBefore}
use Rattle.ring_box.proofs.found_pairs.FoundPairs.forces.Given as goal

abbrev pub invariant-loop-i : goal.invariant-loop-i
invariant-loop-i l = record {
  done : AreForcesBefore l.self.pairs l.slopes (4 * l.i) l.forces;
}
