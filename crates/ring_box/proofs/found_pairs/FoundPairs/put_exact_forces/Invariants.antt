use Rattle.ring_box.specs.FoundPairs.{AreExactPut}
use Rattle.ring_box.proofs.found_pairs.FoundPairs.put_exact_forces.Given as goal

abbrev pub invariant-loop-k : goal.invariant-loop-k
invariant-loop-k l = record {
  put : AreExactPut l.self.pairs l.slopes l.l l.k l.fn.forces l.forces;
}
