use Rattle.ring_box.proofs.DistanceLemmas.{distance_is}
use Rattle.ring_box.specs.Distances.{square_of}
use Rattle.ring_box.proofs.boxes.RingBox.distance.Goals as goal

pub returns-clause-greatest : goal.returns-clause-greatest
returns-clause-greatest c = distance_is c.args.frac (square_of c.args.self.now c.args.p c.args.q)
