use Rattle.std.proofs.Common.{◌<◌, arith, length, map}
use Rattle.std.proofs.lemmas.List.{length-map}
use Rattle.ring_box.specs.FoundPairs.{scaled}
use Rattle.ring_box.proofs.FoundLemmas.{atoms_held, no_grid_pair, scaled_at, seen_length}
use Rattle.ring_box.proofs.found_pairs.FoundPairs.atoms.Goals as goal

pub returns-clause-value : goal.returns-clause-value
returns-clause-value c =
    let f = c.self.inside in
    let pairs = map (scaled f.ring) f.lanes.pairs in
    let held = c.self.invariant.1.held in
    let lt : c.args.l < f.count = omega (arith, seen_length f.reach f.count pairs f.measured c.args.self.now held c.self.view_is, c.requires) in
    let room : c.args.l < length f.lanes.pairs = omega (arith, lt, held.few, held.lanes, length-map f.lanes.pairs (scaled f.ring)) in
    rw (← c.self.view_is) (rw (scaled_at f.ring f.lanes.pairs c.args.l room) at (atoms_held f.reach f.count pairs c.args.l (scaled f.ring no_grid_pair) held lt))

pub returns-clause-lane : goal.returns-clause-lane
returns-clause-lane c =
    let f = c.self.inside in
    let held = c.self.invariant.1.held in
    let size = seen_length f.reach f.count (map (scaled f.ring) f.lanes.pairs) f.measured c.args.self.now held c.self.view_is in
    omega (arith, size, held.few, c.requires)
