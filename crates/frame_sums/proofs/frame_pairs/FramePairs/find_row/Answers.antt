use Rattle.std.proofs.Common.{length}
use Rattle.pair_lists.specs.PairLists.{lists_of}
use Rattle.frame_sums.proofs.TileLaws.{bound_by_pair}
use Rattle.frame_sums.proofs.frame_pairs.FramePairs.find_row.Goals as goal

pub forces-requires-clause-bound : goal.forces-requires-clause-bound
forces-requires-clause-bound g c =
    let w = c.args.self.now in
    let y = w.system.now in
    bound_by_pair y.system (length w.frame.now) (lists_of y.lists) c.args.tile c.args.k y.accepted w.prepared.listed.inside w.atoms c.requires.tile c.requires.start
