use Rattle.std.proofs.Common.{true, refl}
use Rattle.pair_lists.specs.PairLists.{PreparedPairs}
use Rattle.pair_lists.proofs.PreparedLemmas.{kept_prepared}
use Rattle.pair_lists.proofs.pair_lists.PairLists.list.Goals as goal

pub returns-clause-prepared : goal.returns-clause-prepared
returns-clause-prepared g c =
    let i = c.self.inside in
    let p : PreparedPairs = record { ring = i.ring; reach = i.reach; cells = i.cells; lists = c.list.new.lists.lists; kept = true } in
    kept_prepared p i.wide_cells c.in-Some.wide_cells c.args.frame.now c.self.invariant.is_margin c.in-Some.is refl c.in_ok-list.ensures.kept
