use Rattle.std.proofs.Common.{ap, ◌∙◌, is_ok}
use Rattle.pair_lists.proofs.BoundsLemmas.{lists_kept}
use Rattle.pair_lists.specs.Lists.{ListsAndRest}
use Rattle.pair_lists.proofs.listed_pairs.ListedPairs.append.Goals as goal

pub returns-clause-lists : goal.returns-clause-lists
returns-clause-lists g c =
    let old = c.self.inside in
    let extended = c.extend_from_slice in
    lists_kept old.bounds.items old.pairs.items extended.new.self.items c.args.pairs.now (is_ok extended.result) extended.ensures.items
    c.self.invariant.1
    ∙ ap (λ (l : ListsAndRest). l.lists) c.self.view_is
