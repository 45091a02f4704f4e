use Rattle.std.proofs.Common.{[], ap, subst, sym, ◌∙◌, ◌<◌, length, map, slice_index_or}
use Rattle.pair_lists.proofs.BoundsLemmas.{list_found, numbers, part_at}
use Rattle.pair_lists.specs.Lists.{ListsAndRest}
use Rattle.pair_lists.proofs.listed_pairs.ListedPairs.list.Goals as goal

pub returns : goal.returns
returns g c =
    let l = c.self.inside in
    let s = c.index.result.now in
    let lt = subst (λ (v : ListsAndRest). c.args.number < length v.lists) (sym c.self.view_is) c.requires in
    ap (λ ps. map numbers (part_at ps s)) c.deref.ensures.value
    ∙ (list_found l.bounds.items l.pairs.items c.args.number s lt c.index.ensures
    ∙ ap (λ (v : ListsAndRest). slice_index_or v.lists c.args.number []) c.self.view_is)
