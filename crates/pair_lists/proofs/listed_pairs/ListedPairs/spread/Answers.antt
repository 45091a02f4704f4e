use Rattle.std.proofs.Common.{length, map, subst, IsPermutation}
use Rattle.std.proofs.lemmas.List.Sorted.{All-permutation, IsPermutation-map}
use Rattle.pair_lists.proofs.BoundsLemmas.{AreBoundsIn, numbers, part_at}
use Rattle.pair_lists.specs.Lists.{ListsAndRest}
use Rattle.pair_lists.proofs.listed_pairs.ListedPairs.spread.Goals as goal

pub invariant_of-self : goal.invariant_of-self
invariant_of-self g c =
    let l = c.self.inside in (
      c.self.invariant.0,
      All-permutation (AreBoundsIn (length l.pairs.items)) l.bounds.items c.sort_unstable_by_key.new.self.items
          c.sort_unstable_by_key.ensures.permutation c.self.invariant.1,
    )

pub returns-clause-lists : goal.returns-clause-lists
returns-clause-lists g c =
    let l = c.self.inside in
    let part = part_at (map numbers l.pairs.items) in
    let new = c.sort_unstable_by_key.new.self.items in
    subst (λ (v : ListsAndRest). IsPermutation v.lists (map part new)) c.self.view_is
    (IsPermutation-map part l.bounds.items new c.sort_unstable_by_key.ensures.permutation)
