use Rattle.std.proofs.Common.{◌≡◌, [], length, map, ap, refl, sym, ◌∙◌, slice_index_or}
use Rattle.pair_lists.specs.PairLists.{PreparedPairs, list_at}
use Rattle.pair_lists.proofs.PreparedLemmas.{of_lists, rest_from}
use Rattle.pair_lists.proofs.BoundsLemmas.{numbers}
use Rattle.pair_lists.proofs.pair_lists.PairLists.kept_from.Goals as goal

pub returns-clause-pairs : goal.returns-clause-pairs
returns-clause-pairs g c =
    let q = c.args.self.now in
    let pairs = c.list-list.result.now in
    let list : map numbers pairs ≡ list_at q c.args.tile =
    c.list-list.ensures
    ∙ (ap (λ (f : PreparedPairs). slice_index_or f.lists c.args.tile []) c.self.view_is
    ∙ ap (λ xs. slice_index_or xs c.args.tile []) (sym (of_lists q c.requires.kept)))
    in
    rest_from pairs (list_at q c.args.tile) c.args.k (length pairs) list refl
