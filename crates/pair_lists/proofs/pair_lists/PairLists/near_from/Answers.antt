use Rattle.std.proofs.Common.{◌≡◌, ℕ, [], length, subst, sym, All}
use Rattle.cell_tiles.specs.Near.{AreNear, IsPairOf}
use Rattle.cell_tiles.specs.Tiles.{pairs_in}
use Rattle.pair_lists.specs.PairLists.{PreparedPairs, list_at}
use Rattle.pair_lists.proofs.PreparedLemmas.{tile_at}
use Rattle.pair_lists.proofs.pair_lists.PairLists.near_from.Goals as goal

pub near_from-requires-clause-pairs : goal.near_from-requires-clause-pairs
near_from-requires-clause-pairs g c =
    let i = c.self.inside in
    let t : ℕ × ℕ = (c.get.result.first, c.get.result.second) in
    let p : PreparedPairs = record { ring = i.ring; reach = i.reach; cells = i.cells; lists = i.lists.lists; kept = i.kept } in
    let q = c.args.self.now in
    let e : list_at q c.args.tile ≡ pairs_in p.cells.members t =
    tile_at p q i.tiles.grid.bits c.args.tile t c.self.view_is c.self.invariant.alike c.requires.cells c.get.ensures.value
    in
    subst (All (IsPairOf (length c.args.frame.now))) e (c.requires.prepared.listed.inside c.args.tile [] c.requires.tile)

pub returns-clause-near : goal.returns-clause-near
returns-clause-near g c =
    let i = c.self.inside in
    let t : ℕ × ℕ = (c.get.result.first, c.get.result.second) in
    let q = c.args.self.now in
    let p : PreparedPairs = record { ring = i.ring; reach = i.reach; cells = i.cells; lists = i.lists.lists; kept = i.kept } in
    let e : list_at q c.args.tile ≡ pairs_in p.cells.members t =
    tile_at p q i.tiles.grid.bits c.args.tile t c.self.view_is c.self.invariant.alike c.requires.cells c.get.ensures.value
    in
    let near = c.near_from.new.near in
    let n = c.near_from.result in
    subst (λ (f : PreparedPairs). AreNear f.reach f.ring c.args.frame.now (list_at q c.args.tile) c.args.k near n) c.self.view_is
    (subst (λ ps. AreNear i.reach i.ring c.args.frame.now ps c.args.k near n) (sym e) c.near_from.ensures.near)
