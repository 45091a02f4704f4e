use Rattle.std.proofs.Common.{false, refl, subst}
use Rattle.cell_tiles.specs.Cells.{IsGrid}
use Rattle.pair_lists.specs.PairLists.{PreparedPairs}
use Rattle.pair_lists.proofs.PreparedLemmas.{filled, on_ok}
use Rattle.pair_lists.proofs.pair_lists.PairLists.fill.Goals as goal

pub returns-clause-prepared : goal.returns-clause-prepared
returns-clause-prepared g c =
    let i = c.self.inside in
    let p : PreparedPairs = record { ring = i.ring; reach = i.reach; cells = c.fill.new.self; lists = i.lists.lists; kept = false } in
    let r = c.fill.result in
    let fit = c.self.invariant in
    let is_grid = subst IsGrid fit.alike i.tiles.grid.in_range in
    let prepared = filled p i.cells.bits c.args.frame.now refl c.fill.ensures.bits is_grid fit.neighbours in
    on_ok r (λ h. h) (on_ok r prepared c.fill.ensures.ok c.fill.ensures.beside) c.fill.ensures.on_ring
