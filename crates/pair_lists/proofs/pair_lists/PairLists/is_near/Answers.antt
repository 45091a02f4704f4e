use Rattle.std.proofs.Common.{◌≡◌, ◌<◌, ℕ, Some, length, ap, subst, sym, ◌∙◌}
use Rattle.ring_box.specs.Distances.{square_of}
use Rattle.ring_box.specs.Places.{places_of}
use Rattle.pair_lists.specs.PairLists.{IsPrepared, PreparedPairs}
use Rattle.pair_lists.proofs.PreparedLemmas.{served}
use Rattle.pair_lists.proofs.pair_lists.PairLists.is_near.Goals as goal

pub returns-then-len-frame : goal.returns-then-len-frame
returns-then-len-frame g c = λ near kept.
    let i = c.self.inside in
    let m = c.margin.result.now in
    let from = c.as_slice in
    let frame = c.args.frame.now in
    let p : PreparedPairs = record { ring = i.ring; reach = i.reach; cells = i.cells; lists = i.lists.lists; kept = i.kept } in
    let long : length i.reference.items ≡ length frame =
    ap length (sym from.ensures.value) ∙ (from.ensures.len ∙ (sym c.len.ensures ∙ c.if-len-frame.true))
    in
    let is : i.wide_cells ≡ Some m = c.in-Some.is ∙ ap Some (sym c.margin.ensures) in
    let moved =
    subst (λ ps. (a : ℕ) → a < length frame → square_of i.ring (places_of ps a) (places_of frame a) < m.limit) from.ensures.value
    (c.covers.ensures.near near)
    in
    subst (λ q. IsPrepared q frame) c.self.view_is
    (served p i.tiles.grid.bits i.wide_cells m i.reference.items frame c.self.invariant is
    (ap (λ (q : PreparedPairs). q.kept) c.self.view_is ∙ kept) long (c.covers.ensures.on_ring near) moved)
