use Rattle.std.proofs.Common.{◌≡◌, ℕ, ◌-◌, ◌<◌, ◌≤◌, ◌++◌, List, true, eqb, eqb-true, ap, arith, drop, length, take, ◌∙◌, All, eq-eqb}
use Rattle.std.proofs.lemmas.List.Elements.{All-weaker}
use Rattle.std.proofs.lemmas.Nat.{mul-le}
use Rattle.place_blocks.specs.Blocks.{AreInSpan}
use Rattle.ring_box.specs.Places.{places_of}
use Rattle.cell_tiles.specs.Cells.{cell_number}
use Rattle.cell_tiles.specs.Near.{IsPairOf, named, pair_acts, those_acting}
use Rattle.cell_tiles.specs.Tiles.{members_at, pairs_between, pairs_with}
use Rattle.cell_tiles.proofs.CellLemmas.{are_places}
use Rattle.cell_tiles.proofs.NearLemmas.{members_lie}
use Rattle.cell_tiles.proofs.NumberLemmas.{length_between}
use Rattle.cell_tiles.proofs.RowLemmas.{between_near, each_row, more_rows}
use Rattle.cell_tiles.proofs.cells.Cells.near_between.Goals as goal

pub mark_cell-next-requires-clause-span : goal.mark_cell-next-requires-clause-span
mark_cell-next-requires-clause-span g c =
    let cells = c.args.self.now in
    let frame = c.args.frame.now.places.now in
    let second = c.args.tile.second in
    let lie = rw (← c.requires.members) at (members_lie cells.bits frame second c.requires.second) in
    let tested : All (λ a. eqb (cell_number cells.bits (places_of frame a)) second ≡ true) c.atoms-others.result.now =
    rw c.atoms-others.ensures.value (All-weaker (λ a. cell_number cells.bits (places_of frame a) ≡ second) (λ a. eqb (cell_number cells.bits (places_of frame a)) second ≡ true) (λ a e. eq-eqb _ _ e) (members_at cells.members second) lie) in
    All-weaker (λ a. eqb (cell_number cells.bits (places_of frame a)) second ≡ true) (λ a. AreInSpan c.span-2.result (places_of frame a))
    (λ a e. c.span-2.ensures (places_of frame a) (are_places frame a c.args.frame.now.on_ring) (eqb-true _ _ e)) c.gather.new.self.atoms (c.gather.ensures.those (λ a. eqb (cell_number cells.bits (places_of frame a)) second) tested)

pub mark_cell-next-requires-clause-pairs : goal.mark_cell-next-requires-clause-pairs
mark_cell-next-requires-clause-pairs g c =
    let cells = c.args.self.now in
    let n = length c.args.frame.now.places.now in
    let ys = members_at cells.members c.args.tile.second in
    rw c.atoms.ensures.value
    (All-weaker (λ a. All (IsPairOf n) (pairs_with a ys)) (λ a. All (IsPairOf n) (pairs_with a c.gather.new.self.atoms))
    (λ a all. c.gather.ensures.pairs n a (rw c.atoms-others.ensures.value all)) (members_at cells.members c.args.tile.first) (each_row (IsPairOf n) (members_at cells.members c.args.tile.first) ys c.requires.pairs))

pub returns-clause-near : goal.returns-clause-near
returns-clause-near g c =
    let cells = c.args.self.now in
    let f = c.args.frame.now in
    let frame = f.places.now in
    let first = c.args.tile.first in
    let acts = pair_acts f.reach.now f.ring.now frame in
    let xs = members_at cells.members first in
    let ys = members_at cells.members c.args.tile.second in
    let zs = c.gather.new.self.atoms in
    let next = c.mark_cell-next.result in
    let done = c.mark_cell-next.ensures in
    let lie = rw (← c.requires.members) at (members_lie cells.bits frame first c.requires.first) in
    let same : All (λ a. those_acting f.reach.now f.ring.now frame (pairs_with a zs) ≡ those_acting f.reach.now f.ring.now frame (pairs_with a ys)) xs =
    All-weaker (λ a. cell_number cells.bits (places_of frame a) ≡ first) (λ a. those_acting f.reach.now f.ring.now frame (pairs_with a zs) ≡ those_acting f.reach.now f.ring.now frame (pairs_with a ys))
    (λ a here.
    c.gather.ensures.acting a (c.span.ensures (places_of frame a) (are_places frame a f.on_ring) here) ∙ ap (λ l. those_acting f.reach.now f.ring.now frame (pairs_with a l)) c.atoms-others.ensures.value) xs lie in
    let wide : length c.atoms-others.result.now ≡ length ys = ap length c.atoms-others.ensures.value in
    let onward : c.args.row < next = done.onward (ap length c.clear.ensures) in
    let within : next ≤ length xs = rw (← c.atoms.ensures.value) done.within in
    let acting = those_acting f.reach.now f.ring.now frame in
    let rows = λ (l : List ℕ). pairs_between (take (next - c.args.row) (drop c.args.row l)) zs in
    let is : c.resolve.new.self ≡ named zs c.mark_cell-next.new.self = c.resolve.ensures ∙ ap (λ l. named l c.mark_cell-next.new.self) c.atoms-2.ensures.value in
    let found : acting c.resolve.new.self ≡ acting (rows xs) =
    ap acting is ∙ done.acting
    ∙ ap (λ ms. acting (named zs ms) ++ acting (rows c.atoms.result.now)) c.clear.ensures
    ∙ ap (λ l. acting (rows l)) c.atoms.ensures.value in
    rw wide
    (record {
      onward = more_rows c.args.row next (length ys) onward c.requires.some;
      within = omega (arith, length_between xs ys, mul-le next (length ys) (length xs) (length ys) within (omega arith));
      acting = between_near acts xs ys zs c.resolve.new.self c.args.row next (omega (arith, onward)) within found same;
    })
