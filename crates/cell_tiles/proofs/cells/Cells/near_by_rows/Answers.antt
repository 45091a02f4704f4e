use Rattle.std.proofs.Common.{◌≡◌, ◌≤◌, ◌+◌, ◌++◌, arith, drop, inl, inr, length, sym, ◌∙◌}
use Rattle.std.proofs.lemmas.Bool.{cases_lt}
use Rattle.std.proofs.lemmas.List.{length-map}
use Rattle.cell_tiles.specs.Near.{IsPairOf, those_acting}
use Rattle.cell_tiles.specs.Tiles.{pair_of, pairs_in, pairs_with}
use Rattle.cell_tiles.proofs.NearLemmas.{row_all, row_passed, row_seen}
use Rattle.cell_tiles.proofs.cells.Cells.near_by_rows.Given.{Over}
use Rattle.cell_tiles.proofs.cells.Cells.near_by_rows.Goals.{After-list_row-seen}
use Rattle.cell_tiles.proofs.cells.Cells.near_by_rows.Goals as goal

-- the pairs of a row that were seen are come past

past : (g : Over) (c : After-list_row-seen g) →
    let ps = pairs_in c.args.self.now.members (c.args.tile.first, c.args.tile.second) in
    let acting = those_acting c.args.frame.now.reach.now c.args.frame.now.ring.now c.args.frame.now.places.now in
    let next = c.loop-next.next + c.list_row-seen.result in
    (next ≤ length ps) × (acting (drop c.args.k ps) ≡ acting c.list_row-seen.new.near ++ acting (drop next ps))
past g c =
    let kept = c.loop-next.invariant in
    let seen = c.list_row-seen.ensures in
    row_seen _ _ _ _ _ _ _ _ _ _ kept.within (sym kept.rows ∙ c.in-Some.ensures.some) seen.within seen.acting kept.acting

pub list_row-seen-requires-clause-pairs : goal.list_row-seen-requires-clause-pairs
list_row-seen-requires-clause-pairs g c =
    row_all (IsPairOf (length c.args.frame.now.places.now)) _ (pairs_with c.in-Some.row.atom c.in-Some.row.others.now) _ _ c.requires.pairs (sym c.loop-next.invariant.rows ∙ c.in-Some.ensures.some)

pub overflow_add-next : goal.overflow_add-next
overflow_add-next g c = omega (arith, (past g (goal.at.overflow_add-next g c).After-list_row-seen).0, c.rows_from-rows.ensures.few)

pub returns-then-seen-row-clause-near : goal.returns-then-seen-row-clause-near
returns-then-seen-row-clause-near g c =
    let kept = c.loop-next.invariant in
    let seen = c.list_row-seen.ensures in
    let on = past g (goal.at.returns-then-seen-row-clause-near g c).After-list_row-seen in
    record {
      onward = elim (cases_lt c.args.k c.loop-next.next) [
        | inl l ↦ omega (arith, l)
        | inr e ↦ let some = seen.onward (omega (arith, e, kept.few)) in omega (arith, some, kept.from)
      ];
      within = on.0;
      acting = on.1;
    }

pub loop-next-preserved : goal.loop-next-preserved
loop-next-preserved g c =
    let kept = c.loop-next.invariant in
    let seen = c.list_row-seen.ensures in
    let row = c.in-Some.row in
    let on = past g (goal.at.loop-next-preserved g c).After-list_row-seen in
    record {
      rows =
          row_passed _ (pairs_with row.atom row.others.now) _ c.loop-next.next c.list_row-seen.result (sym kept.rows ∙ c.in-Some.ensures.some)
          (omega (arith, length-map row.others.now (pair_of row.atom), seen.within, c.if-seen-row.false));
      others = c.in-Some.ensures.others ∙ kept.others;
      within = on.0;
      from = omega (arith, kept.from);
      acting = on.1;
      listed = seen.listed kept.listed;
      few = omega (arith, seen.few, kept.few, kept.from);
    }
