use Rattle.std.proofs.Common.{◌≡◌, ◌+◌, ◌-◌, ◌<◌, ◌≤◌, ◌++◌, ap, arith, get_or, length, subst, sym, take, ◌∙◌, All, append_assoc}
use Rattle.std.specs.Int.{bit_at}
use Rattle.std.proofs.lemmas.List.Elements.{All-get_or}
use Rattle.std.proofs.lemmas.Nat.Bits.{bit_at-zero}
use Rattle.place_blocks.specs.Blocks.{AreUpperHalves}
use Rattle.ring_box.specs.Places.{places_of}
use Rattle.cell_tiles.specs.Near.{IsPairOf, named, pair_acts, those_acting}
use Rattle.cell_tiles.specs.Tiles.{pairs_between, pairs_with}
use Rattle.cell_tiles.proofs.LaneLemmas.{lane_below}
use Rattle.cell_tiles.proofs.RowLemmas.{not_passed, rows_on, rows_passed}
use Rattle.cell_tiles.proofs.marks.Marks.mark_rows.Goals.{After-next_lane-row}
use Rattle.cell_tiles.proofs.marks.Marks.mark_rows.Goals as goal

below : (c : After-next_lane-row) → c.next_lane-row.result.0 < length c.args.atoms.now
below c = lane_below c.loop-left.left (length c.args.atoms.now) _ c.loop-left.invariant.small c.next_lane-row.ensures.set

pub mark_row-requires-clause-halves : goal.mark_row-requires-clause-halves
mark_row-requires-clause-halves c =
    subst (λ h. AreUpperHalves h (places_of c.args.frame.now.places.now (get_or c.args.atoms.now c.next_lane-row.result.0 0))) (sym c.at.ensures)
    (c.requires.beside c.next_lane-row.result.0 (below (goal.at.mark_row-requires-clause-halves c).After-next_lane-row))

pub mark_row-requires-clause-pairs : goal.mark_row-requires-clause-pairs
mark_row-requires-clause-pairs c =
    let n = length c.args.frame.now.places.now in
    let lt = below (goal.at.mark_row-requires-clause-pairs c).After-next_lane-row in
    (All-get_or (λ a. All (IsPairOf n) (pairs_with a c.args.gathered.now.atoms)) c.args.atoms.now c.next_lane-row.result.0 0 lt c.requires.pairs)

pub loop-left-preserved : goal.loop-left-preserved
loop-left-preserved c =
    let f = c.args.frame.now in
    let acts = pair_acts f.reach.now f.ring.now f.places.now in
    let acting = those_acting f.reach.now f.ring.now f.places.now in
    let atoms = c.args.atoms.now in
    let ys = c.args.gathered.now.atoms in
    let kept = c.loop-left.invariant in
    let lane = c.next_lane-row.ensures in
    let next = c.loop-left.next in
    let r = c.next_lane-row.result.0 in
    let lt = below (goal.at.loop-left-preserved c).After-next_lane-row in
    let ge : next ≤ r = not_passed c.loop-left.left r next kept.passed lane.set in
    let row = pairs_with (get_or atoms r 0) ys in
    let old = acting (named ys c.args.self.now) in
    let on = rows_on acts atoms ys next r ge lt (λ k le less. c.requires.idle k (omega (arith, less, lt)) (sym (kept.ahead k le) ∙ lane.before k less)) in
    record {
      acting =
          c.mark_row.ensures.acting ∙ ap (λ ps. ps ++ acting row) kept.acting
          ∙ append_assoc old (acting (pairs_between (take next atoms) ys)) (acting row)
          ∙ ap (λ ps. old ++ ps) (sym on);
      listed = λ listed. c.mark_row.ensures.listed (kept.listed listed);
      below = λ below. c.mark_row.ensures.below (kept.below below);
      within = omega (arith, lt);
      small = omega (arith, kept.small, lane.less);
      passed = λ k less. lane.gone k (omega arith);
      ahead = λ k le. lane.behind k (omega arith) ∙ kept.ahead k (omega (arith, ge, le));
      first = λ e. absurd (omega arith);
      few = omega (arith, c.len.ensures.value, c.if-len-gt128.false);
    }

pub returns-clause-acting : goal.returns-clause-acting
returns-clause-acting c =
    let f = c.args.frame.now in
    let acts = pair_acts f.reach.now f.ring.now f.places.now in
    let acting = those_acting f.reach.now f.ring.now f.places.now in
    let atoms = c.args.atoms.now in
    let ys = c.args.gathered.now.atoms in
    let kept = c.loop-left.invariant in
    let next = c.loop-left.next in
    let d = length atoms - next in
    let end : next + d ≡ length atoms = omega (arith, kept.within) in
    let done : c.loop-left.left ≡ 0 = c.loop-left-test.false in
    let rest = rows_passed acts atoms ys next d (omega (arith, end)) (λ k le lt. c.requires.idle k (omega (arith, lt, end)) (sym (kept.ahead k le) ∙ (ap (λ b. bit_at b k) done ∙ bit_at-zero k))) in
    kept.acting ∙ ap (λ ps. acting (named ys c.args.self.now) ++ ps) (sym (ap (λ m. acting (pairs_between (take m atoms) ys)) (sym end) ∙ rest))
