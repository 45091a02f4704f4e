use Rattle.std.proofs.Common.{◌≡◌, ℕ, ◌+◌, ◌-◌, ◌%◌, ◌≤◌, ◌++◌, ap, arith, drop, length, length-drop, sym, take, ◌∙◌, All, append_assoc, length-take-le}
use Rattle.std.proofs.lemmas.List.Elements.{All-drop, All-take}
use Rattle.cell_tiles.specs.Near.{IsPairOf, named, pair_acts, those_acting}
use Rattle.cell_tiles.specs.Tiles.{pairs_between, pairs_with}
use Rattle.cell_tiles.proofs.ListLemmas.{own_lanes, row_idle}
use Rattle.cell_tiles.proofs.RowLemmas.{rows_behind}
use Rattle.cell_tiles.proofs.marks.Marks.mark_cell.Goals.{After-mark_rows-next}
use Rattle.cell_tiles.proofs.marks.Marks.mark_cell.Goals as goal

pub mark_rows-next-requires-clause-beside : goal.mark_rows-next-requires-clause-beside
mark_rows-next-requires-clause-beside c =
    let is = c.min-end.ensures in
    own_lanes c.args.frame.now.places.now c.args.blocks.now c.loop-next.next (c.min-end.result - c.loop-next.next) c.args.atoms.now (omega (arith, is)) (omega (arith, is, c.loop-next-test.true)) c.requires.beside.lanes

pub mark_rows-next-requires-clause-pairs : goal.mark_rows-next-requires-clause-pairs
mark_rows-next-requires-clause-pairs c =
    let P = λ (a : ℕ). All (IsPairOf (length c.args.frame.now.places.now)) (pairs_with a c.args.gathered.now.atoms) in
    All-take P (c.min-end.result - c.loop-next.next) (drop c.loop-next.next c.args.atoms.now) (All-drop P c.loop-next.next c.args.atoms.now c.requires.pairs)

pub mark_rows-next-requires-clause-idle : goal.mark_rows-next-requires-clause-idle
mark_rows-next-requires-clause-idle c j lt unset =
    let f = c.args.frame.now in
    let is = c.min-end.ensures in
    let next = c.loop-next.next in
    let n = c.min-end.result - next in
    let atoms = take n (drop next c.args.atoms.now) in
    let long : length atoms ≡ n = length-take-le n (drop next c.args.atoms.now) (omega (arith, length-drop next c.args.atoms.now, is)) in
    let lanes = own_lanes f.places.now c.args.blocks.now next n c.args.atoms.now (omega (arith, is)) (omega (arith, is, c.loop-next-test.true)) c.requires.beside.lanes in
    row_idle f.reach.now f.ring.now f.places.now f.coarse _ c.args.span.now c.near_cell.result (next % 16) atoms c.args.gathered.now.atoms j f.on_ring f.is_coarse c.near_cell.ensures.left_out c.requires.span lanes (omega (arith, long, is)) lt
    (sym (c.bits_of-marked.ensures.each j (omega (arith, lt, long))) ∙ unset)

-- so many rows more are come past

past : (c : After-mark_rows-next) →
    let acting = those_acting c.args.frame.now.reach.now c.args.frame.now.ring.now c.args.frame.now.places.now in
    let next = c.loop-next.next + c.mark_rows-next.result in
    (c.mark_rows-next.result ≤ c.min-end.result - c.loop-next.next)
    × (acting (named c.args.gathered.now.atoms c.mark_rows-next.new.self) ≡ acting (named c.args.gathered.now.atoms c.args.self.now) ++ acting (pairs_between (take (next - c.args.from) (drop c.args.from c.args.atoms.now)) c.args.gathered.now.atoms))
past c =
    let f = c.args.frame.now in
    let acts = pair_acts f.reach.now f.ring.now f.places.now in
    let acting = those_acting f.reach.now f.ring.now f.places.now in
    let is = c.min-end.ensures in
    let next = c.loop-next.next in
    let n = c.min-end.result - next in
    let xs = c.args.atoms.now in
    let ys = c.args.gathered.now.atoms in
    let kept = c.loop-next.invariant in
    let seen = c.mark_rows-next.result in
    let long : length (take n (drop next xs)) ≡ n = length-take-le n (drop next xs) (omega (arith, length-drop next xs, is)) in
    let within : seen ≤ n = omega (arith, long, c.mark_rows-next.ensures.within) in
    let before = pairs_between (take (next - c.args.from) (drop c.args.from xs)) ys in
    let rows = pairs_between (take seen (take n (drop next xs))) ys in (
      within,
      c.mark_rows-next.ensures.acting ∙ ap (λ ps. ps ++ acting rows) kept.acting
          ∙ append_assoc (acting (named ys c.args.self.now)) (acting before) (acting rows)
          ∙ ap (λ ps. acting (named ys c.args.self.now) ++ ps) (sym (rows_behind acts xs ys c.args.from next c.min-end.result seen kept.onward within)),
    )

pub returns-then-next-end-clause-acting : goal.returns-then-next-end-clause-acting
returns-then-next-end-clause-acting c = (past (goal.at.returns-then-next-end-clause-acting c).After-mark_rows-next).1

pub loop-next-preserved : goal.loop-next-preserved
loop-next-preserved c =
    let is = c.min-end.ensures in
    let on = past (goal.at.loop-next-preserved c).After-mark_rows-next in
    record {
      acting = on.1;
      listed = λ all. c.mark_rows-next.ensures.listed (c.loop-next.invariant.listed all);
      below = λ all. c.mark_rows-next.ensures.below (c.loop-next.invariant.below all);
      within = omega (arith, on.0, is, c.loop-next-test.true);
      onward = omega (arith, c.loop-next.invariant.onward);
      first = λ e. absurd (omega (arith, e, c.if-next-end.false, is, c.loop-next.invariant.onward, c.loop-next-test.true));
      few = c.mark_rows-next.ensures.few;
    }
