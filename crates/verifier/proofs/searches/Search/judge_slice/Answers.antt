use Rattle.std.proofs.Common.{ℕ, arith, pos, ◌+ℤ◌, ◌-ℤ◌, ap, ◌∙◌}
use Rattle.verifier.specs.Verdicts.{IsPieceAnswer, IsSliceAnswer, empty, full, range}
use Rattle.verifier.proofs.Searching.{unless_weaker}
use Rattle.verifier.proofs.searches.Search.judge_slice.Goals as goal

pub returns-then-from-end : goal.returns-then-from-end
returns-then-from-end g c =
    empty
    (record {
      width = c.width_of-width.result;
      wide = c.width_of-width.ensures.width;
      none = omega (arith, c.share-from.ensures.exact, c.share-end.ensures.exact, c.if-from-end.true);
    })

pub returns : goal.returns
returns g c =
    let s = c.args.self.now in
    let p = c.args.pair in
    unless_weaker (IsPieceAnswer s.code.now s.table.now p.first p.second s.depth c.slice_span-distances.result)
    (IsSliceAnswer s.code.now s.table.now (range s.core s.cutoff s.slices s.depth) p.first p.second c.args.slice)
    c.judge.result
    (λ x h.
    full
    (record {
      width = c.width_of-width.result;
      wide = c.width_of-width.ensures.width;
      low = c.slice_span-distances.ensures.lo ∙ ap (λ (n : ℕ). s.core +ℤ pos n) c.share-from.ensures.exact;
      high = c.slice_span-distances.ensures.hi ∙ ap (λ (n : ℕ). s.core +ℤ pos n -ℤ pos 1) c.share-end.ensures.exact;
    })
    h)
    c.judge.ensures
