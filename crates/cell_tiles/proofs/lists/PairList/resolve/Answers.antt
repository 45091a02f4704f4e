use Rattle.std.proofs.Common.{arith, ◌∙◌, length-set}
use Rattle.ring_box.specs.declared.pairs.AtomPair.{AtomPair}
use Rattle.cell_tiles.proofs.MarkLemmas.{named_next}
use Rattle.cell_tiles.proofs.lists.PairList.resolve.Goals as goal

pub loop-e-preserved : goal.loop-e-preserved
loop-e-preserved c =
    let kept = c.loop-e.invariant in
    record {
      wide = length-set c.loop-e.self-inside.pairs c.loop-e.e c.in_order.result ∙ kept.wide;
      listed =
          named_next (λ (p : AtomPair). (p.low, p.high)) c.loop-e.self-inside.pairs c.in_order.result c.loop-e.e c.args.others.now c.args.marks.now (omega (arith, kept.wide, c.loop-e-test.true, c.len-count.ensures.value, c.requires.few)) (omega (arith, c.loop-e-test.true, c.len-count.ensures.value))
          (rw c.at-atom.ensures at c.in_order.ensures) kept.listed;
    }
