use Rattle.std.proofs.Common.{◌≡◌, length, ap, sym, ◌∙◌, arith}
use Rattle.std.proofs.lemmas.List.Elements.{AllWithin-more, at_read}
use Rattle.job.specs.declared.drafts.TypeLine.{TypeLine}
use Rattle.job.specs.Views.{type_line}
use Rattle.job.proofs.CountLemmas.{other_count}
use Rattle.job.proofs.reading.check_counts.Goals as goal

pub returns-then-as_slice-count-clause-fault : goal.returns-then-as_slice-count-clause-fault
returns-then-as_slice-count-clause-fault g c =
    other_count (type_line {A = g.row.A.Denot}) c.args.count c.args.types.now c.loop-line.line-index c.line-item.result c.loop-line.invariant c.loop-line-test.true c.line-item.is
    (λ e. c.if-as_slice-count.true (ap length c.as_slice.ensures.value ∙ e))

pub loop-line-preserved : goal.loop-line-preserved
loop-line-preserved g c =
    AllWithin-more (λ (t : TypeLine g.row.A.Denot). length t.value.values.items ≡ c.args.count) c.args.types.now 0 c.loop-line.line-index c.loop-line.invariant
    (at_read c.args.types.now (λ (t : TypeLine g.row.A.Denot). length t.value.values.items ≡ c.args.count) c.loop-line.line-index c.line-item.result c.loop-line-test.true c.line-item.is
    (sym (ap length c.as_slice.ensures.value) ∙ c.if-as_slice-count.false))

pub returns-clause-whole : goal.returns-clause-whole
returns-clause-whole g c = λ k d lt. c.loop-line.invariant k d (omega arith) (omega (arith, lt, c.loop-line-test.false))
