use Rattle.verifier.specs.Verdicts.{AreFirstSpans}
use Rattle.verifier.proofs.searches.Search.input_spans.Given as goal

abbrev pub invariant-loop-number : goal.invariant-loop-number
invariant-loop-number g l = AreFirstSpans l.self.table.now l.pair.first l.pair.second l.number l.distances l.spans.items
