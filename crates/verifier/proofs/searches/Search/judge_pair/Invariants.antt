use Rattle.verifier.specs.Verdicts.{IsGreatest, IsSliceAnswer, range}
use Rattle.verifier.proofs.searches.Search.judge_pair.Given as goal

abbrev pub invariant-loop-slice : goal.invariant-loop-slice
invariant-loop-slice g l = record {
  greatest : IsGreatest (IsSliceAnswer l.self.code.now l.self.table.now (range l.self.core l.self.cutoff l.self.slices l.self.depth)
      l.pair.first l.pair.second) l.slice l.bound;
  passed : g.W.Progress.passed l.fn.watch l.watch l.slice;
}
