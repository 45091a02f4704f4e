use Rattle.std.specs.Prelude.{◌*◌}
use Rattle.verifier.specs.Verdicts.{IsGreatest, pair_answer, range}
use Rattle.verifier.proofs.searches.Search.judge_all.Given as goal

abbrev pub invariant-loop-number : goal.invariant-loop-number
invariant-loop-number g l = record {
  greatest : IsGreatest (pair_answer l.self.code.now l.self.table.now (range l.self.core l.self.cutoff l.self.slices l.self.depth))
      l.number l.bound;
  passed : g.W.Progress.passed l.fn.watch l.watch (l.number * l.self.slices);
}
