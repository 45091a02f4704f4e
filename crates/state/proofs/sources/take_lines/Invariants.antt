use Rattle.std.proofs.Common.{true}
use Rattle.state.specs.TakenLines.{TakesLines}
use Rattle.state.proofs.sources.take_lines.Given as goal

abbrev pub invariant-loop : goal.invariant-loop
invariant-loop g l = TakesLines true l.counter (g.L.Lines.left l.initial.lines) (g.L.Lines.left l.lines) l.initial.text.items l.text.items
