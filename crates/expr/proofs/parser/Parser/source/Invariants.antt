-- Reading the source returns the definitions so far, followed by the definitions read from the remaining tokens.
use Rattle.std.proofs.Common.{◌≡◌, ◌-◌, ◌≤◌, length, map}
use Rattle.expr.specs.Sources.{definitions_at, source_at}
use Rattle.expr.specs.Syntax.{definition_of, syntax_of}
use Rattle.expr.specs.Tokens.{lexed}
use Rattle.expr.proofs.Behind.{behind}
use Rattle.expr.proofs.parser.Parser.source.Given as goal

abbrev pub invariant-loop-definitions : goal.invariant-loop-definitions
invariant-loop-definitions g l = record {
  few : length l.definitions.items ≤ 64;
  left : source_at l.self.end (lexed l.fn.tokens) ≡ behind (syntax_of l.body.value) (map definition_of l.definitions.items) (definitions_at l.self.end (64 - length l.definitions.items) (lexed l.rest));
}

abbrev pub decreases-loop-definitions : goal.decreases-loop-definitions
decreases-loop-definitions g l = 64 - length l.definitions.items
