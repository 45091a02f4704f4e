use Rattle.std.proofs.Common.{◌≤◌, length}
use Rattle.fixed.specs.Fractions.{bits_of}
use Rattle.expr.specs.Lexing.{tokens_of}
use Rattle.expr.specs.Tokens.{lexed}
use Rattle.expr.proofs.TextLemmas.{Left}
use Rattle.expr.proofs.lexer.tokens.Given as goal

abbrev pub invariant-loop-rest : goal.invariant-loop-rest
invariant-loop-rest g l = record {
  within : length l.rest ≤ length l.text;
  left : Left (bits_of l.frac) (length l.text) (tokens_of (bits_of l.frac) l.text) (lexed l.tokens.items) l.rest;
}

abbrev pub decreases-loop-rest : goal.decreases-loop-rest
decreases-loop-rest g l = length l.rest
