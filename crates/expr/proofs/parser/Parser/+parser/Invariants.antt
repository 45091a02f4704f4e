use Rattle.std.proofs.Common.{◌+◌, ◌*◌, length}
use Rattle.expr.specs.Tokens.{lexed}
use Rattle.expr.specs.Syntax.{syntax_of, arguments_of}
use Rattle.expr.specs.Parsing.{list_at, expr_at, term_at}
use Rattle.expr.proofs.Chain.{Left, sums, products, lists}
use Rattle.expr.proofs.parser.Parser.+parser.Given as goal

abbrev pub decreases-unary : goal.decreases-unary
decreases-unary g l = 8 * l.levels

abbrev pub decreases-term : goal.decreases-term
decreases-term g l = 8 * l.levels + 1

abbrev pub decreases-expr : goal.decreases-expr
decreases-expr g l = 8 * l.levels + 2

abbrev pub decreases-closed : goal.decreases-closed
decreases-closed g l = 8 * l.levels + 3

abbrev pub decreases-list : goal.decreases-list
decreases-list g l = 8 * l.levels + 3

abbrev pub decreases-arguments : goal.decreases-arguments
decreases-arguments g l = 8 * l.levels + 4

abbrev pub decreases-call : goal.decreases-call
decreases-call g l = 8 * l.levels + 5

abbrev pub decreases-atom : goal.decreases-atom
decreases-atom g l = 8 * l.levels + 6

abbrev pub decreases-power : goal.decreases-power
decreases-power g l = 8 * l.levels + 7

abbrev pub invariant-list-loop-after : goal.invariant-list-loop-after
invariant-list-loop-after g l = Left (lists l.self.end l.levels) (list_at l.self.end l.levels (lexed l.fn.tokens)) (arguments_of l.arguments) (lexed l.rest)

abbrev pub decreases-list-loop-after : goal.decreases-list-loop-after
decreases-list-loop-after g l = length l.rest

abbrev pub invariant-expr-loop-operator : goal.invariant-expr-loop-operator
invariant-expr-loop-operator g l = Left (sums l.self.end l.levels) (expr_at l.self.end l.levels (lexed l.fn.tokens)) (syntax_of l.left.value) (lexed l.rest)

abbrev pub decreases-expr-loop-operator : goal.decreases-expr-loop-operator
decreases-expr-loop-operator g l = length l.rest

abbrev pub invariant-term-loop-operator : goal.invariant-term-loop-operator
invariant-term-loop-operator g l = Left (products l.self.end l.levels) (term_at l.self.end l.levels (lexed l.fn.tokens)) (syntax_of l.left.value) (lexed l.rest)

abbrev pub decreases-term-loop-operator : goal.decreases-term-loop-operator
decreases-term-loop-operator g l = length l.rest
