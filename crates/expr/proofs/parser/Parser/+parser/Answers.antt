use Rattle.std.proofs.Common.{◌≡◌, rules, ◌∙◌, sym, ap, arith}
use Rattle.std.proofs.lemmas.List.{length-map}
use Rattle.std.proofs.lemmas.Result.{err_from_is_err_and}
use Rattle.fixed.specs.Constants.{constant}
use Rattle.expr.specs.Tokens.{lexed}
use Rattle.expr.specs.Syntax.{arguments_of, syntax_of}
use Rattle.expr.specs.Syntax as tree
use Rattle.expr.specs.Parsing.{arguments_at, arguments_by, beginning, closed_at, list_at, listing, expr_at, term_at}
use Rattle.expr.proofs.Chain.{operation_fails, operation_reads, starts, start_fails, less, next, next_fails, ends, sums, products, lists}
use Rattle.expr.proofs.Levels.{closing_gives, unary_none_left, atom_group, atom_name, atom_call, minus_fails, minus_reads, gives_same, atom_start, unary_none, started, reading}
use Rattle.expr.proofs.Results.{beside_ok, beside_err}
use Rattle.expr.proofs.parser.Parser.+parser.Goals as goal

pub expr-returns-in_err-left : goal.expr-returns-in_err-left
unfolding expr_at
expr-returns-in_err-left g t c =
    let p = err_from_is_err_and c.from_residual.result c.from_residual.ensures.1 in
    rw (p.1, p.2) (start_fails (sums c.args.self.now.end c.args.levels) (lexed c.args.tokens.now) _ c.in_err-left.ensures)

pub expr-loop-operator-init : goal.expr-loop-operator-init
unfolding expr_at
expr-loop-operator-init g t c = starts (sums c.args.self.now.end c.args.levels) (lexed c.args.tokens.now) _ _ c.in_ok-left.ensures

pub expr-returns-in_err-whole : goal.expr-returns-in_err-whole
expr-returns-in_err-whole g t c =
    let p = err_from_is_err_and c.from_residual-in_err-whole.result c.from_residual-in_err-whole.ensures.1 in
    rw (p.1, p.2) (next_fails (sums c.args.self.now.end c.args.levels) _ _ (lexed c.loop-operator.rest.now) _ _ c.in-Some.ensures _ c.loop-operator.invariant
    (operation_fails _ _ c.term-read.result _ _ c.in_err-whole.ensures c.term-read.ensures))

pub expr-loop-operator-smaller : goal.expr-loop-operator-smaller
expr-loop-operator-smaller g t c =
    let read = operation_reads _ _ c.term-read.result _ _ c.in_ok-whole.ensures c.term-read.ensures in
    let h = less (sums c.args.self.now.end c.args.levels) (lexed c.loop-operator.rest.now) _ _ _ _ c.in-Some.ensures read.1 in
    omega (arith, simp length-map at h)

pub expr-loop-operator-preserved : goal.expr-loop-operator-preserved
expr-loop-operator-preserved g t c =
    let read = operation_reads _ _ c.term-read.result _ _ c.in_ok-whole.ensures c.term-read.ensures in
    rw read.2 (next (sums c.args.self.now.end c.args.levels) _ _ (lexed c.loop-operator.rest.now) _ _ c.in-Some.ensures _ _ c.loop-operator.invariant read.1)

pub expr-returns : goal.expr-returns
expr-returns g t c = ends (sums c.args.self.now.end c.args.levels) _ _ (lexed c.loop-operator.rest.now) c.loop-operator.invariant c.in_default.ensures

pub term-returns-in_err-left : goal.term-returns-in_err-left
unfolding term_at
term-returns-in_err-left g t c =
    let p = err_from_is_err_and c.from_residual.result c.from_residual.ensures.1 in
    rw (p.1, p.2) (start_fails (products c.args.self.now.end c.args.levels) (lexed c.args.tokens.now) _ c.in_err-left.ensures)

pub term-loop-operator-init : goal.term-loop-operator-init
unfolding term_at
term-loop-operator-init g t c = starts (products c.args.self.now.end c.args.levels) (lexed c.args.tokens.now) _ _ c.in_ok-left.ensures

pub term-returns-in_err-whole : goal.term-returns-in_err-whole
term-returns-in_err-whole g t c =
    let p = err_from_is_err_and c.from_residual-in_err-whole.result c.from_residual-in_err-whole.ensures.1 in
    rw (p.1, p.2) (next_fails (products c.args.self.now.end c.args.levels) _ _ (lexed c.loop-operator.rest.now) _ _ c.in-Some.ensures _ c.loop-operator.invariant
    (operation_fails _ _ c.unary-read.result _ _ c.in_err-whole.ensures c.unary-read.ensures))

pub term-loop-operator-smaller : goal.term-loop-operator-smaller
term-loop-operator-smaller g t c =
    let read = operation_reads _ _ c.unary-read.result _ _ c.in_ok-whole.ensures c.unary-read.ensures in
    let h = less (products c.args.self.now.end c.args.levels) (lexed c.loop-operator.rest.now) _ _ _ _ c.in-Some.ensures read.1 in
    omega (arith, simp length-map at h)

pub term-loop-operator-preserved : goal.term-loop-operator-preserved
term-loop-operator-preserved g t c =
    let read = operation_reads _ _ c.unary-read.result _ _ c.in_ok-whole.ensures c.unary-read.ensures in
    rw read.2 (next (products c.args.self.now.end c.args.levels) _ _ (lexed c.loop-operator.rest.now) _ _ c.in-Some.ensures _ _ c.loop-operator.invariant read.1)

pub term-returns : goal.term-returns
term-returns g t c = ends (products c.args.self.now.end c.args.levels) _ _ (lexed c.loop-operator.rest.now) c.loop-operator.invariant c.in_default.ensures

pub unary-returns-then-levels-eq0 : goal.unary-returns-then-levels-eq0
unary-returns-then-levels-eq0 g t c = rw c.misplaced.ensures (unary_none_left c.args.self.now.end c.args.levels (lexed c.args.tokens.now) c.if-levels-eq0.true)

pub unary-returns-in_err-inner-in-Some : goal.unary-returns-in_err-inner-in-Some
unary-returns-in_err-inner-in-Some g t c =
    let p = err_from_is_err_and c.from_residual.result c.from_residual.ensures.1 in
    rw (p.1, p.2) (minus_fails c.args.self.now.end c.args.levels (lexed c.args.tokens.now) _ _ (omega arith) c.in-Some.ensures c.in_err-inner-in-Some.ensures)

pub unary-returns-in_ok-inner-in-Some : goal.unary-returns-in_ok-inner-in-Some
unary-returns-in_ok-inner-in-Some g t c = gives_same _ c.put.result _ _ (minus_reads c.args.self.now.end c.args.levels (lexed c.args.tokens.now) _ _ _ (omega arith) c.in-Some.ensures c.in_ok-inner-in-Some.ensures) c.put.ensures

pub unary-returns-in-None : goal.unary-returns-in-None
unary-returns-in-None g t c = gives_same _ c.power.result _ _ (unary_none c.args.self.now.end c.args.levels (lexed c.args.tokens.now) (omega arith) c.in-None.ensures) c.power.ensures

pub atom-returns-in-None : goal.atom-returns-in-None
atom-returns-in-None g t c = rw (c.offset.ensures) (atom_start c.args.self.now.end c.args.levels (lexed c.args.tokens.now) _ c.in-None.ensures)

pub atom-returns-in-Some-Number-default : goal.atom-returns-in-Some-Number-default
atom-returns-in-Some-Number-default g t c =
    let a = c.in-Some-Number-default in
    let h : c.constant_of.result ≡ constant a.raw a.low a.high = search rules in
    gives_same _ c.put.result _ _
    (atom_start c.args.self.now.end c.args.levels (lexed c.args.tokens.now) _ (started _ beginning _ _ _ a.ensures a.field-0-0-is) ∙ ap (λ z. reading (tree.Number z) (lexed a.rest.now)) (sym h))
    c.put.ensures

pub atom-returns-in-None-open_sign : goal.atom-returns-in-None-open_sign
atom-returns-in-None-open_sign g t c =
    let a = c.in-Some-Name-default in
    gives_same _ c.put-in-None-open_sign.result _ _ (atom_name c.args.self.now.end c.args.levels (lexed c.args.tokens.now) _ _ (started _ beginning _ _ _ a.ensures a.field-0-0-is) c.in-None-open_sign.ensures) c.put-in-None-open_sign.ensures

pub atom-returns-in-Some : goal.atom-returns-in-Some
atom-returns-in-Some g t c =
    let a = c.in-Some-Name-default in
    gives_same _ c.call.result _ _ (atom_call c.args.self.now.end c.args.levels (lexed c.args.tokens.now) _ _ _ (started _ beginning _ _ _ a.ensures a.field-0-0-is) c.in-Some.ensures) c.call.ensures

pub atom-returns-in-Some-Open-default : goal.atom-returns-in-Some-Open-default
atom-returns-in-Some-Open-default g t c =
    let a = c.in-Some-Open-default in
    gives_same _ c.closed.result _ _ (atom_group c.args.self.now.end c.args.levels (lexed c.args.tokens.now) _ (started _ beginning _ _ _ a.ensures a.field-0-0-is)) c.closed.ensures

pub list-returns-in_err-first : goal.list-returns-in_err-first
unfolding list_at
list-returns-in_err-first g t c =
    let p = err_from_is_err_and c.from_residual.result c.from_residual.ensures.1 in
    rw (p.1, p.2) (start_fails (lists c.args.self.now.end c.args.levels) (lexed c.args.tokens.now) _ c.in_err-first.ensures)

pub list-loop-after-init : goal.list-loop-after-init
unfolding list_at
list-loop-after-init g t c = starts (lists c.args.self.now.end c.args.levels) (lexed c.args.tokens.now) _ _ c.in_ok-first.ensures

pub list-returns-in_err-others : goal.list-returns-in_err-others
list-returns-in_err-others g t c =
    let p = err_from_is_err_and c.from_residual-in_err-others.result c.from_residual-in_err-others.ensures.1 in
    let read = beside_err _ _ _ c.in_err-others.ensures in
    rw (p.1, p.2) (next_fails (lists c.args.self.now.end c.args.levels) _ _ (lexed c.loop-after.rest.now) _ _ c.in-Some.ensures _ c.loop-after.invariant (rw read at c.expr-in-Some.ensures))

pub list-loop-after-smaller : goal.list-loop-after-smaller
list-loop-after-smaller g t c =
    let read = beside_ok _ _ _ _ c.in_ok-others.ensures in
    let h = less (lists c.args.self.now.end c.args.levels) (lexed c.loop-after.rest.now) _ _ _ _ c.in-Some.ensures (rw read.1 at c.expr-in-Some.ensures) in
    omega (arith, simp length-map at h)

pub list-loop-after-preserved : goal.list-loop-after-preserved
list-loop-after-preserved g t c =
    let read = beside_ok _ _ _ _ c.in_ok-others.ensures in
    let on = next (lists c.args.self.now.end c.args.levels) _ _ (lexed c.loop-after.rest.now) _ _ c.in-Some.ensures _ _ c.loop-after.invariant (rw read.1 at c.expr-in-Some.ensures) in
    rw (rw read.0 at c.with-arguments.ensures) on

pub list-returns : goal.list-returns
list-returns g t c = ends (lists c.args.self.now.end c.args.levels) _ _ (lexed c.loop-after.rest.now) c.loop-after.invariant c.in_default.ensures

pub closed-returns : goal.closed-returns
unfolding closed_at
closed-returns g t c = closing_gives (λ x. syntax_of x.value) c.args.self.now.end (expr_at c.args.self.now.end c.args.levels) (lexed c.args.tokens.now) c.expr.result c.closing.result c.closing.ensures c.expr.ensures

pub arguments-returns-in-None : goal.arguments-returns-in-None
unfolding arguments_at list_at
arguments-returns-in-None g t c =
    gives_same _ c.closing.result _ _ (ap (arguments_by c.args.self.now.end (expr_at c.args.self.now.end c.args.levels) (lexed c.args.tokens.now)) c.in-None.ensures)
    (closing_gives arguments_of c.args.self.now.end (listing (expr_at c.args.self.now.end c.args.levels)) (lexed c.args.tokens.now) c.list.result c.closing.result c.closing.ensures c.list.ensures)
