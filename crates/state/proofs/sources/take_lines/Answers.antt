use Rattle.std.proofs.Common.{◌≡◌, true, subst, arith}
use Rattle.std.proofs.lemmas.Result.{err_from_is_err_and}
use Rattle.state.specs.TakenLines.{TakesLines}
use Rattle.state.proofs.TakeLaws.{takes_fewer, takes_more, takes_no_lines, untold_before}
use Rattle.state.proofs.sources.take_lines.Goals as goal

pub loop-init : goal.loop-init
loop-init g c = takes_no_lines _ _

pub returns-in_err-take_line-clause-untold : goal.returns-in_err-take_line-clause-untold
returns-in_err-take_line-clause-untold g c =
    let p = err_from_is_err_and c.from_residual.result c.from_residual.ensures.1 in
    rw (p.1, p.2) (untold_before c.in_err-take_line.field-0.0 _ (g.L.Lines.left c.loop.lines) c.loop.invariant.bytes c.loop.invariant.taken c.in_err-take_line.ensures.untold)

pub returns-then-not-branch-clause-takes : goal.returns-then-not-branch-clause-takes
returns-then-not-branch-clause-takes g c =
    takes_fewer c.loop.counter c.args.count _ (g.L.Lines.left c.loop.lines) _ _ c.loop.text.items _ c.loop-test.true c.loop.invariant
    (subst (λ b. TakesLines b 1 (g.L.Lines.left c.loop.lines) (g.L.Lines.left c.take_line.new.lines) c.loop.text.items c.take_line.new.text.items) c.if-not-branch.true c.in_ok-take_line.ensures.takes)

pub loop-preserved : goal.loop-preserved
loop-preserved g c =
    takes_more c.loop.counter _ (g.L.Lines.left c.loop.lines) _ _ c.loop.text.items _ c.loop.invariant
    (subst (λ b. TakesLines b 1 (g.L.Lines.left c.loop.lines) (g.L.Lines.left c.take_line.new.lines) c.loop.text.items c.take_line.new.text.items) c.if-not-branch.false c.in_ok-take_line.ensures.takes)

pub returns-clause-takes : goal.returns-clause-takes
returns-clause-takes g c =
    let all : c.loop.counter ≡ c.args.count = omega (arith, c.loop-test.false, c.loop.auto.counter-end) in
    subst (λ k. TakesLines true k (g.L.Lines.left c.args.lines.now) (g.L.Lines.left c.loop.lines) c.args.text.now.items c.loop.text.items) all c.loop.invariant
