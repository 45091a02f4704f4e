use Rattle.std.proofs.Common.{◌-◌, ℕ, true, Bool, subst}
use Rattle.std.proofs.lemmas.Result.{IfOk-weaker}
use Rattle.state.specs.TakenLines.{TakesLines}
use Rattle.state.proofs.TakeLaws.{takes_count}
use Rattle.state.proofs.sources.take_count.Goals as goal

pub returns-then-branch-clause-takes : goal.returns-then-branch-clause-takes
returns-then-branch-clause-takes g c =
    let before = g.L.Lines.left c.args.lines.now in
    let between = g.L.Lines.left c.take_lines.new.lines in
    let all = subst (λ (b : Bool). TakesLines b (c.count_number.result - 2) before between c.args.text.now.items c.take_lines.new.text.items) c.if-branch.true c.in_ok-take_lines.ensures.takes in
    let lines = subst (λ (k : ℕ). TakesLines true (k - 2) before between c.args.text.now.items c.take_lines.new.text.items) c.count_number.ensures.value all in
    IfOk-weaker c.take_count_line.result _ _
    (λ more taken. takes_count c.args.version more before between (g.L.Lines.left c.take_count_line.new.lines) c.args.text.now.items c.take_lines.new.text.items c.take_count_line.new.text.items lines taken)
    c.take_count_line.ensures.takes
