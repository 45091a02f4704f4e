use Rattle.std.proofs.Common.{Option, subst}
use Rattle.std.proofs.lemmas.Result.{IfOk-weaker}
use Rattle.state.specs.TakenLines.{TakesHead}
use Rattle.state.specs.declared.versions.Version.{Version}
use Rattle.state.proofs.TakeLaws.{takes_front}
use Rattle.state.proofs.sources.take_front.Goals as goal

pub returns-in-Some-clause-takes : goal.returns-in-Some-clause-takes
returns-in-Some-clause-takes g c =
    let before = g.L.Lines.left c.args.lines.now in
    let between = g.L.Lines.left c.take_head.new.lines in
    let head = subst (λ (o : Option Version). TakesHead o before between c.take_head.new.text.items) c.in-Some.is c.in_ok-version.ensures.takes in
    IfOk-weaker c.take_count.result _ _
    (λ more taken. takes_front c.in-Some.version more before between (g.L.Lines.left c.take_count.new.lines) c.take_head.new.text.items c.take_count.new.text.items head taken)
    c.take_count.ensures.takes
