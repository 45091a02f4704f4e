use Rattle.std.proofs.Common.{arith, sym, take_all}
use Rattle.cli.proofs.execution.first_line.Goals as goal

pub returns-in-Some : goal.returns-in-Some
returns-in-Some c = (c.in-Some.ensures.byte (omega arith) (λ w o h. h)).0

pub returns-in-None : goal.returns-in-None
returns-in-None c =
    let past = c.in-None.ensures.byte (omega arith) (λ w o h. h) in
    sym (take_all _ c.args.text.now (omega (arith, past)))
