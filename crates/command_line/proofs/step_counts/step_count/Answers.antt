use Rattle.command_line.proofs.CountLaws.{read_number, read_scaled}
use Rattle.command_line.proofs.step_counts.step_count.Goals as goal

pub returns-in-Some : goal.returns-in-Some
returns-in-Some c =
    let parts = c.in-Some.ensures in
    read_scaled c.args.text.now c.in-Some.number.now c.in-Some.exponent.now parts.0 c.scaled.result parts.1 parts.2 c.scaled.ensures

pub returns-in-None : goal.returns-in-None
returns-in-None c = read_number c.args.text.now c.numeral.result c.in-None.ensures c.numeral.ensures
