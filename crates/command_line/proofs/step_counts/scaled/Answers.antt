use Rattle.command_line.proofs.CountLaws.{too_large}
use Rattle.command_line.proofs.step_counts.scaled.Goals as goal

pub returns-in_err-number : goal.returns-in_err-number
returns-in_err-number c = rw c.from_residual.ensures (too_large c.args.number.now c.args.exponent.now c.in_err-number.ensures)
