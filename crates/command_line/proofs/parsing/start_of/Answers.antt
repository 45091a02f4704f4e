use Rattle.std.proofs.Common.{refl, sym}
use Rattle.command_line.proofs.parsing.start_of.Goals as goal

pub returns-in_err-frame : goal.returns-in_err-frame
returns-in_err-frame c = rw c.from_residual-in_err-frame.ensures (λ v is. c.in_err-frame.ensures _ is.2.2.1)

pub returns : goal.returns
returns c = (_, sym c.in_ok-job.ensures, (_, sym c.in_ok-gro.ensures, (_, c.in_ok-frame.ensures, refl)))
