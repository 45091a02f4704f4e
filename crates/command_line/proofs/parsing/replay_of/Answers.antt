use Rattle.std.proofs.Common.{rules, sym}
use Rattle.command_line.proofs.parsing.replay_of.Goals as goal

pub returns-in_err-workers : goal.returns-in_err-workers
returns-in_err-workers c = rw c.from_residual-in_err-workers.ensures (λ v is. c.in_err-workers.ensures _ is.2.2.1)

pub returns-in_err-from : goal.returns-in_err-from
returns-in_err-from c = rw c.from_residual-in_err-from.ensures (λ v is. c.in_err-from.ensures _ is.2.2.2.1)

pub returns-in_err-to : goal.returns-in_err-to
returns-in_err-to c = rw c.from_residual-in_err-to.ensures (λ v is. c.in_err-to.ensures _ is.2.2.2.2.1)

pub returns-in_err-part : goal.returns-in_err-part
returns-in_err-part c = rw c.from_residual-in_err-part.ensures (λ v is. c.in_err-part.ensures _ is.2.2.2.2.2.1)

pub returns : goal.returns
returns c = (
  _,
  sym c.in_ok-job.ensures,
  (
    _,
    sym c.in_ok-states.ensures,
    (
      _,
      c.in_ok-workers.ensures,
      (
        _,
        c.in_ok-from.ensures,
        (_, c.in_ok-to.ensures, (_, c.in_ok-part.ensures, (_, c.is_given-progress.ensures, search rules))),
      ),
    ),
  ),
)
