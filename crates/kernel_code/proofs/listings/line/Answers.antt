use Rattle.std.proofs.Common.{sym}
use Rattle.kernel_code.proofs.LineLaws.{line_found, no_line, no_instruction}
use Rattle.kernel_code.proofs.listings.line.Goals as goal

pub returns-in_err-line-clause-none : goal.returns-in_err-line-clause-none
returns-in_err-line-clause-none c = rw c.from_residual.ensures (no_line c.args.bytes.now (sym c.in_err-line.ensures))

pub returns-in_err-instruction-clause-none : goal.returns-in_err-instruction-clause-none
returns-in_err-instruction-clause-none c =
    rw c.from_residual-in_err-instruction.ensures
    (no_instruction c.args.bytes.now c.in_ok-line.line.now c.in_ok-line.rest.now (sym c.in_ok-line.ensures) (sym c.in_err-instruction.ensures))

pub returns-clause-line : goal.returns-clause-line
returns-clause-line c =
    (line_found c.args.bytes.now c.in_ok-line.line.now c.in_ok-line.rest.now c.in_ok-instruction.field-0 (sym c.in_ok-line.ensures) (sym c.in_ok-instruction.ensures)).1

pub returns-clause-shorter : goal.returns-clause-shorter
returns-clause-shorter c =
    (line_found c.args.bytes.now c.in_ok-line.line.now c.in_ok-line.rest.now c.in_ok-instruction.field-0 (sym c.in_ok-line.ensures) (sym c.in_ok-instruction.ensures)).2
