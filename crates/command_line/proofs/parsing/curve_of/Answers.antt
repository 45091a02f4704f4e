use Rattle.std.proofs.Common.{Bool, codes, refl, subst, sym}
use Rattle.clap.specs.Words.{found_of, rows_of}
use Rattle.command_line.specs.CommandLine.{AFlag, AFlagUnless, Says}
use Rattle.command_line.proofs.OneCommand.{says_once}
use Rattle.command_line.proofs.parsing.curve_of.Goals as goal

pub returns-in_err-points : goal.returns-in_err-points
returns-in_err-points c = rw c.from_residual-in_err-points.ensures (λ v is. c.in_err-points.ensures _ is.2.1)

pub returns-in_err-types : goal.returns-in_err-types
returns-in_err-types c = rw c.from_residual-in_err-types.ensures (λ v is. c.in_err-types.ensures _ is.2.2.1)

pub returns-in_err-grid : goal.returns-in_err-grid
returns-in_err-grid c =
    let rows = rows_of (found_of c.args.matches.now) in
    rw c.from_residual-in_err-grid.ensures (λ v is.
    let energy = says_once (codes "energy") rows AFlag c.is_given-energy.result is.2.2.2.0 c.is_given-energy.ensures is.2.2.2.1 in
    c.in_err-grid.ensures is.2.2.2.2.2.0
    (subst (λ (given : Bool). Says (codes "grid") rows (AFlagUnless given) is.2.2.2.2.2.0) energy is.2.2.2.2.2.1))

pub returns : goal.returns
returns c = (
  _,
  sym c.in_ok-job.ensures,
  (
    _,
    c.in_ok-points.ensures,
    (_, c.in_ok-types.ensures, (_, c.is_given-energy.ensures, (_, c.is_given-slope.ensures, (_, c.in_ok-grid.ensures, (_, c.is_given-progress.ensures, refl))))),
  ),
)
