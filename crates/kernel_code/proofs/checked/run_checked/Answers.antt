use Rattle.fixed.specs.Fractions.{bits_of}
use Rattle.kernel_code.specs.Tables.{inputs_of}
use Rattle.kernel_code.proofs.Runs.{same_run, only_end}
use Rattle.kernel_code.proofs.PathLaws.{traps_only}
use Rattle.kernel_code.proofs.checked.run_checked.Goals as goal

pub returns-clause-only : goal.returns-clause-only
returns-clause-only g c =
    only_end (bits_of c.args.table.now.frac) c.args.code.now (inputs_of c.args.table.now c.args.a c.args.b c.args.r) c.run.result
    (same_run _ _ _ _ _ _ _ c.frac.ensures c.as_slice.ensures.items c.inputs.ensures c.run.ensures)

pub returns-clause-operation : goal.returns-clause-operation
returns-clause-operation g c =
    traps_only (bits_of c.args.table.now.frac) c.args.code.now (inputs_of c.args.table.now c.args.a c.args.b c.args.r) c.run.result c.as_slice.ensures.code
    (same_run _ _ _ _ _ _ _ c.frac.ensures c.as_slice.ensures.items c.inputs.ensures c.run.ensures)
