-- a quantity that the texts lack is refused
use Rattle.std.proofs.lemmas.Result.{err_from_is_err_and}
use Rattle.cli.proofs.FailureLaws.{quantity_refused}
use Rattle.cli.proofs.quantities.quantity_of.Goals as goal

pub returns-in_err-quantity_text-clause-refused : goal.returns-in_err-quantity_text-clause-refused
returns-in_err-quantity_text-clause-refused g c =
    let p = err_from_is_err_and c.from_residual.result c.from_residual.ensures.1 in
    rw (p.1, p.2)
    (quantity_refused c.args.quantity c.args.job.now c.args.state.now _ (rw c.shown_quantity.ensures at c.in_err-quantity_text.ensures.refused))

pub returns-clause-is : goal.returns-clause-is
returns-clause-is g c = rw c.shown_quantity.ensures at c.in_ok-quantity_text.ensures.is
