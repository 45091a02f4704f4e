-- texts without an engine lack the quantity, and so do texts whose engine lacks it
use Rattle.std.proofs.lemmas.Result.{err_from_is_err_and}
use Rattle.streams.proofs.TextLaws.{engine_lacks, texts_lack}
use Rattle.streams.proofs.quantities.quantity_text.Goals as goal

pub returns-in_err-engine-clause-refused : goal.returns-in_err-engine-clause-refused
returns-in_err-engine-clause-refused g c =
    let p = err_from_is_err_and c.from_residual.result c.from_residual.ensures.1 in
    rw (p.1, p.2) (texts_lack c.args.quantity c.args.job.now c.args.state.now _ c.in_err-engine.ensures.refused)

pub returns-in-Err-clause-refused : goal.returns-in-Err-clause-refused
returns-in-Err-clause-refused g c =
    rw c.energy_failure.ensures
    (engine_lacks c.args.quantity c.args.job.now c.args.state.now _ c.in-Err.failure c.in_ok-engine.ensures.opens c.in-Err.ensures.refused)
