-- the written text, or the written prefix, is that of the quantity
use Rattle.std.proofs.Common.{inl, inr, refl}
use Rattle.cli.specs.Actions.{QuantityText}
use Rattle.cli.specs.Command.{HasText}
use Rattle.cli.specs.Refusals.{RefusesText}
use Rattle.cli.proofs.PerformLaws.{handed_on, text_of_files, text_written}
use Rattle.cli.proofs.quantities.perform_quantity.Goals as goal

pub returns : goal.returns
returns g c =
    let files = c.in_ok-job.ensures in
    let is = c.in_ok-text.ensures.is in
    let q = c.args.requested.quantity in
    let job = c.deref.result.now in
    let state = c.deref-2.result.now in
    text_of_files c.write_result.result (g.F.Files.held c.args.files.now) (g.F.Files.requested c.args.files.now) (g.F.Files.requested c.read_two.new.files)
    c.args.requested.job.now c.args.requested.state.now job state (QuantityText q)
    _ _ files.0 (rw c.deref.ensures.value files.1) (rw c.deref-2.ensures.value files.2)
    (text_written c.write_all.result c.write_result.result (RefusesText (QuantityText q job state)) (HasText (QuantityText q job state)) _ _ _
    c.write_result.ensures (rw (c.deref-3.ensures.value, is.written) at c.write_all.ensures)
    (λ written. record { engine = is.engine; opens = is.opens; text = is.text; is = is.is; written = written })
    (λ begun. record { engine = is.engine; opens = is.opens; text = is.text; is = is.is; written = begun }))

pub returns-in_err-text : goal.returns-in_err-text
returns-in_err-text g c =
    let files = c.in_ok-job.ensures in
    handed_on c.from_residual-in_err-text.result _ _ _ c.from_residual-in_err-text.ensures.1
    (inr (files.0, (_, rw c.deref.ensures.value files.1, (_, rw c.deref-2.ensures.value files.2, inl (c.in_err-text.ensures.refused, refl)))))
