-- If a file can't be read, no step is made; otherwise the shown states are states of a run of both files.
use Rattle.std.proofs.Common.{inr, refl}
use Rattle.cli.proofs.PerformLaws.{handed_on}
use Rattle.cli.proofs.shown.perform_shown.Goals as goal

pub returns-in_err-show_texts : goal.returns-in_err-show_texts
returns-in_err-show_texts g c =
    let read = c.in_ok-job.ensures in
    let stops = c.in_err-show_texts.ensures.unshown in
    handed_on c.from_residual-in_err-show_texts.result _ _ _ c.from_residual-in_err-show_texts.ensures.1
    (inr (read.0, (_, rw c.as_slice.ensures.value read.1, (_, rw c.as_slice-2.ensures.value read.2, (_, refl, stops)))))
