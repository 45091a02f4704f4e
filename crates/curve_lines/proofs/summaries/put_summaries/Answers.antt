use Rattle.std.specs.Prelude.{true}
use Rattle.std.proofs.lemmas.Result.{IfOk-weaker}
use Rattle.fixed.specs.Fractions.{bits_of}
use Rattle.curve_lines.proofs.LineLaws.{both_summaries}
use Rattle.curve_lines.proofs.summaries.put_summaries.Goals as goal

pub returns-in_ok-extend_from_slice-in-All : goal.returns-in_ok-extend_from_slice-in-All
returns-in_ok-extend_from_slice-in-All g c =
    rw c.in-All.is
    (IfOk-weaker c.put_summary-in-All.result _ _
    (λ _ s. both_summaries (bits_of c.args.frac) true c.args.energy c.args.slope c.args.text.now.items _ _ _ c.in_ok-put_summary-in-All.ensures
    c.in_ok-extend_from_slice-in-All.ensures.items s)
    c.put_summary-in-All.ensures)
