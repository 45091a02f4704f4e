use Rattle.std.proofs.lemmas.Result.{IfOk-weaker}
use Rattle.fixed.specs.Fractions.{bits_of}
use Rattle.curve_lines.proofs.LineLaws.{summary_text}
use Rattle.curve_lines.proofs.summaries.put_summary.Goals as goal

pub returns : goal.returns
returns g c =
    IfOk-weaker c.put_without.result _ _
    (λ _ h. summary_text (bits_of c.args.frac) c.args.name.now c.args.summary c.args.text.now.items _ _ _ _
    c.in_ok-extend_from_slice.ensures.items c.in_ok-push.ensures.items c.in_ok-put_greatest.ensures h)
    c.put_without.ensures
