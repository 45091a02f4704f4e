use Rattle.fixed.specs.Fractions.{bits_of}
use Rattle.curve_lines.proofs.LineLaws.{last_line}
use Rattle.curve_lines.proofs.summaries.put_last.Goals as goal

pub returns : goal.returns
returns g c =
    last_line (bits_of c.args.frac) c.args.columns c.args.energy c.args.slope c.args.text.now.items _ _ _
    c.in_ok-extend_from_slice.ensures.items c.in_ok-put_summaries.ensures c.in_ok-push.ensures.items
