use Rattle.fixed.specs.Fractions.{bits_of}
use Rattle.curve_lines.proofs.LineLaws.{greatest_text}
use Rattle.curve_lines.proofs.summaries.put_bound_at.Goals as goal

pub returns : goal.returns
returns g c =
    greatest_text (bits_of c.args.frac) c.args.bound c.args.distance c.args.text.now.items _ _ _ c.in_ok-put_bound.ensures
    c.in_ok-extend_from_slice.ensures.items c.in_ok-put_value.ensures
