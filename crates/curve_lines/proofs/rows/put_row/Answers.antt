use Rattle.fixed.specs.Fractions.{bits_of}
use Rattle.curve_lines.proofs.LineLaws.{row_text}
use Rattle.curve_lines.proofs.rows.put_row.Goals as goal

pub returns : goal.returns
returns g c =
    row_text (bits_of c.args.frac) c.args.columns c.args.row.now c.args.text.now.items _ _ _ _ _ _ _ _ _ c.in_ok-put_value.ensures
    c.in_ok-push.ensures.items c.in_ok-put_columns.ensures c.in_ok-put_grid.ensures c.in_ok-extend_from_slice.ensures.items c.jumps_of.ensures
    c.in_ok-extend_from_slice-2.ensures.items c.large_of.ensures c.in_ok-push-2.ensures.items
