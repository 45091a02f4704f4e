use Rattle.std.proofs.Common.{◌≡◌, ◌∙◌, ap, sym, arith, unsigned_abs}
use Rattle.std.proofs.lemmas.Int.{ints, to_z-of_z}
use Rattle.fixed.specs.Fractions.{bits_of}
use Rattle.error_bounds.specs.Approximate.{approximate}
use Rattle.formula_bounds.specs.Entries.{reciprocal_row}
use Rattle.formula_bounds.proofs.RowLaws.{row_below}
use Rattle.formula_bounds.proofs.entries.power_slope.Goals as goal

pub returns-else-n-ge0 : goal.returns-else-n-ge0
returns-else-n-ge0 c =
    let m : c.from-magnitude.result ≡ unsigned_abs c.args.n = c.from-magnitude.ensures ∙ simp (to_z-of_z, c.ranges.n) at c.unsigned_abs.ensures.value in
    let below = simp (to_z-of_z, c.ranges.n) at c.if-n-ge0.false in
    c.reciprocal_slope.ensures
    ∙ ap (λ k. reciprocal_row (approximate (bits_of c.args.frac)) c.args.x.now.value k c.args.x.now.slope) m
    ∙ sym (row_below (approximate (bits_of c.args.frac)) c.args.x.now.value c.args.n c.args.x.now.slope (omega (arith, ints)))
