-- Rows below one another are more than a search finds.
use Rattle.std.proofs.Common.{rules, pos, ◌-ℤ◌, ◌∙◌, ap, sym, arith, unsigned_abs, w8}
use Rattle.std.proofs.lemmas.Int.{ints, to_z-of_z}
use Rattle.fixed.specs.Fractions.{bits_of}
use Rattle.energy_program.specs.Tree.{tree_of}
use Rattle.derivative.specs.Written.{moved}
use Rattle.derivative.proofs.Powers.{raised, lowered}
use Rattle.derivative.proofs.rows.power_row.Goals as goal

pub returns-in_ok-product : goal.returns-in_ok-product
returns-in_ok-product g c =
    let passed = to_z-of_z w8 c.args.exponent c.ranges.exponent in
    let lower = to_z-of_z w8 (c.args.exponent -ℤ pos 1) (search rules) in
    rw (
      sym (raised (bits_of c.args.frac) c.unsigned_abs.result c.args.exponent (moved c.args.by (tree_of c.args.u.now)) (tree_of c.args.du)
          (grind (arith, ints, c.if-exponent-gt0.true)) (grind (arith, ints, c.if-exponent-eq1.false)) (c.unsigned_abs.ensures.value ∙ ap unsigned_abs passed)),
      sym lower,
      sym passed,
    )
    (rw (c.in_ok-product.ensures, c.whole_number-factor.ensures, c.in_ok-lower.ensures, c.in_ok-moved.ensures) at c.binary-then-exponent-gt0.ensures)

pub returns-in_ok-binary : goal.returns-in_ok-binary
returns-in_ok-binary g c =
    let passed = to_z-of_z w8 c.args.exponent c.ranges.exponent in
    let below = rw passed at c.if-exponent-gt0.false in
    let higher = to_z-of_z w8 (pos 1 -ℤ c.args.exponent) (search rules) in
    rw (
      sym (lowered (bits_of c.args.frac) c.unsigned_abs.result c.args.exponent (moved c.args.by (tree_of c.args.u.now)) (tree_of c.args.du)
          below c.requires.exponent (c.unsigned_abs.ensures.value ∙ ap unsigned_abs passed)),
      sym higher,
      sym passed,
    )
    (rw (c.in_ok-binary.ensures, c.in_ok-product-2.ensures, c.whole_number-factor.ensures, c.in_ok-higher.ensures, c.in_ok-moved-2.ensures) at c.negated.ensures)
