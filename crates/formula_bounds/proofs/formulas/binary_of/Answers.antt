use Rattle.std.proofs.Common.{[], reverse}
use Rattle.fixed.specs.Fractions.{bits_of}
use Rattle.formula_bounds.proofs.StackLaws.{binary_after}
use Rattle.formula_bounds.proofs.formulas.binary_of.Goals as goal

pub returns : goal.returns
returns g c =
    let y = c.popped-second.ensures in
    let x = c.popped-first.ensures in
    binary_after (bits_of c.args.frac) [] [] c.args.operator (reverse c.args.stack.now.items)
    (reverse c.popped-second.new.stack.items) (reverse c.popped-first.new.stack.items) c.popped-second.result c.popped-first.result c.binary.result
    y.top y.rest x.top x.rest c.binary.ensures
