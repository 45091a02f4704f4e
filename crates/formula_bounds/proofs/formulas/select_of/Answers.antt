use Rattle.std.proofs.Common.{[], reverse}
use Rattle.fixed.specs.Fractions.{bits_of}
use Rattle.formula_bounds.proofs.StackLaws.{select_after}
use Rattle.formula_bounds.proofs.formulas.select_of.Goals as goal

pub returns : goal.returns
returns g c =
    let z = c.popped-otherwise.ensures in
    let y = c.popped-chosen.ensures in
    let x = c.popped-condition.ensures in
    select_after (bits_of c.args.frac) [] [] (reverse c.args.stack.now.items)
    (reverse c.popped-otherwise.new.stack.items) (reverse c.popped-chosen.new.stack.items) (reverse c.popped-condition.new.stack.items)
    c.popped-otherwise.result c.popped-chosen.result c.popped-condition.result c.select.result z.top z.rest y.top y.rest x.top x.rest c.select.ensures
