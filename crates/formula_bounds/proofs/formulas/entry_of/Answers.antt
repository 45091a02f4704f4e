use Rattle.std.proofs.Common.{reverse, rules}
use Rattle.std.proofs.lemmas.Int.{to_z-of_z}
use mir.Syntax.{w8}
use mir.Val.{SFits}
use Rattle.fixed.specs.Fractions.{bits_of}
use Rattle.formula_bounds.proofs.StackLaws.{definition_after, power_after}
use Rattle.formula_bounds.proofs.formulas.entry_of.Goals as goal

pub returns-in-Definition : goal.returns-in-Definition
returns-in-Definition g c =
    rw c.in-Definition.is
    (definition_after (bits_of c.args.frac) c.args.inputs.now c.args.known.now c.in-Definition.number (reverse c.args.stack.now.items) c.known_at.result c.known_at.ensures)

pub returns-in-Binary : goal.returns-in-Binary
returns-in-Binary g c = rw c.in-Binary.is c.binary_of.ensures

pub returns-in-Select : goal.returns-in-Select
returns-in-Select g c = rw c.in-Select.is c.select_of.ensures

pub returns-in-Power : goal.returns-in-Power
returns-in-Power g c =
    let y = c.popped-in-Power.ensures in
    let fits : SFits w8 c.in-Power.exponent = search rules in
    let r = simp (to_z-of_z, fits) at c.power.ensures in
    rw c.in-Power.is
    (power_after (bits_of c.args.frac) c.args.inputs.now c.args.known.now c.in-Power.exponent (reverse c.args.stack.now.items)
    (reverse c.popped-in-Power.new.stack.items) c.popped-in-Power.result c.power.result y.top y.rest r)
