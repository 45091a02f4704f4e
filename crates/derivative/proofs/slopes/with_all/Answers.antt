use Rattle.std.proofs.Common.{◌≡◌, arith, rules, length}
use Rattle.fixed.specs.Fractions.{bits_of}
use Rattle.energy_program.specs.Tree.{variable_count, tree_of}
use Rattle.derivative.proofs.Scoped.{writable_body}
use Rattle.derivative.proofs.Whole.{written}
use Rattle.derivative.proofs.slopes.with_all.Goals as goal

pub slope-requires : goal.slope-requires
slope-requires g c =
    let few = c.args.program.now.few_definitions in
    let counted : c.len-by.result ≡ length c.args.program.now.definitions.items = search rules in
    writable_body (variable_count c.args.program.now.parameters c.args.program.now.globals) c.len-by.result (length c.args.program.now.definitions.items) (tree_of c.args.program.now.body)
    counted (omega arith) c.args.program.now.body_scoped

pub returns : goal.returns
returns g c =
    let counted : c.len-by.result ≡ length c.args.program.now.definitions.items = search rules in
    written (bits_of c.args.frac) c.len-by.result c.in_ok-free.free.items c.deref.result.now c.deref-2.result.now c.args.program.now.body c.in_ok-body.body.tree
    c.args.program.now.definitions.items c.in_ok-definitions.definitions.items counted c.deref.ensures.value c.deref-2.ensures.value
    c.in_ok-free.ensures c.in_ok-definitions.ensures c.in_ok-body.ensures.tree
