use Rattle.std.proofs.Common.{refl}
use Rattle.fixed.specs.Fractions.{bits_of}
use Rattle.energy_program.specs.Tree.{variable_count}
use Rattle.energy_program.specs.Programs.{trees_of}
use Rattle.derivative.specs.Derive.{with_all}
use Rattle.derivative.proofs.Final.{derived}
use Rattle.derivative.proofs.derivative.derive.Goals as goal

pub invariant_of-result-clause-body_scoped : goal.invariant_of-result-clause-body_scoped
invariant_of-result-clause-body_scoped g c =
    (derived c.args.frac (variable_count c.args.program.now.parameters c.args.program.now.globals) c.args.program.now.body c.in_ok-slope.slope.body c.args.program.now.definitions.items c.in_ok-slope.slope.definitions.items (with_all (bits_of c.args.frac) (trees_of c.args.program.now))
    refl c.in_ok-slope.ensures c.args.program.now.body_scoped c.args.program.now.definitions_scoped).body_in

pub invariant_of-result-clause-definitions_scoped : goal.invariant_of-result-clause-definitions_scoped
invariant_of-result-clause-definitions_scoped g c =
    (derived c.args.frac (variable_count c.args.program.now.parameters c.args.program.now.globals) c.args.program.now.body c.in_ok-slope.slope.body c.args.program.now.definitions.items c.in_ok-slope.slope.definitions.items (with_all (bits_of c.args.frac) (trees_of c.args.program.now))
    refl c.in_ok-slope.ensures c.args.program.now.body_scoped c.args.program.now.definitions_scoped).definitions_in

pub returns-clause-value : goal.returns-clause-value
returns-clause-value g c =
    (derived c.args.frac (variable_count c.args.program.now.parameters c.args.program.now.globals) c.args.program.now.body c.in_ok-slope.slope.body c.args.program.now.definitions.items c.in_ok-slope.slope.definitions.items (with_all (bits_of c.args.frac) (trees_of c.args.program.now))
    refl c.in_ok-slope.ensures c.args.program.now.body_scoped c.args.program.now.definitions_scoped).value

pub returns-clause-needed : goal.returns-clause-needed
returns-clause-needed g c =
    (derived c.args.frac (variable_count c.args.program.now.parameters c.args.program.now.globals) c.args.program.now.body c.in_ok-slope.slope.body c.args.program.now.definitions.items c.in_ok-slope.slope.definitions.items (with_all (bits_of c.args.frac) (trees_of c.args.program.now))
    refl c.in_ok-slope.ensures c.args.program.now.body_scoped c.args.program.now.definitions_scoped).needed
