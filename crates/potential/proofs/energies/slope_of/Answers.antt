use Rattle.std.specs.Prelude.{map}
use Rattle.std.proofs.lemmas.Result.{err_from_is_err_and}
use Rattle.fixed.specs.Fractions.{bits_of}
use Rattle.energy_program.specs.Programs.{program_tree, trees_of}
use Rattle.energy_program.specs.Tree.{tree_of}
use Rattle.potential.proofs.EnergyLaws.{code_refused, energy_made, slope_refused}
use Rattle.potential.proofs.CodeSlopeLaws.{computes}
use Rattle.potential.proofs.energies.slope_of.Goals as goal

pub returns-in_err-program-clause-value : goal.returns-in_err-program-clause-value
returns-in_err-program-clause-value g c =
    let p = err_from_is_err_and c.from_residual.result c.from_residual.ensures.1 in
    rw (p.1, p.2) (slope_refused (bits_of c.args.frac) (trees_of c.args.energy.now) c.in_err-program.field-0.0 c.in_err-program.ensures.exact)

pub returns-in_err-code-clause-value : goal.returns-in_err-code-clause-value
returns-in_err-code-clause-value g c =
    let p = err_from_is_err_and c.from_residual-in_err-code.result c.from_residual-in_err-code.ensures.1 in
    rw (p.1, p.2)
    (code_refused (bits_of c.args.frac) (trees_of c.args.energy.now) (trees_of c.in_ok-program.program) c.in_err-code.field-0.0 c.in_ok-program.ensures.exact c.in_err-code.ensures.exact)

pub returns-clause-value : goal.returns-clause-value
returns-clause-value g c =
    energy_made (bits_of c.args.frac) (trees_of c.args.energy.now) (trees_of c.in_ok-program.program) c.in_ok-code.code c.in_ok-program.ensures.exact c.in_ok-code.ensures.exact

pub returns-clause-compiled : goal.returns-clause-compiled
returns-clause-compiled g c =
    let slope = c.in_ok-program.program in
    λ inputs h.
    let h' = rw (← c.in_ok-program.ensures.parameters, ← c.in_ok-program.ensures.globals) at h in
    computes (bits_of c.args.frac) (program_tree c.args.energy.now) (tree_of slope.body) (map tree_of slope.definitions.items) c.in_ok-code.code inputs c.as_slice.ensures.code.forward (c.in_ok-program.ensures.value inputs) (c.in_ok-code.ensures.value inputs h')
