use Rattle.std.proofs.Common.{◌≡◌, length, ap, ◌∙◌, arith, refl, rules, to_z, of_z, w64, slice_index}
use Rattle.fixed.specs.Fractions.{bits_of}
use Rattle.kernel_code.specs.Tables.{Table, inputs_of}
use Rattle.run_laws.specs.Outcomes.{fault_of, outcome_of}
use Rattle.run_laws.specs.Stops.{Faults}
use Rattle.potential.proofs.EnergyLaws.{length-rows}
use Rattle.run_laws.proofs.tested_run.starts.prepare.Goals as goal

pub returns-clause-value : goal.returns-clause-value
returns-clause-value g c =
    let counter : to_z w64 (of_z w64 c.args.counter) ≡ c.args.counter = search rules in
    rw (counter, c.requires.masses, c.requires.table) refl

pub invariant_of-result-clause-known : goal.invariant_of-result-clause-known
invariant_of-result-clause-known g c =
    let rows = ap (λ (t : Table). length t.rows) c.requires.table ∙ length-rows c.args.job.now.types.items in
    λ k d h. let l = c.requires.known k d h in omega arith

pub returns-clause-faults : goal.returns-clause-faults
returns-clause-faults g c =
    let code = c.args.kernel.parts.code in
    let types = c.args.atoms.types.items in
    let faults : Table → Faults = λ t p r. fault_of (outcome_of (bits_of t.frac) code (inputs_of t (slice_index types p.0) (slice_index types p.1) r)) in
    ap faults c.requires.table
