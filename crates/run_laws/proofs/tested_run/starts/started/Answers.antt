use Rattle.std.proofs.Common.{◌≡◌, Ok, ap, of_z, refl, rules, sym, to_z, w64, ◌∙◌}
use Rattle.job.specs.Views.{job_value}
use Rattle.state.specs.StateViews.{state_view}
use Rattle.integrator.proofs.StartLaws.{system_made, system_refused}
use Rattle.run_laws.specs.Starts.{start_at}
use Rattle.run_laws.specs.TestedStarts.{tested, tested_faults}
use Rattle.potential.specs.EnergyViews.{energy_view}
use Rattle.run_laws.proofs.RefusalLaws.{energy_handed_on, system_handed_on}
use Rattle.run_laws.proofs.RunLaws.{start_by, started}
use Rattle.run_laws.proofs.tested_run.starts.started.Goals as goal

pub returns-in-Err-clause-value : goal.returns-in-Err-clause-value
returns-in-Err-clause-value g c =
    rw c.of_energy.ensures (energy_handed_on tested c.args.direction c.args.steps (job_value c.args.job.now) (state_view c.args.state) c.in-Err.failure c.in-Err.ensures.value)

pub returns-in-Err-typed_atoms-clause-value : goal.returns-in-Err-typed_atoms-clause-value
returns-in-Err-typed_atoms-clause-value g c =
    let j = job_value c.args.job.now in
    let s = state_view c.args.state in
    let failure = c.in-Err-typed_atoms.failure in
    rw c.of_system.ensures
    (system_handed_on g.row.A.Denot tested c.args.direction c.args.steps j s failure (system_refused j s (energy_view c.in-Ok.parts) failure c.in-Ok.ensures.value c.in-Err-typed_atoms.ensures.value))

pub returns-clause-faults : goal.returns-clause-faults
returns-clause-faults g c =
    let j = job_value c.args.job.now in
    let parts = c.in-Ok.parts in
    let types = c.in-Ok-typed_atoms.atoms.types.items in
    record {
      system = (energy_view parts, types);
      made = system_made j (state_view c.args.state) (energy_view parts) types c.in-Ok.ensures.value c.in-Ok-typed_atoms.ensures.value;
      is = c.prepare.ensures.faults ∙ ap (λ parts. tested_faults j (energy_view parts) types) c.in_ok-kernel.ensures.parts;
    }

pub returns-in_default-clause-value : goal.returns-in_default-clause-value
returns-in_default-clause-value g c =
    let j = job_value c.args.job.now in
    let s = state_view c.args.state in
    let energy = energy_view c.in-Ok.parts in
    let types = c.in-Ok-typed_atoms.atoms.types.items in
    let none = sym c.counter_after.ensures.value ∙ c.in_default.is in
    start_by tested c.args.direction c.args.steps j s (energy, types) (system_made j s energy types c.in-Ok.ensures.value c.in-Ok-typed_atoms.ensures.value) ∙ rw none refl

pub returns-clause-value : goal.returns-clause-value
returns-clause-value g c =
    let j = job_value c.args.job.now in
    let s = state_view c.args.state in
    let energy = energy_view c.in-Ok.parts in
    let types = c.in-Ok-typed_atoms.atoms.types.items in
    let k = c.in-Some.counter in
    let counter : to_z w64 (of_z w64 k) ≡ k = search rules in
    let some = sym c.counter_after.ensures.value ∙ c.in-Some.is in
    let moved = ap (λ parts. start_at tested j s (energy_view parts, types) k) (sym c.in_ok-kernel.ensures.parts) in
    started tested c.args.direction c.args.steps j s (energy, types) k (system_made j s energy types c.in-Ok.ensures.value c.in-Ok-typed_atoms.ensures.value) some
    ∙ ap Ok (moved ∙ (ap (start_at tested j s (energy_view c.in_ok-kernel.kernel.parts, types)) (sym counter) ∙ sym c.prepare.ensures.value))
