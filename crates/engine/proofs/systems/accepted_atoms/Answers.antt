use Rattle.std.proofs.Common.{◌-◌, ◌*◌, ◌^◌, ◌≤◌, length, rules}
use Rattle.std.proofs.lemmas.List.{length-map}
use Rattle.fallible.specs.declared.failure.Failure.TheVariants.{Refused}
use Rattle.job.specs.Views.{job_value}
use Rattle.state.specs.StateViews.{atom_view, state_view}
use Rattle.integrator.proofs.StartLaws.{system_made, system_refused}
use Rattle.engine.specs.Engines.{HasNoEngine, IsOfState}
use Rattle.engine.specs.declared.faults.InputFault.TheVariants as input
use Rattle.engine.proofs.EngineLaws.{fails, handed_on, passes}
use Rattle.engine.proofs.systems.accepted_atoms.Goals as goal

pub returns-in-Err-clause-refused : goal.returns-in-Err-clause-refused
returns-in-Err-clause-refused g c =
    let j = job_value c.args.job.now in
    let s = state_view c.args.state.now in
    handed_on _ input.System c.in-Err.failure _ _ (λ f. IsOfState f × HasNoEngine j s f) c.refused_as.ensures (λ f t b. search rules)
    (fails _ c.in-Err.failure _ c.in-Err.ensures.value)
    (λ f h. (tt, system_refused j s c.requires.energy (Refused f) c.requires.made h))

pub returns-then-not-forces_fit-clause-refused : goal.returns-then-not-forces_fit-clause-refused
returns-then-not-forces_fit-clause-refused g c =
    let j = job_value c.args.job.now in
    let s = state_view c.args.state.now in
    let told = c.in-Ok.ensures in
    let far : 2 ^ 63 ≤ c.args.kernel.now.verified.bound * (length c.args.state.now.atoms.items - 1) = search rules in (
      tt,
      record {
        system = (c.requires.energy, c.in-Ok.atoms.types.items);
        made = system_made j s c.requires.energy c.in-Ok.atoms.types.items c.requires.made told.value;
        it = passes j c.requires.energy.code c.args.kernel.now.verified _ c.requires.accepted (rw (length-map c.args.state.now.atoms.items atom_view) far);
      },
    )
