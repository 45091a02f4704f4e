use Rattle.std.proofs.Common.{◌≤◌, ◌<◌, ◌-◌, ◌*◌, ◌^◌, length, Ok, arith, rules, ap, refl, subst, sym, ◌∙◌, map}
use Rattle.std.proofs.lemmas.List.{length-map}
use Rattle.energy_program.specs.Programs.{program_tree, trees_of}
use Rattle.energy_program.specs.Faults as energies
use Rattle.energy_program.specs.declared.programs.Program.{Program}
use Rattle.fallible.specs.declared.failure.Failure.TheVariants.{Refused}
use Rattle.job.specs.Views.{job_value, type_value}
use Rattle.kernel_code.specs.Tables.{Table}
use Rattle.state.specs.StateViews.{atom_view, state_view}
use Rattle.potential.specs.EnergyViews.{energy_view}
use Rattle.potential.specs.declared.faults.EnergyFault.TheVariants as energy
use Rattle.potential.proofs.EnergyLaws.{length-rows}
use Rattle.integrator.proofs.ReturnLaws.{system_parts}
use Rattle.integrator.proofs.StartLaws.{energy_unready, system_made, system_refused}
use Rattle.engine.specs.Engines.{HasNoEngine, SaysOnly}
use Rattle.engine.specs.declared.faults.InputFault.TheVariants as input
use Rattle.engine.proofs.EngineLaws.{code_rejected, fails, handed_on, is_safe, job_tree_is, passes}
use Rattle.engine.proofs.SpecifiedTexts.{says_energy}
use Rattle.engine.proofs.TakenLaws.{size_is}
use Rattle.engine.proofs.systems.accepted_system.Goals as goal

pub returns-in-Err-clause-refused : goal.returns-in-Err-clause-refused
returns-in-Err-clause-refused g c =
    let j = job_value c.args.job.now in
    let s = state_view c.args.state.now in
    handed_on _ (λ f. input.Energy (energy.Energy f)) c.in-Err.failure _ _ (HasNoEngine j s) c.refused_as.ensures (λ f t b. search rules)
    (fails _ c.in-Err.failure _ c.in-Err.ensures.value) (λ f h. energy_unready j s (energies.refusal_of f) h)

pub returns-in-Err-typed_atoms-clause-refused : goal.returns-in-Err-typed_atoms-clause-refused
returns-in-Err-typed_atoms-clause-refused g c =
    let j = job_value c.args.job.now in
    let s = state_view c.args.state.now in
    handed_on _ input.System c.in-Err-typed_atoms.failure _ _ (HasNoEngine j s) c.refused_as-in-Err-typed_atoms.ensures (λ f t b. search rules)
    (fails _ c.in-Err-typed_atoms.failure _ c.in-Err-typed_atoms.ensures.value)
    (λ f h. system_refused j s (energy_view c.in-Ok.parts) (Refused f) c.in-Ok.ensures.value h)

pub returns-in-Err-new-clause-refused : goal.returns-in-Err-new-clause-refused
returns-in-Err-new-clause-refused g c =
    let j = job_value c.args.job.now in
    let s = state_view c.args.state.now in
    let e = energy_view c.in-Ok.parts in
    let types = c.in-Ok-typed_atoms.atoms.types.items in
    handed_on _ input.Energy c.in-Err-new.failure _ _ (HasNoEngine j s) c.refused_as-in-Err-new.ensures (λ f t b. search rules)
    c.in-Err-new.ensures.refused
    (code_rejected j s e types (system_made j s e types c.in-Ok.ensures.value c.in-Ok-typed_atoms.ensures.value))

pub returns-then-not-forces_fit-clause-refused : goal.returns-then-not-forces_fit-clause-refused
returns-then-not-forces_fit-clause-refused g c =
    let j = job_value c.args.job.now in
    let s = state_view c.args.state.now in
    let energy = energy_view c.in-Ok.parts in
    let types = c.in-Ok-typed_atoms.atoms.types.items in
    let far : 2 ^ 63 ≤ c.in-Ok-new.kernel.verified.bound * (length c.args.state.now.atoms.items - 1) = search rules in
    record {
      system = (energy, types);
      made = system_made j s energy types c.in-Ok.ensures.value c.in-Ok-typed_atoms.ensures.value;
      it = passes j c.in-Ok.parts.code c.in-Ok-new.kernel.verified _ c.in-Ok-new.ensures.accepted (rw (length-map c.args.state.now.atoms.items atom_view) far);
    }

pub returns-clause-safe : goal.returns-clause-safe
returns-clause-safe g c =
    let j = job_value c.args.job.now in
    let s = state_view c.args.state.now in
    let energy = energy_view c.in-Ok.parts in
    let atoms = c.in-Ok-typed_atoms.atoms in
    let told = c.in-Ok-typed_atoms.ensures in
    let under = c.in-Ok-new.ensures.accepted.under in
    let types = c.args.job.now.types.items in
    let rows = ap (λ (t : Table). length t.rows) under.table ∙ length-rows types in
    let fits : c.in-Ok-new.kernel.verified.bound * (length c.args.state.now.atoms.items - 1) < 2 ^ 63 = search rules in
    record {
      frac = ap (λ (t : Table). t.frac) under.table;
      core = under.core;
      cutoff = under.cutoff;
      known = λ k d h. let l = told.known k d h in omega arith;
      fits = rw (size_is (map type_value types) atoms.masses.items atoms.types.items _ told.masses told.count) fits;
      room = (system_parts j s (energy, atoms.types.items) (system_made j s energy atoms.types.items c.in-Ok.ensures.value told.value)).room;
    }

pub returns-clause-system : goal.returns-clause-system
returns-clause-system g c =
    let parts = c.in-Ok.ensures in
    let made = c.in-Ok-new.ensures in
    let atoms = c.in-Ok-typed_atoms.atoms in
    let told = c.in-Ok-typed_atoms.ensures in
    let types = map type_value c.args.job.now.types.items in
    let energy = ap program_tree made.energy ∙ sym (job_tree_is (job_value c.args.job.now) (energy_view c.in-Ok.parts) parts.value) in
    record {
      dynamics = rw (made.accepted.under.table, told.masses, energy) refl;
      energy = energy;
      program = parts.program ∙ ap (λ (p : Program g.row.A.Denot). Ok (trees_of p)) (sym made.energy);
      atoms = sym (size_is types atoms.masses.items atoms.types.items _ told.masses told.count);
      table = made.accepted.under.table;
      parameters = rw made.energy parts.parameters;
      globals = rw made.energy parts.globals;
      core = refl;
      cutoff = refl;
      slope = record { energy = energy_view c.in-Ok.parts; made = parts.value; accepted = made.accepted };
    }

pub returns-clause-of : goal.returns-clause-of
returns-clause-of g c =
    let j = job_value c.args.job.now in
    let s = state_view c.args.state.now in
    let energy = energy_view c.in-Ok.parts in
    let types = c.in-Ok-typed_atoms.atoms.types.items in
    let fits : c.in-Ok-new.kernel.verified.bound * (length c.args.state.now.atoms.items - 1) < 2 ^ 63 = search rules in
    record {
      system = (energy, types);
      made = system_made j s energy types c.in-Ok.ensures.value c.in-Ok-typed_atoms.ensures.value;
      is = refl;
      safe = is_safe j c.in-Ok.parts.code c.in-Ok-new.kernel.verified _ c.in-Ok-new.ensures.accepted (rw (length-map c.args.state.now.atoms.items atom_view) fits);
    }

pub returns-clause-says : goal.returns-clause-says
returns-clause-says g c =
    let j = job_value c.args.job.now in
    let energy = energy_view c.in-Ok.parts in
    subst (SaysOnly j) (sym (job_tree_is j energy c.in-Ok.ensures.value)) (says_energy j energy c.in-Ok.ensures.value)
