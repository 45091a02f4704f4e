use Rattle.std.proofs.Common.{length, sym, ◌∙◌}
use Rattle.energy_program.proofs.Scopes.{program_parts}
use Rattle.energy_program.proofs.programs.Program.new.Goals as goal

pub invariant_of-result : goal.invariant_of-result
invariant_of-result g c =
    let p = program_parts (length c.args.definitions.items) c.args.parameters c.args.globals _ _ (sym (rw c.deref.ensures.value at c.is_program.ensures) ∙ c.if-is_program.true) in
    record { few_definitions = p.0; few_parameters = p.1; few_globals = p.2; body_scoped = p.3; definitions_scoped = p.4 }
