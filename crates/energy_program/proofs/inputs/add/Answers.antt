use Rattle.std.proofs.Common.{Err, ap, sym, ◌∙◌}
use Rattle.energy_program.specs.Faults.{ReservedName}
use Rattle.energy_program.proofs.NameLemmas.{added_new, added_taken}
use Rattle.energy_program.proofs.inputs.add.Goals as goal

pub returns-then-is_new : goal.returns-then-is_new
returns-then-is_new g c =
    added_new c.args.names.now.keys c.in_ok-from_slice.field-0 c.args.name.now c.in_ok-from_slice.ensures.items (sym c.is_reserved.ensures ∙ c.if-is_reserved.false)
    c.insert.new.self.keys (sym c.in_ok-is_new.ensures.added ∙ c.if-is_new.true) c.in_ok-is_new.ensures.keys

pub returns : goal.returns
returns g c =
    rw (added_taken c.args.names.now.keys c.in_ok-from_slice.field-0 c.args.name.now c.in_ok-from_slice.ensures.items (sym c.is_reserved.ensures ∙ c.if-is_reserved.false) (sym c.in_ok-is_new.ensures.added ∙ c.if-is_new.false))
    (ap (λ n. Err (ReservedName n)) (sym c.in_ok-name-2.ensures))
