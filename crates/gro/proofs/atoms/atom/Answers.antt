use Rattle.std.proofs.Common.{◌≡◌, ◌≤◌, ◌∙◌, false, Some, length, refl, sym, arith}
use Rattle.std.proofs.lemmas.Grind.{common_steps}
use Rattle.gro.specs.Frames.{atom_view}
use Rattle.gro.specs.GroReading.{points_of}
use Rattle.gro.proofs.AtomLaws.{fields_written}
use Rattle.gro.proofs.FaultLaws.{no_fields, no_points, points_found}
use Rattle.gro.proofs.atoms.atom.Goals as goal

pub returns-in-None-clause-fault : goal.returns-in-None-clause-fault
returns-in-None-clause-fault c =
    let long : c.args.line.ended ≡ false → 44 ≤ length c.args.line.text.now = grind (arith, common_steps) in
    let bad = no_points c.args.line.text.now (sym c.in-None.ensures) in
    (refl, long, bad.0, bad.1)

pub returns-in-Some-fields-clause-found : goal.returns-in-Some-fields-clause-found
returns-in-Some-fields-clause-found c =
    fields_written c.args.line.text.now (atom_view c.in-Some-fields.atom) (sym c.is_printable.ensures ∙ c.if-not-is_printable.false) (sym c.in-Some-fields.ensures)

pub returns-in-None-fields-clause-fault : goal.returns-in-None-fields-clause-fault
returns-in-None-fields-clause-fault c =
    let long : c.args.line.ended ≡ false → 44 ≤ length c.args.line.text.now = grind (arith, common_steps) in
    let points : points_of c.args.line.text.now ≡ Some 8 = grind (arith, common_steps) in
    let bad = no_fields c.args.line.text.now points (sym c.in-None-fields.ensures) in
    (refl, long, bad.0, bad.1)

pub returns-in-Some-clause-fault : goal.returns-in-Some-clause-fault
returns-in-Some-clause-fault c =
    let long : c.args.line.ended ≡ false → 44 ≤ length c.args.line.text.now = grind (arith, common_steps) in
    let other : c.in-Some.field-0 ≡ 8 → ⊥ = grind (arith, common_steps) in
    let points = points_found c.args.line.text.now c.in-Some.field-0 (sym c.in-Some.ensures) in
    (refl, long, (sym c.is_printable.ensures ∙ c.if-not-is_printable.false, (c.in-Some.field-0, points, other)))
