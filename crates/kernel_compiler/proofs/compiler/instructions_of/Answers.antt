use Rattle.std.proofs.Common.{◌≡◌, length, refl, ap, ◌∙◌, arith}
use Rattle.std.proofs.lemmas.List.{length-map}
use Rattle.fixed.specs.Fractions.{bits_of}
use Rattle.energy_program.specs.Tree.{tree_of}
use Rattle.energy_program.specs.Programs.{body_of, definitions_of}
use Rattle.energy_program.specs.Uses.{marks_of}
use Rattle.kernel_compiler.specs.Sizes.{definitions_size}
use Rattle.energy_program.proofs.MarkLaws.{length-marks}
use Rattle.kernel_compiler.proofs.Limits.{within_has}
use Rattle.kernel_compiler.proofs.WholeLaws.{body_emittable, definitions_emittable, whole_code}
use Rattle.kernel_compiler.proofs.compiler.instructions_of.Goals as goal

pub emit_definitions-requires-clause-within : goal.emit_definitions-requires-clause-within
emit_definitions-requires-clause-within g c =
    omega (arith, ap length c.deref.ensures.value, ap length c.requires.marked, length-marks (body_of c.args.program.now) (definitions_of c.args.program.now), length-map c.args.program.now.definitions.items tree_of)

pub emit_definitions-requires-clause-room : goal.emit_definitions-requires-clause-room
emit_definitions-requires-clause-room g c =
    let short = within_has (bits_of c.args.frac) (body_of c.args.program.now) (definitions_of c.args.program.now) c.requires.within in
    rw (c.deref.ensures.value, c.requires.marked) (omega arith)

pub emit_definitions-requires-clause-operands : goal.emit_definitions-requires-clause-operands
emit_definitions-requires-clause-operands g c =
    rw c.deref.ensures.value (definitions_emittable c.args.program.now)

pub emit-requires-clause-room : goal.emit-requires-clause-room
emit-requires-clause-room g c =
    let short = within_has (bits_of c.args.frac) (body_of c.args.program.now) (definitions_of c.args.program.now) c.requires.within in
    let l : length c.emit_definitions.new.code.items ≡ definitions_size 0 (marks_of (body_of c.args.program.now) (definitions_of c.args.program.now)) (definitions_of c.args.program.now) =
    c.in_ok-emit_definitions.ensures.len ∙ rw (c.deref.ensures.value, c.requires.marked) refl in
    omega arith

pub emit-requires-clause-operands : goal.emit-requires-clause-operands
emit-requires-clause-operands g c = body_emittable c.args.program.now

pub returns : goal.returns
returns g c =
    whole_code (bits_of c.args.frac) (body_of c.args.program.now) (definitions_of c.args.program.now) c.args.marks.now c.emit_definitions.new.code.items c.emit.new.code.items
    c.requires.marked
    (c.in_ok-emit_definitions.ensures.items ∙ rw c.deref.ensures.value refl)
    c.in_ok-emit.ensures.items
