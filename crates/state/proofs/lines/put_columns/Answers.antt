use Rattle.std.proofs.Common.{◌≡◌, ◌++◌, ◌∙◌, ap}
use Rattle.std.proofs.lemmas.Int.{to_z-of_z}
use Rattle.std.specs.Fmt.{signed_decimal}
use mir.Syntax.{w32}
use Rattle.line_text.specs.Parts.{right_in, left_in}
use Rattle.line_text.specs.Names.{name_text}
use Rattle.line_text.proofs.ResidueNumbers.{number_short, number_fits_32}
use Rattle.state.proofs.Pieces.{in_three}
use Rattle.state.proofs.lines.put_columns.Goals as goal

pub put_right-requires-clause-fits : goal.put_right-requires-clause-fits
put_right-requires-clause-fits c =
    rw (c.as_bytes.ensures.value, c.format.ensures.text, to_z-of_z w32 c.args.atom.now.residue_number (number_fits_32 c.args.atom.now.residue_number c.args.atom.now.low c.args.atom.now.high))
    (number_short c.args.atom.now.residue_number c.args.atom.now.low c.args.atom.now.high)

pub returns-clause-items : goal.returns-clause-items
returns-clause-items c =
    let a = c.args.atom.now in
    let number : c.as_bytes.result.now ≡ signed_decimal a.residue_number =
    c.as_bytes.ensures.value ∙ c.format.ensures.text ∙ ap signed_decimal (to_z-of_z w32 a.residue_number (number_fits_32 a.residue_number a.low a.high)) in
    in_three c.args.line.now.items c.put_right.new.line.items c.put_left.new.line.items c.put_right-2.new.line.items
    (right_in 5 (signed_decimal a.residue_number)) (left_in 5 (name_text a.residue)) (right_in 5 (name_text a.name))
    (c.put_right.ensures.items ∙ ap (λ t. c.args.line.now.items ++ right_in 5 t) number)
    (c.put_left.ensures.items ∙ ap (λ t. c.put_right.new.line.items ++ left_in 5 t) c.as_bytes-2.ensures.text)
    (c.put_right-2.ensures.items ∙ ap (λ t. c.put_left.new.line.items ++ right_in 5 t) c.as_bytes-3.ensures.text)
