use Rattle.std.proofs.Common.{length, ◌∙◌, ap, ◌%◌, ◌<◌, ◌^◌, arith}
use Rattle.std.proofs.lemmas.Int.{to_z-of_z}
use Rattle.std.proofs.lemmas.Fmt.{length-decimal-le}
use Rattle.std.proofs.lemmas.Nat.{mod_below}
use mir.Syntax.{w32}
use Rattle.line_text.proofs.ResidueNumbers.{number_short, number_fits_32}
use Rattle.gro.proofs.writing.whole_atom_line.Goals as goal

pub put_right-requires-clause-fits : goal.put_right-requires-clause-fits
put_right-requires-clause-fits c =
    rw (c.as_bytes.ensures.value, c.format.ensures.text, to_z-of_z w32 c.args.atom.now.number (number_fits_32 c.args.atom.now.number c.args.atom.now.low c.args.atom.now.high))
    (number_short c.args.atom.now.number c.args.atom.now.low c.args.atom.now.high)

pub put_right-requires-3-clause-fits : goal.put_right-requires-3-clause-fits
put_right-requires-3-clause-fits c =
    let below : c.args.index % 100000 < 10 ^ 5 = mod_below c.args.index 100000 (omega arith) in
    omega (arith, ap length (c.as_bytes-4.ensures.value ∙ c.format-2.ensures.text), length-decimal-le 5 (c.args.index % 100000) (omega arith) below (omega arith))
