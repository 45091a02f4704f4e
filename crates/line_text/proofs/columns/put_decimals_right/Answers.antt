-- The number has 64 bits, so its text is shorter than `put_decimals` promises of 128 bits.
use Rattle.std.proofs.Common.{◌≤◌, length, arith, rules, w64}
use Rattle.std.proofs.lemmas.Grind.{common_steps}
use mir.Val.{SFits}
use Rattle.line_text.specs.Columns.{decimals_text}
use Rattle.line_text.proofs.ColumnLaws.{length-decimals_text-le}
use Rattle.line_text.proofs.columns.put_decimals_right.Goals as goal

pub returns-clause-len : goal.returns-clause-len
returns-clause-len c =
    let fits : SFits w64 c.args.number = search rules in
    let short : length (decimals_text c.args.decimals c.args.number) ≤ 32 = length-decimals_text-le c.args.decimals c.args.number c.requires.some c.requires.few fits.sfits in
    grind (arith, common_steps)

pub put-requires : goal.put-requires
put-requires c =
    let fits : SFits w64 c.args.number = search rules in
    let short : length (decimals_text c.args.decimals c.args.number) ≤ 32 = length-decimals_text-le c.args.decimals c.args.number c.requires.some c.requires.few fits.sfits in
    grind (arith, common_steps)
