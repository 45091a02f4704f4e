use Rattle.std.proofs.Common.{◌≡◌, ◌∙◌, length, sym, arith}
use Rattle.std.proofs.lemmas.Bool.{eqb-false}
use Rattle.line_text.proofs.LineLaws.{cut_shorter}
use Rattle.gro.proofs.LineLaws.{ended_line, is_ended_line, is_last_line, last_line}
use Rattle.gro.proofs.lines.next_line.Goals as goal

pub returns-in-Some-clause-line : goal.returns-in-Some-clause-line
returns-in-Some-clause-line c = rw c.trim_returns.ensures (ended_line c.args.bytes.now c.in-Some.text.now c.in-Some.rest.now (sym c.in-Some.ensures))

pub returns-in-Some-clause-ended : goal.returns-in-Some-clause-ended
returns-in-Some-clause-ended c = is_ended_line c.args.bytes.now c.in-Some.text.now c.in-Some.rest.now (sym c.in-Some.ensures)

pub returns-in-Some-clause-shorter : goal.returns-in-Some-clause-shorter
returns-in-Some-clause-shorter c = omega (arith, cut_shorter 10 c.args.bytes.now c.in-Some.text.now c.in-Some.rest.now (sym c.in-Some.ensures))

pub returns-in-None-clause-line : goal.returns-in-None-clause-line
returns-in-None-clause-line c =
    let some : length c.args.bytes.now ≡ 0 → ⊥ = eqb-false (length c.args.bytes.now) 0 (sym c.is_empty.ensures ∙ c.if-is_empty.false) in
    rw c.trim_returns-in-None.ensures (last_line c.args.bytes.now (sym c.in-None.ensures) (omega arith))

pub returns-in-None-clause-ended : goal.returns-in-None-clause-ended
returns-in-None-clause-ended c = is_last_line c.args.bytes.now (sym c.in-None.ensures)
