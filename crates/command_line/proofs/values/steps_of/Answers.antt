use Rattle.std.proofs.Common.{◌≡◌, arith, inl, inr, sym}
use Rattle.command_line.proofs.CountLaws.{said_text, steps_once}
use Rattle.clap.specs.Words.{found_of, rows_of}
use Rattle.command_line.proofs.values.steps_of.Goals as goal

pub returns-in_err-count : goal.returns-in_err-count
returns-in_err-count c =
    let rows = rows_of (found_of c.args.matches.now) in
    let text = c.in_ok-text.text.now in
    rw c.from_residual-in_err-count.ensures (λ n is. let within = is.1 in
    c.in_err-count.ensures n (omega (arith, within)) (said_text c.args.name.now rows text n c.in_ok-text.ensures is.2))

pub returns-then-count-most : goal.returns-then-count-most
returns-then-count-most c = (c.if-least-count.true, c.if-count-most.true, (c.in_ok-text.text.now, sym c.in_ok-text.ensures, c.in_ok-count.ensures))

pub returns-else-least-count : goal.returns-else-least-count
returns-else-least-count c =
    let rows = rows_of (found_of c.args.matches.now) in
    let text = c.in_ok-text.text.now in
    let count = c.in_ok-count.count in
    λ n is. let some = is.0 in let within = is.1 in
    let same : n ≡ count = steps_once text n count (said_text c.args.name.now rows text n c.in_ok-text.ensures is.2) c.in_ok-count.ensures in
    elim c.else-least-count.either [
      | inl past ↦ omega (arith, same, within, past.1)
      | inr below ↦ omega (arith, same, some, below)
    ]
