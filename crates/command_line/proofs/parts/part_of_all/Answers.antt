-- the numerals of a part are the texts before and after the first slash
use Rattle.std.proofs.Common.{◌≡◌, arith, inl, inr}
use Rattle.command_line.proofs.PartLaws.{no_part, part_texts, plain_once, writes_part}
use Rattle.command_line.proofs.parts.part_of_all.Goals as goal

pub returns-in_err-part : goal.returns-in_err-part
returns-in_err-part c = rw c.from_residual.ensures (λ p w. no_part c.args.text.now p c.in_err-part.ensures.cases w)

pub returns-in_err-part-2 : goal.returns-in_err-part-2
returns-in_err-part-2 c =
    let halves = c.in_ok-part in
    rw c.from_residual-in_err-part-2.ensures (λ p w.
    let texts = part_texts c.args.text.now (halves.part, halves.parts) p halves.ensures.cases w in
    let within = w.within in let fits = w.fits in
    c.in_err-part-2.ensures p.0 (omega (arith, within, fits)) texts.0)

pub returns-in_err-parts : goal.returns-in_err-parts
returns-in_err-parts c =
    let halves = c.in_ok-part in
    rw c.from_residual-in_err-parts.ensures (λ p w.
    let texts = part_texts c.args.text.now (halves.part, halves.parts) p halves.ensures.cases w in
    c.in_err-parts.ensures p.1 w.fits texts.1)

pub returns-else-part-ge1 : goal.returns-else-part-ge1
returns-else-part-ge1 c =
    let halves = c.in_ok-part in
    λ p w.
    let texts = part_texts c.args.text.now (halves.part, halves.parts) p halves.ensures.cases w in
    let first : p.0 ≡ c.in_ok-part-2.part = plain_once halves.part.now p.0 c.in_ok-part-2.part texts.0 c.in_ok-part-2.ensures in
    let second : p.1 ≡ c.in_ok-parts.parts = plain_once halves.parts.now p.1 c.in_ok-parts.parts texts.1 c.in_ok-parts.ensures in
    let some = w.some in
    let within = w.within in
    elim c.else-part-ge1.either [
      | inl past ↦ let over = past.1 in omega (arith, first, second, within, over)
      | inr below ↦ omega (arith, first, some, below)
    ]

pub returns-then-part-parts : goal.returns-then-part-parts
returns-then-part-parts c =
    let halves = c.in_ok-part in
    writes_part c.args.text.now (halves.part, halves.parts) _ _ halves.ensures.cases c.in_ok-part-2.ensures c.in_ok-parts.ensures
    c.if-part-ge1.true c.if-part-parts.true (omega arith)
