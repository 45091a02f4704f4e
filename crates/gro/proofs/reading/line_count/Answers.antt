use Rattle.std.proofs.Common.{◌≡◌, ◌<◌, ◌∙◌, ℕ, inl, inr, refl, sym, subst, arith}
use Rattle.line_text.specs.Written.{WritesWhole}
use Rattle.gro.proofs.CountLaws.{no_count, no_digits, digits_there, none_limited, some_limited}
use Rattle.gro.proofs.reading.line_count.Goals as goal

pub returns-then-is_empty-clause-fault : goal.returns-then-is_empty-clause-fault
returns-then-is_empty-clause-fault c =
    (refl, no_count c.args.text.now (no_digits c.args.text.now c.trim-digits.result.now c.trim-digits.ensures.trimmed (inl (sym c.is_empty.ensures ∙ c.if-is_empty.true))))

pub returns-in_default-clause-fault : goal.returns-in_default-clause-fault
returns-in_default-clause-fault c =
    (refl, no_count c.args.text.now (no_digits c.args.text.now c.trim-digits.result.now c.trim-digits.ensures.trimmed (inr (none_limited 65537 _ c.in_default.ensures.exact))))

pub returns-then-count-gt-MAX_ATOMS-clause-fault : goal.returns-then-count-gt-MAX_ATOMS-clause-fault
returns-then-count-gt-MAX_ATOMS-clause-fault c =
    let digits = c.trim-digits.result.now in
    let read = some_limited 65537 _ c.in-Some.count c.in-Some.ensures.exact in
    let there = digits_there c.args.text.now digits read.0 c.trim-digits.ensures.trimmed (sym c.is_empty.ensures ∙ c.if-is_empty.false) read.1 in
    let many : 65536 < read.0 = omega (arith, read.2) in
    (refl, (digits, read.0, there.0, there.1, many))

pub returns-clause-found : goal.returns-clause-found
returns-clause-found c =
    let digits = c.trim-digits.result.now in
    let read = some_limited 65537 _ c.in-Some.count c.in-Some.ensures.exact in
    let there = digits_there c.args.text.now digits read.0 c.trim-digits.ensures.trimmed (sym c.is_empty.ensures ∙ c.if-is_empty.false) read.1 in
    let same : read.0 ≡ c.in-Some.count = omega (arith, read.2) in
    record { digits = digits; padded = there.0; number = subst (λ (n : ℕ). WritesWhole digits n) same there.1; few = omega arith }
