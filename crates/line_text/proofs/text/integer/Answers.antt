use Rattle.std.proofs.Common.{◌≡◌, ◌∙◌, sym, ap, Ok, Some}
use Rattle.std.proofs.lemmas.Bool.{both_ways}
use Rattle.std.proofs.lemmas.Str.{IsUtf8-from_ascii}
use Rattle.std.proofs.lemmas.Fmt.{IsAscii-signed, parse-signed_decimal}
use Rattle.std.specs.Fmt.{signed_decimal}
use Rattle.std.proofs.lemmas.Int.{to_z-of_z}
use mir.Syntax.{w64}
use mir.Val.{SFits as FitsSigned}
use Rattle.line_text.proofs.PartLaws.{integer_is, fits_mag, same_bytes, bytes_same}
use Rattle.line_text.proofs.text.integer.Goals as goal

pub returns-in_default : goal.returns-in_default
returns-in_default c = integer_is c.args.text.now _
    (λ n lt e. c.in_default.ensures.cases.0 (IsUtf8-from_ascii c.args.text.now (rw e (IsAscii-signed n lt))))

pub returns-in_default-parse : goal.returns-in_default-parse
returns-in_default-parse c = integer_is c.args.text.now _
    (λ n lt e. c.in_default-parse.not-Ok n (parse-signed_decimal w64 n c.in-Ok.words.now c.parse.result (fits_mag n lt) lt (c.in-Ok.ensures.cases.0 ∙ e) c.parse.ensures.value.0))

fits : (c : goal.Then-eq) → FitsSigned w64 c.in-Ok-parse.value
fits c = let v = c.in-Ok-parse.ensures.value.0 in rw v.1 v.0.1

fits_else : (c : goal.Else-eq) → FitsSigned w64 c.in-Ok-parse.value
fits_else c = let v = c.in-Ok-parse.ensures.value.0 in rw v.1 v.0.1

pub returns-then-eq : goal.returns-then-eq
returns-then-eq c = ap (λ z. Some z) (to_z-of_z w64 c.in-Ok-parse.value (fits c)) ∙ integer_is c.args.text.now (Some c.in-Ok-parse.value)
    ((fits c).sfits, sym (same_bytes c.as_bytes.result.now c.args.text.now (sym c.eq.ensures ∙ c.if-eq.true)) ∙ c.as_bytes.ensures.value ∙ c.format.ensures.text ∙ ap signed_decimal (to_z-of_z w64 c.in-Ok-parse.value (fits c)))

pub returns-else-eq : goal.returns-else-eq
returns-else-eq c = integer_is c.args.text.now _
    (λ n lt e.
    let read : c.parse.result ≡ Ok n = parse-signed_decimal w64 n c.in-Ok.words.now c.parse.result (fits_mag n lt) lt (c.in-Ok.ensures.cases.0 ∙ e) c.parse.ensures.value.0 in
    let same : n ≡ c.in-Ok-parse.value = cc in
    both_ways c.eq.result c.if-eq.false (c.eq.ensures ∙ bytes_same c.as_bytes.result.now c.args.text.now (c.as_bytes.ensures.value ∙ c.format.ensures.text ∙ ap signed_decimal (to_z-of_z w64 c.in-Ok-parse.value (fits_else c)) ∙ sym (ap signed_decimal same) ∙ sym e)))
