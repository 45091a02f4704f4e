use Rattle.std.proofs.Common.{◌≡◌, ◌∙◌, sym, ap, decimal, Ok, arith}
use Rattle.std.proofs.lemmas.Bool.{both_ways}
use Rattle.std.proofs.lemmas.Str.{IsUtf8-from_ascii}
use Rattle.std.proofs.lemmas.Fmt.{IsAscii-decimal, parse-decimal}
use Rattle.line_text.proofs.PartLaws.{natural_is, same_bytes, bytes_same}
use Rattle.line_text.proofs.text.natural.Goals as goal

pub returns-in_default-clause-exact : goal.returns-in_default-clause-exact
returns-in_default-clause-exact c = natural_is c.args.limit c.args.text.now _ (omega arith)
    (λ n lt e. c.in_default.ensures.cases.0 (IsUtf8-from_ascii c.args.text.now (rw e (IsAscii-decimal n (omega arith)))))

pub returns-in_default-parse-clause-exact : goal.returns-in_default-parse-clause-exact
returns-in_default-parse-clause-exact c = natural_is c.args.limit c.args.text.now _ (omega arith)
    (λ n lt e. c.in_default-parse.not-Ok n (parse-decimal 64 n c.in-Ok.words.now c.parse.result (omega arith) (omega arith) (c.in-Ok.ensures.cases.0 ∙ e) c.parse.ensures.value.0))

pub returns-then-eq-clause-exact : goal.returns-then-eq-clause-exact
returns-then-eq-clause-exact c = natural_is c.args.limit c.args.text.now _ (omega arith)
    (omega arith, sym (same_bytes c.as_bytes.result.now c.args.text.now (sym c.eq.ensures ∙ c.if-eq.true)) ∙ c.as_bytes.ensures.value ∙ c.format.ensures.text)

pub returns-else-eq-clause-exact : goal.returns-else-eq-clause-exact
returns-else-eq-clause-exact c = natural_is c.args.limit c.args.text.now _ (omega arith)
    (λ n lt e.
    let read : c.parse.result ≡ Ok n = parse-decimal 64 n c.in-Ok.words.now c.parse.result (omega arith) (omega arith) (c.in-Ok.ensures.cases.0 ∙ e) c.parse.ensures.value.0 in
    let same : n ≡ c.in-Ok-parse.number = cc in
    both_ways c.eq.result c.if-eq.false (c.eq.ensures ∙ bytes_same c.as_bytes.result.now c.args.text.now (c.as_bytes.ensures.value ∙ c.format.ensures.text ∙ sym (ap decimal same) ∙ sym e)))

pub returns-then-number-limit-clause-exact : goal.returns-then-number-limit-clause-exact
returns-then-number-limit-clause-exact c = natural_is c.args.limit c.args.text.now _ (omega arith)
    (λ n lt e.
    let read : c.parse.result ≡ Ok n = parse-decimal 64 n c.in-Ok.words.now c.parse.result (omega arith) (omega arith) (c.in-Ok.ensures.cases.0 ∙ e) c.parse.ensures.value.0 in
    let same : n ≡ c.in-Ok-parse.number = cc in
    omega arith)
