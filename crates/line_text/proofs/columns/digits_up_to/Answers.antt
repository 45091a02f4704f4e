use Rattle.std.proofs.Common.{◌≡◌, ℕ, ◌+◌, ◌-◌, ◌*◌, ◌∙◌, sym, ap, refl, get_or, take, min, option_map, Some, arith}
use Rattle.std.specs.Str.Parse.{digits_value}
use Rattle.std.proofs.lemmas.Int.Digits.{digits_more}
use Rattle.line_text.proofs.DigitLaws.{all_read, none_read, one_more}
use Rattle.line_text.proofs.columns.digits_up_to.Goals as goal

pub returns-then-not-is_ascii_digit-clause-exact : goal.returns-then-not-is_ascii_digit-clause-exact
returns-then-not-is_ascii_digit-clause-exact c =
    ap (option_map (λ n. min n c.args.limit)) (none_read c.args.text.now c.loop-byte.byte-index c.loop-byte-test.true (sym c.is_ascii_digit.ensures.value ∙ c.if-not-is_ascii_digit.true))

pub loop-byte-preserved : goal.loop-byte-preserved
loop-byte-preserved c =
    let text = c.args.text.now in
    let i = c.loop-byte.byte-index in
    let more : digits_value 10 (take i text) * 10 + (get_or text i 0 - 48) ≡ digits_value 10 (take (i + 1) text) =
    one_more text i (digits_value 10 (take i text)) c.loop-byte-test.true c.if-not-is_ascii_digit.ensures.cases refl in
    record {
      number = omega (arith, more, c.loop-byte.invariant.number);
      digits = digits_more 10 text i c.loop-byte-test.true c.loop-byte.invariant.digits c.if-not-is_ascii_digit.ensures.bound;
    }

pub returns-clause-exact : goal.returns-clause-exact
returns-clause-exact c =
    let text = c.args.text.now in
    let i = c.loop-byte.byte-index in
    ap (λ (n : ℕ). Some n) c.loop-byte.invariant.number
    ∙ ap (option_map (λ n. min n c.args.limit)) (all_read text (digits_value 10 (take i text)) i c.loop-byte-test.false refl c.loop-byte.invariant.digits)
