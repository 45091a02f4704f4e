use Rattle.std.proofs.Common.{◌∙◌, sym, arith}
use Rattle.std.proofs.lemmas.Int.Digits.{digits_more}
use Rattle.line_text.proofs.DigitLaws.{below, all_read, none_read, one_more}
use Rattle.line_text.proofs.columns.digits.Goals as goal

pub returns-then-not-is_ascii_digit-clause-exact : goal.returns-then-not-is_ascii_digit-clause-exact
returns-then-not-is_ascii_digit-clause-exact c = none_read c.args.text.now c.loop-byte.byte-index c.loop-byte-test.true (sym c.is_ascii_digit.ensures.value ∙ c.if-not-is_ascii_digit.true)

pub overflow_mul-number : goal.overflow_mul-number
overflow_mul-number c = omega (arith, below c.args.text.now c.loop-byte.byte-index c.loop-byte.number 12 (omega arith) (omega arith) c.loop-byte.invariant.number c.loop-byte.invariant.digits)

pub overflow_add-number : goal.overflow_add-number
overflow_add-number c = omega (arith, below c.args.text.now c.loop-byte.byte-index c.loop-byte.number 12 (omega arith) (omega arith) c.loop-byte.invariant.number c.loop-byte.invariant.digits)

pub loop-byte-preserved : goal.loop-byte-preserved
loop-byte-preserved c = record {
  number = one_more c.args.text.now c.loop-byte.byte-index c.loop-byte.number c.loop-byte-test.true c.if-not-is_ascii_digit.ensures.cases c.loop-byte.invariant.number;
  digits = digits_more 10 c.args.text.now c.loop-byte.byte-index c.loop-byte-test.true c.loop-byte.invariant.digits c.if-not-is_ascii_digit.ensures.bound;
}

pub returns-clause-exact : goal.returns-clause-exact
returns-clause-exact c = all_read c.args.text.now c.loop-byte.number c.loop-byte.byte-index c.loop-byte-test.false c.loop-byte.invariant.number c.loop-byte.invariant.digits

pub returns-clause-below : goal.returns-clause-below
returns-clause-below c = below c.args.text.now c.loop-byte.byte-index c.loop-byte.number 12 (omega arith) (omega arith) c.loop-byte.invariant.number c.loop-byte.invariant.digits
