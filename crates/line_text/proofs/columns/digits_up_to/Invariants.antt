use Rattle.std.proofs.Common.{◌≡◌, take, min}
use Rattle.std.specs.Str.Parse.{digits_value, AllDigits}
use Rattle.line_text.proofs.columns.digits_up_to.Given as goal

abbrev pub invariant-loop-byte : goal.invariant-loop-byte
invariant-loop-byte l = record {
  number : l.number ≡ min (digits_value 10 (take l.byte-index l.text)) l.limit;
  digits : AllDigits 10 (take l.byte-index l.text);
}
