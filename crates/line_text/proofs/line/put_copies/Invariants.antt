use Rattle.std.proofs.Common.{◌≡◌, ◌+◌, ◌++◌, replicate}
use Rattle.arrayvec.specs.ArrayVec.{array_vec_len}
use Rattle.line_text.proofs.line.put_copies.Given as goal

abbrev pub invariant-loop : goal.invariant-loop
invariant-loop l = record {
  items : l.line.items ≡ l.initial.line.items ++ replicate l.counter l.byte;
  len : array_vec_len l.line ≡ array_vec_len l.initial.line + l.counter;
}
