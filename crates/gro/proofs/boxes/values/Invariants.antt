use Rattle.std.proofs.Common.{◌≡◌, ◌+◌, length}
use Rattle.arrayvec.specs.ArrayVec.{array_vec_len}
use Rattle.line_text.specs.Words.{words}
use Rattle.gro.specs.GroReading.{values_of}
use Rattle.gro.proofs.BoxLaws.{with_front}
use Rattle.gro.proofs.boxes.values.Given as goal

abbrev pub invariant-loop-word : goal.invariant-loop-word
invariant-loop-word l = record {
  read : with_front l.values.items (values_of (words l.rest)) ≡ values_of (words l.text);
  count : array_vec_len l.values + length (words l.rest) ≡ length (words l.text);
  len : length l.values.items + length (words l.rest) ≡ length (words l.text);
}

abbrev pub decreases-loop-word : goal.decreases-loop-word
decreases-loop-word l = length l.rest
