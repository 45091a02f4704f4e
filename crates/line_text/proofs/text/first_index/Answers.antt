use Rattle.std.proofs.Common.{◌==◌, sym, length, arith}
use Rattle.std.proofs.lemmas.Bool.{ne_eqb, eq-eqb}
use Rattle.std.proofs.lemmas.List.Sums.{position_or_len_is}
use Rattle.line_text.proofs.text.first_index.Goals as goal

pub returns-then-b-byte-clause-index : goal.returns-then-b-byte-clause-index
returns-then-b-byte-clause-index c = sym (position_or_len_is (λ b. b == c.args.byte) c.args.text.now c.loop-i.i 0 (omega arith)
    (λ k h. ne_eqb _ _ (c.loop-i.invariant k h)) (λ h. eq-eqb _ _ c.if-b-byte.true))

pub returns-clause-index : goal.returns-clause-index
returns-clause-index c = sym (position_or_len_is (λ b. b == c.args.byte) c.args.text.now (length c.args.text.now) 0 (omega arith)
    (λ k h. ne_eqb _ _ (c.loop-i.invariant k (omega arith))) (λ h. absurd (omega arith)))
