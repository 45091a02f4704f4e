use Rattle.std.proofs.Common.{◌+◌, ℕ, rules, slice_index}
use Rattle.std.specs.Int.{w64, cast_signed, cast_unsigned}
use Rattle.std.specs.Mem.Slots.{slots_items}
use Rattle.rounds.proofs.WordLemmas.{word_is, word_read}
use Rattle.rounds.proofs.pool.read_words.Goals as goal

pub loop-k-preserved : goal.loop-k-preserved
loop-k-preserved g c =
    let words = slots_items c.args.closed.now.words in
    let k = c.loop-k.k in
    let F : ℕ → ℕ = λ j. slice_index words (1 + j) in
    let is = word_is words (1 + k) c.word.result c.cast_signed.result c.word.ensures c.word.type_inv c.cast_signed.ensures in (
      search rules,
      word_read F c.loop-k.sums.items c.push_reserved.new.self.items k (cast_signed w64 (cast_unsigned w64 c.cast_signed.result)) c.push_reserved.ensures.items c.loop-k.invariant.1 is,
    )
