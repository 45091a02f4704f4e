use Rattle.std.proofs.Common.{arith, sym, ◌∙◌, eqb-true}
use Rattle.std.proofs.lemmas.Bool.{eqb-false}
use Rattle.line_text.proofs.WordLaws.{words_none, words_some}
use Rattle.line_text.proofs.words.next_word.Goals as goal

pub returns-then-is_empty-clause-word : goal.returns-then-is_empty-clause-word
returns-then-is_empty-clause-word c = words_none _ _ c.skip_blanks-text.ensures.value (eqb-true _ _ (sym c.is_empty.ensures ∙ c.if-is_empty.true))

pub returns-else-is_empty-clause-word : goal.returns-else-is_empty-clause-word
returns-else-is_empty-clause-word c =
    let s = words_some c.args.text.now c.skip_blanks-text.result.now c.skip_blanks-text.ensures.value (eqb-false _ _ (sym c.is_empty.ensures ∙ c.if-is_empty.false)) in
    rw (c.split_at.ensures.front, c.split_at.ensures.back, c.word_len.ensures.value) s.0

pub returns-else-is_empty-clause-rest : goal.returns-else-is_empty-clause-rest
returns-else-is_empty-clause-rest c =
    let s = words_some c.args.text.now c.skip_blanks-text.result.now c.skip_blanks-text.ensures.value (eqb-false _ _ (sym c.is_empty.ensures ∙ c.if-is_empty.false)) in
    rw (c.split_at.ensures.back, c.word_len.ensures.value) s.1

pub returns-else-is_empty-clause-shorter : goal.returns-else-is_empty-clause-shorter
returns-else-is_empty-clause-shorter c =
    let s = words_some c.args.text.now c.skip_blanks-text.result.now c.skip_blanks-text.ensures.value (eqb-false _ _ (sym c.is_empty.ensures ∙ c.if-is_empty.false)) in
    rw (c.split_at.ensures.back, c.word_len.ensures.value) (omega (arith, s.2, c.skip_blanks-text.ensures.shorter))
