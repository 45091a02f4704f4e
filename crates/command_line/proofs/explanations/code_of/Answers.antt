use Rattle.std.proofs.Common.{◌∙◌, [], Some, None, ap, arith, find, rules, sym}
use Rattle.std.proofs.lemmas.Str.Pattern.{split_parts}
use Rattle.std.specs.Str.{IsUtf8}
use Rattle.command_line.specs.Explanations.{is_code_word, words_of}
use Rattle.command_line.proofs.Words.{code_first, code_later, first_word, one_word}
use Rattle.command_line.proofs.explanations.code_of.Goals as goal

pub returns-then-is_code_word : goal.returns-then-is_code_word
returns-then-is_code_word c =
    let parts = split_parts 32 c.loop-word.argument.now (Some (c.in-Some.word, c.in-Some.rest)) c.in-Some.ensures.cases (omega arith) in
    let words = ap words_of parts.0 ∙ first_word _ _ parts.1 in
    code_first c.in-Some.word.now (words_of c.in-Some.rest.now) c.if-is_code_word.ensures ∙ sym (ap (find is_code_word) words) ∙ c.loop-word.invariant.1

pub loop-word-preserved : goal.loop-word-preserved
loop-word-preserved c =
    let parts = split_parts 32 c.loop-word.argument.now (Some (c.in-Some.word, c.in-Some.rest)) c.in-Some.ensures.cases (omega arith) in
    let words = ap words_of parts.0 ∙ first_word _ _ parts.1 in
    let is_text : IsUtf8 c.in-Some.rest.now = search rules in
    (is_text, code_later c.in-Some.word.now (words_of c.in-Some.rest.now) c.if-is_code_word.ensures ∙ sym (ap (find is_code_word) words) ∙ c.loop-word.invariant.1)

pub returns-then-is_code_word-2 : goal.returns-then-is_code_word-2
returns-then-is_code_word-2 c =
    let none = split_parts 32 c.loop-word.argument.now None c.in_default.ensures.cases (omega arith) in
    code_first c.loop-word.argument.now [] c.if-is_code_word-2.ensures ∙ sym (ap (find is_code_word) (one_word _ none)) ∙ c.loop-word.invariant.1

pub returns-else-is_code_word-2 : goal.returns-else-is_code_word-2
returns-else-is_code_word-2 c =
    let none = split_parts 32 c.loop-word.argument.now None c.in_default.ensures.cases (omega arith) in
    code_later c.loop-word.argument.now [] c.if-is_code_word-2.ensures ∙ sym (ap (find is_code_word) (one_word _ none)) ∙ c.loop-word.invariant.1
