-- The words that are left have the code that all the words of the argument have.
use Rattle.std.proofs.Common.{◌≡◌, find, length}
use Rattle.std.specs.Str.{IsUtf8}
use Rattle.command_line.specs.Explanations.{is_code_word, words_of}
use Rattle.command_line.proofs.explanations.code_of.Given as goal

abbrev pub invariant-loop-word : goal.invariant-loop-word
invariant-loop-word l = IsUtf8 l.argument × (find is_code_word (words_of l.argument) ≡ find is_code_word (words_of l.fn.argument))

abbrev pub decreases-loop-word : goal.decreases-loop-word
decreases-loop-word l = length l.argument
