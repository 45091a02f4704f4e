-- The words of a line, which spaces and tabs separate.
use Rattle.std.specs.Prelude.{ℕ, Bool, true, false, ◌||◌, not, ◌==◌, List, [], ◌∷◌, drop, Option, Some, None, if◌then◌else◌}
use Rattle.std.specs.List.{filter, slice_split, position_or_len}

-- whether the byte is a space (32) or a tab (9); a carriage return is part of a word
abbrev pub is_blank : ℕ → Bool
is_blank b = b == 32 || b == 9

-- whether the text is empty
abbrev pub is_empty : List ℕ → Bool
is_empty [] = true
is_empty (b ∷ bs) = false

-- the words of a text: its non-empty parts between blanks
unfoldable pub words : List ℕ → List (List ℕ)
words text = filter (λ w. not (is_empty w)) (slice_split is_blank text)

-- the text without the blanks at its start
abbrev pub without_blanks : List ℕ → List ℕ
without_blanks [] = []
without_blanks (b ∷ bs) = if is_blank b then without_blanks bs else b ∷ bs

-- the text after its first word
unfoldable pub after_word : List ℕ → List ℕ
after_word text = drop (position_or_len is_blank (without_blanks text)) (without_blanks text)

-- the words of a text from its first word and the rest of the text, if it has a word
abbrev pub more_words : Option (List ℕ × List ℕ) → List (List ℕ)
more_words None = []
more_words (Some next) = next.0 ∷ words next.1
