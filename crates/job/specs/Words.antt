-- The lines of a text, and lists of two words.
use Rattle.std.specs.Prelude.{ℕ, ◌==◌, ◌-◌, List, [], ◌∷◌, length, take, Option, Some, None, slice_index, if◌then◌else◌}
use Rattle.std.specs.List.{slice_split}

-- the line without one carriage return at its end; a second one is part of the line
abbrev pub without_return : List ℕ → List ℕ
without_return line = if slice_index line (length line - 1) == 13 then take (length line - 1) line else line

-- the lines without carriage returns; the last line has no line feed, so its carriage return stays
abbrev pub bare_lines : List (List ℕ) → List (List ℕ)
bare_lines [] = []
bare_lines (line ∷ []) = line ∷ []
bare_lines (line ∷ next ∷ lines) = without_return line ∷ bare_lines (next ∷ lines)

-- the lines of a text, including the possibly empty one after its last line feed
unfoldable pub lines_of : List ℕ → List (List ℕ)
lines_of text = bare_lines (slice_split (λ b. b == 10) text)

-- the lines of the rest of a text, if there is a rest
abbrev pub more_lines : Option (List ℕ) → List (List ℕ)
more_lines None = []
more_lines (Some text) = lines_of text

-- the words, if there are exactly two
abbrev pub two : List (List ℕ) → Option (List ℕ × List ℕ)
two [] = None
two (w ∷ []) = None
two (w ∷ x ∷ []) = Some (w, x)
two (w ∷ x ∷ y ∷ ws) = None
