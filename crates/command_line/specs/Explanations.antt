-- The text that `pairmd explain` prints for its arguments: the explanation for the code that they name, or the overview.
use Rattle.std.specs.Prelude.{◌==◌, ◌&&◌, ℕ, Bool, List, [], ◌∷◌, Option, Some, None, if◌then◌else◌, codes, find, length, map, not}
use Rattle.std.specs.List.{slice_split}
use Rattle.std.specs.Option.{option_or}
use Rattle.std.specs.Borrow.{Bor}
use Rattle.std.specs.Str.{bytes_eq, str_eq_ignore_ascii_case}
use Rattle.command_line.specs.declared.explanations.codes.TheConstants.{CODES}
use Rattle.command_line.specs.declared.explanations.energies.TheConstants.{ENERGIES}
use Rattle.command_line.specs.declared.explanations.files.TheConstants.{FILES}
use Rattle.command_line.specs.declared.explanations.gro_files.TheConstants.{GRO_FILES}
use Rattle.command_line.specs.declared.explanations.jobs.TheConstants.{JOBS}
use Rattle.command_line.specs.declared.explanations.overview.TheConstants.{OVERVIEW}
use Rattle.command_line.specs.declared.explanations.runs.TheConstants.{RUNS}
use Rattle.command_line.specs.declared.explanations.states.TheConstants.{STATES}

-- ---- the explanation for a code

-- the rows of a table: codes, and their texts
abbrev pub rows_of : List (Bor (List ℕ) × Bor (List ℕ)) → List (List ℕ × List ℕ)
rows_of table = map (λ row. (row.0.now, row.1.now)) table

-- the text of the first row with this code; upper and lower case of ASCII letters are equal
abbrev pub text_in : List (List ℕ × List ℕ) → List ℕ → Option (List ℕ)
text_in [] code = None
text_in (row ∷ rows) code = if str_eq_ignore_ascii_case row.0 code then Some row.1 else text_in rows code

-- the explanation for a code: its text in the first table that has the code
unfoldable pub explanation_of : List ℕ → Option (List ℕ)
explanation_of code =
    option_or (option_or (option_or (option_or (option_or (option_or
    (text_in (map (λ row. (row.0.now, row.1.now)) FILES) code)
    (text_in (map (λ row. (row.0.now, row.1.now)) JOBS) code))
    (text_in (map (λ row. (row.0.now, row.1.now)) STATES) code))
    (text_in (map (λ row. (row.0.now, row.1.now)) GRO_FILES) code))
    (text_in (map (λ row. (row.0.now, row.1.now)) ENERGIES) code))
    (text_in (map (λ row. (row.0.now, row.1.now)) CODES) code))
    (text_in (map (λ row. (row.0.now, row.1.now)) RUNS) code)

-- ---- the code that the arguments name

-- the words of a text: its parts between spaces (32), empty ones too
abbrev pub words_of : List ℕ → List (List ℕ)
words_of text = slice_split (λ byte. byte == 32) text

-- a word counts as a code if it isn't empty and isn't `pairmd:`, with which an error begins
abbrev pub is_code_word : List ℕ → Bool
is_code_word word = not (length word == 0) && not (bytes_eq word (codes "pairmd:"))

-- the first word of the arguments that counts as a code
abbrev pub code_in : List (List ℕ) → Option (List ℕ)
code_in [] = None
code_in (argument ∷ rest) = option_or (find is_code_word (words_of argument)) (code_in rest)

-- ---- the text that is printed

-- the explanation for a code, and without a code the overview
abbrev pub text_for : Option (List ℕ) → Option (List ℕ)
text_for None = Some OVERVIEW.now
text_for (Some code) = explanation_of code
