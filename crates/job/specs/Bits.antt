-- The fraction bits of a job, found before its lines are read. The first line `bits N` with N = 24, 32 or 40 decides,
-- because all numerals, also those above this line, have to be read with the same number of fraction bits. Other `bits`
-- lines are faults where they are; `JobText` defines the texts of jobs without this search.
use Rattle.std.specs.Prelude.{ℕ, List, [], ◌∷◌, Option, Some, None, ◌==◌, slice_index, filter_map, if◌then◌else◌}
use Rattle.std.specs.Option.{unwrap_or}
use Rattle.std.specs.Result.{result_ok}
use Rattle.fixed.specs.declared.frac.Frac.{Frac}
use Rattle.fixed.specs.declared.frac.Frac.TheVariants.{F32}
use Rattle.job.specs.declared.faults.Key.{Key}
use Rattle.job.specs.declared.faults.Key.TheVariants as keys
use Rattle.line_text.specs.Words.{words, after_word}
use Rattle.job.specs.Numbers.{alone, frac_of}
use Rattle.job.specs.Statements.{key_of}
use Rattle.job.specs.Faults.{first}

-- the fraction bits in the text after a key, if the key is `bits` and its value is allowed
abbrev pub key_bits : Option Key → List ℕ → Option Frac
key_bits (Some keys.Bits) text = result_ok (alone frac_of (words text))
key_bits _ text = None

-- the fraction bits of a line with these words
abbrev pub words_bits : List (List ℕ) → List ℕ → Option Frac
words_bits [] text = None
words_bits (word ∷ ws) text = key_bits (key_of word) text

-- the fraction bits of a line `bits N` with N = 24, 32 or 40; None for any other line
unfoldable pub bits_said : List ℕ → Option Frac
bits_said line = if slice_index line 0 == 35 then None else words_bits (words line) (after_word line)

-- the fraction bits with which the numerals of these lines are read: the value of the first such line, or 32
unfoldable pub frac_in : List (List ℕ) → Frac
frac_in lines = unwrap_or (first (filter_map bits_said lines)) F32
