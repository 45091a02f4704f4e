-- Lines, one after another.
use Rattle.std.proofs.Common.{◌≡◌, ◌==◌, ℕ, ◌+◌, List, [], ◌∷◌, length, Option, Some, None, IfSome, ◌<◌, ◌≤◌, option_map, arith, refl, ap, ◌∙◌}
use Rattle.std.specs.List.{slice_split}
use Rattle.line_text.specs.Parts.{split_once}
use Rattle.line_text.proofs.LineLaws.{cut_none}
use Rattle.line_text.proofs.SplitLaws.{split_cut, split_uncut, split_some}
use Rattle.job.specs.Words.{without_return, bare_lines, lines_of}

-- ---- lines

ended_more : (line : List ℕ) (text : List ℕ) → bare_lines (line ∷ slice_split (λ b. b == 10) text) ≡ without_return line ∷ lines_of text
unfolding lines_of
ended_more line text = let s = split_some (λ b. b == 10) text in rw s.2 refl

-- the text before the first line feed is the first line, and the rest of the text has the other lines
pub lines_cut : (text a b : List ℕ) → split_once 10 text ≡ Some (a, b) → lines_of text ≡ without_return a ∷ lines_of b
unfolding lines_of
lines_cut text a b e = ap bare_lines (split_cut 10 text a b e) ∙ ended_more a b

-- a text without a line feed is one line
pub lines_whole : (text : List ℕ) → split_once 10 text ≡ None → lines_of text ≡ text ∷ []
unfolding lines_of
lines_whole text e = ap bare_lines (split_uncut 10 text (cut_none 10 text e))

-- ---- line by line

-- the length of the text that is left
abbrev pub size : Option (List ℕ) → ℕ
size None = 0
size (Some text) = 1 + length text

-- the rest of a text after a line is at most as long as the text
pub size_left : {X : Type 0} (now : X → List ℕ) (rest : Option X) (line text : List ℕ) → IfSome rest (λ x. length line + length (now x) < length text) → size (option_map now rest) ≤ length text
size_left now None line text h = omega arith
size_left now (Some x) line text h = omega (arith, h)
