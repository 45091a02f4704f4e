-- The parts of a state's text that one write call outputs.
use Rattle.std.specs.Prelude.{List, ℕ, ℤ, ◌++◌, codes}
use Rattle.std.specs.Fmt.{signed_decimal}
use Rattle.std.specs.List.{flat_map}
use Rattle.fixed.specs.declared.frac.Frac.{Frac}
use Rattle.line_text.specs.Parts.{ended, word}
use Rattle.state.specs.StateText.{bits_in, head_line, version_of}

-- the text before the title
abbrev pub front : Frac → List ℕ
front frac = ended (head_line (version_of frac)) ++ codes "title "

-- the text between the title and the atom lines
abbrev pub middle : ℤ → Frac → ℕ → List ℕ → List ℕ
middle step frac count sides =
    codes "\nstep " ++ signed_decimal step ++ codes "\n" ++ bits_in (version_of frac) frac
    ++ codes "atoms" ++ word count ++ codes "\nbox" ++ flat_map word sides ++ codes "\n"
