-- The text of a state in the pieces in which it is written.
use Rattle.std.proofs.Common.{◌≡◌, ℕ, List, [], ◌∷◌, ◌++◌, length, codes, ap, ◌∙◌, append_assoc}
use Rattle.std.specs.Fmt.{signed_decimal}
use Rattle.std.specs.List.{flat_map}
use Rattle.fallible.specs.Out.{Output, Appends}
use Rattle.fallible.proofs.Appends.{HasToWrite, and_then, has_all}
use Rattle.line_text.specs.Parts.{ended, word}
use Rattle.state.specs.StateText.{StateView, version_of, head_line, bits_in, atom_lines, state_text}
use Rattle.state.specs.Middle.{front, middle}

-- the text between the title and the atoms
abbrev pub fields : StateView → List ℕ
fields s = middle s.step s.frac (length s.atoms) s.sides

-- all text after the title
abbrev pub from_fields : StateView → List ℕ
from_fields s = fields s ++ atom_lines s.atoms

-- the title and all text after it
abbrev pub from_title : StateView → List ℕ
from_title s = s.title ++ from_fields s

-- a state's text is the text before the title, the title, and all text after it
pub in_pieces : (s : StateView) → state_text s ≡ front s.frac ++ from_title s
unfolding state_text
in_pieces s =
    plain (10 ∷ []) (head_line (version_of s.frac)) (codes "title ") s.title (codes "step ") (signed_decimal s.step) (bits_in (version_of s.frac) s.frac) (codes "atoms") (word (length s.atoms)) (codes "box") (flat_map word s.sides)
    (atom_lines s.atoms)
  where
    plain : (lf h k t s n d m c b w a : List ℕ) → (h ++ lf) ++ ((k ++ t) ++ lf) ++ ((s ++ n) ++ lf) ++ d ++ ((m ++ c) ++ lf) ++ ((b ++ w) ++ lf) ++ a
        ≡ ((h ++ lf) ++ k) ++ (t ++ (((lf ++ s) ++ n ++ lf ++ d ++ m ++ c ++ (lf ++ b) ++ w ++ lf) ++ a))
    plain lf h k t s n d m c b w a = simp append_assoc

-- once the text before the title is written, the title and all text after it are left to write
pub front_written : {o m : Output} (s : StateView) → Appends o m (front s.frac) → HasToWrite o m (state_text s) (from_title s)
front_written s = and_then (front s.frac) (from_title s) (has_all _ (in_pieces s))

-- once the title is written, all text after it is left to write
pub title_written : {o m n : Output} (s : StateView) → Appends o m (front s.frac) → Appends m n s.title → HasToWrite o n (state_text s) (from_fields s)
title_written s front = and_then s.title (from_fields s) (front_written s front)

-- once the text before the atoms is written, the atoms are left to write
pub fields_written : {o m n p : Output} (s : StateView) → Appends o m (front s.frac) → Appends m n s.title → Appends n p (fields s) → HasToWrite o p (state_text s) (atom_lines s.atoms)
fields_written s front title = and_then (fields s) (atom_lines s.atoms) (title_written s front title)

-- three pieces, put one after another
pub in_three : (l0 l1 l2 l3 a b c : List ℕ) → l1 ≡ l0 ++ a → l2 ≡ l1 ++ b → l3 ≡ l2 ++ c → l3 ≡ l0 ++ (a ++ b ++ c)
in_three l0 l1 l2 l3 a b c h1 h2 h3 =
    let flat : l0 ++ a ++ b ++ c ≡ l0 ++ (a ++ b ++ c) = simp append_assoc in
    h3 ∙ ap (λ (t : List ℕ). t ++ c) (h2 ∙ ap (λ (t : List ℕ). t ++ b) h1) ∙ flat

-- a text to which two slices were appended, which are the front of a line, and its end with an LF
pub line_in_two : (t0 t1 t2 slice slice' buffer buffer' front more : List ℕ) → t1 ≡ t0 ++ slice → slice ≡ buffer → buffer ≡ front → t2 ≡ t1 ++ slice' → slice' ≡ buffer' → buffer' ≡ ended more
    → t2 ≡ t0 ++ ended (front ++ more)
line_in_two t0 t1 t2 slice slice' buffer buffer' front more h1 s1 b1 h2 s2 b2 =
    h2 ∙ ap (λ (t : List ℕ). t1 ++ t) (s2 ∙ b2) ∙ ap (λ (t : List ℕ). t ++ ended more) (h1 ∙ ap (λ (t : List ℕ). t0 ++ t) (s1 ∙ b1)) ∙ flat (10 ∷ [])
  where
    flat : (lf : List ℕ) → t0 ++ front ++ (more ++ lf) ≡ t0 ++ (front ++ more ++ lf)
    flat lf = simp append_assoc
