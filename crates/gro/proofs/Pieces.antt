-- The text of a frame in the pieces in which it is written.
use Rattle.std.proofs.Common.{◌≡◌, List, ℕ, [], ◌∷◌, ◌++◌, length, sym, ap, ◌∙◌, append_assoc, append-nil}
use Rattle.fallible.specs.Out.{Output, Appends}
use Rattle.fallible.proofs.Appends.{HasToWrite, and_then, has_all}
use Rattle.line_text.specs.Parts.{ended}
use Rattle.gro.specs.Frames.{FrameView}
use Rattle.gro.specs.GroWriting.{count_line, atom_lines, box_line, frame_text}

-- the text between the title and the atoms: the end of the title's line, and the line of the number of atoms
abbrev pub between : FrameView → List ℕ
between f = 10 ∷ ended (count_line (length f.atoms))

-- the line of the box, which is the text after the atoms
abbrev pub box : FrameView → List ℕ
box f = ended (box_line f.sides)

-- the lines of the atoms, and the line of the box after them
abbrev pub from_atoms : FrameView → List ℕ
from_atoms f = atom_lines 1 f.atoms ++ box f

-- all text after the title
abbrev pub from_number : FrameView → List ℕ
from_number f = between f ++ from_atoms f

-- a frame's text is its title and all text after the title
pub in_pieces : (f : FrameView) → frame_text f ≡ f.title ++ from_number f
unfolding frame_text
in_pieces f = plain f.title (10 ∷ []) (ended (count_line (length f.atoms))) (atom_lines 1 f.atoms) (box f)
  where
    plain : (t lf c a b : List ℕ) → (t ++ lf) ++ c ++ a ++ b ≡ t ++ ((lf ++ c) ++ (a ++ b))
    plain t lf c a b = simp append_assoc

-- once the title is written, all text after it is left to write
pub title_written : {o m : Output} (f : FrameView) → Appends o m f.title → HasToWrite o m (frame_text f) (from_number f)
title_written f = and_then f.title (from_number f) (has_all _ (in_pieces f))

-- once the title and the number of atoms are written, the atoms and the box are left to write
pub number_written : {o m n : Output} (f : FrameView) → Appends o m f.title → Appends m n (between f) → HasToWrite o n (frame_text f) (from_atoms f)
number_written f title = and_then (between f) (from_atoms f) (title_written f title)

-- once the title, the number of atoms and the atoms are written, the box is left to write
pub atoms_written : {o m n p : Output} (f : FrameView) → Appends o m f.title → Appends m n (between f) → Appends n p (atom_lines 1 f.atoms) → HasToWrite o p (frame_text f) (box f)
atoms_written f title number = and_then (atom_lines 1 f.atoms) (box f) (number_written f title number)

-- pieces put one after another
pub three_pieces : (l0 l1 l2 l3 a b c : List ℕ) → l1 ≡ l0 ++ a → l2 ≡ l1 ++ b → l3 ≡ l2 ++ c → l3 ≡ l0 ++ (a ++ (b ++ (c ++ [])))
three_pieces l0 l1 l2 l3 a b c h1 h2 h3 =
    let flat : l0 ++ a ++ b ++ c ≡ l0 ++ (a ++ (b ++ (c ++ []))) = simp append_assoc (ap (λ (t : List ℕ). l0 ++ (a ++ (b ++ t))) (sym (append-nil c))) in
    h3 ∙ ap (λ (t : List ℕ). t ++ c) (h2 ∙ ap (λ (t : List ℕ). t ++ b) h1) ∙ flat
