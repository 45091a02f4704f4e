-- Atoms and frames one after the other, as loops read them.
use Rattle.std.proofs.Common.{◌≡◌, ℕ, ◌+◌, ◌<◌, ◌≤◌, true, false, ◌||◌, eqb, List, [], ◌∷◌, ◌++◌, length, get_or, replicate, refl, sym, ap, subst, ◌∙◌, arith, inl, inr, ℤ}
use Rattle.std.proofs.lemmas.Bool.{and_parts, ne_eqb}
use Rattle.std.proofs.lemmas.List.Folds.{list_all-append}
use Rattle.gro.specs.Frames.{AtomView, FrameView}
use Rattle.gro.specs.GroText.{AreAtoms, IsAtomLine, IsBox, IsCount, IsFrame, IsGroText, IsLine, is_all_blank}
use Rattle.gro.specs.GroFaults.{AreFrames, HasAtoms}
use Rattle.gro.proofs.CountLaws.{first_digit}

-- ---- one more

-- the lines before the box of a frame
pub starts : (bytes title after_title count_text after_count : List ℕ) (count : ℕ) (atoms : List AtomView) (rest : List ℕ) → IsLine bytes title after_title → IsLine after_title count_text after_count
    → IsCount count_text count → AreAtoms after_count atoms rest → HasAtoms bytes title count atoms rest
starts bytes title after_title count_text after_count count atoms rest t c counted are =
    record { count_text = count_text; after_title = after_title; after_count = after_count; title_line = t; count_line = c; counted = counted; atoms' = are }

-- these lines, with as many atoms as counted, and the line of the box
pub frame_whole : (bytes title : List ℕ) (count : ℕ) (atoms : List AtomView) (after_atoms box_text : List ℕ) (sides : List ℤ) (rest : List ℕ) → HasAtoms bytes title count atoms after_atoms
    → length atoms ≡ count → IsLine after_atoms box_text rest → IsBox box_text sides → IsFrame bytes (record { title = title; atoms = atoms; sides = sides }) rest
frame_whole bytes title count atoms after_atoms box_text sides rest h all line box = record {
  count = h.count_text;
  box_text = box_text;
  after_title = h.after_title;
  after_count = h.after_count;
  after_atoms = after_atoms;
  title_line = h.title_line;
  count_line = h.count_line;
  counted = subst (λ (k : ℕ). IsCount h.count_text k) (sym all) h.counted;
  atoms = h.atoms';
  box_line = line;
  sides = box;
}

-- the lines of some atoms, and the line of one more
pub atoms_more : (bytes : List ℕ) (atoms : List AtomView) (rest text after : List ℕ) (a : AtomView) → AreAtoms bytes atoms rest → IsLine rest text after → IsAtomLine text a → AreAtoms bytes (atoms ++ a ∷ []) after
atoms_more bytes [] rest text after a h line atom = (text, after, subst (λ (b : List ℕ). IsLine b text after) (sym h) line, atom, refl)
atoms_more bytes (x ∷ xs) rest text after a h line atom = (h.0, h.1, h.2, h.3, atoms_more h.1 xs rest text after a h.4 line atom)

-- some frames, and one more that isn't the last
pub frames_more : (n : ℕ) (bytes : List ℕ) (frames : List FrameView) (m : ℕ) (rest : List ℕ) (f : FrameView) (after : List ℕ) → AreFrames n bytes frames m rest → IsFrame rest f after → is_all_blank after ≡ false
    → AreFrames n bytes (frames ++ f ∷ []) (m + length f.atoms + 3) after
frames_more n bytes [] m rest f after h frame more = (after, subst (λ (b : List ℕ). IsFrame b f after) h.1 frame, more, (ap (λ (k : ℕ). k + length f.atoms + 3) h.0, refl))
frames_more n bytes (x ∷ xs) m rest f after h frame more = (h.0, h.1, h.2, frames_more (n + length x.atoms + 3) h.0 xs m rest f after h.3 frame more)

-- some frames, and the last one
pub frames_end : (n : ℕ) (bytes : List ℕ) (frames : List FrameView) (m : ℕ) (rest : List ℕ) (f : FrameView) (after : List ℕ) → AreFrames n bytes frames m rest → IsFrame rest f after → is_all_blank after ≡ true
    → IsGroText bytes (frames ++ f ∷ [])
frames_end n bytes [] m rest f after h frame blank = (after, subst (λ (b : List ℕ). IsFrame b f after) h.1 frame, blank)
frames_end n bytes (x ∷ []) m rest f after h frame blank = (h.0, h.1, frames_end (n + length x.atoms + 3) h.0 [] m rest f after h.3 frame blank)
frames_end n bytes (x ∷ y ∷ xs) m rest f after h frame blank = (h.0, h.1, frames_end (n + length x.atoms + 3) h.0 (y ∷ xs) m rest f after h.3 frame blank)

-- ---- a frame is not blank

blank_parts : (a b : List ℕ) → is_all_blank (a ++ b) ≡ true → (is_all_blank a ≡ true) × (is_all_blank b ≡ true)
blank_parts a b e = and_parts (is_all_blank a) (is_all_blank b) (sym (list_all-append (λ x. eqb x 32 || eqb x 13 || eqb x 10) a b) ∙ e)

line_blank : (bytes text rest : List ℕ) → IsLine bytes text rest → is_all_blank bytes ≡ true → (is_all_blank text ≡ true) × (is_all_blank rest ≡ true)
line_blank bytes text rest h e =
    elim h.whole [
      | inl w ↦
          let p = blank_parts text (replicate h.returns 13 ++ 10 ∷ rest) (ap is_all_blank (sym w) ∙ e) in
          let q = blank_parts (replicate h.returns 13) (10 ∷ rest) p.1 in
          (p.0, q.1)
      | inr w ↦ ((blank_parts text (replicate h.returns 13) (ap is_all_blank (sym w.0) ∙ e)).0, ap is_all_blank w.2)
    ]

count_not_blank : (text : List ℕ) (count : ℕ) → IsCount text count → is_all_blank text ≡ true → ⊥
count_not_blank text count h e =
    let p = blank_parts (replicate h.padded.before 32) (h.digits ++ replicate h.padded.behind 32) (ap is_all_blank (sym h.padded.whole) ∙ e) in
    let q = blank_parts h.digits (replicate h.padded.behind 32) p.1 in
    at h.digits h.number.form.some (first_digit h.digits count h.number) q.0
  where
    at : (ds : List ℕ) → 0 < length ds → (48 ≤ get_or ds 0 0) × (get_or ds 0 0 ≤ 57) → is_all_blank ds ≡ true → ⊥
    at [] some r b = omega arith
    at (x ∷ xs) some r b =
        let s : eqb x 32 ≡ false = ne_eqb x 32 (λ t. omega (arith, r)) in
        let c : eqb x 13 ≡ false = ne_eqb x 13 (λ t. omega (arith, r)) in
        let l : eqb x 10 ≡ false = ne_eqb x 10 (λ t. omega (arith, r)) in
        let first = (and_parts (eqb x 32 || eqb x 13 || eqb x 10) (is_all_blank xs) b).0 in
        absurd (let no : false ≡ true = rw (s, c, l) at first in cc)

frame_not_blank : (bytes : List ℕ) (f : FrameView) (rest : List ℕ) → IsFrame bytes f rest → is_all_blank bytes ≡ true → ⊥
frame_not_blank bytes f rest h e =
    let t = line_blank bytes f.title h.after_title h.title_line e in
    let c = line_blank h.after_title h.count h.after_count h.count_line t.1 in
    count_not_blank h.count (length f.atoms) h.counted c.0

-- the text of frames isn't blank
pub frames_not_blank : (bytes : List ℕ) (frames : List FrameView) → IsGroText bytes frames → is_all_blank bytes ≡ true → ⊥
frames_not_blank bytes [] h e = h
frames_not_blank bytes (f ∷ []) h e = frame_not_blank bytes f h.0 h.1 e
frames_not_blank bytes (f ∷ g ∷ frames) h e = frame_not_blank bytes f h.0 h.1 e
