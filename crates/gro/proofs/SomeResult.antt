-- A text has a result: where a line is required, there is none (Truncated), or it has its value or its fault.
use Rattle.std.proofs.Common.{◌≡◌, ℕ, zero, suc, ◌+◌, ◌<◌, ◌≤◌, ◌⊎◌, inl, inr, Bool, true, false, List, [], ◌∷◌, length, drop, take, Option, Some, None, Result, Ok, Err, ℤ, refl, sym, subst, ◌∙◌, arith}
use Rattle.std.specs.List.{list_all}
use Rattle.std.proofs.lemmas.Bool.{cases_eq, cases_lt}
use Rattle.line_text.specs.Parts.{split_once, is_printable, trimmed, without_returns}
use Rattle.line_text.specs.Words.{words}
use Rattle.line_text.proofs.LineLaws.{cut_shorter}
use Rattle.line_text.proofs.StepLaws.{none_is_no_some}
use Rattle.line_text.proofs.WrittenLaws.{padded_found}
use Rattle.gro.specs.declared.faults.GroFault.{GroFault}
use Rattle.gro.specs.declared.faults.GroFault.TheVariants.{Truncated, BadCount, BadColumns, Precision, BadBox, Triclinic, TooManyAtoms}
use Rattle.gro.specs.Frames.{AtomView, FrameView}
use Rattle.gro.specs.GroText.{AreAtoms, IsAtomLine, IsBox, IsCount, IsFrame, IsGroText, IsLine, is_all_blank}
use Rattle.gro.specs.GroFaults.{AreFrames, HasAtoms, HasBadAtom, IsAtomFault, IsBoxFault, IsCountFault, IsFrameFault, IsNeeded, is_ended, ReadsAlways, ReadsAs, bad_atom, bad_box, bad_count, no_title}
use Rattle.gro.specs.GroReading.{fields_of, is_zero, points_of, values_of, whole_of}
use Rattle.gro.proofs.LineLaws.{ended_line, last_line}
use Rattle.gro.proofs.CountLaws.{no_count, whole_written}
use Rattle.gro.proofs.AtomLaws.{fields_written}
use Rattle.gro.proofs.BoxLaws.{box_written, tilted, values_length, values_read}
use Rattle.gro.proofs.FaultLaws.{no_fields, no_points, points_found}
use Rattle.gro.proofs.FrameLaws.{frame_whole, starts}

-- ---- a line

-- a line has the value or the fault
abbrev LineGives : {X : Type 0} → (List ℕ → X → Type 0) → (Bool → List ℕ → GroFault → Type 0) → Bool → List ℕ → Result X GroFault → Type 0
LineGives Is IsWrong ended text (Ok x) = Is text x
LineGives Is IsWrong ended text (Err f) = IsWrong ended text f

-- each line has a value or a fault
abbrev LinesGive : {X : Type 0} → (List ℕ → X → Type 0) → (Bool → List ℕ → GroFault → Type 0) → Type 0
LinesGive {X} Is IsWrong = (ended : Bool) (text : List ℕ) → (r : Result X GroFault) × LineGives Is IsWrong ended text r

-- a required line gives the value and the bytes after it, or the fault
abbrev NeededGives : {X : Type 0} → (List ℕ → X → Type 0) → (Bool → List ℕ → GroFault → Type 0) → List ℕ → Result (X × List ℕ) GroFault → Type 0
NeededGives Is IsWrong bytes (Ok x) = (text : List ℕ) × IsLine bytes text x.1 × Is text x.0 × (length x.1 < length bytes)
NeededGives Is IsWrong bytes (Err f) = IsNeeded IsWrong bytes f

-- bytes start with a line
some_line : (bytes : List ℕ) → 0 < length bytes → (text : List ℕ) × (rest : List ℕ) × IsLine bytes text rest × (length rest < length bytes)
some_line bytes some = at (split_once 10 bytes) refl
  where
    at : (o : Option (List ℕ × List ℕ)) → split_once 10 bytes ≡ o → (text : List ℕ) × (rest : List ℕ) × IsLine bytes text rest × (length rest < length bytes)
    at None e = (without_returns bytes, [], last_line bytes e some, some)
    at (Some p) e = (without_returns p.0, p.1, ended_line bytes p.0 p.1 e, omega (arith, cut_shorter 10 bytes p.0 p.1 e))

module _ {X : Type 0} (Is : List ℕ → X → Type 0) (IsWrong : Bool → List ℕ → GroFault → Type 0) (each : LinesGive Is IsWrong) where
  line_gives : (bytes text rest : List ℕ) → IsLine bytes text rest → length rest < length bytes
      → (r : Result X GroFault) × LineGives Is IsWrong (is_ended bytes) text r → (r : Result (X × List ℕ) GroFault) × NeededGives Is IsWrong bytes r
  line_gives bytes text rest line less (Ok x, is) = (Ok (x, rest), (text, line, is, less))
  line_gives bytes text rest line less (Err f, wrong) = (Err f, inr (text, rest, line, wrong))

  needed_gives : (bytes : List ℕ) → (r : Result (X × List ℕ) GroFault) × NeededGives Is IsWrong bytes r
  needed_gives [] = (Err Truncated, inl (refl, refl))
  needed_gives (b ∷ bs) =
      let line = some_line (b ∷ bs) (omega arith) in
      line_gives (b ∷ bs) line.0 line.1 line.2 line.3 (each (is_ended (b ∷ bs)) line.0)

-- ---- the number of atoms

count_gives : (n : ℕ) → LinesGive IsCount (λ ended. IsCountFault n)
count_gives n ended text = at (whole_of (trimmed text)) refl
  where
    sized : (count : ℕ) → whole_of (trimmed text) ≡ Some count → (65536 < count) ⊎ (count ≤ 65536) → (r : Result ℕ GroFault) × LineGives IsCount (λ ended. IsCountFault n) ended text r
    sized count e (inl many) = (Err (TooManyAtoms n), (refl, (trimmed text, count, padded_found text, whole_written (trimmed text) count e, many)))
    sized count e (inr few) = (Ok count, record { digits = trimmed text; padded = padded_found text; number = whole_written (trimmed text) count e; few = few })

    at : (o : Option ℕ) → whole_of (trimmed text) ≡ o → (r : Result ℕ GroFault) × LineGives IsCount (λ ended. IsCountFault n) ended text r
    at None e = (Err (BadCount n), (refl, no_count text e))
    at (Some count) e = sized count e (cases_lt 65536 count)

-- ---- an atom

-- an unfinished line is short, or the line isn't
abbrev IsShortOf : ℕ → ℕ → Bool → Type 0
IsShortOf least size ended = ((ended ≡ false) × (size < least)) ⊎ (ended ≡ false → least ≤ size)

short_or_not : (least size : ℕ) (ended : Bool) → IsShortOf least size ended
short_or_not least size true = inr (λ e. absurd cc)
short_or_not least size false = at (cases_lt size least)
  where
    at : (size < least) ⊎ (least ≤ size) → IsShortOf least size false
    at (inl less) = inl (refl, less)
    at (inr enough) = inr (λ e. enough)

atom_gives : (n : ℕ) → LinesGive IsAtomLine (IsAtomFault n)
atom_gives n ended text = start (short_or_not 44 (length text) ended)
  where
    fields : (ended ≡ false → 44 ≤ length text) → is_printable text ≡ true → points_of text ≡ Some 8 → (o : Option AtomView) → fields_of text ≡ o
        → (r : Result AtomView GroFault) × LineGives IsAtomLine (IsAtomFault n) ended text r
    fields long printable points None e = let bad = no_fields text points e in (Err (BadColumns n), (refl, long, bad.0, bad.1))
    fields long printable points (Some a) e = (Ok a, fields_written text a printable e)

    apart : (ended ≡ false → 44 ≤ length text) → is_printable text ≡ true → (distance : ℕ) → points_of text ≡ Some distance → (distance ≡ 8) ⊎ (distance ≡ 8 → ⊥)
        → (r : Result AtomView GroFault) × LineGives IsAtomLine (IsAtomFault n) ended text r
    apart long printable distance e (inl same) = fields long printable (subst (λ (d : ℕ). points_of text ≡ Some d) same e) (fields_of text) refl
    apart long printable distance e (inr other) = (Err (Precision n), (refl, long, (printable, (distance, points_found text distance e, other))))

    points : (ended ≡ false → 44 ≤ length text) → is_printable text ≡ true → (o : Option ℕ) → points_of text ≡ o → (r : Result AtomView GroFault) × LineGives IsAtomLine (IsAtomFault n) ended text r
    points long printable None e = let bad = no_points text e in (Err (BadColumns n), (refl, long, bad.0, bad.1))
    points long printable (Some distance) e = apart long printable distance e (cases_eq distance 8)

    bytes : (ended ≡ false → 44 ≤ length text) → (b : Bool) → is_printable text ≡ b → (r : Result AtomView GroFault) × LineGives IsAtomLine (IsAtomFault n) ended text r
    bytes long true e = points long e (points_of text) refl
    bytes long false e = (
      Err (BadColumns n),
      (refl, long, λ other. let printable = other.0 in absurd cc, λ a is. let printable = is.printable in absurd cc),
    )

    start : IsShortOf 44 (length text) ended → (r : Result AtomView GroFault) × LineGives IsAtomLine (IsAtomFault n) ended text r
    start (inl short) = (Err Truncated, short)
    start (inr long) = bytes long (is_printable text) refl

-- ---- the box

box_gives : (n : ℕ) → LinesGive IsBox (IsBoxFault n)
box_gives n ended text = start (short_or_not 3 (length (words text)) ended)
  where
    zeros : (vs : List ℤ) → values_of (words text) ≡ Some vs → 3 ≤ length (words text) → length (words text) ≤ 9 → (b : Bool) → list_all is_zero (drop 3 vs) ≡ b
        → (r : Result (List ℤ) GroFault) × LineGives IsBox (IsBoxFault n) ended text r
    zeros vs e least most true z = (Ok (take 3 vs), box_written text vs e least most z)
    zeros vs e least most false z = (Err (Triclinic n), (refl, tilted text vs e least most z))

    read : (ended ≡ false → 3 ≤ length (words text)) → 3 ≤ length (words text) → length (words text) ≤ 9 → (o : Option (List ℤ)) → values_of (words text) ≡ o
        → (r : Result (List ℤ) GroFault) × LineGives IsBox (IsBoxFault n) ended text r
    read enough least most None e = (Err (BadBox n), (refl, enough, λ values has. none_is_no_some values (sym e ∙ values_read (words text) values has.0)))
    read enough least most (Some vs) e = zeros vs e least most (list_all is_zero (drop 3 vs)) refl

    sized : (ended ≡ false → 3 ≤ length (words text)) → (length (words text) < 3) ⊎ (3 ≤ length (words text)) → (9 < length (words text)) ⊎ (length (words text) ≤ 9)
        → (r : Result (List ℤ) GroFault) × LineGives IsBox (IsBoxFault n) ended text r
    sized enough (inl few) most = (Err (BadBox n), (refl, enough, λ values has. omega (arith, few, has.1, values_length (words text) values has.0)))
    sized enough (inr least) (inl many) = (Err (BadBox n), (refl, enough, λ values has. omega (arith, many, has.2, values_length (words text) values has.0)))
    sized enough (inr least) (inr most) = read enough least most (values_of (words text)) refl

    start : IsShortOf 3 (length (words text)) ended → (r : Result (List ℤ) GroFault) × LineGives IsBox (IsBoxFault n) ended text r
    start (inl short) = (Err Truncated, short)
    start (inr enough) = sized enough (cases_lt (length (words text)) 3) (cases_lt 9 (length (words text)))

-- ---- the atoms of a frame

-- the bytes start with k atoms, or with fewer, and then a line with the fault
abbrev AtomsGive : (n k : ℕ) → List ℕ → Result (List AtomView × List ℕ) GroFault → Type 0
AtomsGive n k bytes (Ok x) = AreAtoms bytes x.0 x.1 × (length x.0 ≡ k) × (length x.1 ≤ length bytes)
AtomsGive n k bytes (Err f) = HasBadAtom n k bytes f

atoms_after : (n k : ℕ) (bytes : List ℕ) (a : AtomView) (rest text : List ℕ) → IsLine bytes text rest → IsAtomLine text a → length rest < length bytes
    → (r : Result (List AtomView × List ℕ) GroFault) × AtomsGive (n + 1) k rest r → (r : Result (List AtomView × List ℕ) GroFault) × AtomsGive n (suc k) bytes r
atoms_after n k bytes a rest text line is less (Ok x, h) = (Ok (a ∷ x.0, x.1), ((text, rest, line, is, h.0), omega (arith, h.1), omega (arith, less, h.2)))
atoms_after n k bytes a rest text line is less (Err f, h) =
    let there : n + 1 + length h.0 ≡ n + length (a ∷ h.0) = omega arith in
    (Err f, (a ∷ h.0, h.1, (text, rest, line, is, h.2), omega (arith, h.3), subst (λ (m : ℕ). IsNeeded (IsAtomFault m) h.1 f) there h.4))

atoms_give : (n k : ℕ) (bytes : List ℕ) → (r : Result (List AtomView × List ℕ) GroFault) × AtomsGive n k bytes r
atoms_give n zero bytes = (Ok ([], bytes), (refl, refl, omega arith))
atoms_give n (suc k) bytes = from (needed_gives IsAtomLine (IsAtomFault n) (atom_gives n) bytes) (λ rest. atoms_give (n + 1) k rest)
  where
    from : (r : Result (AtomView × List ℕ) GroFault) × NeededGives IsAtomLine (IsAtomFault n) bytes r
        → ((rest : List ℕ) → (r : Result (List AtomView × List ℕ) GroFault) × AtomsGive (n + 1) k rest r)
        → (r : Result (List AtomView × List ℕ) GroFault) × AtomsGive n (suc k) bytes r
    from (Ok x, h) later = atoms_after n k bytes x.0 x.1 h.0 h.1 h.2 h.3 (later x.1)
    from (Err f, h) later =
        let here : n ≡ n + 0 = omega arith in
        (Err f, ([], bytes, refl, omega arith, subst (λ (m : ℕ). IsNeeded (IsAtomFault m) bytes f) here h))

-- ---- a frame

-- the bytes start with a frame, or with a frame that has the fault
abbrev FrameGives : ℕ → List ℕ → Result (FrameView × List ℕ) GroFault → Type 0
FrameGives n bytes (Ok x) = IsFrame bytes x.0 x.1 × (length x.1 < length bytes)
FrameGives n bytes (Err f) = IsFrameFault n bytes f

from_box : (n : ℕ) (bytes title : List ℕ) (count : ℕ) (atoms : List AtomView) (rest : List ℕ) → HasAtoms bytes title count atoms rest → length atoms ≡ count → length rest < length bytes
    → (r : Result (List ℤ × List ℕ) GroFault) × NeededGives IsBox (IsBoxFault (n + 2 + count)) rest r → (r : Result (FrameView × List ℕ) GroFault) × FrameGives n bytes r
from_box n bytes title count atoms rest has all less (Ok x, h) =
    (Ok (record { title = title; atoms = atoms; sides = x.0 }, x.1), (frame_whole bytes title count atoms rest h.0 x.0 x.1 has all h.1 h.2, omega (arith, less, h.3)))
from_box n bytes title count atoms rest has all less (Err f, h) = (Err f, bad_box title count atoms rest has all h)

module _ (n : ℕ) (bytes title after_title : List ℕ) (title_line : IsLine bytes title after_title) (shorter : length after_title < length bytes) where
  from_atoms : (count : ℕ) (after_count text : List ℕ) → IsLine after_title text after_count → IsCount text count → length after_count < length after_title
      → (r : Result (List AtomView × List ℕ) GroFault) × AtomsGive (n + 2) count after_count r → (r : Result (FrameView × List ℕ) GroFault) × FrameGives n bytes r
  from_atoms count after_count text line is less (Ok x, h) =
      from_box n bytes title count x.0 x.1 (starts bytes title after_title text after_count count x.0 x.1 title_line line is h.0) h.1 (omega (arith, shorter, less, h.2))
      (needed_gives IsBox (IsBoxFault (n + 2 + count)) (box_gives (n + 2 + count)) x.1)
  from_atoms count after_count text line is less (Err f, h) =
      (Err f, bad_atom title count h.0 h.1 (starts bytes title after_title text after_count count h.0 h.1 title_line line is h.2) h.3 h.4)

  from_count : (r : Result (ℕ × List ℕ) GroFault) × NeededGives IsCount (λ ended. IsCountFault (n + 1)) after_title r → (r : Result (FrameView × List ℕ) GroFault) × FrameGives n bytes r
  from_count (Ok x, h) = from_atoms x.0 x.1 h.0 h.1 h.2 h.3 (atoms_give (n + 2) x.0 x.1)
  from_count (Err f, h) = (Err f, bad_count title after_title title_line h)

frame_gives : (n : ℕ) (bytes : List ℕ) → (r : Result (FrameView × List ℕ) GroFault) × FrameGives n bytes r
frame_gives n [] = (Err Truncated, no_title refl refl)
frame_gives n (b ∷ bs) =
    let line = some_line (b ∷ bs) (omega arith) in
    from_count n (b ∷ bs) line.0 line.1 line.2 line.3 (needed_gives IsCount (λ ended. IsCountFault (n + 1)) (count_gives (n + 1)) line.1)

-- ---- all frames

-- the bytes are frames, the first on line n, or frames and then one with the fault
abbrev FramesGive : ℕ → List ℕ → Result (List FrameView) GroFault → Type 0
FramesGive n bytes (Ok frames) = IsGroText bytes frames
FramesGive n bytes (Err f) = (frames : List FrameView) × (line : ℕ) × (rest : List ℕ) × AreFrames n bytes frames line rest × IsFrameFault line rest f

frames_after : (n : ℕ) (bytes : List ℕ) (x : FrameView) (after : List ℕ) → IsFrame bytes x after → is_all_blank after ≡ false
    → (r : Result (List FrameView) GroFault) × FramesGive (n + length x.atoms + 3) after r → (r : Result (List FrameView) GroFault) × FramesGive n bytes r
frames_after n bytes x after frame more (Ok [], h) = absurd h
frames_after n bytes x after frame more (Ok (y ∷ ys), h) = (Ok (x ∷ y ∷ ys), (after, frame, h))
frames_after n bytes x after frame more (Err f, h) = (Err f, (x ∷ h.0, h.1, h.2, (after, frame, more, h.3), h.4))

frames_give : (size n : ℕ) (bytes : List ℕ) → length bytes < size → (r : Result (List FrameView) GroFault) × FramesGive n bytes r
frames_give zero n bytes less = absurd (omega (arith, less))
frames_give (suc size) n bytes less = from (frame_gives n bytes) (λ m rest fewer. frames_give size m rest (omega (arith, less, fewer)))
  where
    end : (x : FrameView) (after : List ℕ) → IsFrame bytes x after → ((m : ℕ) → (r : Result (List FrameView) GroFault) × FramesGive m after r) → (b : Bool) → is_all_blank after ≡ b
        → (r : Result (List FrameView) GroFault) × FramesGive n bytes r
    end x after frame later true e = (Ok (x ∷ []), (after, frame, e))
    end x after frame later false e = frames_after n bytes x after frame e (later (n + length x.atoms + 3))

    from : (r : Result (FrameView × List ℕ) GroFault) × FrameGives n bytes r
        → ((m : ℕ) (rest : List ℕ) → length rest < length bytes → (r : Result (List FrameView) GroFault) × FramesGive m rest r)
        → (r : Result (List FrameView) GroFault) × FramesGive n bytes r
    from (Ok x, h) later = end x.0 x.1 h.0 (λ m. later m x.1 h.1) (is_all_blank x.1) refl
    from (Err f, h) later = (Err f, ([], n, bytes, (refl, refl), h))

-- each text has a result
pub reads_always : ReadsAlways
reads_always bytes = at (frames_give (suc (length bytes)) 1 bytes (omega arith))
  where
    at : (r : Result (List FrameView) GroFault) × FramesGive 1 bytes r → (r : Result (List FrameView) GroFault) × ReadsAs bytes r
    at (Ok frames, h) = (Ok frames, h)
    at (Err f, h) = (Err f, record { frames = h.0; line = h.1; rest = h.2; before = h.3; fault = h.4 })
