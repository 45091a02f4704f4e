-- A text is read in one way: two frames, two faults, or a frame and a fault don't begin at the same line.
use Rattle.std.proofs.Common.{◌≡◌, ℕ, zero, suc, ◌+◌, ◌<◌, ◌≤◌, ◌⊎◌, inl, inr, Bool, true, List, [], ◌∷◌, ◌++◌, length, drop, take, replicate, Option, Some, Ok, Err, ℤ, pos, refl, sym, ap, subst, ◌∙◌, arith}
use Rattle.std.proofs.lemmas.List.{drop_at, take_at, length-append, length-replicate}
use Rattle.line_text.specs.Words.{words}
use Rattle.gro.specs.declared.faults.GroFault.{GroFault}
use Rattle.gro.specs.declared.faults.GroFault.TheVariants.{Truncated, BadCount, BadColumns, Precision, BadBox, Triclinic, TooManyAtoms}
use Rattle.gro.specs.Frames.{AtomView, FrameView}
use Rattle.gro.specs.GroText.{AreAtoms, AreValues, IsAtomLine, IsBox, IsCount, IsFrame, IsGroText, IsLine, is_all_blank}
use Rattle.gro.specs.GroFaults.{AreFrames, HasAtoms, HasValues, IsAtomFault, IsBoxFault, IsCountFault, IsFrameFault, IsNeeded, is_ended, ReadsOnce, bad_atom, bad_box, bad_count, no_title}
use Rattle.gro.proofs.LineLaws.{line_once, no_line_left}
use Rattle.gro.proofs.CountLaws.{number_read}
use Rattle.gro.proofs.AtomLaws.{fields_read, points_read}
use Rattle.gro.proofs.BoxLaws.{values_length, values_read}
use Rattle.gro.proofs.FaultLaws.{points_again}
use Rattle.gro.proofs.FrameLaws.{frames_not_blank}

-- ---- a line

-- what a line of this kind says has one value, or one fault
record OneResult {X : Type 0} (Is : List ℕ → X → Type 0) (IsWrong : Bool → List ℕ → GroFault → Type 0) : Type 0 where
  value : (text : List ℕ) (x y : X) → Is text x → Is text y → x ≡ y
  apart : (ended : Bool) (text : List ℕ) (x : X) (f : GroFault) → Is text x → IsWrong ended text f → ⊥
  fault : (ended : Bool) (text : List ℕ) (f g : GroFault) → IsWrong ended text f → IsWrong ended text g → f ≡ g

module _ {X : Type 0} (Is : List ℕ → X → Type 0) (IsWrong : Bool → List ℕ → GroFault → Type 0) (one : OneResult Is IsWrong) (bytes : List ℕ) where
  needed_apart : (text rest : List ℕ) (x : X) (f : GroFault) → IsLine bytes text rest → Is text x → IsNeeded IsWrong bytes f → ⊥
  needed_apart text rest x f line is (inl none) = no_line_left bytes text rest none.0 line
  needed_apart text rest x f line is (inr (u, s, other, wrong)) =
      one.apart (is_ended bytes) u x f (subst (λ (t : List ℕ). Is t x) (line_once bytes text u rest s line other).0 is) wrong

  needed_once : (f g : GroFault) → IsNeeded IsWrong bytes f → IsNeeded IsWrong bytes g → f ≡ g
  needed_once f g (inl a) (inl b) = a.1 ∙ sym b.1
  needed_once f g (inl a) (inr (u, s, line, wrong)) = absurd (no_line_left bytes u s a.0 line)
  needed_once f g (inr (t, r, line, wrong)) (inl b) = absurd (no_line_left bytes t r b.0 line)
  needed_once f g (inr (t, r, line, wrong)) (inr (u, s, other, bad)) =
      one.fault (is_ended bytes) u f g (subst (λ (v : List ℕ). IsWrong (is_ended bytes) v f) (line_once bytes t u r s line other).0 wrong) bad

-- ---- the number of atoms

count_once : (n : ℕ) → OneResult IsCount (λ ended. IsCountFault n)
count_once n = record { value = value; apart = apart; fault = fault }
  where
    value : (text : List ℕ) (x y : ℕ) → IsCount text x → IsCount text y → x ≡ y
    value text x y a b =
        let same : ◌≡◌ {A = Option ℕ} (Some x) (Some y) = sym (number_read text a.digits x a.padded a.number) ∙ number_read text b.digits y b.padded b.number in
        cc

    apart : (ended : Bool) (text : List ℕ) (x : ℕ) (f : GroFault) → IsCount text x → IsCountFault n text f → ⊥
    apart ended text x (BadCount m) a w = w.1 a.digits x a.padded a.number
    apart ended text x (TooManyAtoms m) a w =
        let same : ◌≡◌ {A = Option ℕ} (Some x) (Some w.1.1) = sym (number_read text a.digits x a.padded a.number) ∙ number_read text w.1.0 w.1.1 w.1.2 w.1.3 in
        let equal : x ≡ w.1.1 = cc in
        omega (arith, a.few, w.1.4, equal)
    apart ended text x _ a w = absurd w

    fault : (ended : Bool) (text : List ℕ) (f g : GroFault) → IsCountFault n text f → IsCountFault n text g → f ≡ g
    fault ended text (BadCount m) (BadCount k) a b = ap (λ (x : ℕ). BadCount x) (a.0 ∙ sym b.0)
    fault ended text (BadCount m) (TooManyAtoms k) a b = absurd (a.1 b.1.0 b.1.1 b.1.2 b.1.3)
    fault ended text (BadCount m) _ a b = absurd b
    fault ended text (TooManyAtoms m) (BadCount k) a b = absurd (b.1 a.1.0 a.1.1 a.1.2 a.1.3)
    fault ended text (TooManyAtoms m) (TooManyAtoms k) a b = ap (λ (x : ℕ). TooManyAtoms x) (a.0 ∙ sym b.0)
    fault ended text (TooManyAtoms m) _ a b = absurd b
    fault ended text _ g a b = absurd a

-- ---- an atom

atom_once : (n : ℕ) → OneResult IsAtomLine (IsAtomFault n)
atom_once n = record { value = value; apart = apart; fault = fault }
  where
    value : (text : List ℕ) (x y : AtomView) → IsAtomLine text x → IsAtomLine text y → x ≡ y
    value text x y a b = let same : ◌≡◌ {A = Option AtomView} (Some x) (Some y) = sym (fields_read text x a) ∙ fields_read text y b in cc

    apart : (ended : Bool) (text : List ℕ) (x : AtomView) (f : GroFault) → IsAtomLine text x → IsAtomFault n ended text f → ⊥
    apart ended text x Truncated a w = omega (arith, a.long, w.1)
    apart ended text x (Precision m) a w =
        let other = w.2.1 in
        let same : ◌≡◌ {A = Option ℕ} (Some other.0) (Some 8) = sym (points_again text other.0 other.1) ∙ points_read text x.at a.long a.at in
        other.2 cc
    apart ended text x (BadColumns m) a w = w.3 x a
    apart ended text x _ a w = absurd w

    fault : (ended : Bool) (text : List ℕ) (f g : GroFault) → IsAtomFault n ended text f → IsAtomFault n ended text g → f ≡ g
    fault ended text Truncated Truncated a b = refl
    fault ended text Truncated (Precision k) a b = absurd (omega (arith, a.1, b.1 a.0))
    fault ended text Truncated (BadColumns k) a b = absurd (omega (arith, a.1, b.1 a.0))
    fault ended text Truncated _ a b = absurd b
    fault ended text (Precision m) Truncated a b = absurd (omega (arith, b.1, a.1 b.0))
    fault ended text (Precision m) (Precision k) a b = ap (λ (x : ℕ). Precision x) (a.0 ∙ sym b.0)
    fault ended text (Precision m) (BadColumns k) a b = absurd (b.2 a.2)
    fault ended text (Precision m) _ a b = absurd b
    fault ended text (BadColumns m) Truncated a b = absurd (omega (arith, b.1, a.1 b.0))
    fault ended text (BadColumns m) (Precision k) a b = absurd (a.2 b.2)
    fault ended text (BadColumns m) (BadColumns k) a b = ap (λ (x : ℕ). BadColumns x) (a.0 ∙ sym b.0)
    fault ended text (BadColumns m) _ a b = absurd b
    fault ended text _ g a b = absurd a

-- ---- the box

same_values : (text : List ℕ) (vs us : List ℤ) → AreValues (words text) vs → AreValues (words text) us → vs ≡ us
same_values text vs us a b =
    let same : ◌≡◌ {A = Option (List ℤ)} (Some vs) (Some us) = sym (values_read (words text) vs a) ∙ values_read (words text) us b in
    cc

box_values : (text : List ℕ) (sides : List ℤ) (h : IsBox text sides) → HasValues text (sides ++ replicate h.zeros (pos 0))
box_values text sides h =
    let few = h.few in
    let three = h.three in
    let count = length-append sides (replicate h.zeros (pos 0)) in
    let zeros = length-replicate {A = ℤ} h.zeros (pos 0) in
    (h.values, omega (arith, count, zeros), omega (arith, count, zeros))

box_once : (n : ℕ) → OneResult IsBox (IsBoxFault n)
box_once n = record { value = value; apart = apart; fault = fault }
  where
    value : (text : List ℕ) (x y : List ℤ) → IsBox text x → IsBox text y → x ≡ y
    value text x y a b =
        let zeros = λ (k : ℕ). replicate k (pos 0) in
        let same = same_values text (x ++ zeros a.zeros) (y ++ zeros b.zeros) a.values b.values in
        sym (take_at x (zeros a.zeros) 3 a.three) ∙ ap (take 3) same ∙ take_at y (zeros b.zeros) 3 b.three

    short : (text : List ℕ) (vs : List ℤ) → HasValues text vs → length (words text) < 3 → ⊥
    short text vs h less = omega (arith, less, h.1, values_length (words text) vs h.0)

    apart : (ended : Bool) (text : List ℕ) (x : List ℤ) (f : GroFault) → IsBox text x → IsBoxFault n ended text f → ⊥
    apart ended text x Truncated a w = short text _ (box_values text x a) w.1
    apart ended text x (BadBox m) a w = w.2 _ (box_values text x a)
    apart ended text x (Triclinic m) a w =
        w.1.2 a.zeros
        (ap (drop 3) (same_values text w.1.0 (x ++ replicate a.zeros (pos 0)) w.1.1.0 a.values) ∙ drop_at x (replicate a.zeros (pos 0)) 3 a.three)
    apart ended text x _ a w = absurd w

    fault : (ended : Bool) (text : List ℕ) (f g : GroFault) → IsBoxFault n ended text f → IsBoxFault n ended text g → f ≡ g
    fault ended text Truncated Truncated a b = refl
    fault ended text Truncated (BadBox k) a b = absurd (omega (arith, a.1, b.1 a.0))
    fault ended text Truncated (Triclinic k) a b = absurd (short text b.1.0 b.1.1 a.1)
    fault ended text Truncated _ a b = absurd b
    fault ended text (BadBox m) Truncated a b = absurd (omega (arith, b.1, a.1 b.0))
    fault ended text (BadBox m) (BadBox k) a b = ap (λ (x : ℕ). BadBox x) (a.0 ∙ sym b.0)
    fault ended text (BadBox m) (Triclinic k) a b = absurd (a.2 b.1.0 b.1.1)
    fault ended text (BadBox m) _ a b = absurd b
    fault ended text (Triclinic m) Truncated a b = absurd (short text a.1.0 a.1.1 b.1)
    fault ended text (Triclinic m) (BadBox k) a b = absurd (b.2 a.1.0 a.1.1)
    fault ended text (Triclinic m) (Triclinic k) a b = ap (λ (x : ℕ). Triclinic x) (a.0 ∙ sym b.0)
    fault ended text (Triclinic m) _ a b = absurd b
    fault ended text _ g a b = absurd a

-- ---- the atoms of a frame

-- no line of an atom follows
abbrev NoAtom : List ℕ → Type 0
NoAtom rest = (text after : List ℕ) (a : AtomView) → IsLine rest text after → IsAtomLine text a → ⊥

-- these are k atoms, or they are fewer and no line of an atom follows
abbrev Stop : ℕ → List AtomView → List ℕ → Type 0
Stop k atoms rest = (length atoms ≡ k) ⊎ ((length atoms < k) × NoAtom rest)

no_atom : (n : ℕ) (rest : List ℕ) (f : GroFault) → IsNeeded (IsAtomFault n) rest f → NoAtom rest
no_atom n rest f wrong = λ text after a line is. needed_apart IsAtomLine (IsAtomFault n) (atom_once n) rest text after a f line is wrong

within : (k : ℕ) (atoms : List AtomView) (rest : List ℕ) → Stop k atoms rest → length atoms ≤ k
within k atoms rest (inl e) = omega arith
within k atoms rest (inr p) = omega (arith, p.0)

stop_later : (k : ℕ) (x : AtomView) (xs : List AtomView) (rest : List ℕ) → Stop (suc k) (x ∷ xs) rest → Stop k xs rest
stop_later k x xs rest (inl e) = inl (omega arith)
stop_later k x xs rest (inr p) = inr (omega (arith, p.0), p.1)

no_more : (k : ℕ) (bytes : List ℕ) (r : List ℕ) (y : AtomView) (ys : List AtomView) (s : List ℕ) → bytes ≡ r → AreAtoms bytes (y ∷ ys) s → Stop k [] r → Stop k (y ∷ ys) s → ⊥
no_more k bytes r y ys s e b (inl none) q = omega (arith, none, within k (y ∷ ys) s q)
no_more k bytes r y ys s e b (inr p) q = p.1 b.0 b.1 y (subst (λ (t : List ℕ). IsLine t b.0 b.1) e b.2) b.3

same_atoms : (k : ℕ) (bytes : List ℕ) (xs ys : List AtomView) (r s : List ℕ) → AreAtoms bytes xs r → AreAtoms bytes ys s → Stop k xs r → Stop k ys s → (xs ≡ ys) × (r ≡ s)
same_atoms k bytes [] [] r s a b p q = (refl, sym a ∙ b)
same_atoms k bytes [] (y ∷ ys) r s a b p q = absurd (no_more k bytes r y ys s a b p q)
same_atoms k bytes (x ∷ xs) [] r s a b p q = absurd (no_more k bytes s x xs r b a q p)
same_atoms zero bytes (x ∷ xs) (y ∷ ys) r s a b p q = absurd (omega (arith, within zero (x ∷ xs) r p))
same_atoms (suc k) bytes (x ∷ xs) (y ∷ ys) r s a b p q =
    let line = line_once bytes a.0 b.0 a.1 b.1 a.2 b.2 in
    let first : x ≡ y = (atom_once 0).value b.0 x y (subst (λ (t : List ℕ). IsAtomLine t x) line.0 a.3) b.3 in
    let later = same_atoms k b.1 xs ys r s (subst (λ (t : List ℕ). AreAtoms t xs r) line.1 a.4) b.4 (stop_later k x xs r p) (stop_later k y ys s q) in
    (cc (first, later.0), later.1)

-- ---- a frame

start_once : (bytes t u : List ℕ) (c d : ℕ) (xs ys : List AtomView) (r s : List ℕ) → HasAtoms bytes t c xs r → HasAtoms bytes u d ys s → Stop c xs r → Stop d ys s
    → (t ≡ u) × (c ≡ d) × (xs ≡ ys) × (r ≡ s)
start_once bytes t u c d xs ys r s a b p q =
    let title = line_once bytes t u a.after_title b.after_title a.title_line b.title_line in
    let line = line_once b.after_title a.count_text b.count_text a.after_count b.after_count (subst (λ (x : List ℕ). IsLine x a.count_text a.after_count) title.1 a.count_line) b.count_line in
    let count : c ≡ d = (count_once 0).value b.count_text c d (subst (λ (x : List ℕ). IsCount x c) line.0 a.counted) b.counted in
    let atoms = same_atoms d b.after_count xs ys r s (subst (λ (x : List ℕ). AreAtoms x xs r) line.1 a.atoms') b.atoms' (subst (λ (k : ℕ). Stop k xs r) count p) q in
    (title.0, count, atoms.0, atoms.1)

counted_apart : (m : ℕ) (bytes t u v : List ℕ) (c : ℕ) (xs : List AtomView) (r : List ℕ) (g : GroFault) → HasAtoms bytes t c xs r → IsLine bytes u v → IsNeeded (λ ended. IsCountFault m) v g → ⊥
counted_apart m bytes t u v c xs r g a line wrong =
    let title = line_once bytes t u a.after_title v a.title_line line in
    needed_apart IsCount (λ ended. IsCountFault m) (count_once m) v a.count_text a.after_count c g (subst (λ (x : List ℕ). IsLine x a.count_text a.after_count) title.1 a.count_line) a.counted wrong

frame_start : (bytes : List ℕ) (f : FrameView) (rest : List ℕ) (h : IsFrame bytes f rest) → HasAtoms bytes f.title (length f.atoms) f.atoms h.after_atoms
frame_start bytes f rest h = record {
  count_text = h.count;
  after_title = h.after_title;
  after_count = h.after_count;
  title_line = h.title_line;
  count_line = h.count_line;
  counted = h.counted;
  atoms' = h.atoms;
}

frame_same : (bytes : List ℕ) (f g : FrameView) (r s : List ℕ) → IsFrame bytes f r → IsFrame bytes g s → ◌≡◌ {A = FrameView × List ℕ} (f, r) (g, s)
frame_same bytes f g r s a b =
    let start = start_once bytes f.title g.title (length f.atoms) (length g.atoms) f.atoms g.atoms a.after_atoms b.after_atoms (frame_start bytes f r a) (frame_start bytes g s b) (inl refl) (inl refl) in
    let line = line_once b.after_atoms a.box_text b.box_text r s (subst (λ (x : List ℕ). IsLine x a.box_text r) start.3 a.box_line) b.box_line in
    let sides : f.sides ≡ g.sides = (box_once 0).value b.box_text f.sides g.sides (subst (λ (x : List ℕ). IsBox x f.sides) line.0 a.sides) b.sides in
    ap (λ (x : List ℕ). made x f.atoms f.sides r) start.0 ∙ ap (λ (x : List AtomView). made g.title x f.sides r) start.2 ∙ ap (λ (x : List ℤ). made g.title g.atoms x r) sides
    ∙ ap (λ (x : List ℕ). made g.title g.atoms g.sides x) line.1
  where
    made : List ℕ → List AtomView → List ℤ → List ℕ → FrameView × List ℕ
    made title atoms sides rest = (record { title = title; atoms = atoms; sides = sides }, rest)

frame_apart : (n : ℕ) (bytes : List ℕ) (f : FrameView) (r : List ℕ) (g : GroFault) → IsFrame bytes f r → IsFrameFault n bytes g → ⊥
frame_apart n bytes f r g h (no_title e w) = no_line_left bytes f.title h.after_title e h.title_line
frame_apart n bytes f r g h (bad_count u v line wrong) = counted_apart (n + 1) bytes f.title u v (length f.atoms) f.atoms h.after_atoms g (frame_start bytes f r h) line wrong
frame_apart n bytes f r g h (bad_atom u d ys s has less wrong) =
    let start = start_once bytes f.title u (length f.atoms) d f.atoms ys h.after_atoms s (frame_start bytes f r h) has (inl refl) (inr (less, no_atom (n + 2 + length ys) s g wrong)) in
    omega (arith, less, start.1, ap length start.2)
frame_apart n bytes f r g h (bad_box u d ys s has all wrong) =
    let start = start_once bytes f.title u (length f.atoms) d f.atoms ys h.after_atoms s (frame_start bytes f r h) has (inl refl) (inl all) in
    needed_apart IsBox (IsBoxFault (n + 2 + d)) (box_once (n + 2 + d)) s h.box_text r f.sides g (subst (λ (x : List ℕ). IsLine x h.box_text r) start.3 h.box_line) h.sides wrong

fault_once : (n : ℕ) (bytes : List ℕ) (f g : GroFault) → IsFrameFault n bytes f → IsFrameFault n bytes g → f ≡ g
fault_once n bytes f g (no_title e p) (no_title d q) = p ∙ sym q
fault_once n bytes f g (no_title e p) (bad_count u v line wrong) = absurd (no_line_left bytes u v e line)
fault_once n bytes f g (no_title e p) (bad_atom u d ys s has less wrong) = absurd (no_line_left bytes u has.after_title e has.title_line)
fault_once n bytes f g (no_title e p) (bad_box u d ys s has all wrong) = absurd (no_line_left bytes u has.after_title e has.title_line)
fault_once n bytes f g (bad_count t r line wrong) (no_title e q) = absurd (no_line_left bytes t r e line)
fault_once n bytes f g (bad_count t r line wrong) (bad_count u s other bad) =
    let title = line_once bytes t u r s line other in
    needed_once IsCount (λ ended. IsCountFault (n + 1)) (count_once (n + 1)) s f g (subst (λ (x : List ℕ). IsNeeded (λ ended. IsCountFault (n + 1)) x f) title.1 wrong) bad
fault_once n bytes f g (bad_count t r line wrong) (bad_atom u d ys s has less bad) = absurd (counted_apart (n + 1) bytes u t r d ys s f has line wrong)
fault_once n bytes f g (bad_count t r line wrong) (bad_box u d ys s has all bad) = absurd (counted_apart (n + 1) bytes u t r d ys s f has line wrong)
fault_once n bytes f g (bad_atom t c xs r has less wrong) (no_title e q) = absurd (no_line_left bytes t has.after_title e has.title_line)
fault_once n bytes f g (bad_atom t c xs r has less wrong) (bad_count u s line bad) = absurd (counted_apart (n + 1) bytes t u s c xs r g has line bad)
fault_once n bytes f g (bad_atom t c xs r has less wrong) (bad_atom u d ys s other fewer bad) =
    let start = start_once bytes t u c d xs ys r s has other (inr (less, no_atom (n + 2 + length xs) r f wrong)) (inr (fewer, no_atom (n + 2 + length ys) s g bad)) in
    let there = subst (λ (x : List AtomView). IsNeeded (IsAtomFault (n + 2 + length x)) s f) start.2 (subst (λ (x : List ℕ). IsNeeded (IsAtomFault (n + 2 + length xs)) x f) start.3 wrong) in
    needed_once IsAtomLine (IsAtomFault (n + 2 + length ys)) (atom_once (n + 2 + length ys)) s f g there bad
fault_once n bytes f g (bad_atom t c xs r has less wrong) (bad_box u d ys s other all bad) =
    let start = start_once bytes t u c d xs ys r s has other (inr (less, no_atom (n + 2 + length xs) r f wrong)) (inl all) in
    absurd (omega (arith, less, all, start.1, ap length start.2))
fault_once n bytes f g (bad_box t c xs r has all wrong) (no_title e q) = absurd (no_line_left bytes t has.after_title e has.title_line)
fault_once n bytes f g (bad_box t c xs r has all wrong) (bad_count u s line bad) = absurd (counted_apart (n + 1) bytes t u s c xs r g has line bad)
fault_once n bytes f g (bad_box t c xs r has all wrong) (bad_atom u d ys s other less bad) =
    let start = start_once bytes t u c d xs ys r s has other (inl all) (inr (less, no_atom (n + 2 + length ys) s g bad)) in
    absurd (omega (arith, less, all, start.1, ap length start.2))
fault_once n bytes f g (bad_box t c xs r has all wrong) (bad_box u d ys s other each bad) =
    let start = start_once bytes t u c d xs ys r s has other (inl all) (inl each) in
    let there = subst (λ (k : ℕ). IsNeeded (IsBoxFault (n + 2 + k)) s f) start.1 (subst (λ (x : List ℕ). IsNeeded (IsBoxFault (n + 2 + c)) x f) start.3 wrong) in
    needed_once IsBox (IsBoxFault (n + 2 + d)) (box_once (n + 2 + d)) s f g there bad

-- ---- all frames

first_frame : (bytes : List ℕ) (x : FrameView) (xs : List FrameView) → IsGroText bytes (x ∷ xs) → (rest : List ℕ) × IsFrame bytes x rest
first_frame bytes x [] h = (h.0, h.1)
first_frame bytes x (y ∷ ys) h = (h.0, h.1)

-- a frame that is the last in one reading is the last in the other
last_frame : (bytes : List ℕ) (x y : FrameView) (r s : List ℕ) → IsFrame bytes x r → IsFrame bytes y s → is_all_blank r ≡ true → is_all_blank s ≡ true
last_frame bytes x y r s a b blank = subst (λ (p : FrameView × List ℕ). is_all_blank p.1 ≡ true) (frame_same bytes x y r s a b) blank

texts_same : (bytes : List ℕ) (xs ys : List FrameView) → IsGroText bytes xs → IsGroText bytes ys → xs ≡ ys
texts_same bytes [] ys a b = absurd a
texts_same bytes (x ∷ xs) [] a b = absurd b
texts_same bytes (x ∷ []) (y ∷ []) a b = ap (λ (p : FrameView × List ℕ). p.0 ∷ []) (frame_same bytes x y a.0 b.0 a.1 b.1)
texts_same bytes (x ∷ []) (y ∷ z ∷ ys) a b = absurd (frames_not_blank b.0 (z ∷ ys) b.2 (last_frame bytes x y a.0 b.0 a.1 b.1 a.2))
texts_same bytes (x ∷ z ∷ xs) (y ∷ []) a b = absurd (frames_not_blank a.0 (z ∷ xs) a.2 (last_frame bytes y x b.0 a.0 b.1 a.1 b.2))
texts_same bytes (x ∷ v ∷ xs) (y ∷ w ∷ ys) a b =
    let same = frame_same bytes x y a.0 b.0 a.1 b.1 in
    let later = texts_same b.0 (v ∷ xs) (w ∷ ys) (subst (λ (p : FrameView × List ℕ). IsGroText p.1 (v ∷ xs)) same a.2) b.2 in
    ap (λ (p : FrameView × List ℕ). p.0 ∷ v ∷ xs) same ∙ ap (λ (l : List FrameView). y ∷ l) later

text_apart : (n : ℕ) (bytes : List ℕ) (xs ys : List FrameView) (m : ℕ) (rest : List ℕ) (f : GroFault) → IsGroText bytes xs → AreFrames n bytes ys m rest → IsFrameFault m rest f → ⊥
text_apart n bytes [] ys m rest f a b wrong = absurd a
text_apart n bytes (x ∷ xs) [] m rest f a b wrong =
    let first = first_frame bytes x xs a in
    frame_apart m rest x first.0 f (subst (λ (t : List ℕ). IsFrame t x first.0) (sym b.1) first.1) wrong
text_apart n bytes (x ∷ []) (y ∷ ys) m rest f a b wrong =
    let blank = last_frame bytes x y a.0 b.0 a.1 b.1 a.2 in
    let other = b.2 in
    cc
text_apart n bytes (x ∷ z ∷ xs) (y ∷ ys) m rest f a b wrong =
    let same = frame_same bytes x y a.0 b.0 a.1 b.1 in
    text_apart (n + length y.atoms + 3) b.0 (z ∷ xs) ys m rest f (subst (λ (p : FrameView × List ℕ). IsGroText p.1 (z ∷ xs)) same a.2) b.3 wrong

faults_same : (n : ℕ) (bytes : List ℕ) (xs ys : List FrameView) (m k : ℕ) (r s : List ℕ) (f g : GroFault) → AreFrames n bytes xs m r → IsFrameFault m r f → AreFrames n bytes ys k s → IsFrameFault k s g → f ≡ g
faults_same n bytes [] [] m k r s f g a wrong b bad =
    let here = subst (λ (t : List ℕ). IsFrameFault n t f) a.1 (subst (λ (l : ℕ). IsFrameFault l r f) a.0 wrong) in
    fault_once n bytes f g here (subst (λ (t : List ℕ). IsFrameFault n t g) b.1 (subst (λ (l : ℕ). IsFrameFault l s g) b.0 bad))
faults_same n bytes [] (y ∷ ys) m k r s f g a wrong b bad = absurd (frame_apart m r y b.0 f (subst (λ (t : List ℕ). IsFrame t y b.0) (sym a.1) b.1) wrong)
faults_same n bytes (x ∷ xs) [] m k r s f g a wrong b bad = absurd (frame_apart k s x a.0 g (subst (λ (t : List ℕ). IsFrame t x a.0) (sym b.1) a.1) bad)
faults_same n bytes (x ∷ xs) (y ∷ ys) m k r s f g a wrong b bad =
    let same = frame_same bytes x y a.0 b.0 a.1 b.1 in
    let later = subst (λ (p : FrameView × List ℕ). AreFrames (n + length p.0.atoms + 3) p.1 xs m r) same a.3 in
    faults_same (n + length y.atoms + 3) b.0 xs ys m k r s f g later wrong b.3 bad

-- reading a text gives one result
pub reads_once : ReadsOnce
reads_once bytes (Ok xs) (Ok ys) a b = ap (λ (l : List FrameView). Ok l) (texts_same bytes xs ys a b)
reads_once bytes (Ok xs) (Err g) a b = absurd (text_apart 1 bytes xs b.frames b.line b.rest g a b.before b.fault)
reads_once bytes (Err f) (Ok ys) a b = absurd (text_apart 1 bytes ys a.frames a.line a.rest f b a.before a.fault)
reads_once bytes (Err f) (Err g) a b = ap (λ (x : GroFault). Err x) (faults_same 1 bytes a.frames b.frames a.line b.line a.rest b.rest f g a.before a.fault b.before b.fault)
