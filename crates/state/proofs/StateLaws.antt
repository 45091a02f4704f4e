-- States' texts in their format: each text has one result, and bytes start with at most one state's text.
use Rattle.std.proofs.Common.{◌≡◌, ◌≢◌, ◌<◌, ◌+◌, ℕ, zero, suc, List, [], ◌∷◌, ◌++◌, length, Ok, Err, ℤ, inl, inr, refl, sym, ap, subst, ◌∙◌, append_assoc, arith}
use Rattle.std.proofs.lemmas.List.{append-nil, nil_from_length}
use Rattle.std.proofs.lemmas.Grind.{flat_map-append}
use Rattle.std.specs.List.{AllByRecursion}
use Rattle.fixed.specs.declared.frac.Frac.{Frac}
use Rattle.fixed.specs.declared.frac.Frac.TheVariants.{F24, F32, F40}
use Rattle.line_text.specs.Parts.{ended}
use Rattle.state.specs.Sources.{FaultsStartNoState, NoTextIsEmpty, StartsOneState}
use Rattle.state.specs.StateFaults.{Format, HasBadAtom, HasFault, IsCounted, IsLineFault, ReadsAs, ReadsOnce, atoms_format, bits_format, count_format, at_end, state_format}
use Rattle.state.specs.StateReading.{atom_of, count_number, count_of, field_at, frac_at, frac_of, head_of, sides_of, step_of, title_of}
use Rattle.state.specs.StateText.{AtomView, IsAtom, IsState, StateView, atom_line, atom_lines, bits_in, box_line, count_line, head_line, state_text, step_line, title_line, version_of}
use Rattle.state.specs.declared.faults.StateFault.{StateFault}
use Rattle.state.specs.declared.faults.StateFault.TheVariants.{Trailing}
use Rattle.state.specs.declared.versions.Version.{Version}
use Rattle.state.specs.declared.versions.Version.TheVariants.{First, Second}
use Rattle.state.proofs.AtomLaws.{atom_reader}
use Rattle.state.proofs.FormatLaws.{IsReadable, StartsWith, fault_once, field_found, line_fault, start_fault, start_once}
use Rattle.state.proofs.LineLaws.{bits_found, count_reader, frac_reader, head_reader, sides_reader, step_reader, title_reader}

-- ---- the format

bits_readable : (v : Version) (next : Frac → Format) → ((f : Frac) → IsReadable (next f)) → IsReadable (bits_format v next)
bits_readable First next h = h F32
bits_readable Second next h = ((frac_of, frac_reader), λ f _. h f)

atoms_readable : (k : ℕ) (next : List AtomView → Format) → ((atoms : List AtomView) → IsReadable (next atoms)) → IsReadable (atoms_format k next)
atoms_readable zero next h = h []
atoms_readable (suc k) next h = ((atom_of, atom_reader), λ a _. atoms_readable k (λ atoms. next (a ∷ atoms)) (λ atoms. h (a ∷ atoms)))

-- functions read the lines of the format
pub state_readable : IsReadable state_format
state_readable = (
  (head_of, head_reader),
  λ version _. (
    (title_of, title_reader),
    λ title _. (
      (step_of, step_reader),
      λ step _.
          bits_readable version (count_format title step) λ frac. (
            (count_of, count_reader),
            λ count _. (
              (sides_of, sides_reader),
              λ sides _.
                  atoms_readable count (λ atoms. at_end (record { title = title; step = step; frac = frac; sides = sides; atoms = atoms })) (λ atoms. tt),
            ),
          ),
    ),
  ),
)

-- ---- states' texts

-- a state's text from the top
pub text_is : (s : StateView) (rest : List ℕ)
    → state_text s ++ rest ≡ ended (head_line (version_of s.frac)) ++ (ended (title_line s.title) ++ (ended (step_line s.step) ++ (bits_in (version_of s.frac) s.frac
    ++ (ended (count_line (length s.atoms)) ++ (ended (box_line s.sides) ++ (atom_lines s.atoms ++ rest))))))
unfolding state_text
text_is s rest =
    in_turn (ended (head_line (version_of s.frac))) (ended (title_line s.title)) (ended (step_line s.step)) (bits_in (version_of s.frac) s.frac)
    (ended (count_line (length s.atoms))) (ended (box_line s.sides)) (atom_lines s.atoms)
  where
    in_turn : (a b c d e f g : List ℕ) → (a ++ b ++ c ++ d ++ e ++ f ++ g) ++ rest ≡ a ++ (b ++ (c ++ (d ++ (e ++ (f ++ (g ++ rest))))))
    in_turn a b c d e f g = simp append_assoc

starts_bits : (f : Frac) (next : Frac → Format) (bytes : List ℕ) (s : StateView) (rest : List ℕ) → StartsWith (next f) bytes s rest
    → StartsWith (bits_format (version_of f) next) (bits_in (version_of f) f ++ bytes) s rest
starts_bits F24 next bytes s rest h = (F24, bytes, refl, refl, h)
starts_bits F32 next bytes s rest h = h
starts_bits F40 next bytes s rest h = (F40, bytes, refl, refl, h)

starts_atoms : (atoms : List AtomView) (next : List AtomView → Format) (bytes : List ℕ) (s : StateView) (rest : List ℕ) → AllByRecursion IsAtom atoms → StartsWith (next atoms) bytes s rest
    → StartsWith (atoms_format (length atoms) next) (atom_lines atoms ++ bytes) s rest
starts_atoms [] next bytes s rest all h = h
starts_atoms (a ∷ atoms) next bytes s rest all h =
    (a, atom_lines atoms ++ bytes, all.0, append_assoc (ended (atom_line a)) (atom_lines atoms) bytes, starts_atoms atoms (λ more. next (a ∷ more)) bytes s rest all.1 h)

-- a state's text, and a rest
pub state_starts : (s : StateView) (rest : List ℕ) → IsState s → StartsWith state_format (state_text s ++ rest) s rest
state_starts s rest is =
    let atoms = starts_atoms s.atoms (λ atoms. at_end (record { title = s.title; step = s.step; frac = s.frac; sides = s.sides; atoms = atoms })) rest s rest is.atoms (refl, refl) in (
      version_of s.frac,
      _,
      tt,
      text_is s rest,
      (
        s.title,
        _,
        is.title,
        refl,
        (
          s.step,
          _,
          is.step,
          refl,
          starts_bits s.frac (count_format s.title s.step) _ s rest (length s.atoms, _, is.count, refl, (s.sides, _, is.sides, refl, atoms)),
        ),
      ),
    )

-- a state's text isn't empty
pub no_text_empty : NoTextIsEmpty
no_text_empty s none = by_version (version_of s.frac) _ (sym none ∙ sym (append-nil (state_text s)) ∙ text_is s [])
  where
    by_version : (v : Version) (more : List ℕ) → [] ≡ ended (head_line v) ++ more → ⊥
    by_version First more e = cc
    by_version Second more e = cc

-- bytes start with at most one state's text
pub starts_one : StartsOneState
starts_one s t more others is is' same =
    start_once state_format state_readable (state_text t ++ others) s t more others (subst (λ b. StartsWith state_format b s more) same (state_starts s more is)) (state_starts t others is')

-- the fault of bytes that start with a state's text is that more bytes follow
follows_state : (bytes : List ℕ) (f : StateFault) (s : StateView) (more : List ℕ) → HasFault state_format 1 bytes f → IsState s → bytes ≡ state_text s ++ more → (more ≢ []) × (f ≡ Trailing)
follows_state bytes f s more fault is text = start_fault state_format state_readable 1 bytes s more f (subst (λ b. StartsWith state_format b s more) (sym text) (state_starts s more is)) fault

-- bytes with a fault other than `Trailing` don't start with a state's text
pub faults_start_none : FaultsStartNoState
faults_start_none bytes f fault other s more is text = other (follows_state bytes f s more fault is text).1

no_both : (bytes : List ℕ) (s : StateView) (f : StateFault) → ReadsAs bytes (Ok s) → ReadsAs bytes (Err f) → ⊥
no_both bytes s f is fault = (follows_state bytes f s [] fault is.0 (is.1 ∙ sym (append-nil (state_text s)))).0 refl

-- reading a text gives one result
pub reads_once : ReadsOnce
reads_once bytes (Ok s) (Ok t) a b = ap (λ (x : StateView). Ok x) (starts_one s t [] [] a.0 b.0 (ap (λ (x : List ℕ). x ++ []) (sym a.1 ∙ b.1))).0
reads_once bytes (Ok s) (Err f) a b = absurd (no_both bytes s f a b)
reads_once bytes (Err f) (Ok s) a b = absurd (no_both bytes s f b a)
reads_once bytes (Err f) (Err g) a b = ap (λ (x : StateFault). Err x) (fault_once state_format state_readable 1 bytes f g a b)

-- ---- reading

-- a fault of the fraction bits
pub bits_fault : (v : Version) (next : Frac → Format) (bytes : List ℕ) (f : StateFault) → frac_at v bytes ≡ Err f → HasFault (bits_format v next) 4 bytes f
unfolding HasFault
bits_fault First next bytes f e = absurd cc
bits_fault Second next bytes f e = inl (line_fault frac_reader 4 bytes f e)

-- a fault after the fraction bits
pub fault_past_bits : (v : Version) (next : Frac → Format) (bytes : List ℕ) (p : Frac × List ℕ) (f : StateFault) → frac_at v bytes ≡ Ok p → HasFault (next p.0) (count_number v) p.1 f
    → HasFault (bits_format v next) 4 bytes f
unfolding HasFault
fault_past_bits First next bytes p f e h = let same : (F32, bytes) ≡ p = cc in subst (λ (q : Frac × List ℕ). HasFault (next q.0) 4 q.1 f → HasFault (next F32) 4 bytes f) same (λ x. x) h
fault_past_bits Second next bytes p f e h = let found = bits_found Second bytes p e in inr (p.0, p.1, found.1, found.0, h)

-- the bad line of an atom
pub atom_fault : (atoms : List AtomView) (k : ℕ) (next : List AtomView → Format) (n m : ℕ) (bytes rest : List ℕ) (f : StateFault) → AllByRecursion IsAtom atoms → bytes ≡ atom_lines atoms ++ rest
    → length atoms < k → n + length atoms ≡ m → IsLineFault atom_line IsAtom m rest f → HasFault (atoms_format k next) n bytes f
unfolding HasFault
atom_fault atoms zero next n m bytes rest f all split fewer number fault = absurd (omega (arith, fewer))
atom_fault [] (suc k) next n m bytes rest f all split fewer number fault =
    let here : m ≡ n = omega (arith, number) in inl (rw split (subst (λ (i : ℕ). IsLineFault atom_line IsAtom i rest f) here fault))
atom_fault (a ∷ atoms) (suc k) next n m bytes rest f all split fewer number fault =
    inr (
      a,
      atom_lines atoms ++ rest,
      all.0,
      split ∙ append_assoc (ended (atom_line a)) (atom_lines atoms) rest,
      atom_fault atoms k (λ more. next (a ∷ more)) (n + 1) m (atom_lines atoms ++ rest) rest f all.1 refl (omega (arith, fewer)) (omega (arith, number)) fault,
    )

-- a fault of one of the atoms, the first of which is on line n
pub atoms_fault : (k : ℕ) (next : List AtomView → Format) (n m : ℕ) (bytes : List ℕ) (f : StateFault) → n ≡ m → HasBadAtom m k bytes f → HasFault (atoms_format k next) n bytes f
atoms_fault k next n m bytes f number h = atom_fault h.0 k next n (m + length h.0) bytes h.1 f h.2 h.3 h.4 (omega (arith, number)) h.5

-- bytes after the last atom
pub trailing_fault : (atoms : List AtomView) (k : ℕ) (next : List AtomView → StateView) (n : ℕ) (bytes rest : List ℕ) → AllByRecursion IsAtom atoms → bytes ≡ atom_lines atoms ++ rest
    → length atoms ≡ k → rest ≢ [] → HasFault (atoms_format k (λ more. at_end (next more))) n bytes Trailing
unfolding HasFault
trailing_fault [] zero next n bytes rest all split many some = (λ none. some (sym split ∙ none), refl)
trailing_fault [] (suc k) next n bytes rest all split many some = absurd (omega (arith, many))
trailing_fault (a ∷ atoms) zero next n bytes rest all split many some = absurd (omega (arith, many))
trailing_fault (a ∷ atoms) (suc k) next n bytes rest all split many some =
    inr (
      a,
      atom_lines atoms ++ rest,
      all.0,
      split ∙ append_assoc (ended (atom_line a)) (atom_lines atoms) rest,
      trailing_fault atoms k (λ more. next (a ∷ more)) (n + 1) (atom_lines atoms ++ rest) rest all.1 refl (omega (arith, many)) some,
    )

-- the lines of some atoms, and the line of one more
pub atoms_more : (atoms : List AtomView) (a : AtomView) (n : ℕ) (bytes rest after : List ℕ) → bytes ≡ atom_lines atoms ++ rest → field_at n atom_of rest ≡ Ok (a, after)
    → bytes ≡ atom_lines (atoms ++ a ∷ []) ++ after
atoms_more atoms a n bytes rest after split read =
    let line = field_found atom_reader n rest (a, after) read in
    let both : atom_lines (atoms ++ a ∷ []) ≡ atom_lines atoms ++ ended (atom_line a) =
    flat_map-append (λ x. ended (atom_line x)) atoms (a ∷ []) ∙ ap (λ (t : List ℕ). atom_lines atoms ++ t) (append-nil (ended (atom_line a))) in
    split ∙ ap (λ (t : List ℕ). atom_lines atoms ++ t) line.0 ∙ sym (append_assoc (atom_lines atoms) (ended (atom_line a)) after) ∙ ap (λ (t : List ℕ). t ++ after) (sym both)

-- the text from the number of atoms on, whose parts are read one after another
pub counted_found : (n m count : ℕ) (sides : List ℕ) (atoms : List AtomView) (bytes after_count after_box rest : List ℕ) → field_at n count_of bytes ≡ Ok (count, after_count)
    → field_at m sides_of after_count ≡ Ok (sides, after_box) → after_box ≡ atom_lines atoms ++ rest → length rest ≡ 0 → length atoms ≡ count
    → bytes ≡ ended (count_line (length atoms)) ++ (ended (box_line sides) ++ atom_lines atoms)
counted_found n m count sides atoms bytes after_count after_box rest count_read sides_read split none many =
    let line = (field_found count_reader n bytes (count, after_count) count_read).0 in
    let box = (field_found sides_reader m after_count (sides, after_box) sides_read).0 in
    let nothing : rest ≡ [] = nil_from_length rest none in
    let last : after_box ≡ atom_lines atoms = split ∙ ap (λ (t : List ℕ). atom_lines atoms ++ t) nothing ∙ append-nil (atom_lines atoms) in
    cc (line, box, last, many)

-- if the parts of a state are read one after another, the text is the text of the state
pub text_found : (s : StateView) (v : Version) (title : List ℕ) (step : ℤ) (frac : Frac) (bytes r1 r2 r3 r4 : List ℕ) → field_at 1 head_of bytes ≡ Ok (v, r1)
    → field_at 2 title_of r1 ≡ Ok (title, r2) → field_at 3 step_of r2 ≡ Ok (step, r3) → frac_at v r3 ≡ Ok (frac, r4) → IsCounted title step frac r4 s → bytes ≡ state_text s
text_found s v title step frac bytes r1 r2 r3 r4 head_read title_read step_read frac_read counted =
    let whole = sym (append-nil (state_text s)) ∙ text_is s [] in
    let head = (field_found head_reader 1 bytes (v, r1) head_read).0 in
    let title_is = (field_found title_reader 2 r1 (title, r2) title_read).0 in
    let step_is = (field_found step_reader 3 r2 (step, r3) step_read).0 in
    let bits = bits_found v r3 (frac, r4) frac_read in
    cc (whole, head, title_is, step_is, bits.0, bits.1, counted.title', counted.step', counted.frac', counted.text, append-nil (atom_lines s.atoms))
