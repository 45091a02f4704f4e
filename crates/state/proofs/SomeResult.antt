-- A text has a result: each line has its value or a fault, and the values of all lines are a state.
use Rattle.std.proofs.Common.{◌≡◌, ◌≢◌, ◌+◌, ◌≤◌, ℕ, zero, suc, List, [], ◌∷◌, ◌++◌, length, Option, Result, Ok, Err, ℤ, inl, inr, refl, sym, ap, subst, ◌∙◌, append_assoc, arith}
use Rattle.std.proofs.lemmas.List.{append-nil}
use Rattle.std.specs.List.{AllByRecursion}
use Rattle.fixed.specs.declared.frac.Frac.{Frac}
use Rattle.fixed.specs.declared.frac.Frac.TheVariants.{F32}
use Rattle.line_text.specs.Parts.{ended}
use Rattle.state.specs.StateFaults.{Format, HasFault, ReadsAlways, ReadsAs, at_end, at_line, atoms_format, bits_format, count_format, state_format}
use Rattle.state.specs.StateReading.{field_at}
use Rattle.state.specs.StateText.{AtomView, IsAtom, IsState, StateView, atom_line, atom_lines, bits_in, box_line, count_line, head_line, state_text, step_line, title_line, version_of}
use Rattle.state.specs.declared.faults.StateFault.{StateFault}
use Rattle.state.specs.declared.faults.StateFault.TheVariants.{Trailing}
use Rattle.state.specs.declared.versions.Version.{Version}
use Rattle.state.specs.declared.versions.Version.TheVariants.{First, Second}
use Rattle.state.proofs.FormatLaws.{IsReadable, IsReader, StartsWith, fault_here, fault_past, field_found}
use Rattle.state.proofs.StateLaws.{state_readable, text_is}

-- ---- any format

-- the bytes are the text of the state, or have the fault
abbrev FormatGives : Format → ℕ → List ℕ → Result StateView StateFault → Type 0
FormatGives φ n bytes (Ok s) = StartsWith φ bytes s []
FormatGives φ n bytes (Err f) = HasFault φ n bytes f

end_gives : (s : StateView) (n : ℕ) (bytes : List ℕ) → (r : Result StateView StateFault) × FormatGives (at_end s) n bytes r
unfolding HasFault
end_gives s n [] = (Ok s, (refl, refl))
end_gives s n (b ∷ bs) = (Err Trailing, (λ none. absurd cc, refl))

module _ {X : Type 0} (read : List ℕ → Option X) (line_of : X → List ℕ) (Fits : X → Type 0) (is : IsReader read line_of Fits) (next : X → Format) (n : ℕ) (bytes : List ℕ) where
  line_more : (x : X) (rest : List ℕ) → field_at n read bytes ≡ Ok (x, rest) → (r : Result StateView StateFault) × FormatGives (next x) (n + 1) rest r
      → (r : Result StateView StateFault) × FormatGives (at_line X line_of Fits next) n bytes r
  line_more x rest e (Ok s, h) = let found = field_found is n bytes (x, rest) e in (Ok s, (x, rest, found.1, found.0, h))
  line_more x rest e (Err f, h) = (Err f, fault_past is next n bytes f x rest e h)

  line_gives : ((x : X) (rest : List ℕ) → Fits x → (r : Result StateView StateFault) × FormatGives (next x) (n + 1) rest r) → (o : Result (X × List ℕ) StateFault) → field_at n read bytes ≡ o
      → (r : Result StateView StateFault) × FormatGives (at_line X line_of Fits next) n bytes r
  line_gives later (Ok p) e = line_more p.0 p.1 e (later p.0 p.1 (field_found is n bytes p e).1)
  line_gives later (Err f) e = (Err f, fault_here is next n bytes f e)

format_gives : (φ : Format) → IsReadable φ → (n : ℕ) (bytes : List ℕ) → (r : Result StateView StateFault) × FormatGives φ n bytes r
format_gives (at_end s) h n bytes = end_gives s n bytes
format_gives (at_line X line_of Fits next) h n bytes =
    line_gives h.0.0 line_of Fits h.0.1 next n bytes (λ x rest fits. format_gives (next x) (h.1 x fits) (n + 1) rest) (field_at n h.0.0 bytes) refl

-- ---- states' texts

-- the fraction bits of bytes in their format, and the bytes after them
whole_bits : (v : Version) (next : Frac → Format) (bytes : List ℕ) (s : StateView) (rest : List ℕ) → StartsWith (bits_format v next) bytes s rest
    → (frac : Frac) × (more : List ℕ) × (version_of frac ≡ v) × (bytes ≡ bits_in v frac ++ more) × StartsWith (next frac) more s rest
whole_bits First next bytes s rest h = (F32, bytes, refl, refl, h)
whole_bits Second next bytes s rest h = (h.0, h.1, h.2, h.3, h.4)

-- the atoms of bytes in their format, and the bytes after them
whole_atoms : (k : ℕ) (next : List AtomView → Format) (bytes : List ℕ) (s : StateView) (rest : List ℕ) → StartsWith (atoms_format k next) bytes s rest
    → (atoms : List AtomView) × (more : List ℕ) × AllByRecursion IsAtom atoms × (length atoms ≡ k) × (bytes ≡ atom_lines atoms ++ more) × StartsWith (next atoms) more s rest
whole_atoms zero next bytes s rest h = ([], bytes, tt, refl, refl, h)
whole_atoms (suc k) next bytes s rest (a, after, fits, e, h) =
    let later = whole_atoms k (λ atoms. next (a ∷ atoms)) after s rest h in (
      a ∷ later.0,
      later.1,
      (fits, later.2),
      ap suc later.3,
      e ∙ ap (λ (t : List ℕ). ended (atom_line a) ++ t) later.4 ∙ sym (append_assoc (ended (atom_line a)) (atom_lines later.0) later.1),
      later.5,
    )

-- bytes that start in the format of states start with a state's text
pub state_whole : (bytes : List ℕ) (s : StateView) (rest : List ℕ) → StartsWith state_format bytes s rest → IsState s × (bytes ≡ state_text s ++ rest)
state_whole bytes s rest (v, r1, _, head, (title, r2, title_fits, title_is, (step, r3, step_fits, step_is, bits))) =
    let b = whole_bits v (count_format title step) r3 s rest bits in
    from_count b.0 b.1 b.2 b.3 b.4
  where
    from_count : (frac : Frac) (r4 : List ℕ) → version_of frac ≡ v → r3 ≡ bits_in v frac ++ r4 → StartsWith (count_format title step frac) r4 s rest → IsState s × (bytes ≡ state_text s ++ rest)
    from_count frac r4 version bits_are (count, r5, count_fits, count_is, (sides, r6, sides_fit, sides_are, after)) =
        let a = whole_atoms count _ r6 s rest after in
        let t : StateView = record { title = title; step = step; frac = frac; sides = sides; atoms = a.0 } in
        let same : t ≡ s = a.5.0 in
        let whole = text_is t rest in
        let many = a.3 in
        let atoms = a.4 in
        let end = a.5.1 in
        let split : bytes ≡ state_text t ++ rest = cc (whole, head, title_is, step_is, version, bits_are, count_is, sides_are, many, atoms, end) in
        let is : IsState t = record {
          title = title_fits;
          step = step_fits;
          sides = sides_fit;
          count = omega (arith, a.3, count_fits);
          atoms = a.2;
        } in
        subst (λ (u : StateView). IsState u × (bytes ≡ state_text u ++ rest)) same (is, split)

-- each text has a result
pub reads_always : ReadsAlways
reads_always bytes = at (format_gives state_format state_readable 1 bytes)
  where
    at : (r : Result StateView StateFault) × FormatGives state_format 1 bytes r → (r : Result StateView StateFault) × ReadsAs bytes r
    at (Ok s, h) = let whole = state_whole bytes s [] h in (Ok s, (whole.0, whole.1 ∙ append-nil (state_text s)))
    at (Err f, h) = (Err f, h)
