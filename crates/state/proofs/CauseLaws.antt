-- Faults have their causes, and no others. The lines before a fault are completed with values that fit.
use Rattle.std.proofs.Common.{◌≡◌, ◌≢◌, ◌+◌, ◌≤◌, ◌<◌, ◌^◌, ℕ, zero, suc, true, List, [], ◌∷◌, ◌++◌, length, codes, Err, ℤ, pos, negsuc, ◌≤ℤ◌, IsTrue, inl, inr, refl, sym, ap, subst, ◌∙◌, append_assoc, arith, lit<}
use Rattle.std.proofs.lemmas.List.{append-nil}
use Rattle.std.specs.List.{AllByRecursion, flat_map}
use Rattle.fixed.specs.declared.frac.Frac.{Frac}
use Rattle.fixed.specs.declared.frac.Frac.TheVariants.{F24}
use Rattle.line_text.specs.Parts.{ended, lacks}
use Rattle.ring_box.specs.declared.vectors.Place3.{Place3}
use Rattle.state.specs.Causes.{BeginsNone, BeginsState, CausesAreFaults, FaultsHaveCauses, IsBadLine, IsCause, IsTrailing, IsTruncated}
use Rattle.state.specs.StateFaults.{Format, HasFault, IsLineFault, ReadsAs, at_end, at_line, atoms_format, bits_format, count_format, no_end, no_value, state_format}
use Rattle.state.specs.StateText.{AtomView, IsAtom, IsState, StateView, atom_line, head_line, state_text, version_of}
use Rattle.state.specs.TakenLines.{AreLines}
use Rattle.state.specs.declared.faults.StateFault.{StateFault}
use Rattle.state.specs.declared.faults.StateFault.TheVariants.{BadLine, Trailing, Truncated}
use Rattle.state.specs.declared.versions.Version.{Version}
use Rattle.state.specs.declared.versions.Version.TheVariants.{First, Second}
use Rattle.state.proofs.FormatLaws.{IsReadable, StartsWith, line_parts}
use Rattle.state.proofs.StateLaws.{faults_start_none, state_readable, state_starts}
use Rattle.state.proofs.SomeResult.{state_whole}

-- ---- lines that can be completed

-- each line of the format has a value that fits
abbrev IsInhabited : Format → Type 0
IsInhabited (at_end s) = Unit {0}
IsInhabited (at_line X line_of Fits next) = ((x : X) × Fits x) × ((x : X) → Fits x → IsInhabited (next x))

some_text : (φ : Format) → IsInhabited φ → (text : List ℕ) × (s : StateView) × StartsWith φ text s []
some_text (at_end s) h = ([], s, (refl, refl))
some_text (at_line X line_of Fits next) h =
    let x = h.0 in
    let later = some_text (next x.0) (h.1 x.0 x.1) in
    (ended (line_of x.0) ++ later.0, later.1, (x.0, later.0, x.1, refl, later.2))

never_ended : (line more : List ℕ) → ended line ++ more ≢ []
never_ended [] more e = cc
never_ended (b ∷ bs) more e = cc

-- the bytes can be completed to a text in this format, with at least one byte
pub record Begins (φ : Format) (front : List ℕ) : Type 0 where
  pub state : StateView
  pub more : List ℕ
  pub some : more ≢ []
  pub starts : StartsWith φ (front ++ more) state []

begins_line : {X : Type 0} (line_of : X → List ℕ) (Fits : X → Type 0) (next : X → Format) → IsInhabited (at_line X line_of Fits next) → Begins (at_line X line_of Fits next) []
begins_line {X} line_of Fits next h =
    let x = h.0 in
    let later = some_text (next x.0) (h.1 x.0 x.1) in
    record {
      state = later.1;
      more = ended (line_of x.0) ++ later.0;
      some = never_ended (line_of x.0) later.0;
      starts = (x.0, later.0, x.1, refl, later.2);
    }

begins_more : {X : Type 0} (line_of : X → List ℕ) (Fits : X → Type 0) (next : X → Format) (x : X) (front : List ℕ) → Fits x → Begins (next x) front → Begins (at_line X line_of Fits next) (ended (line_of x) ++ front)
begins_more line_of Fits next x front fits b =
    record { state = b.state; more = b.more; some = b.some; starts = (x, front ++ b.more, fits, append_assoc (ended (line_of x)) front b.more, b.starts) }

no_lines : AreLines 0 []
no_lines = record { lines = []; many = refl; whole = tt; joined = refl }

more_lines : (count : ℕ) (line text : List ℕ) → lacks 10 line ≡ true → AreLines count text → AreLines (suc count) (ended line ++ text)
more_lines count line text bare are =
    record { lines = line ∷ are.lines; many = ap suc are.many; whole = (bare, are.whole); joined = ap (λ (t : List ℕ). ended line ++ t) are.joined }

-- ---- faults of any format

-- the line with the fault, from line n on; what follows this line doesn't change the fault
pub record HasBadAt (φ : Format) (n : ℕ) (bytes : List ℕ) (number : ℕ) : Type 0 where
  pub front : List ℕ
  pub line : List ℕ
  pub rest : List ℕ
  pub before : ℕ
  pub text : bytes ≡ front ++ (ended line ++ rest)
  pub number' : number ≡ n + before
  pub lines : AreLines before front
  pub whole : lacks 10 line ≡ true
  pub begun : Begins φ front
  pub again : (more : List ℕ) → HasFault φ n (front ++ (ended line ++ more)) (BadLine number)

-- the end of the last line is missing
pub record HasEndAt (φ : Format) (bytes : List ℕ) : Type 0 where
  pub front : List ℕ
  pub rest : List ℕ
  pub count : ℕ
  pub text : bytes ≡ front ++ rest
  pub lines : AreLines count front
  pub part : lacks 10 rest ≡ true
  pub begun : Begins φ front

-- the cause of a fault of bytes in this format, from line n on
abbrev HasCause : Format → ℕ → List ℕ → StateFault → Type 0
HasCause φ n bytes (BadLine number) = HasBadAt φ n bytes number
HasCause φ n bytes Truncated = HasEndAt φ bytes
HasCause φ n bytes Trailing = (s : StateView) × (rest : List ℕ) × (rest ≢ []) × StartsWith φ bytes s rest

module _ {X : Type 0} (line_of : X → List ℕ) (Fits : X → Type 0) (next : X → Format) (lack : (x : X) → Fits x → lacks 10 (line_of x) ≡ true) (h : IsInhabited (at_line X line_of Fits next)) where
  cause_here : (n : ℕ) (bytes : List ℕ) (f : StateFault) → IsLineFault line_of Fits n bytes f → HasCause (at_line X line_of Fits next) n bytes f
  unfolding HasFault
  cause_here n bytes f (no_end part is) =
      subst (HasCause (at_line X line_of Fits next) n bytes) (sym is)
      (record { front = []; rest = bytes; count = 0; text = refl; lines = no_lines; part = part; begun = begins_line line_of Fits next h })
  cause_here n bytes f (no_value text rest split whole never is) =
      subst (HasCause (at_line X line_of Fits next) n bytes) (sym is)
      (record {
        front = [];
        line = text;
        rest = rest;
        before = 0;
        text = split;
        number' = omega arith;
        lines = no_lines;
        whole = whole;
        begun = begins_line line_of Fits next h;
        again = λ more. inl (no_value text more refl whole never refl);
      })

  cause_past : (n : ℕ) (bytes : List ℕ) (f : StateFault) (x : X) (rest : List ℕ) → Fits x → bytes ≡ ended (line_of x) ++ rest → HasCause (next x) (n + 1) rest f → HasCause (at_line X line_of Fits next) n bytes f
  unfolding HasFault
  cause_past n bytes (BadLine number) x rest fits split c = record {
    front = ended (line_of x) ++ c.front;
    line = c.line;
    rest = c.rest;
    before = suc c.before;
    text = split ∙ ap (λ (t : List ℕ). ended (line_of x) ++ t) c.text ∙ sym (append_assoc (ended (line_of x)) c.front (ended c.line ++ c.rest));
    number' = omega (arith, c.number');
    lines = more_lines c.before (line_of x) c.front (lack x fits) c.lines;
    whole = c.whole;
    begun = begins_more line_of Fits next x c.front fits c.begun;
    again = λ more. inr (x, c.front ++ (ended c.line ++ more), fits, append_assoc (ended (line_of x)) c.front (ended c.line ++ more), c.again more);
  }
  cause_past n bytes Truncated x rest fits split c = record {
    front = ended (line_of x) ++ c.front;
    rest = c.rest;
    count = suc c.count;
    text = split ∙ ap (λ (t : List ℕ). ended (line_of x) ++ t) c.text ∙ sym (append_assoc (ended (line_of x)) c.front c.rest);
    lines = more_lines c.count (line_of x) c.front (lack x fits) c.lines;
    part = c.part;
    begun = begins_more line_of Fits next x c.front fits c.begun;
  }
  cause_past n bytes Trailing x rest fits split (s, after, some, starts) = (s, after, some, (x, rest, fits, split, starts))

has_cause : (φ : Format) → IsReadable φ → IsInhabited φ → (n : ℕ) (bytes : List ℕ) (f : StateFault) → HasFault φ n bytes f → HasCause φ n bytes f
unfolding HasFault
has_cause (at_end s) r h n bytes f e = subst (HasCause (at_end s) n bytes) (sym e.1) (s, bytes, e.0, (refl, refl))
has_cause (at_line X line_of Fits next) r h n bytes f (inl e) = cause_here line_of Fits next r.0.1.whole h n bytes f e
has_cause (at_line X line_of Fits next) r h n bytes f (inr (x, rest, fits, split, e)) =
    cause_past line_of Fits next r.0.1.whole h n bytes f x rest fits split (has_cause (next x) (r.1 x fits) (h.1 x fits) (n + 1) rest f e)

-- ---- states

-- the origin of the box
abbrev origin : Place3
origin = record { x = 0; y = 0; z = 0 }

-- an atom `A` at the origin
abbrev some_atom : AtomView
some_atom = record { residue_number = pos 0; residue = codes "A"; name = codes "A"; previous = origin; current = origin }

is_atom : IsAtom some_atom
is_atom = record {
  low = record { le = tt };
  high = record { le = tt };
  residue = refl;
  name = refl;
  previous = record { x = lit< tt; y = lit< tt; z = lit< tt };
  current = record { x = lit< tt; y = lit< tt; z = lit< tt };
}

bits_inhabited : (v : Version) (next : Frac → Format) → ((f : Frac) → IsInhabited (next f)) → IsInhabited (bits_format v next)
bits_inhabited First next h = h _
bits_inhabited Second next h = ((F24, refl), λ f _. h f)

atoms_inhabited : (k : ℕ) (next : List AtomView → Format) → ((atoms : List AtomView) → IsInhabited (next atoms)) → IsInhabited (atoms_format k next)
atoms_inhabited zero next h = h []
atoms_inhabited (suc k) next h = ((some_atom, is_atom), λ a _. atoms_inhabited k (λ atoms. next (a ∷ atoms)) (λ atoms. h (a ∷ atoms)))

-- each line of a state has a value: an empty title, step 0, 24 fraction bits, no atoms, sides of 10^-5 nm
state_inhabited : IsInhabited state_format
state_inhabited = (
  (First, tt),
  λ version _. (
    ([], refl),
    λ title _. (
      (pos 0, omega arith),
      λ step _.
          bits_inhabited version (count_format title step) λ frac. (
            (0, omega arith),
            λ count _. (
              (1 ∷ 1 ∷ 1 ∷ [], ((omega arith, omega arith), (omega arith, omega arith), (omega arith, omega arith))),
              λ sides _.
                  atoms_inhabited count (λ atoms. at_end (record { title = title; step = step; frac = frac; sides = sides; atoms = atoms })) (λ atoms. tt),
            ),
          ),
    ),
  ),
)

begins_state : (front : List ℕ) → Begins state_format front → BeginsState front
begins_state front b =
    let whole = state_whole (front ++ b.more) b.state [] b.starts in
    record { state = b.state; more = b.more; is = whole.0; some = b.some; text = sym (append-nil (state_text b.state)) ∙ sym whole.1 }

-- each fault has its cause
pub faults_have_causes : FaultsHaveCauses
faults_have_causes bytes f fault = at f (has_cause state_format state_readable state_inhabited 1 bytes f fault)
  where
    at : (g : StateFault) → HasCause state_format 1 bytes g → IsCause bytes g
    at (BadLine number) c = record {
      front = c.front;
      line = c.line;
      rest = c.rest;
      before = c.before;
      text = c.text;
      number' = omega (arith, c.number');
      lines = c.lines;
      whole = c.whole;
      begun = begins_state c.front c.begun;
      none = λ s more is text. faults_start_none (c.front ++ (ended c.line ++ more)) (BadLine number) (c.again more) (λ e. absurd cc) s [] is
          (sym (append_assoc c.front (ended c.line) more) ∙ sym text ∙ sym (append-nil (state_text s)));
    }
    at Truncated c = record { front = c.front; rest = c.rest; count = c.count; text = c.text; lines = c.lines; part = c.part; begun = begins_state c.front c.begun }
    at Trailing (s, rest, some, starts) = let whole = state_whole bytes s rest starts in record { state = s; rest = rest; is = whole.0; some = some; text = whole.1 }

-- ---- causes are faults

nothing_behind : (front more : List ℕ) → front ++ more ≡ [] → more ≡ []
nothing_behind [] more e = e
nothing_behind (b ∷ bs) more e = absurd cc

never_begins : {C : Type 0} (s : StateView) (front : List ℕ) → Begins (at_end s) front → C
never_begins s front b = absurd (b.some (nothing_behind front b.more b.starts.1))

module _ {X : Type 0} (line_of : X → List ℕ) (Fits : X → Type 0) (next : X → Format) (lack : (x : X) → Fits x → lacks 10 (line_of x) ≡ true) where
  -- the first of the lines that begin a text has a value that fits
  first_value : (line : List ℕ) (lines : List (List ℕ)) → lacks 10 line ≡ true → Begins (at_line X line_of Fits next) (flat_map ended (line ∷ lines))
      → (x : X) × Fits x × (line ≡ line_of x) × Begins (next x) (flat_map ended lines)
  first_value line lines bare b =
      let s = b.starts in
      let split = sym (append_assoc (ended line) (flat_map ended lines) b.more) ∙ s.3 in
      let parts = line_parts line (line_of s.0) (flat_map ended lines ++ b.more) s.1 bare (lack s.0 s.2) split in
      (s.0, s.2, parts.0, record { state = b.state; more = b.more; some = b.some; starts = subst (λ (t : List ℕ). StartsWith (next s.0) t b.state []) (sym parts.1) s.4 })

-- no text in this format begins so
abbrev BeginsNoText : Format → List ℕ → Type 0
BeginsNoText φ front = (s : StateView) (more : List ℕ) → StartsWith φ (front ++ more) s [] → ⊥

bad_fault : (φ : Format) → IsReadable φ → IsInhabited φ → (n : ℕ) (lines : List (List ℕ)) (line rest : List ℕ) → AllByRecursion (λ l. lacks 10 l ≡ true) lines → lacks 10 line ≡ true
    → Begins φ (flat_map ended lines) → BeginsNoText φ (flat_map ended lines ++ ended line) → HasFault φ n (flat_map ended lines ++ (ended line ++ rest)) (BadLine (n + length lines))
unfolding HasFault
bad_fault (at_end s) r h n lines line rest all bare b none = never_begins s (flat_map ended lines) b
bad_fault (at_line X line_of Fits next) r h n [] line rest all bare b none =
    let here : n + 0 ≡ n = omega arith in
    inl (no_value line rest refl bare (λ x fits same. let later = some_text (next x) (h.1 x fits) in none later.1 later.0 (x, later.0, fits, ap (λ (l : List ℕ). ended l ++ later.0) same, later.2))
    (ap (λ (k : ℕ). BadLine k) here))
bad_fault (at_line X line_of Fits next) r h n (l ∷ lines) line rest all bare b none =
    let v = first_value line_of Fits next r.0.1.whole l lines all.0 b in
    let same = v.2 in
    let there : n + 1 + length lines ≡ n + length (l ∷ lines) = omega arith in
    let split = append_assoc (ended l) (flat_map ended lines) (ended line ++ rest) ∙ ap (λ (t : List ℕ). ended t ++ (flat_map ended lines ++ (ended line ++ rest))) same in
    let below : BeginsNoText (next v.0) (flat_map ended lines ++ ended line) = λ s more starts.
    none s more (
      v.0,
      (flat_map ended lines ++ ended line) ++ more,
      v.1,
      in_turn (ended l) (flat_map ended lines) (ended line) more ∙ ap (λ (t : List ℕ). ended t ++ ((flat_map ended lines ++ ended line) ++ more)) same,
      starts,
    ) in
    inr (
      v.0,
      flat_map ended lines ++ (ended line ++ rest),
      v.1,
      split,
      subst (λ (k : ℕ). HasFault (next v.0) (n + 1) (flat_map ended lines ++ (ended line ++ rest)) (BadLine k)) there
          (bad_fault (next v.0) (r.1 v.0 v.1) (h.1 v.0 v.1) (n + 1) lines line rest all.1 bare v.3 below),
    )
  where
    in_turn : (a b c d : List ℕ) → ((a ++ b) ++ c) ++ d ≡ a ++ ((b ++ c) ++ d)
    in_turn a b c d = simp append_assoc

end_fault : (φ : Format) → IsReadable φ → (n : ℕ) (lines : List (List ℕ)) (rest : List ℕ) → AllByRecursion (λ l. lacks 10 l ≡ true) lines → lacks 10 rest ≡ true
    → Begins φ (flat_map ended lines) → HasFault φ n (flat_map ended lines ++ rest) Truncated
unfolding HasFault
end_fault (at_end s) r n lines rest all part b = never_begins s (flat_map ended lines) b
end_fault (at_line X line_of Fits next) r n [] rest all part b = inl (no_end part refl)
end_fault (at_line X line_of Fits next) r n (l ∷ lines) rest all part b =
    let v = first_value line_of Fits next r.0.1.whole l lines all.0 b in
    let split = append_assoc (ended l) (flat_map ended lines) rest ∙ ap (λ (t : List ℕ). ended t ++ (flat_map ended lines ++ rest)) v.2 in
    inr (v.0, flat_map ended lines ++ rest, v.1, split, end_fault (next v.0) (r.1 v.0 v.1) (n + 1) lines rest all.1 part v.3)

rest_fault : (φ : Format) (n : ℕ) (bytes : List ℕ) (s : StateView) (rest : List ℕ) → StartsWith φ bytes s rest → rest ≢ [] → HasFault φ n bytes Trailing
unfolding HasFault
rest_fault (at_end t) n bytes s rest h some = (λ none. some (sym h.1 ∙ none), refl)
rest_fault (at_line X line_of Fits next) n bytes s rest (x, more, fits, split, h) some = inr (x, more, fits, split, rest_fault (next x) (n + 1) more s rest h some)

begins_format : (front text : List ℕ) → front ≡ text → BeginsState front → Begins state_format text
begins_format front text same b = record {
  state = b.state;
  more = b.more;
  some = b.some;
  starts = subst (λ (t : List ℕ). StartsWith state_format t b.state []) (append-nil (state_text b.state) ∙ b.text ∙ ap (λ (t : List ℕ). t ++ b.more) same) (state_starts b.state [] b.is);
}

-- each cause is that of a fault
pub causes_are_faults : CausesAreFaults
causes_are_faults bytes (BadLine number) c =
    let all = c.lines.lines in
    let joined = c.lines.joined in
    let line = c.line in
    let none : BeginsNoText state_format (flat_map ended all ++ ended line) = λ s more starts.
    let whole = state_whole _ s [] starts in
    c.none s more whole.0 (sym (append-nil (state_text s)) ∙ sym whole.1 ∙ ap (λ (t : List ℕ). (t ++ ended line) ++ more) (sym joined)) in
    let there : 1 + length all ≡ number = omega (arith, c.number', c.lines.many) in
    let split : bytes ≡ flat_map ended all ++ (ended line ++ c.rest) = c.text ∙ ap (λ (t : List ℕ). t ++ (ended line ++ c.rest)) joined in
    rw split (subst (λ (k : ℕ). HasFault state_format 1 (flat_map ended all ++ (ended line ++ c.rest)) (BadLine k)) there
    (bad_fault state_format state_readable state_inhabited 1 all line c.rest c.lines.whole c.whole (begins_format c.front (flat_map ended all) joined c.begun) none))
causes_are_faults bytes Truncated c =
    let all = c.lines.lines in
    let joined = c.lines.joined in
    let split : bytes ≡ flat_map ended all ++ c.rest = c.text ∙ ap (λ (t : List ℕ). t ++ c.rest) joined in
    rw split (end_fault state_format state_readable 1 all c.rest c.lines.whole c.part (begins_format c.front (flat_map ended all) joined c.begun))
causes_are_faults bytes Trailing c =
    rest_fault state_format 1 bytes c.state c.rest (subst (λ (t : List ℕ). StartsWith state_format t c.state c.rest) (sym c.text) (state_starts c.state c.rest c.is)) c.some
