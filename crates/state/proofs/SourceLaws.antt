-- Texts that are taken from a source line by line: if such a text is no state's, its fault doesn't change with more
-- bytes.
use Rattle.std.proofs.Common.{◌≡◌, ◌≢◌, ◌⊎◌, ◌<◌, ◌-◌, ◌+◌, ℕ, zero, suc, Bool, true, false, List, [], ◌∷◌, ◌++◌, length, Option, Some, None, ℤ, inl, inr, refl, sym, ap, subst, ◌∙◌, append_assoc, arith, append-nil}
use Rattle.std.specs.List.{AllByRecursion, flat_map}
use Rattle.fixed.specs.declared.frac.Frac.{Frac}
use Rattle.fixed.specs.declared.frac.Frac.TheVariants.{F32}
use Rattle.line_text.specs.Parts.{◌>>=◌ as ◌|>◌, split_once, ended, lacks}
use Rattle.line_text.proofs.LineLaws.{cut_again, uncut}
use Rattle.state.specs.Sources.{IsAtEnd, IsLine, KeepsFaultBefore, Left, Takes}
use Rattle.state.specs.StateFaults.{Format, HasFault, at_end, at_line, atoms_format, count_format, no_end, no_value, state_format, title_format}
use Rattle.state.specs.StateReading.{count_number, count_of, head_of}
use Rattle.state.specs.StateText.{AtomView}
use Rattle.state.specs.TakenLines.{AreFewer, AreLines, AreTaken, IsCounted, IsFront, lines_after, lines_behind}
use Rattle.state.specs.declared.faults.StateFault.{StateFault}
use Rattle.state.specs.declared.faults.StateFault.TheVariants.{BadLine, Trailing, Truncated}
use Rattle.state.specs.declared.versions.Version.{Version}
use Rattle.state.specs.declared.versions.Version.TheVariants.{First, Second}
use Rattle.state.proofs.FormatLaws.{IsReadable, line_parts, not_whole}
use Rattle.state.proofs.LineLaws.{count_reader, head_reader}
use Rattle.state.proofs.StateLaws.{state_readable}

-- ---- texts by their lines, of which the last may lack its LF if E holds

-- a line with its LF, and what follows it
record WholeThen (Next : List ℕ → List ℕ → Type 0) (bytes : List ℕ) : Type 0 where
  bare : List ℕ
  more : List ℕ
  whole : lacks 10 bare ≡ true
  joined : bytes ≡ ended bare ++ more
  next : Next bare more

-- a line with its LF and what follows it, or the last bytes without an LF
abbrev LineThen : Type 0 → (List ℕ → List ℕ → Type 0) → List ℕ → Type 0
LineThen E Next bytes = WholeThen Next bytes ⊎ ((lacks 10 bytes ≡ true) × E)

-- this number of lines, and what follows them
abbrev Lines : Type 0 → (List ℕ → Type 0) → ℕ → List ℕ → Type 0
Lines E P zero bytes = P bytes
Lines E P (suc k) bytes = LineThen E (λ bare more. Lines E P k more) bytes

abbrev IsEmpty : List ℕ → Type 0
IsEmpty bytes = bytes ≡ []

lines_then : (E : Type 0) (P : List ℕ → Type 0) (lines : List (List ℕ)) (bytes : List ℕ) → AllByRecursion (λ line. lacks 10 line ≡ true) lines → P bytes
    → Lines E P (length lines) (flat_map ended lines ++ bytes)
lines_then E P [] bytes whole p = p
lines_then E P (line ∷ lines) bytes whole p =
    inl (record {
      bare = line;
      more = flat_map ended lines ++ bytes;
      whole = whole.0;
      joined = append_assoc (ended line) (flat_map ended lines) bytes;
      next = lines_then E P lines bytes whole.1 p;
    })

are_lines_then : (E : Type 0) (P : List ℕ → Type 0) (k : ℕ) (text bytes : List ℕ) → AreLines k text → P bytes → Lines E P k (text ++ bytes)
are_lines_then E P k text bytes are p =
    subst (λ (n : ℕ). Lines E P n (text ++ bytes)) are.many
    (subst (λ (t : List ℕ). Lines E P (length are.lines) (t ++ bytes)) (sym are.joined) (lines_then E P are.lines bytes are.whole p))

fewer_lines : (E : Type 0) (P : List ℕ → Type 0) (lines : List (List ℕ)) (k : ℕ) (last : List ℕ) → AllByRecursion (λ line. lacks 10 line ≡ true) lines → length lines < k
    → lacks 10 last ≡ true → E → Lines E P k (flat_map ended lines ++ last)
fewer_lines E P [] zero last whole fewer part end = absurd (omega (arith, fewer))
fewer_lines E P [] (suc k) last whole fewer part end = inr (part, end)
fewer_lines E P (line ∷ lines) zero last whole fewer part end = absurd (omega (arith, fewer))
fewer_lines E P (line ∷ lines) (suc k) last whole fewer part end =
    inl (record {
      bare = line;
      more = flat_map ended lines ++ last;
      whole = whole.0;
      joined = append_assoc (ended line) (flat_map ended lines) last;
      next = fewer_lines E P lines k last whole.1 (omega (arith, fewer)) part end;
    })

are_fewer_lines : (E : Type 0) (P : List ℕ → Type 0) (k : ℕ) (text : List ℕ) (after : Left) → AreFewer k text after → E → Lines E P k text
are_fewer_lines E P k text after are end =
    let fewer : length are.lines.lines < k = omega (arith, are.fewer, are.lines.many) in
    let text' : text ≡ flat_map ended are.lines.lines ++ are.last = are.joined ∙ ap (λ (t : List ℕ). t ++ are.last) are.lines.joined in
    subst (Lines E P k) (sym text') (fewer_lines E P are.lines.lines k are.last are.lines.whole fewer are.part end)

-- what holds of a line and its rest holds of the line that bytes start with
line_then : {E : Type 0} {Next Next' : List ℕ → List ℕ → Type 0} (bytes : List ℕ) → ((bare more : List ℕ) → Next bare more → Next' bare more) → LineThen E Next bytes → LineThen E Next' bytes
line_then bytes h (inl l) = inl (record { bare = l.bare; more = l.more; whole = l.whole; joined = l.joined; next = h l.bare l.more l.next })
line_then bytes h (inr last) = inr last

-- a line, and the lines that follow it if it has a number of atoms
abbrev CountThen : Type 0 → List ℕ → Type 0
CountThen E bytes = LineThen E (λ bare more. Lines E IsEmpty (lines_after (count_of bare)) more) bytes

-- the lines that follow a first line
abbrev HeadThen : Type 0 → Option Version → List ℕ → Type 0
HeadThen E None bytes = Unit {0}
HeadThen E (Some v) bytes = Lines E (CountThen E) (count_number v - 2) bytes

-- ---- faults that don't change with more bytes

-- the bytes have no more lines than the format; the last one may lack its LF if E holds
abbrev Covers : Type 0 → Format → List ℕ → Type 0
Covers E (at_end s) bytes = IsEmpty bytes
Covers E (at_line X line_of Fits next) bytes = LineThen E (λ bare more. (x : X) → Fits x → bare ≡ line_of x → Covers E (next x) more) bytes

-- the fault of such bytes is their fault with more bytes, and isn't `Trailing`
keeps : (E : Type 0) (rest : List ℕ) → (E → rest ≡ []) → (φ : Format) → IsReadable φ → (n : ℕ) (bytes : List ℕ) (f : StateFault) → Covers E φ bytes → HasFault φ n bytes f
    → HasFault φ n (bytes ++ rest) f × (f ≢ Trailing)
unfolding HasFault
keeps E rest at_end' (at_end s) h n bytes f empty fault = absurd (fault.0 empty)
keeps E rest at_end' (at_line X line_of Fits next) h n bytes f (inr (part, e)) (inl (no_end l w)) =
    let all : bytes ++ rest ≡ bytes = ap (λ (t : List ℕ). bytes ++ t) (at_end' e) ∙ append-nil bytes in
    (inl (rw all (no_end l w)), λ t. let bad : Truncated ≡ Trailing = sym w ∙ t in cc)
keeps E rest at_end' (at_line X line_of Fits next) h n bytes f (inr (part, e)) (inl (no_value text more split whole never w)) = not_whole bytes text more part whole split
keeps E rest at_end' (at_line X line_of Fits next) h n bytes f (inr (part, e)) (inr (x, more, fits, split, fault)) = not_whole bytes (line_of x) more part (h.0.1.whole x fits) split
keeps E rest at_end' (at_line X line_of Fits next) h n bytes f (inl l) (inl (no_end lack w)) = not_whole bytes l.bare l.more lack l.whole l.joined
keeps E rest at_end' (at_line X line_of Fits next) h n bytes f (inl l) (inl (no_value text more split whole never w)) = (
  inl (no_value text (more ++ rest) (ap (λ (t : List ℕ). t ++ rest) split ∙ append_assoc (ended text) more rest) whole never w),
  λ t. let bad : BadLine n ≡ Trailing = sym w ∙ t in cc,
)
keeps E rest at_end' (at_line X line_of Fits next) h n bytes f (inl l) (inr (x, more, fits, split, fault)) =
    let same = line_parts l.bare (line_of x) l.more more l.whole (h.0.1.whole x fits) (sym l.joined ∙ split) in
    let kept = keeps E rest at_end' (next x) (h.1 x fits) (n + 1) more f (subst (Covers E (next x)) same.1 (l.next x fits same.0)) fault in
    (inr (x, more ++ rest, fits, ap (λ (t : List ℕ). t ++ rest) split ∙ append_assoc (ended (line_of x)) more rest, kept.0), kept.1)

covers_atoms : (E : Type 0) (k : ℕ) (next : List AtomView → Format) (bytes : List ℕ) → ((atoms : List AtomView) (more : List ℕ) → IsEmpty more → Covers E (next atoms) more) → Lines E IsEmpty k bytes
    → Covers E (atoms_format k next) bytes
covers_atoms E zero next bytes h lines = h [] bytes lines
covers_atoms E (suc k) next bytes h lines = line_then bytes (λ bare more later. λ a fits is. covers_atoms E k (λ atoms. next (a ∷ atoms)) more (λ atoms. h (a ∷ atoms)) later) lines

covers_count : (E : Type 0) (title : List ℕ) (step : ℤ) (frac : Frac) (bytes : List ℕ) → CountThen E bytes → Covers E (count_format title step frac) bytes
covers_count E title step frac bytes lines =
    line_then bytes (λ bare more later. λ count fits is.
    line_then more (λ box more' atoms. λ sides fits' is'. covers_atoms E count _ more' (λ atoms' end empty. empty) atoms)
    (subst (λ (o : Option ℕ). Lines E IsEmpty (lines_after o) more) (ap count_of is ∙ count_reader.again count fits) later)) lines

covers_title : (E : Type 0) (v : Version) (bytes : List ℕ) → Lines E (CountThen E) (count_number v - 2) bytes → Covers E (title_format v) bytes
covers_title E First bytes lines =
    line_then bytes (λ bare more later. λ title fits is. line_then more (λ bare' more' counted. λ step fits' is'. covers_count E title step F32 more' counted) later) lines
covers_title E Second bytes lines =
    line_then bytes (λ bare more later. λ title fits is. line_then more (λ bare' more' later'. λ step fits' is'.
    line_then more' (λ bits end counted. λ frac fits'' is''. covers_count E title step frac end counted) later') later) lines

covers_state : (E : Type 0) (bytes : List ℕ) → LineThen E (λ bare more. HeadThen E (head_of bare) more) bytes → Covers E state_format bytes
covers_state E bytes lines =
    line_then bytes (λ bare more later. λ v fits is. covers_title E v more (subst (λ (o : Option Version). HeadThen E o more) (ap head_of is ∙ head_reader.again v fits) later)) lines

-- ---- the lines that were taken

-- a source at its end is at its end after no bytes were taken
end_after : (before after : Left) → Takes before after [] → IsAtEnd before → IsAtEnd after
end_after before None taken end = tt
end_after before (Some rest) taken end = subst IsAtEnd taken end

no_line_taken : (all : Bool) (text : List ℕ) (after : Left) → AreTaken all 0 text after → text ≡ []
no_line_taken true text after are = at are.lines are.many are.joined
  where
    at : (lines : List (List ℕ)) → length lines ≡ 0 → text ≡ flat_map ended lines → text ≡ []
    at [] many joined = joined
    at (line ∷ lines) many joined = absurd (omega (arith, many))
no_line_taken false text after are = absurd (omega (arith, are.fewer))

are_taken_lines : (E : Type 0) (all : Bool) (k : ℕ) (text : List ℕ) (after : Left) → AreTaken all k text after → (IsAtEnd after → E) → Lines E IsEmpty k text
are_taken_lines E true k text after are end = subst (Lines E IsEmpty k) (append-nil text) (are_lines_then E IsEmpty k text [] are refl)
are_taken_lines E false k text after are end = are_fewer_lines E IsEmpty k text after are (end are.end)

-- a line with its LF is cut there
pub line_is_cut : (line bare : List ℕ) → lacks 10 bare ≡ true → line ≡ ended bare → split_once 10 line ≡ Some (bare, [])
line_is_cut line bare whole is = ap (split_once 10) is ∙ cut_again 10 bare [] whole

-- if no line follows, the text with what was taken is the text, and the source is as before
nothing_more : (all : Bool) (more : ℕ) (text lines : List ℕ) (before after : Left) → more ≡ 0 → AreTaken all more lines after → Takes before after lines
    → (text ++ lines ≡ text) × (IsAtEnd before → IsAtEnd after)
nothing_more all more text lines before after none are taken =
    let empty : lines ≡ [] = no_line_taken all lines after (subst (λ (k : ℕ). AreTaken all k lines after) none are) in
    (ap (λ (t : List ℕ). text ++ t) empty ∙ append-nil text, end_after before after (subst (Takes before after) empty taken))

count_line_then : (all : Bool) (more : ℕ) (line lines : List ℕ) (before after : Left) → IsLine line before → more ≡ lines_behind line → AreTaken all more lines after → Takes before after lines
    → CountThen (IsAtEnd after) (line ++ lines)
count_line_then all more line lines before after (inl (bare, whole, is)) many are taken =
    let follow : more ≡ lines_after (count_of bare) = many ∙ ap (λ (o : Option (List ℕ × List ℕ)). lines_after (o |> λ parts. count_of parts.0)) (line_is_cut line bare whole is) in
    inl (record {
      bare = bare;
      more = lines;
      whole = whole;
      joined = ap (λ (t : List ℕ). t ++ lines) is;
      next = subst (λ (k : ℕ). Lines (IsAtEnd after) IsEmpty k lines) follow (are_taken_lines (IsAtEnd after) all more lines after are (λ e. e));
    })
count_line_then all more line lines before after (inr (part, end)) many are taken =
    let none : more ≡ 0 = many ∙ ap (λ (o : Option (List ℕ × List ℕ)). lines_after (o |> λ parts. count_of parts.0)) (uncut 10 line part) in
    let same = nothing_more all more line lines before after none are taken in
    inr (subst (λ (t : List ℕ). lacks 10 t ≡ true) (sym same.0) part, same.1 end)

counted_then : (all : Bool) (between more : ℕ) (text lines : List ℕ) (before after : Left) → IsCounted between more text before → AreTaken all more lines after → Takes before after lines
    → Lines (IsAtEnd after) (CountThen (IsAtEnd after)) between (text ++ lines)
counted_then all between more text lines before after (inl has) are taken =
    let joined : text ++ lines ≡ has.front ++ (has.line ++ lines) = ap (λ (t : List ℕ). t ++ lines) has.joined ∙ append_assoc has.front has.line lines in
    subst (Lines (IsAtEnd after) (CountThen (IsAtEnd after)) between) (sym joined)
    (are_lines_then (IsAtEnd after) (CountThen (IsAtEnd after)) between has.front (has.line ++ lines) has.lines
    (count_line_then all more has.line lines before after has.is has.more' are taken))
counted_then all between more text lines before after (inr (none, fewer)) are taken =
    let same = nothing_more all more text lines before after none are taken in
    subst (Lines (IsAtEnd after) (CountThen (IsAtEnd after)) between) (sym same.0)
    (are_fewer_lines (IsAtEnd after) (CountThen (IsAtEnd after)) between text before fewer (same.1 fewer.end))

front_then : (all : Bool) (more : ℕ) (text lines : List ℕ) (before after : Left) → IsFront more text before → AreTaken all more lines after → Takes before after lines
    → LineThen (IsAtEnd after) (λ bare later. HeadThen (IsAtEnd after) (head_of bare) later) (text ++ lines)
front_then all more text lines before after (inl has) are taken =
    inl (record {
      bare = has.bare;
      more = has.rest ++ lines;
      whole = has.whole;
      joined = ap (λ (t : List ℕ). t ++ lines) has.joined ∙ append_assoc (ended has.bare) has.rest lines;
      next = subst (λ (o : Option Version). HeadThen (IsAtEnd after) o (has.rest ++ lines)) (sym has.head)
          (counted_then all (count_number has.version - 2) more has.rest lines before after has.are are taken);
    })
front_then all more text lines before after (inr (none, inl (bare, whole, is), no_version)) are taken =
    let same = nothing_more all more text lines before after none are taken in
    let no_head : head_of bare ≡ None = sym (ap (λ (o : Option (List ℕ × List ℕ)). o |> λ parts. head_of parts.0) (line_is_cut text bare whole is)) ∙ no_version in
    inl (record {
      bare = bare;
      more = [];
      whole = whole;
      joined = same.0 ∙ is ∙ sym (append-nil (ended bare));
      next = subst (λ (o : Option Version). HeadThen (IsAtEnd after) o []) (sym no_head) tt;
    })
front_then all more text lines before after (inr (none, inr (part, end), no_version)) are taken =
    let same = nothing_more all more text lines before after none are taken in
    inr (subst (λ (t : List ℕ). lacks 10 t ≡ true) (sym same.0) part, same.1 end)

-- a text that was taken keeps its fault
pub taken_keeps : (all : Bool) (more : ℕ) (text lines : List ℕ) (before after : Left) → IsFront more text before → AreTaken all more lines after → Takes before after lines
    → KeepsFaultBefore (text ++ lines) after
taken_keeps all more text lines before None front are taken =
    λ f. keeps (IsAtEnd None) [] (λ end. refl) state_format state_readable 1 (text ++ lines) f (covers_state _ _ (front_then all more text lines before None front are taken))
taken_keeps all more text lines before (Some rest) front are taken =
    λ f. keeps (IsAtEnd (Some rest)) rest (λ end. end) state_format state_readable 1 (text ++ lines) f (covers_state _ _ (front_then all more text lines before (Some rest) front are taken))
