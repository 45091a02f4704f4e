-- A text has a result: the fault of its first line, the first faulty line below it, a part that all lines lack, or a job.
use Rattle.std.proofs.Common.{◌≡◌, ◌⊎◌, ℕ, ℤ, Bool, true, false, int_lt, List, [], ◌∷◌, ◌++◌, length, Option, Some, None, Result, Ok, Err, All, bytes_eq, inl, inr, refl, sym, ap, ◌∙◌, append_assoc, append-nil}
use Rattle.std.proofs.lemmas.Bool.{cases_eq}
use Rattle.std.proofs.lemmas.List.Elements.{All-cons, All-map, All-nil}
use Rattle.std.proofs.lemmas.Slice.Eq.{bytes_eq-Decides}
use Rattle.fixed.specs.declared.frac.Frac.{Frac}
use Rattle.line_text.proofs.ResidueNumbers.{true_T}
use Rattle.job.specs.declared.faults.Key.TheVariants as keys
use Rattle.job.specs.Bits.{frac_in}
use Rattle.job.specs.Drafts.{GivesJob}
use Rattle.job.specs.Faults.{AreFaultless, Refusal, Said, TypeLine, bad_line, line_fault, missing, out_of_range, summary}
use Rattle.job.specs.JobFaults.{HasOtherCount, JobReadsAlways, JobReadsAs, LacksPart}
use Rattle.job.specs.JobLines.{header}
use Rattle.job.specs.Values.{Counts, JobValue, TypeValue}
use Rattle.job.specs.Words.{lines_of}
use Rattle.job.proofs.OneResult.{job_with}
use Rattle.job.proofs.SayLemmas.{text_of_read}

-- ---- lines

module _ (most : Counts) (frac : Frac) where
  -- below the lines `above`, a line has a fault, and the lines before it have none
  abbrev HasBadBelow : (above lines : List (List ℕ)) → Type 0
  HasBadBelow above lines = (front : List (List ℕ)) × (line : List ℕ) × (below : List (List ℕ)) × (f : Refusal)
      × (lines ≡ front ++ line ∷ below) × AreFaultless most frac above front × (line_fault most frac (above ++ front) line ≡ Some f)

  line_first : (above lines : List (List ℕ)) (line : List ℕ) → line_fault most frac above line ≡ None
      → AreFaultless most frac (above ++ line ∷ []) lines ⊎ HasBadBelow (above ++ line ∷ []) lines
      → AreFaultless most frac above (line ∷ lines) ⊎ HasBadBelow above (line ∷ lines)
  line_first above lines line good (inl all) = inl (good, all)
  line_first above lines line good (inr (front, other, below, f, parts, faultless, fault)) = inr (
    line ∷ front,
    other,
    below,
    f,
    ap (λ (ls : List (List ℕ)). line ∷ ls) parts,
    (good, faultless),
    ap (λ (z : List (List ℕ)). line_fault most frac z other) (sym (append_assoc above (line ∷ []) front)) ∙ fault,
  )

  lines_give : (above lines : List (List ℕ)) → AreFaultless most frac above lines ⊎ HasBadBelow above lines
  lines_give above [] = inl tt
  lines_give above (line ∷ lines) = at (line_fault most frac above line) refl (lines_give (above ++ line ∷ []) lines)
    where
      at : (o : Option Refusal) → line_fault most frac above line ≡ o → AreFaultless most frac (above ++ line ∷ []) lines ⊎ HasBadBelow (above ++ line ∷ []) lines
          → AreFaultless most frac above (line ∷ lines) ⊎ HasBadBelow above (line ∷ lines)
      at None e rest = line_first above lines line e rest
      at (Some f) e rest =
          inr ([], line, lines, f, refl, tt, ap (λ (z : List (List ℕ)). line_fault most frac z line) (append-nil above) ∙ e)

-- ---- parts

-- each type has this number of values, or the first other one is a fault
types_give : (count : ℕ) (types : List TypeLine) → All (λ t. length t.value.values ≡ count) types ⊎ ((f : Refusal) × HasOtherCount count types f)
types_give count [] = inl (All-nil (λ (t : TypeLine). length t.value.values ≡ count))
types_give count (t ∷ types) = at (cases_eq (length t.value.values) count) (types_give count types)
  where
    at : (length t.value.values ≡ count) ⊎ (length t.value.values ≡ count → ⊥) → All (λ u. length u.value.values ≡ count) types ⊎ ((f : Refusal) × HasOtherCount count types f)
        → All (λ u. length u.value.values ≡ count) (t ∷ types) ⊎ ((f : Refusal) × HasOtherCount count (t ∷ types) f)
    at (inr differs) rest = inr (
      bad_line t.line,
      record { before = []; other = t; after = types; parts = refl; whole = All-nil (λ (u : TypeLine). length u.value.values ≡ count); differs = differs; fault = refl },
    )
    at (inl same) (inl all) = inl (All-cons (λ (u : TypeLine). length u.value.values ≡ count) t types same all)
    at (inl same) (inr (f, h)) = inr (
      f,
      record {
        before = t ∷ h.before;
        other = h.other;
        after = h.after;
        parts = ap (λ (ts : List TypeLine). t ∷ ts) h.parts;
        whole = All-cons (λ (u : TypeLine). length u.value.values ≡ count) t h.before same h.whole;
        differs = h.differs;
        fault = h.fault;
      },
    )

-- the draft has the values of a job, or lacks a part
abbrev DraftGives : Said → Result JobValue Refusal → Type 0
DraftGives s (Ok job) = GivesJob s job
DraftGives s (Err f) = LacksPart s f

module _ (s : Said) (energy : List ℕ) (core cutoff : ℤ) (time_step : ℕ) (e : s.energy ≡ Some energy) (c : s.core ≡ Some core) (o : s.cutoff ≡ Some cutoff) (t : s.time_step ≡ Some time_step) where
  whole_draft : int_lt core cutoff ≡ true → All (λ u. length u.value.values ≡ length s.parameters) s.types ⊎ ((f : Refusal) × HasOtherCount (length s.parameters) s.types f)
      → (r : Result JobValue Refusal) × DraftGives s r
  whole_draft less (inr (f, h)) = (Err f, inr (rw (e, c, o, t, less) refl, h))
  whole_draft less (inl all) = (
    Ok (job_with s energy core cutoff time_step),
    record {
      frac = refl;
      energy = e;
      core = c;
      cutoff = o;
      below_cutoff = record { lt = true_T (int_lt core cutoff) less };
      time_step = t;
      slices = refl;
      parameters = refl;
      globals = refl;
      types = refl;
      whole = All-map (λ (u : TypeValue). length u.values ≡ length s.parameters) (λ (u : TypeLine). u.value) s.types all;
    },
  )

  numbers_draft : (b : Bool) → int_lt core cutoff ≡ b → (r : Result JobValue Refusal) × DraftGives s r
  numbers_draft false less = (Err (out_of_range keys.Cutoff), inl (rw (e, c, o, t, less) refl))
  numbers_draft true less = whole_draft less (types_give (length s.parameters) s.types)

draft_gives : (s : Said) → (r : Result JobValue Refusal) × DraftGives s r
draft_gives s = at s.energy refl s.core refl s.cutoff refl s.time_step refl
  where
    at : (energy : Option (List ℕ)) → s.energy ≡ energy → (core : Option ℤ) → s.core ≡ core → (cutoff : Option ℤ) → s.cutoff ≡ cutoff → (time_step : Option ℕ) → s.time_step ≡ time_step
        → (r : Result JobValue Refusal) × DraftGives s r
    at None e core c cutoff o time_step t = (Err (missing keys.Energy), inl (rw e refl))
    at (Some energy) e None c cutoff o time_step t = (Err (missing keys.Core), inl (rw (e, c) refl))
    at (Some energy) e (Some core) c None o time_step t = (Err (missing keys.Cutoff), inl (rw (e, c, o) refl))
    at (Some energy) e (Some core) c (Some cutoff) o None t = (Err (missing keys.TimeStep), inl (rw (e, c, o, t) refl))
    at (Some energy) e (Some core) c (Some cutoff) o (Some time_step) t = numbers_draft s energy core cutoff time_step e c o t (int_lt core cutoff) refl

-- ---- texts

module _ (most : Counts) (text : List ℕ) where
  with_draft : (lines : List (List ℕ)) → lines_of text ≡ header ∷ lines → AreFaultless most (frac_in lines) [] lines → (r : Result JobValue Refusal) × DraftGives (summary (frac_in lines) lines) r
      → (r : Result JobValue Refusal) × JobReadsAs most text r
  with_draft lines first good (Ok job, tells) = (Ok job, text_of_read most text lines (frac_in lines) (summary (frac_in lines) lines) job first refl good refl tells)
  with_draft lines first good (Err f, lacks) = (Err f, inr (lines, first, inr (good, lacks)))

  with_lines : (lines : List (List ℕ)) → lines_of text ≡ header ∷ lines → AreFaultless most (frac_in lines) [] lines ⊎ HasBadBelow most (frac_in lines) [] lines
      → (r : Result JobValue Refusal) × JobReadsAs most text r
  with_lines lines first (inl good) = with_draft lines first good (draft_gives (summary (frac_in lines) lines))
  with_lines lines first (inr (front, line, below, f, parts, faultless, fault)) =
      (Err f, inr (lines, first, inl (record { above = front; line = line; below = below; parts = parts; faultless = faultless; fault = fault })))

  with_first : (all : List (List ℕ)) → lines_of text ≡ all → (r : Result JobValue Refusal) × JobReadsAs most text r
  with_first [] is = (Err (bad_line 1), inl (λ lines first. let none : [] ≡ header ∷ lines = sym is ∙ first in absurd cc, refl))
  with_first (first ∷ lines) is = at (bytes_eq first header) (bytes_eq-Decides first header)
    where
      at : (b : Bool) → (b ≡ true → first ≡ header) × (first ≡ header → b ≡ true) → (r : Result JobValue Refusal) × JobReadsAs most text r
      at true d = let all = is ∙ ap (λ (l : List ℕ). l ∷ lines) (d.0 refl) in with_lines lines all (lines_give most (frac_in lines) [] lines)
      at false d = (
        Err (bad_line 1),
        inl (λ others other. let both : first ∷ lines ≡ header ∷ others = sym is ∙ other in let same : first ≡ header = cc in let wrong = d.1 same in absurd cc, refl),
      )

-- each text has a result
pub job_reads_always : JobReadsAlways
job_reads_always most text = with_first most text (lines_of text) refl
