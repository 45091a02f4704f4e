-- Lines, one after another: the summary of lines and one more, and lines without a fault.
use Rattle.std.proofs.Common.{◌≡◌, ℕ, ◌+◌, Bool, true, false, map, List, [], ◌∷◌, ◌++◌, length, Option, Some, None, Ok, Err, filter_map, option_and_then, refl, sym, ap, subst, ◌∙◌, arith, append_assoc, append-nil, length-append, zero-add}
use Rattle.std.specs.List.{cons_option}
use Rattle.std.proofs.lemmas.List.Elements.{filter_map-append}
use Rattle.fallible.specs.Failures.{Fails, IfRefused}
use Rattle.fallible.specs.declared.failure.Failure.{Failure}
use Rattle.fallible.specs.declared.failure.Failure.TheVariants.{Refused, Memory}
use Rattle.fixed.specs.declared.frac.Frac.{Frac}
use Rattle.line_text.proofs.StepLaws.{same_ok}
use Rattle.job.specs.Drafts.{and_one, joined, nothing, or_first, outcome, said_after}
use Rattle.job.specs.Faults.{AreFaultless, Refusal, Said, repeated_name, repeated_type, knows, listed, once, statement_fault, type_in, entry_fault, first, line_fault, summary, type_lines}
use Rattle.job.specs.JobFaults.{HasBadLine}
use Rattle.job.specs.declared.faults.Key.{Key}
use Rattle.job.specs.declared.faults.Key.TheVariants as keys
use Rattle.job.specs.JobLines.{LineValue, said_energy, said_core, said_cutoff, said_time_step, said_slices, said_bits, said_parameter, said_global}
use Rattle.job.specs.Statements.{Statement, core_is, cutoff_is, time_step_is, slices_is, global_is, type_is, bits_is, entry_of, value_of, value_said}
use Rattle.job.specs.Values.{Counts}
use Rattle.job.proofs.EntryLemmas.{entry_again, entry_ok, same_some, stated}

-- ---- one more line

cons_one : {X Y : Type 0} (h : X → Option Y) (xs : List Y) (e : Option X) → xs ++ filter_map h (cons_option e []) ≡ and_one xs (option_and_then h e)
cons_one h xs None = append-nil xs
cons_one {Y = Y} h xs (Some x) = at (h x)
  where
    at : (o : Option Y) → xs ++ cons_option o [] ≡ and_one xs o
    at None = append-nil xs
    at (Some y) = refl

-- one more line appends its own part, if it has one, to the parts of the lines above
pub said_more : {Y : Type 0} (frac : Frac) (h : LineValue → Option Y) (lines : List (List ℕ)) (line : List ℕ)
    → filter_map h (filter_map (value_of frac) (lines ++ line ∷ [])) ≡ and_one (filter_map h (filter_map (value_of frac) lines)) (option_and_then h (value_of frac line))
said_more frac h lines line =
    ap (filter_map h) (filter_map-append (value_of frac) lines (line ∷ []))
    ∙ filter_map-append h (filter_map (value_of frac) lines) (cons_option (value_of frac line) [])
    ∙ cons_one h (filter_map h (filter_map (value_of frac) lines)) (value_of frac line)

first_more : {X : Type 0} (xs : List X) (o : Option X) → first (and_one xs o) ≡ or_first (first xs) o
first_more xs None = refl
first_more [] (Some x) = refl
first_more (y ∷ ys) (Some x) = refl

first_said : {Y : Type 0} (frac : Frac) (h : LineValue → Option Y) (lines : List (List ℕ)) (line : List ℕ)
    → first (filter_map h (filter_map (value_of frac) (lines ++ line ∷ []))) ≡ or_first (first (filter_map h (filter_map (value_of frac) lines))) (option_and_then h (value_of frac line))
first_said frac h lines line = ap first (said_more frac h lines line) ∙ first_more (filter_map h (filter_map (value_of frac) lines)) (option_and_then h (value_of frac line))

one_only : {X : Type 0} (o : Option X) → cons_option o [] ≡ and_one [] o
one_only None = refl
one_only (Some x) = refl

cons_and : {X : Type 0} (o p : Option X) (xs : List X) → cons_option o (and_one xs p) ≡ and_one (cons_option o xs) p
cons_and None None xs = refl
cons_and None (Some y) xs = refl
cons_and (Some x) None xs = refl
cons_and (Some x) (Some y) xs = refl

types_more : (frac : Frac) (n m : ℕ) (lines : List (List ℕ)) (line : List ℕ) → m ≡ length lines + n
    → type_lines frac n (lines ++ line ∷ []) ≡ and_one (type_lines frac n lines) (type_in m (value_of frac line))
types_more frac n m [] line e =
    subst (λ k. cons_option (type_in n (value_of frac line)) [] ≡ and_one [] (type_in k (value_of frac line))) (sym (e ∙ zero-add n)) (one_only (type_in n (value_of frac line)))
types_more frac n m (l ∷ lines) line e =
    ap (cons_option (type_in n (value_of frac l))) (types_more frac (n + 1) m lines line (omega arith)) ∙ cons_and (type_in n (value_of frac l)) (type_in m (value_of frac line)) (type_lines frac (n + 1) lines)

-- the summary of lines and one more is the summary of the lines, joined with the entry of the one
pub summary_more : (frac : Frac) (lines : List (List ℕ)) (line : List ℕ) → summary frac (lines ++ line ∷ []) ≡ joined (length lines + 2) (summary frac lines) (value_of frac line)
unfolding summary
summary_more frac lines line =
    rw (
      first_said frac said_energy lines line,
      first_said frac said_core lines line,
      first_said frac said_cutoff lines line,
      first_said frac said_time_step lines line,
      first_said frac said_slices lines line,
      said_more frac said_parameter lines line,
      said_more frac said_global lines line,
      types_more frac 2 (length lines + 2) lines line refl,
      first_said frac said_bits lines line,
    ) refl

-- ---- lines without a fault

-- lines without a fault, with one more line without a fault
faultless_more : (most : Counts) (frac : Frac) (above lines : List (List ℕ)) (line : List ℕ) → AreFaultless most frac above lines → line_fault most frac (above ++ lines) line ≡ None
    → AreFaultless most frac above (lines ++ line ∷ [])
faultless_more most frac above [] line h good = (sym (ap (λ (z : List (List ℕ)). line_fault most frac z line) (append-nil above)) ∙ good, tt)
faultless_more most frac above (l ∷ ls) line h good =
    (h.0, faultless_more most frac (above ++ l ∷ []) ls line h.1 (ap (λ (z : List (List ℕ)). line_fault most frac z line) (append_assoc above (l ∷ []) ls) ∙ good))

-- if each line without a fault preserves P, and P holds for the lines above, P holds for all lines without a fault
pub kept_below : (most : Counts) (frac : Frac) (P : List (List ℕ) → Type 0) → ((above : List (List ℕ)) (line : List ℕ) → line_fault most frac above line ≡ None → P above → P (above ++ line ∷ []))
    → (above lines : List (List ℕ)) → AreFaultless most frac above lines → P above → P (above ++ lines)
kept_below most frac P keeps above [] h p = subst P (sym (append-nil above)) p
kept_below most frac P keeps above (line ∷ lines) h p =
    subst P (append_assoc above (line ∷ []) lines) (kept_below most frac P keeps (above ++ line ∷ []) lines h.1 (keeps above line h.0 p))

once_some : {X : Type 0} (key : Key) (old : Option X) → once key old None ≡ None → ⊥
once_some key None e = absurd cc
once_some key (Some x) e = absurd cc

listed_some : (known : Bool) (repetition : Refusal) (key : Key) → listed known repetition false key ≡ None → ⊥
listed_some true repetition key e = absurd cc
listed_some false repetition key e = absurd cc

-- a statement without a value has a fault
no_value_faults : (most : Counts) (s : Said) (it : Statement) → value_said it ≡ None → statement_fault most s it ≡ None → ⊥
no_value_faults most s (core_is None) e f = once_some keys.Core s.core f
no_value_faults most s (cutoff_is None) e f = once_some keys.Cutoff s.cutoff f
no_value_faults most s (time_step_is None) e f = once_some keys.TimeStep s.time_step f
no_value_faults most s (slices_is None) e f = once_some keys.Slices s.slices f
no_value_faults most s (bits_is None) e f = once_some keys.Bits s.bits f
no_value_faults most s (global_is name None) e f = listed_some (knows (map (λ g. g.name) s.globals) name) (repeated_name name) keys.Global f
no_value_faults most s (type_is name None) e f = listed_some (knows (map (λ t. t.value.name) s.types) name) (repeated_type name) keys.Types f
no_value_faults most s _ e f = absurd cc

-- a line without a fault has a value, whose statement has no fault
pub good_line : (most : Counts) (frac : Frac) (above : List (List ℕ)) (line : List ℕ) → line_fault most frac above line ≡ None
    → (v : LineValue) × (value_of frac line ≡ Some v) × (statement_fault most (summary frac above) (stated v) ≡ None)
unfolding line_fault
good_line most frac above line e = at (entry_of frac line) refl e
  where
    with_value : (it : Statement) → entry_of frac line ≡ Some it → statement_fault most (summary frac above) it ≡ None → (v : Option LineValue) → value_said it ≡ v
        → (v : LineValue) × (value_of frac line ≡ Some v) × (statement_fault most (summary frac above) (stated v) ≡ None)
    with_value it is h None e = absurd (no_value_faults most (summary frac above) it e h)
    with_value it is h (Some v) e =
        let value : value_of frac line ≡ Some v = ap (λ (o : Option Statement). option_and_then value_said o) is ∙ e in
        let same = same_some it (stated v) (sym is ∙ entry_again frac line v (entry_ok frac line v value)) in
        (v, value, subst (λ (i : Statement). statement_fault most (summary frac above) i ≡ None) same h)

    at : (o : Option Statement) → entry_of frac line ≡ o → entry_fault most (length above + 2) (summary frac above) o ≡ None
        → (v : LineValue) × (value_of frac line ≡ Some v) × (statement_fault most (summary frac above) (stated v) ≡ None)
    at None is h = absurd cc
    at (Some it) is h = with_value it is h (value_said it) refl

-- ---- reading line by line

-- the lines that were read have no fault, and the draft has their values; n is the number of the next line
pub record AreRead (most : Counts) (frac : Frac) (all rest : List (List ℕ)) (n : ℕ) (s : Said) : Type 0 where
  pub above : List (List ℕ)
  pub parts : all ≡ above ++ rest
  pub faultless : AreFaultless most frac [] above
  pub draft : s ≡ summary frac above
  pub number : n ≡ length above + 2

-- before the first line
pub read_none : (most : Counts) (frac : Frac) (lines : List (List ℕ)) → AreRead most frac lines lines 2 (nothing frac)
unfolding summary
read_none most frac lines = record { above = []; parts = refl; faultless = tt; draft = refl; number = refl }

-- after the last line
pub read_all : (most : Counts) (frac : Frac) (all : List (List ℕ)) (n : ℕ) (s : Said) → AreRead most frac all [] n s → AreFaultless most frac [] all × (s ≡ summary frac all)
read_all most frac all n s r =
    let same : r.above ≡ all = sym (append-nil r.above) ∙ sym r.parts in (subst (AreFaultless most frac []) same r.faultless, r.draft ∙ ap (summary frac) same)

module _ (most : Counts) (frac : Frac) (all rest lines : List (List ℕ)) (line : List ℕ) (n : ℕ) (s : Said) (r : AreRead most frac all rest n s) (next : rest ≡ line ∷ lines) where
  split : all ≡ r.above ++ line ∷ lines
  split = r.parts ∙ ap (λ (z : List (List ℕ)). r.above ++ z) next

  line_outcome : said_after most n s (entry_of s.frac line) ≡ outcome (line_fault most frac r.above line) (summary frac (r.above ++ line ∷ []))
  unfolding line_fault summary
  line_outcome =
      rw (r.draft, r.number) (ap (outcome (entry_fault most (length r.above + 2) (summary frac r.above) (entry_of frac line))) (sym (summary_more frac r.above line)))

  -- a line without a fault is read
  pub read_more : (t : Said) → said_after most n s (entry_of s.frac line) ≡ Ok t → AreRead most frac all lines (n + 1) t
  read_more t e = at (line_fault most frac r.above line) refl (sym line_outcome ∙ e)
    where
      at : (o : Option Refusal) → line_fault most frac r.above line ≡ o → outcome o (summary frac (r.above ++ line ∷ [])) ≡ Ok t → AreRead most frac all lines (n + 1) t
      at (Some f) is h = absurd cc
      at None is h = record {
        above = r.above ++ line ∷ [];
        parts = split ∙ sym (append_assoc r.above (line ∷ []) lines);
        faultless = faultless_more most frac [] r.above line r.faultless is;
        draft = sym (same_ok (summary frac (r.above ++ line ∷ [])) t h);
        number = omega (arith, r.number, length-append r.above (line ∷ []));
      }

  -- a failure of a line is the fault of all lines
  pub read_fails : {R : Type 0} (seen : R → Refusal) (failure : Failure R) → Fails seen failure (said_after most n s (entry_of s.frac line)) → IfRefused failure (λ f. HasBadLine most frac all (seen f))
  read_fails seen Memory e = tt
  read_fails seen (Refused f) e = at (line_fault most frac r.above line) refl (sym line_outcome ∙ e)
    where
      at : (o : Option Refusal) → line_fault most frac r.above line ≡ o → outcome o (summary frac (r.above ++ line ∷ [])) ≡ Err (seen f) → HasBadLine most frac all (seen f)
      at None is h = absurd cc
      at (Some g) is h =
          let same : g ≡ seen f = cc in
          record { above = r.above; line = line; below = lines; parts = split; faultless = r.faultless; fault = is ∙ ap (λ (x : Refusal). Some x) same }
