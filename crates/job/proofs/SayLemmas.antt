-- The job that the lines give, and the draft that is read from the lines.
use Rattle.std.proofs.Common.{◌≡◌, inl, inr, ℕ, suc, ◌+◌, ◌≤◌, Bool, true, false, List, [], ◌∷◌, ◌++◌, length, map, filter_map, nat_lt, Option, Some, None, option_map, length-append, bytes_eq, append_assoc, refl, sym, ap, subst, ◌∙◌, arith}
use Rattle.std.specs.List.{AllZip, cons_option}
use Rattle.std.specs.Option.{unwrap_or}
use Rattle.std.proofs.Math.Seq.{get_or-append_seam}
use Rattle.std.proofs.lemmas.Bool.{false_from_ne_true, lt-ltb}
use Rattle.std.proofs.lemmas.List.{length-map, map-append}
use Rattle.std.proofs.lemmas.List.Elements.{filter_map-append}
use Rattle.std.proofs.lemmas.Slice.Eq.{bytes_eq-Decides}
use Rattle.fixed.specs.declared.frac.Frac.{Frac}
use Rattle.fixed.specs.declared.frac.Frac.TheVariants.{F32}
use Rattle.job.specs.declared.faults.Key.{Key}
use Rattle.job.specs.declared.faults.Key.TheVariants as keys
use Rattle.job.specs.Faults.{AreFaultless, Refusal, TypeLine, Said, type_in, first, type_lines, summary, summary_of, once, knows, listed, statement_fault, line_fault}
use Rattle.job.specs.Bits.{frac_in}
use Rattle.job.specs.Words.{lines_of}
use Rattle.job.specs.JobLines.{header, LineValue, says_nothing, says_energy, says_core, says_cutoff, says_time_step, says_slices, says_bits, says_parameter, says_global, says_type, LineSays, said_energy, said_core, said_cutoff, said_time_step, said_slices, said_bits, said_parameter, said_global, said_type}
use Rattle.job.specs.Drafts.{GivesJob}
use Rattle.job.specs.JobText.{AreApart, IsJobText, IsSaidOr, SayJob}
use Rattle.job.specs.Statements.{global_is, parameter_is, type_is, value_of}
use Rattle.job.specs.Values.{Counts, GlobalValue, JobValue, TypeValue}
use Rattle.job.proofs.ApartLemmas.{line_names, names_fit}
use Rattle.job.proofs.BitsLemmas.{frac_said}
use Rattle.job.proofs.EntryLemmas.{entry_again, entry_ok, stated, value_again}
use Rattle.job.proofs.FaultLemmas.{good_line}
use Rattle.job.proofs.OnceLemmas.{at_most_once, energy_new, core_new, cutoff_new, time_step_new, slices_new, bits_new}

-- ---- the values of lines are in the draft

values_are : (frac : Frac) (lines : List (List ℕ)) (values : List LineValue) → AllZip (LineSays frac) lines values → filter_map (value_of frac) lines ≡ values
values_are frac [] [] h = refl
values_are frac [] (v ∷ vs) h = absurd h
values_are frac (l ∷ ls) [] h = absurd h
values_are frac (l ∷ ls) (v ∷ vs) h = rw (value_again frac l v h.0, values_are frac ls vs h.1) refl

type_part : (n : ℕ) (v : LineValue) → option_map (λ t. t.value) (type_in n (Some v)) ≡ said_type v
type_part n (says_type t) = refl
type_part n _ = refl

cons_value : (o : Option TypeLine) (ts : List TypeLine) → map (λ t. t.value) (cons_option o ts) ≡ cons_option (option_map (λ t. t.value) o) (map (λ t. t.value) ts)
cons_value None ts = refl
cons_value (Some t) ts = refl

types_are : (frac : Frac) (n : ℕ) (lines : List (List ℕ)) (values : List LineValue) → AllZip (LineSays frac) lines values → map (λ t. t.value) (type_lines frac n lines) ≡ filter_map said_type values
types_are frac n [] [] h = refl
types_are frac n [] (v ∷ vs) h = absurd h
types_are frac n (l ∷ ls) [] h = absurd h
types_are frac n (l ∷ ls) (v ∷ vs) h =
    cons_value (type_in n (value_of frac l)) (type_lines frac (n + 1) ls)
    ∙ ap (λ (o : Option TypeValue). cons_option o (map (λ t. t.value) (type_lines frac (n + 1) ls))) (ap (λ (o : Option LineValue). option_map (λ t. t.value) (type_in n o)) (value_again frac l v h.0) ∙ type_part n v)
    ∙ ap (cons_option (said_type v)) (types_are frac (n + 1) ls vs h.1)

summary_is : (frac : Frac) (lines : List (List ℕ)) (values : List LineValue) → AllZip (LineSays frac) lines values → summary frac lines ≡ summary_of frac values (type_lines frac 2 lines)
unfolding summary
summary_is frac lines values h = ap (λ (vs : List LineValue). summary_of frac vs (type_lines frac 2 lines)) (values_are frac lines values h)

-- ---- values of a job, read line by line

or_default : {X : Type 0} (default x : X) (xs : List X) → IsSaidOr default xs x → unwrap_or (first xs) default ≡ x
or_default default x xs (inl e) = rw e refl
or_default default x xs (inr e) = rw (e.0, e.1) refl

tells_of : (most : Counts) (types : List TypeLine) (values : List LineValue) (job : JobValue) → map (λ t. t.value) types ≡ filter_map said_type values → SayJob most values job → GivesJob (summary_of job.frac values types) job
tells_of most types values job t j = record {
  frac = refl;
  energy = ap first j.energy;
  core = ap first j.core;
  cutoff = ap first j.cutoff;
  below_cutoff = j.below_cutoff;
  time_step = ap first j.time_step;
  slices = or_default 64 job.slices (filter_map said_slices values) j.slices;
  parameters = j.parameters;
  globals = j.globals;
  types = t ∙ j.types;
  whole = j.whole;
}

-- if a list has one item, no item is before it
none_before : {X : Type 0} (xs ys : List X) (x z : X) → xs ++ x ∷ ys ≡ z ∷ [] → xs ≡ []
none_before [] ys x z e = refl
none_before (a ∷ []) ys x z e = absurd cc
none_before (a ∷ b ∷ cs) ys x z e = absurd cc

never_empty : {X : Type 0} (xs ys : List X) (x : X) → xs ++ x ∷ ys ≡ [] → ⊥
never_empty [] ys x e = absurd cc
never_empty (a ∷ cs) ys x e = absurd cc

none_before_or : {X : Type 0} (default : X) (xs ys : List X) (x z : X) → IsSaidOr default (xs ++ x ∷ ys) z → xs ≡ []
none_before_or default xs ys x z (inl e) = none_before xs ys x z e
none_before_or default xs ys x z (inr e) = absurd (never_empty xs ys x e.0)

once_ok : {X : Type 0} (key : Key) (xs : List X) (x : X) → xs ≡ [] → once key (first xs) (Some x) ≡ None
once_ok key xs x none = rw none refl

listed_ok : (known fits : Bool) (repetition : Refusal) (key : Key) → known ≡ false → fits ≡ true → listed known repetition fits key ≡ None
listed_ok known fits repetition key k f = rw (k, f) refl

-- if names are distinct, a name isn't among the names before it
fresh : (names rest : List (List ℕ)) (name : List ℕ) → AreApart (names ++ name ∷ rest) → knows names name ≡ false
fresh [] rest name h = refl
fresh (n ∷ ns) rest name h =
    let differs : n ≡ name → ⊥ = λ e. h 0 (suc (length ns)) name (omega arith) (omega (arith, length-append ns (name ∷ rest))) (e ∙ sym (get_or-append_seam ns name rest name)) in
    rw (false_from_ne_true (bytes_eq n name) (λ e. differs ((bytes_eq-Decides n name).0 e)), fresh ns rest name (λ i j d low within. h (suc i) (suc j) d (omega (arith, low)) (omega (arith, within)))) refl

fewer : {X : Type 0} (xs ys zs : List X) (x : X) (most : ℕ) → xs ++ x ∷ ys ≡ zs → length zs ≤ most → nat_lt (length xs) most ≡ true
fewer xs ys zs x most e le = lt-ltb (length xs) most (omega (arith, length-append xs (x ∷ ys), ap length e, le))

module _ (most : Counts) (job : JobValue) (types : List TypeLine) (front back : List LineValue) (same : map (λ t. t.value) types ≡ filter_map said_type front) where
  abbrev s : Said
  s = summary_of job.frac front types

  split : {X : Type 0} (said : LineValue → Option X) (v : LineValue) → filter_map said (front ++ v ∷ back) ≡ filter_map said front ++ cons_option (said v) (filter_map said back)
  split said v = filter_map-append said front (v ∷ back)

  parameter_fits : (name : List ℕ) → SayJob most (front ++ says_parameter name ∷ back) job → statement_fault most s (parameter_is name) ≡ None
  parameter_fits name j =
      let all = sym (split said_parameter (says_parameter name)) ∙ j.parameters in
      let apart = subst (λ (ns : List (List ℕ)). AreApart ns) (sym all) j.apart.parameters in
      listed_ok _ _ _ keys.Parameter (fresh (filter_map said_parameter front) (filter_map said_parameter back) name apart)
      (fewer (filter_map said_parameter front) (filter_map said_parameter back) job.parameters name most.parameters all j.few.parameters)

  global_fits : (g : GlobalValue) → SayJob most (front ++ says_global g ∷ back) job → statement_fault most s (global_is g.name (Some g.value)) ≡ None
  global_fits g j =
      let all = sym (split said_global (says_global g)) ∙ j.globals in
      let names = sym (map-append (λ (x : GlobalValue). x.name) (filter_map said_global front) (g ∷ filter_map said_global back)) ∙ ap (map (λ (x : GlobalValue). x.name)) all in
      let apart = subst (λ (ns : List (List ℕ)). AreApart ns) (sym names) j.apart.globals in
      listed_ok _ _ _ keys.Global (fresh (map (λ x. x.name) (filter_map said_global front)) (map (λ x. x.name) (filter_map said_global back)) g.name apart)
      (fewer (filter_map said_global front) (filter_map said_global back) job.globals g most.globals all j.few.globals)

  type_fits : (t : TypeValue) → SayJob most (front ++ says_type t ∷ back) job → statement_fault most s (type_is t.name (Some (t.mass, t.values))) ≡ None
  type_fits t j =
      let all = sym (split said_type (says_type t)) ∙ j.types in
      let names = sym (map-append (λ (x : TypeValue). x.name) (filter_map said_type front) (t ∷ filter_map said_type back)) ∙ ap (map (λ (x : TypeValue). x.name)) all in
      let apart = subst (λ (ns : List (List ℕ)). AreApart ns) (sym names) j.apart.types in
      let known : knows (map (λ u. u.value.name) s.types) t.name ≡ false =
      ap (λ (ns : List (List ℕ)). knows ns t.name) (sym (line_names s.types) ∙ ap (map (λ (x : TypeValue). x.name)) same)
      ∙ fresh (map (λ x. x.name) (filter_map said_type front)) (map (λ x. x.name) (filter_map said_type back)) t.name apart in
      let room : nat_lt (length s.types) most.types ≡ true =
      ap (λ (n : ℕ). nat_lt n most.types) (sym (length-map s.types (λ (u : TypeLine). u.value)) ∙ ap length same)
      ∙ fewer (filter_map said_type front) (filter_map said_type back) job.types t most.types all j.few.types in
      listed_ok _ _ _ keys.Types known room

  -- a value of a job has no fault below the values before it
  no_fault : (v : LineValue) → SayJob most (front ++ v ∷ back) job → statement_fault most s (stated v) ≡ None
  no_fault says_nothing j = refl
  no_fault (says_energy x) j = once_ok keys.Energy (filter_map said_energy front) x (none_before _ (filter_map said_energy back) x job.energy (sym (split said_energy (says_energy x)) ∙ j.energy))
  no_fault (says_core x) j = once_ok keys.Core (filter_map said_core front) x (none_before _ (filter_map said_core back) x job.core (sym (split said_core (says_core x)) ∙ j.core))
  no_fault (says_cutoff x) j = once_ok keys.Cutoff (filter_map said_cutoff front) x (none_before _ (filter_map said_cutoff back) x job.cutoff (sym (split said_cutoff (says_cutoff x)) ∙ j.cutoff))
  no_fault (says_time_step x) j = once_ok keys.TimeStep (filter_map said_time_step front) x (none_before _ (filter_map said_time_step back) x job.time_step (sym (split said_time_step (says_time_step x)) ∙ j.time_step))
  no_fault (says_slices x) j =
      once_ok keys.Slices (filter_map said_slices front) x (none_before_or 64 _ (filter_map said_slices back) x job.slices (subst (λ (xs : List ℕ). IsSaidOr 64 xs job.slices) (split said_slices (says_slices x)) j.slices))
  no_fault (says_bits x) j =
      once_ok keys.Bits (filter_map said_bits front) x (none_before_or F32 _ (filter_map said_bits back) x job.frac (subst (λ (xs : List Frac). IsSaidOr F32 xs job.frac) (split said_bits (says_bits x)) j.frac))
  no_fault (says_parameter name) j = parameter_fits name j
  no_fault (says_global g) j = global_fits g j
  no_fault (says_type t) j = type_fits t j

say_more : (frac : Frac) (lines : List (List ℕ)) (values : List LineValue) (line : List ℕ) (v : LineValue) → AllZip (LineSays frac) lines values → LineSays frac line v → AllZip (LineSays frac) (lines ++ line ∷ []) (values ++ v ∷ [])
say_more frac [] [] line v h k = (k, tt)
say_more frac [] (w ∷ vs) line v h k = absurd h
say_more frac (l ∷ ls) [] line v h k = absurd h
say_more frac (l ∷ ls) (w ∷ vs) line v h k = (h.0, say_more frac ls vs line v h.1 k)

-- lines with the values of a job have no fault
faultless_of : (most : Counts) (job : JobValue) (above lines : List (List ℕ)) (front values : List LineValue) → AllZip (LineSays job.frac) above front → AllZip (LineSays job.frac) lines values → SayJob most (front ++ values) job
    → AreFaultless most job.frac above lines
unfolding line_fault
faultless_of most job above [] front values a h j = tt
faultless_of most job above (l ∷ ls) front [] a h j = absurd h
faultless_of most job above (l ∷ ls) front (v ∷ vs) a h j =
    let more : SayJob most ((front ++ v ∷ []) ++ vs) job = subst (λ (us : List LineValue). SayJob most us job) (sym (append_assoc front (v ∷ []) vs)) j in (
      rw (entry_again job.frac l v h.0, summary_is job.frac above front a) (no_fault most job (type_lines job.frac 2 above) front vs (types_are job.frac 2 above front a) v j),
      faultless_of most job (above ++ l ∷ []) ls (front ++ v ∷ []) vs (say_more job.frac above front l v a h.0) h.1 more,
    )

-- the lines have no fault, and tell this job
abbrev pub Told : Counts → JobValue → List (List ℕ) → Type 0
Told most job lines = AreFaultless most (frac_in lines) [] lines × GivesJob (summary (frac_in lines) lines) job

-- the lines of a job's text have no fault, and tell the job
pub told_by_text : (most : Counts) (text : List ℕ) (job : JobValue) (r : IsJobText most text job) → Told most job r.lines
told_by_text most text job r =
    let is = summary_is job.frac r.lines r.values r.each in
    let bits : frac_in r.lines ≡ job.frac = sym (frac_said job.frac r.lines) ∙ ap (λ (s : Said). unwrap_or s.bits F32) is ∙ or_default F32 job.frac (filter_map said_bits r.values) r.say.frac in
    subst (λ (frac : Frac). AreFaultless most frac [] r.lines × GivesJob (summary frac r.lines) job) (sym bits) (
      faultless_of most job [] r.lines [] r.values tt r.each r.say,
      rw is (tells_of most (type_lines job.frac 2 r.lines) r.values job (types_are job.frac 2 r.lines r.values r.each) r.say),
    )

-- ---- lines without a fault have values

line_values : (most : Counts) (frac : Frac) (above lines : List (List ℕ)) → AreFaultless most frac above lines → AllZip (LineSays frac) lines (filter_map (value_of frac) lines)
line_values most frac above [] h = tt
line_values most frac above (line ∷ lines) h =
    let v = good_line most frac above line h.0 in
    rw v.1 (entry_ok frac line v.0 v.1, line_values most frac (above ++ line ∷ []) lines h.1)

one_is : {X : Type 0} (xs : List X) (x : X) → first xs ≡ Some x → length xs ≤ 1 → xs ≡ x ∷ []
one_is [] x e l = absurd cc
one_is (y ∷ []) x e l = let same : y ≡ x = cc in ap (λ z. z ∷ []) same
one_is (y ∷ z ∷ zs) x e l = absurd (omega (arith, l))

or_none : {X : Type 0} (default x : X) (xs : List X) → unwrap_or (first xs) default ≡ x → length xs ≤ 1 → IsSaidOr default xs x
or_none default x [] e l = inr (refl, sym e)
or_none default x (y ∷ []) e l = inl (ap (λ z. z ∷ []) e)
or_none default x (y ∷ z ∷ zs) e l = absurd (omega (arith, l))

say_of : (most : Counts) (frac : Frac) (lines : List (List ℕ)) (job : JobValue) → frac_in lines ≡ job.frac → AreFaultless most frac [] lines → AllZip (LineSays frac) lines (filter_map (value_of frac) lines)
    → GivesJob (summary frac lines) job → SayJob most (filter_map (value_of frac) lines) job
unfolding summary
say_of most frac lines job b f each t =
    let names = names_fit most frac lines job f t in
    record {
      energy = one_is _ job.energy t.energy (at_most_once most frac said_energy (λ s. s.energy) (energy_new most) (λ z. refl) lines f);
      core = one_is _ job.core t.core (at_most_once most frac said_core (λ s. s.core) (core_new most) (λ z. refl) lines f);
      cutoff = one_is _ job.cutoff t.cutoff (at_most_once most frac said_cutoff (λ s. s.cutoff) (cutoff_new most) (λ z. refl) lines f);
      below_cutoff = t.below_cutoff;
      time_step = one_is _ job.time_step t.time_step (at_most_once most frac said_time_step (λ s. s.time_step) (time_step_new most) (λ z. refl) lines f);
      slices = or_none 64 job.slices _ t.slices (at_most_once most frac said_slices (λ s. s.slices) (slices_new most) (λ z. refl) lines f);
      frac = or_none F32 job.frac _ (frac_said frac lines ∙ b) (at_most_once most frac said_bits (λ s. s.bits) (bits_new most) (λ z. refl) lines f);
      parameters = t.parameters;
      globals = t.globals;
      types = sym (types_are frac 2 lines _ each) ∙ t.types;
      few = names.0;
      apart = names.1;
      whole = t.whole;
    }

-- lines without a fault, with the values of a job, are the text of this job
pub text_of_read : (most : Counts) (text : List ℕ) (lines : List (List ℕ)) (frac : Frac) (s : Said) (job : JobValue) → lines_of text ≡ header ∷ lines → frac ≡ frac_in lines → AreFaultless most frac [] lines
    → s ≡ summary frac lines → GivesJob s job → IsJobText most text job
unfolding summary
text_of_read most text lines frac s job first found good is t =
    let same : frac ≡ job.frac = ap (λ (x : Said). x.frac) (sym is) ∙ t.frac in
    let good' = subst (λ (z : Frac). AreFaultless most z [] lines) same good in
    let told = subst (λ (z : Frac). GivesJob (summary z lines) job) same (subst (λ (x : Said). GivesJob x job) is t) in
    let each = line_values most job.frac [] lines good' in
    record { lines = lines; first_line = first; values = filter_map (value_of job.frac) lines; each = each; say = say_of most job.frac lines job (sym found ∙ same) good' each told }
