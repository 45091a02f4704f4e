-- The value of a line, and the statement that is read from the line.
use Rattle.std.proofs.Common.{◌≡◌, inl, inr, ℕ, ◌<◌, ◌==◌, not, Bool, true, false, List, [], ◌∷◌, length, take, Option, Some, None, Ok, Err, codes, option_map, option_and_then, slice_index, bytes_eq, refl, sym, ap, subst, ◌∙◌, arith, if◌then◌else◌, eqb-true}
use Rattle.std.specs.List.{filter, onto_first, position_or_len}
use Rattle.std.proofs.lemmas.Slice.Eq.{bytes_eq-Decides}
use Rattle.fixed.specs.declared.frac.Frac.{Frac}
use Rattle.fixed.specs.declared.faults.NumFault.TheVariants.{BadNumber, NumberRange}
use Rattle.line_text.specs.Identifiers.{is_identifier}
use Rattle.line_text.specs.Words.{is_blank, is_empty, words, without_blanks, after_word}
use Rattle.line_text.proofs.SplitLaws.{split_some}
use Rattle.line_text.proofs.WordLaws.{words_none, words_some}
use Rattle.job.specs.declared.faults.Key.{Key}
use Rattle.job.specs.declared.faults.Key.TheVariants as keys
use Rattle.job.specs.Forms.{is_type_name}
use Rattle.job.specs.JobLines.{LineValue, says_nothing, says_energy, says_core, says_cutoff, says_time_step, says_slices, says_bits, says_parameter, says_global, says_type, IsEnergyLine, HasOneWord, LineSays}
use Rattle.job.specs.Numbers.{Reading, both, only, alone, numeral_of, signed_of, values_of, cutoff_of, whole_of, frac_of, mass_of}
use Rattle.job.specs.Statements.{Statement, skipped, energy_is, core_is, cutoff_is, time_step_is, slices_is, parameter_is, global_is, type_is, bits_is, well_formed, energy_statement, parameter_statement, global_statement, type_statement, key_among, key_of, words_of_keys, key_statement, words_statement, entry_of, value_of, value_said}
use Rattle.job.proofs.NumberTexts.{number_ok, number_again, signed_ok, signed_again, both_ok, values_ok, values_again, whole_ok, whole_again, cutoff_ok, cutoff_again, frac_ok, frac_again, mass_ok, mass_again}

-- ---- statements of values

-- the statement of a value
abbrev pub stated : LineValue → Statement
stated says_nothing = skipped
stated (says_energy text) = energy_is text
stated (says_core v) = core_is (Some v)
stated (says_cutoff v) = cutoff_is (Some v)
stated (says_time_step n) = time_step_is (Some n)
stated (says_slices n) = slices_is (Some n)
stated (says_bits frac) = bits_is (Some frac)
stated (says_parameter name) = parameter_is name
stated (says_global g) = global_is g.name (Some g.value)
stated (says_type t) = type_is t.name (Some (t.mass, t.values))

-- a value is the value of its statement
pub said_again : (v : LineValue) → value_said (stated v) ≡ Some v
said_again says_nothing = refl
said_again _ = refl

-- equal values under `Some` are equal
pub same_some : {X : Type 0} (x y : X) → Some x ≡ Some y → x ≡ y
same_some x y e = cc

-- ---- the words of a line

words_first : (line : List ℕ) → (length (without_blanks line) ≡ 0 → ⊥) → (word : List ℕ) × (words line ≡ word ∷ words (after_word line))
words_first line some =
    let w = words_some line (without_blanks line) refl some in
    (take (position_or_len is_blank (without_blanks line)) (without_blanks line), w.0 ∙ ap (λ (t : List ℕ). take (position_or_len is_blank (without_blanks line)) (without_blanks line) ∷ words t) w.1)

tails : {X : Type 0} (x y : X) (xs ys : List X) → x ∷ xs ≡ y ∷ ys → xs ≡ ys
tails x y xs ys e = cc

-- the words after the first word are the words of the text after the first word
pub words_behind : (line word : List ℕ) (ws : List (List ℕ)) → words line ≡ word ∷ ws → words (after_word line) ≡ ws
words_behind line word ws e =
    let first = words_first line (λ z. let none : words line ≡ [] = words_none line (without_blanks line) refl z in let never : [] ≡ word ∷ ws = sym none ∙ e in absurd cc) in
    tails first.0 word (words (after_word line)) ws (sym first.1 ∙ e)

-- if a line begins with `#`, its first word begins with `#`
comment_word : (rest : List ℕ) → (part : List ℕ) × (others : List (List ℕ)) × (words (35 ∷ rest) ≡ (35 ∷ part) ∷ others)
unfolding words
comment_word rest =
    let s = split_some is_blank rest in
    (s.0, filter (λ w. not (is_empty w)) s.1, ap (λ (parts : List (List ℕ)). filter (λ w. not (is_empty w)) (onto_first 35 parts)) s.2)

heads : (x y : List ℕ) (xs ys : List (List ℕ)) → x ∷ xs ≡ y ∷ ys → x ≡ y
heads x y xs ys e = cc

-- a line isn't a comment if its first word doesn't begin with `#`
pub no_comment : (line word : List ℕ) (ws : List (List ℕ)) → words line ≡ word ∷ ws → (slice_index word 0 ≡ 35 → ⊥) → (slice_index line 0 == 35) ≡ false
no_comment [] word ws e other = refl
no_comment (b ∷ bs) word ws e other = at (b == 35) (eqb-true b 35)
  where
    at : (c : Bool) → (c ≡ true → b ≡ 35) → c ≡ false
    at false is = refl
    at true is =
        let w = comment_word bs in
        let same : (35 ∷ w.0) ∷ w.1 ≡ word ∷ ws = sym w.2 ∙ ap (λ (x : ℕ). words (x ∷ bs)) (sym (is refl)) ∙ e in
        absurd (other (ap (λ (t : List ℕ). slice_index t 0) (sym (heads (35 ∷ w.0) word w.1 ws same))))

comment_is : (line : List ℕ) → slice_index line 0 ≡ 35 → (rest : List ℕ) × (line ≡ 35 ∷ rest)
comment_is [] e = absurd (omega (arith, e))
comment_is (b ∷ bs) e = (bs, ap (λ (x : ℕ). x ∷ bs) e)

-- ---- keys

abbrev key_word : Key → List ℕ
key_word keys.Energy = codes "energy"
key_word keys.Core = codes "core"
key_word keys.Cutoff = codes "cutoff"
key_word keys.TimeStep = codes "dt"
key_word keys.Slices = codes "slices"
key_word keys.Parameter = codes "parameter"
key_word keys.Global = codes "global"
key_word keys.Types = codes "type"
key_word keys.Bits = codes "bits"

abbrev AreWords : List (List ℕ × Key) → Type 0
AreWords [] = Unit {0}
AreWords (e ∷ es) = (e.0 ≡ key_word e.1) × AreWords es

among_found : (es : List (List ℕ × Key)) (word : List ℕ) (key : Key) → AreWords es → key_among es word ≡ Some key → word ≡ key_word key
among_found [] word key h e = absurd cc
among_found (x ∷ xs) word key h e = at (bytes_eq word x.0) (bytes_eq-Decides word x.0).0 (among_found xs word key h.1) e
  where
    at : (b : Bool) → (b ≡ true → word ≡ x.0) → (key_among xs word ≡ Some key → word ≡ key_word key) → (if b then Some x.1 else key_among xs word) ≡ Some key → word ≡ key_word key
    at true is rest f = is refl ∙ h.0 ∙ ap key_word (same_some x.1 key f)
    at false is rest f = rest f

-- the word of a key that is found
pub key_found : (word : List ℕ) (key : Key) → key_of word ≡ Some key → word ≡ key_word key
unfolding key_of
key_found word key e = among_found words_of_keys word key (refl, (refl, (refl, (refl, (refl, (refl, (refl, (refl, (refl, tt))))))))) e

-- each key is found by its word
pub key_again : (key : Key) → key_of (key_word key) ≡ Some key
unfolding key_of
key_again keys.Energy = refl
key_again _ = refl

-- no key begins with `#`
pub key_no_comment : (key : Key) → slice_index (key_word key) 0 ≡ 35 → ⊥
key_no_comment keys.Energy e = absurd (omega (arith, e))
key_no_comment _ e = absurd (omega (arith, e))

-- ---- from statements to line values

-- the value of a number that is in its range
number_said : {X : Type 0} (make : Option X → Statement) (say : X → LineValue) → ((o : Option X) → value_said (make o) ≡ option_map say o) → (r : Reading X) (v : LineValue)
    → option_and_then value_said (option_map make (well_formed r)) ≡ Some v → (x : X) × (r ≡ Ok x) × (say x ≡ v)
number_said make say h (Ok x) v e = (x, refl, same_some (say x) v (sym (h (Some x)) ∙ e))
number_said make say h (Err NumberRange) v e = let none = h None in absurd cc
number_said make say h (Err BadNumber) v e = absurd cc

-- a value that is read from the only word
pub alone_ok : {X : Type 0} (read : List ℕ → Reading X) (ws : List (List ℕ)) (x : X) → alone read ws ≡ Ok x → (word : List ℕ) × (ws ≡ word ∷ []) × (read word ≡ Ok x)
alone_ok read [] x e = absurd cc
alone_ok read (w ∷ []) x e = (w, refl, e)
alone_ok read (w ∷ v ∷ ws) x e = absurd cc

module _ (frac : Frac) (line : List ℕ) (v : LineValue) where
  -- a key with one number
  one_ok : {X : Type 0} (key : Key) (make : Option X → Statement) (say : X → LineValue) (read : List ℕ → Reading X) (Is : List ℕ → X → Type 0) → ((o : Option X) → value_said (make o) ≡ option_map say o)
      → ((word : List ℕ) (x : X) → read word ≡ Ok x → Is word x) → ((x : X) → HasOneWord line (key_word key) (λ word. Is word x) → LineSays frac line (say x))
      → words line ≡ key_word key ∷ words (after_word line) → option_and_then value_said (option_map make (well_formed (alone read (words (after_word line))))) ≡ Some v → LineSays frac line v
  one_ok key make say read Is made is line_is all e =
      let n = number_said make say made (alone read (words (after_word line))) v e in
      let a = alone_ok read (words (after_word line)) n.0 n.1 in
      subst (λ (u : LineValue). LineSays frac line u) n.2 (line_is n.0 (a.0, all ∙ ap (λ (ws : List (List ℕ)). key_word key ∷ ws) a.1, is a.0 n.0 a.2))

  -- a line with a word of the right form
  if_named : (named : Bool) (o : Option Statement) → (named ≡ true → option_and_then value_said o ≡ Some v → LineSays frac line v)
      → option_and_then value_said (if named then o else None) ≡ Some v → LineSays frac line v
  if_named true o is e = is refl e
  if_named false o is e = absurd cc

  energy_ok : words line ≡ codes "energy" ∷ words (after_word line) → option_and_then value_said (energy_statement (without_blanks (after_word line))) ≡ Some v → LineSays frac line v
  energy_ok all e = at (without_blanks (after_word line)) refl e
    where
      at : (text : List ℕ) → without_blanks (after_word line) ≡ text → option_and_then value_said (energy_statement text) ≡ Some v → LineSays frac line v
      at [] is h = absurd cc
      at (b ∷ bs) is h =
          subst (λ (u : LineValue). LineSays frac line u) (same_some (says_energy (b ∷ bs)) v h)
          (record { others = words (after_word line); key = all; text_is = is; some = omega arith })

  parameter_ok : words line ≡ codes "parameter" ∷ words (after_word line) → option_and_then value_said (parameter_statement (only (words (after_word line)))) ≡ Some v → LineSays frac line v
  parameter_ok all e = at (words (after_word line)) all e
    where
      at : (ws : List (List ℕ)) → words line ≡ codes "parameter" ∷ ws → option_and_then value_said (parameter_statement (only ws)) ≡ Some v → LineSays frac line v
      at [] is h = absurd cc
      at (name ∷ []) is h =
          if_named (is_identifier name) (Some (parameter_is name))
          (λ i k. subst (λ (u : LineValue). LineSays frac line u) (same_some (says_parameter name) v k) (name, is, (refl, i))) h
      at (name ∷ w ∷ ws) is h = absurd cc

  global_ok : words line ≡ codes "global" ∷ words (after_word line) → option_and_then value_said (global_statement frac (words (after_word line))) ≡ Some v → LineSays frac line v
  global_ok all e = at (words (after_word line)) all e
    where
      at : (ws : List (List ℕ)) → words line ≡ codes "global" ∷ ws → option_and_then value_said (global_statement frac ws) ≡ Some v → LineSays frac line v
      at [] is h = absurd cc
      at (name ∷ []) is h = absurd cc
      at (name ∷ word ∷ []) is h =
          if_named (is_identifier name) (option_map (global_is name) (well_formed (signed_of frac word)))
          (λ i k.
          let n = number_said (global_is name) (λ z. says_global (record { name = name; value = z })) (λ o. refl) (signed_of frac word) v k in
          subst (λ (u : LineValue). LineSays frac line u) n.2 (record { word = word; words_are = is; named = i; number = signed_ok frac word n.0 n.1 })) h
      at (name ∷ word ∷ w ∷ ws) is h = absurd cc

  type_ok : words line ≡ codes "type" ∷ words (after_word line) → option_and_then value_said (type_statement frac (words (after_word line))) ≡ Some v → LineSays frac line v
  type_ok all e = at (words (after_word line)) all e
    where
      at : (ws : List (List ℕ)) → words line ≡ codes "type" ∷ ws → option_and_then value_said (type_statement frac ws) ≡ Some v → LineSays frac line v
      at [] is h = absurd cc
      at (name ∷ []) is h = absurd cc
      at (name ∷ mass ∷ numerals) is h =
          if_named (is_type_name name) (option_map (type_is name) (well_formed (both (mass_of mass) (values_of frac numerals))))
          (λ i k.
          let n = number_said (type_is name) (λ z. says_type (record { name = name; mass = z.0; values = z.1 })) (λ o. refl) (both (mass_of mass) (values_of frac numerals)) v k in
          let b = both_ok (mass_of mass) (values_of frac numerals) n.0 n.1 in
          let m = mass_ok mass n.0.0 b.0 in
          subst (λ (u : LineValue). LineSays frac line u) n.2
          (record { mass = mass; numerals = numerals; words_are = is; named = i; mass_is = m.0; some_mass = m.1; most_mass = m.2; numbers = values_ok frac numerals n.0.1 b.1 })) h

  key_ok : (key : Key) → words line ≡ key_word key ∷ words (after_word line) → option_and_then value_said (key_statement frac (Some key) (after_word line)) ≡ Some v → LineSays frac line v
  key_ok keys.Energy all e = energy_ok all e
  key_ok keys.Core all e = one_ok keys.Core core_is says_core (numeral_of frac) _ (λ o. refl) (number_ok frac) (λ x h. h) all e
  key_ok keys.Cutoff all e = one_ok keys.Cutoff cutoff_is says_cutoff (cutoff_of frac) _ (λ o. refl) (cutoff_ok frac) (λ x h. h) all e
  key_ok keys.TimeStep all e = one_ok keys.TimeStep time_step_is says_time_step (whole_of 1 1000) _ (λ o. refl) (whole_ok 1 1000) (λ x h. h) all e
  key_ok keys.Slices all e = one_ok keys.Slices slices_is says_slices (whole_of 1 65536) _ (λ o. refl) (whole_ok 1 65536) (λ x h. h) all e
  key_ok keys.Parameter all e = parameter_ok all e
  key_ok keys.Global all e = global_ok all e
  key_ok keys.Types all e = type_ok all e
  key_ok keys.Bits all e = one_ok keys.Bits bits_is says_bits frac_of _ (λ o. refl) frac_ok (λ x h. h) all e

  words_ok : (ws : List (List ℕ)) → words line ≡ ws → option_and_then value_said (words_statement frac ws (after_word line)) ≡ Some v → LineSays frac line v
  words_ok [] is e = subst (λ (u : LineValue). LineSays frac line u) (same_some says_nothing v e) (inr is)
  words_ok (word ∷ ws) is e = at (key_of word) refl e
    where
      at : (k : Option Key) → key_of word ≡ k → option_and_then value_said (key_statement frac k (after_word line)) ≡ Some v → LineSays frac line v
      at None known h = absurd cc
      at (Some key) known h =
          let all : words line ≡ key_word key ∷ words (after_word line) =
          is ∙ ap (λ (w : List ℕ). w ∷ ws) (key_found word key known) ∙ ap (λ (us : List (List ℕ)). key_word key ∷ us) (sym (words_behind line word ws is)) in
          key_ok key all h

  -- if the statement of a line has a value, the line has this value
  pub entry_ok : value_of frac line ≡ Some v → LineSays frac line v
  unfolding entry_of
  entry_ok e = at (slice_index line 0 == 35) (eqb-true (slice_index line 0) 35) e
    where
      at : (b : Bool) → (b ≡ true → slice_index line 0 ≡ 35) → option_and_then value_said (if b then Some skipped else words_statement frac (words line) (after_word line)) ≡ Some v → LineSays frac line v
      at true is h = subst (λ (u : LineValue). LineSays frac line u) (same_some says_nothing v h) (inl (comment_is line (is refl)))
      at false is h = words_ok (words line) refl h

-- ---- from line values to statements

module _ (frac : Frac) (line : List ℕ) where
  key_line : (key : Key) (behind : List (List ℕ)) → words line ≡ key_word key ∷ behind → entry_of frac line ≡ key_statement frac (Some key) (after_word line)
  unfolding entry_of
  key_line key behind all = rw (no_comment line (key_word key) behind all (key_no_comment key), all, key_again key) refl

  one_again : {X : Type 0} (key : Key) (make : Option X → Statement) (read : List ℕ → Reading X) (x : X) (word : List ℕ) → words line ≡ key_word key ∷ word ∷ [] → read word ≡ Ok x
      → option_map make (well_formed (alone read (words (after_word line)))) ≡ Some (make (Some x))
  one_again key make read x word all is = rw (words_behind line (key_word key) (word ∷ []) all, is) refl

  energy_again : (text : List ℕ) → IsEnergyLine line text → energy_statement (without_blanks (after_word line)) ≡ Some (energy_is text)
  energy_again text h = ap energy_statement h.text_is ∙ at text h.some
    where
      at : (t : List ℕ) → 0 < length t → energy_statement t ≡ Some (energy_is t)
      at [] some = absurd (omega (arith, some))
      at (b ∷ bs) some = refl

  -- if a line has a value, the statement of the line is the statement of the value
  pub entry_again : (v : LineValue) → LineSays frac line v → entry_of frac line ≡ Some (stated v)
  unfolding entry_of
  entry_again says_nothing (inl c) = rw c.1 refl
  entry_again says_nothing (inr none) = rw none (at (slice_index line 0 == 35))
    where
      at : (b : Bool) → (if b then Some skipped else Some skipped) ≡ Some skipped
      at true = refl
      at false = refl
  entry_again (says_energy text) h = key_line keys.Energy h.others h.key ∙ energy_again text h
  entry_again (says_core x) h = key_line keys.Core (h.0 ∷ []) h.1 ∙ one_again keys.Core core_is (numeral_of frac) x h.0 h.1 (number_again frac h.0 x h.2)
  entry_again (says_cutoff x) h = key_line keys.Cutoff (h.0 ∷ []) h.1 ∙ one_again keys.Cutoff cutoff_is (cutoff_of frac) x h.0 h.1 (cutoff_again frac h.0 x h.2.0 h.2.1 h.2.2)
  entry_again (says_time_step x) h = key_line keys.TimeStep (h.0 ∷ []) h.1 ∙ one_again keys.TimeStep time_step_is (whole_of 1 1000) x h.0 h.1 (whole_again 1 1000 h.0 x h.2.0 h.2.1 h.2.2)
  entry_again (says_slices x) h = key_line keys.Slices (h.0 ∷ []) h.1 ∙ one_again keys.Slices slices_is (whole_of 1 65536) x h.0 h.1 (whole_again 1 65536 h.0 x h.2.0 h.2.1 h.2.2)
  entry_again (says_bits x) h = key_line keys.Bits (h.0 ∷ []) h.1 ∙ one_again keys.Bits bits_is frac_of x h.0 h.1 (frac_again h.0 x h.2)
  entry_again (says_parameter name) h =
      let all : words line ≡ codes "parameter" ∷ name ∷ [] = h.1 ∙ ap (λ (w : List ℕ). codes "parameter" ∷ w ∷ []) h.2.0 in
      key_line keys.Parameter (name ∷ []) all ∙ rw (words_behind line (codes "parameter") (name ∷ []) all, h.2.1) refl
  entry_again (says_global g) h =
      key_line keys.Global (g.name ∷ h.word ∷ []) h.words_are ∙ rw (words_behind line (codes "global") (g.name ∷ h.word ∷ []) h.words_are, h.named, signed_again frac h.word g.value h.number) refl
  entry_again (says_type t) h =
      key_line keys.Types (t.name ∷ h.mass ∷ h.numerals) h.words_are
      ∙ rw (words_behind line (codes "type") (t.name ∷ h.mass ∷ h.numerals) h.words_are, h.named, mass_again h.mass t.mass h.mass_is h.some_mass h.most_mass, values_again frac h.numerals t.values h.numbers) refl

-- if a line has a value, it is the value of the line's statement
pub value_again : (frac : Frac) (line : List ℕ) (v : LineValue) → LineSays frac line v → value_of frac line ≡ Some v
value_again frac line v h = ap (λ (o : Option Statement). option_and_then value_said o) (entry_again frac line v h) ∙ said_again v
