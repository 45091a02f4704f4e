-- Lines without a fault have distinct names, and no more names than the limits.
use Rattle.std.proofs.Common.{◌≡◌, ℕ, zero, suc, ◌+◌, ◌<◌, ◌≤◌, Bool, true, false, List, [], ◌∷◌, ◌++◌, length, length-append, get_or, map, Option, Some, None, bytes_eq, refl, sym, ap, subst, ◌∙◌, arith}
use Rattle.std.proofs.lemmas.Bool.{ltb-true, or_parts}
use Rattle.std.proofs.lemmas.List.{length-map, map-append, map-id}
use Rattle.std.proofs.lemmas.List.Quantifiers.{all_pairs_push}
use Rattle.std.proofs.lemmas.Slice.Eq.{bytes_eq-Decides}
use Rattle.fixed.specs.declared.frac.Frac.{Frac}
use Rattle.job.specs.declared.faults.Key.{Key}
use Rattle.job.specs.Values.{Counts, JobValue, GlobalValue, TypeValue}
use Rattle.job.specs.JobLines.{LineValue, says_parameter, says_global, says_type, said_parameter, said_global}
use Rattle.job.specs.Faults.{AreFaultless, Refusal, Said, TypeLine, knows, listed, line_fault, statement_fault, summary, type_in}
use Rattle.job.specs.Drafts.{and_one, joined, GivesJob}
use Rattle.job.specs.JobText.{AreApart, HasAtMost, HasNamesOnce}
use Rattle.job.proofs.EntryLemmas.{stated}
use Rattle.job.proofs.FaultLemmas.{good_line, kept_below, summary_more}

differs : (a b : List ℕ) → bytes_eq a b ≡ false → a ≡ b → ⊥
differs a b e h = let t = (bytes_eq-Decides a b).1 h in absurd cc

all_differ : (names : List (List ℕ)) (name : List ℕ) → knows names name ≡ false → (k : ℕ) (d : List ℕ) → k < length names → get_or names k d ≡ name → ⊥
all_differ [] name e k d lt = absurd (omega arith)
all_differ (n ∷ ns) name e zero d lt = differs n name (or_parts (bytes_eq n name) (knows ns name) e).0
all_differ (n ∷ ns) name e (suc k) d lt = all_differ ns name (or_parts (bytes_eq n name) (knows ns name) e).1 k d (omega arith)

apart_none : AreApart []
apart_none i j d lt below = absurd (omega arith)

listed_none : (known fits : Bool) (repetition : Refusal) (key : Key) → listed known repetition fits key ≡ None → (known ≡ false) × (fits ≡ true)
listed_none true fits repetition key e = absurd cc
listed_none false true repetition key e = (refl, refl)
listed_none false false repetition key e = absurd cc

-- items with names that lines give, one at a time, each of which is new and finds room
pub record Gives {X : Type 0} (most : Counts) (limit : ℕ) (items : Said → List X) (name : X → List ℕ) (part : ℕ → LineValue → Option X) : Type 0 where
  pub more : (n : ℕ) (s : Said) (v : LineValue) → items (joined n s (Some v)) ≡ and_one (items s) (part n v)
  pub new : (n : ℕ) (s : Said) (v : LineValue) (x : X) → statement_fault most s (stated v) ≡ None → part n v ≡ Some x → (knows (map name (items s)) (name x) ≡ false) × (length (items s) < limit)

-- items with distinct names, and no more items than the limit
abbrev Fits : {X : Type 0} → ℕ → (X → List ℕ) → List X → Type 0
Fits limit name xs = AreApart (map name xs) × (length xs ≤ limit)

one_fits : {X : Type 0} (limit : ℕ) (name : X → List ℕ) (xs : List X) (o : Option X) → ((x : X) → o ≡ Some x → (knows (map name xs) (name x) ≡ false) × (length xs < limit)) → Fits limit name xs → Fits limit name (and_one xs o)
one_fits limit name xs None h p = p
one_fits limit name xs (Some x) h p =
    let f = h x refl in (
      subst AreApart (sym (map-append name xs (x ∷ []))) (all_pairs_push (λ a b. a ≡ b → ⊥) (map name xs) (name x) p.0 (all_differ (map name xs) (name x) f.0)),
      omega (arith, f.1, length-append xs (x ∷ [])),
    )

all_fit : {X : Type 0} (most : Counts) (limit : ℕ) (frac : Frac) (items : Said → List X) (name : X → List ℕ) (part : ℕ → LineValue → Option X) → Gives most limit items name part → items (summary frac []) ≡ []
    → (lines : List (List ℕ)) → AreFaultless most frac [] lines → Fits limit name (items (summary frac lines))
all_fit most limit frac items name part g none lines h = kept_below most frac (λ z. Fits limit name (items (summary frac z))) keeps [] lines h (rw none (apart_none, omega arith))
  where
    keeps : (above : List (List ℕ)) (line : List ℕ) → line_fault most frac above line ≡ None → Fits limit name (items (summary frac above)) → Fits limit name (items (summary frac (above ++ line ∷ [])))
    keeps above line good p =
        let n = length above + 2 in
        let s = summary frac above in
        let v = good_line most frac above line good in
        let joins : items (summary frac (above ++ line ∷ [])) ≡ and_one (items s) (part n v.0) = ap items (summary_more frac above line ∙ ap (joined n s) v.1) ∙ g.more n s v.0 in
        subst (Fits limit name) (sym joins) (one_fits limit name (items s) (part n v.0) (λ x e. g.new n s v.0 x v.2 e) p)

parameters_given : (most : Counts) → Gives most most.parameters (λ s. s.parameters) (λ p. p) (λ n v. said_parameter v)
parameters_given most = record { more = λ n s v. refl; new = new }
  where
    new : (n : ℕ) (s : Said) (v : LineValue) (x : List ℕ) → statement_fault most s (stated v) ≡ None → said_parameter v ≡ Some x → (knows (map (λ p. p) s.parameters) x ≡ false) × (length s.parameters < most.parameters)
    new n s (says_parameter name) x f e =
        let same : name ≡ x = cc in
        let p = listed_none _ _ _ _ f in (rw (map-id s.parameters, ← same) p.0, ltb-true _ _ p.1)
    new n s _ x f e = absurd cc

globals_given : (most : Counts) → Gives most most.globals (λ s. s.globals) (λ g. g.name) (λ n v. said_global v)
globals_given most = record { more = λ n s v. refl; new = new }
  where
    new : (n : ℕ) (s : Said) (v : LineValue) (x : GlobalValue) → statement_fault most s (stated v) ≡ None → said_global v ≡ Some x → (knows (map (λ g. g.name) s.globals) x.name ≡ false) × (length s.globals < most.globals)
    new n s (says_global g) x f e =
        let same : g ≡ x = cc in
        let p = listed_none _ _ _ _ f in (rw (← same) p.0, ltb-true _ _ p.1)
    new n s _ x f e = absurd cc

types_given : (most : Counts) → Gives most most.types (λ s. s.types) (λ t. t.value.name) (λ n v. type_in n (Some v))
types_given most = record { more = λ n s v. refl; new = new }
  where
    new : (n : ℕ) (s : Said) (v : LineValue) (x : TypeLine) → statement_fault most s (stated v) ≡ None → type_in n (Some v) ≡ Some x → (knows (map (λ t. t.value.name) s.types) x.value.name ≡ false) × (length s.types < most.types)
    new n s (says_type t) x f e =
        let one : ◌≡◌ {A = TypeLine} (record { line = n; value = t }) x = cc in
        let same : t.name ≡ x.value.name = ap (λ (u : TypeLine). u.value.name) one in
        let p = listed_none _ _ _ _ f in (rw (← same) p.0, ltb-true _ _ p.1)
    new n s _ x f e = absurd cc

-- the names of types, from their lines or without them
pub line_names : (ts : List TypeLine) → map (λ t. t.name) (map (λ t. t.value) ts) ≡ map (λ t. t.value.name) ts
line_names [] = refl
line_names (t ∷ ts) = ap (λ ns. t.value.name ∷ ns) (line_names ts)

-- lines without a fault give distinct parameters, globals and types, and no more of each than the limit
pub names_fit : (most : Counts) (frac : Frac) (lines : List (List ℕ)) (job : JobValue) → AreFaultless most frac [] lines → GivesJob (summary frac lines) job → HasAtMost most job × HasNamesOnce job
unfolding summary
names_fit most frac lines job h t =
    let p = subst (Fits most.parameters (λ (p : List ℕ). p)) t.parameters (all_fit most most.parameters frac (λ s. s.parameters) (λ p. p) (λ n v. said_parameter v) (parameters_given most) refl lines h) in
    let g = subst (Fits most.globals (λ (g : GlobalValue). g.name)) t.globals (all_fit most most.globals frac (λ s. s.globals) (λ g. g.name) (λ n v. said_global v) (globals_given most) refl lines h) in
    let u = all_fit most most.types frac (λ s. s.types) (λ t. t.value.name) (λ n v. type_in n (Some v)) (types_given most) refl lines h in (
      record { parameters = p.1; globals = g.1; types = subst (λ (ts : List TypeValue). length ts ≤ most.types) t.types (omega (arith, u.1, length-map (summary frac lines).types (λ (t : TypeLine). t.value))) },
      record {
        parameters = subst AreApart (map-id job.parameters) p.0;
        globals = g.0;
        types = subst (λ (ts : List TypeValue). AreApart (map (λ t. t.name) ts)) t.types (subst AreApart (sym (line_names (summary frac lines).types)) u.0);
      },
    )
