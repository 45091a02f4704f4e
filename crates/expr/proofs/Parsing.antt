-- A text is parsed to a tree exactly if the specification derives the tree; each error has its specified cause.
use Rattle.std.proofs.Common.{◌≡◌, ◌⊎◌, inl, inr, ℕ, ◌+◌, ◌<◌, ◌≤◌, arith, Bool, true, false, ltb, List, [], ◌∷◌, length, Option, Some, None, Result, Ok, Err, refl, sym, ap, subst, ◌∙◌, IfOk, IfErr, ltb-true, ltb-false, le-ltb}
use Rattle.fallible.specs.Failures.{IfRefused}
use Rattle.fallible.specs.declared.failure.Failure.{Failure}
use Rattle.fallible.specs.declared.failure.Failure.TheVariants.{Refused, Memory}
use Rattle.fallible.proofs.FailureLaws.{refused_for}
use Rattle.energy_program.specs.declared.faults.ExprFault.{ExprFault}
use Rattle.energy_program.specs.declared.programs.Program.{Program}
use Rattle.line_text.specs.Steps.{◌>>=◌}
use Rattle.energy_program.specs.Faults.{Refusal, BadCharacter, BadNumber, UnexpectedToken, UnknownName, WrongArgumentCount, BadExponent, NumberRange, RepeatedDefinition, ReservedName, TooLarge, LeftOutFunction, refusal_of, Gives}
use Rattle.expr.specs.Tokens.{Lexed}
use Rattle.expr.specs.Syntax.{Syntax, Definition, Source, defined_names}
use Rattle.expr.specs.Syntax as s
use Rattle.energy_program.specs.Programs.{program_tree, Trees, trees_of}
use Rattle.energy_program.specs.Tree.{Tree, substituted}
use Rattle.energy_program.specs.Tree as t
use Rattle.expr.specs.Uses.{used, used_later, resolved, all_resolved, substituted_tree, trees, source_meaning}
use Rattle.energy_program.specs.Names.{input_of}
use Rattle.expr.specs.Lexing.{Tokens, tokens_of}
use Rattle.expr.specs.Definitions.{AreNew, checked, number_from}
use Rattle.expr.specs.Grammar.{IsProgram}
use Rattle.expr.specs.Sources.{source_at}
use Rattle.expr.specs.Text.{IsText}
use Rattle.expr.specs.Energy.{IsEnergy, IsRead, IsWritten, IsCause, ReadsEnergyTexts, limited, program_of, trees_in}
use Rattle.expr.proofs.Checked.{CheckedMeans, checked_means, new_checked}
use Rattle.energy_program.proofs.FaultLaws.{fails_then}
use Rattle.expr.proofs.Complete.{Answers}
use Rattle.expr.proofs.Programs.{AtSource, SourceMeans, source_means, source_complete}
use Rattle.expr.proofs.Sound.{Cause}
use Rattle.expr.proofs.TextLemmas.{TextMeans, text_means, text_complete}
use Rattle.line_text.proofs.StepLaws.{same_ok, same_err}

-- ---- the steps of reading

abbrev Last : Type 0 → Type 0
Last X = Source → Result X Refusal

abbrev of_names : {X : Type 0} → Last X → Source → Result (List (List ℕ)) Refusal → Result X Refusal
of_names last source r = r >>= λ names. last source

abbrev of_source : {X : Type 0} → Last X → List (List ℕ) → Result Source Refusal → Result X Refusal
of_source last vs r = r >>= λ source. of_names last source (checked vs [] (defined_names source.1))

abbrev of_few : {X : Type 0} → Last X → List (List ℕ) → ℕ → Result (List Lexed) Refusal → Result X Refusal
of_few last vs end r = r >>= λ few. of_source last vs (source_at end few)

abbrev of_tokens : {X : Type 0} → Last X → List (List ℕ) → ℕ → List Lexed → Result X Refusal
of_tokens last vs end ts = of_few last vs end (limited (ltb 4096 (length ts)) ts)

bind_then : {A B C : Type 0} (r : Result A Refusal) (f : A → Result B Refusal) (h : B → Result C Refusal) (k : A → Result C Refusal) → ((x : A) → (f x >>= h) ≡ k x) → ((r >>= f) >>= h) ≡ (r >>= k)
bind_then (Ok x) f h k e = e x
bind_then (Err w) f h k e = refl

trees_is : (bits : ℕ) (vs : List (List ℕ)) (text : List ℕ) → trees_in bits vs text ≡ (tokens_of bits text >>= of_tokens (trees vs) vs (length text))
unfolding trees_in
trees_is bits vs text = refl

program_is : (bits : ℕ) (vs : List (List ℕ)) (text : List ℕ) → program_of bits vs text ≡ (tokens_of bits text >>= of_tokens (source_meaning vs) vs (length text))
unfolding program_of source_meaning
program_is bits vs text =
    ap substituted_tree (trees_is bits vs text)
    ∙ bind_then (tokens_of bits text) (of_tokens (trees vs) vs (length text)) lexed (of_tokens (source_meaning vs) vs (length text))
    (λ ts. bind_then (limited (ltb 4096 (length ts)) ts) (λ few. of_source (trees vs) vs (source_at (length text) few)) lexed (λ few. of_source (source_meaning vs) vs (source_at (length text) few))
    (λ few. bind_then (source_at (length text) few) (λ source. of_names (trees vs) source (checked vs [] (defined_names source.1))) lexed (λ source. of_names (source_meaning vs) source (checked vs [] (defined_names source.1)))
    (λ source. bind_then (checked vs [] (defined_names source.1)) (λ names. trees vs source) lexed (λ names. source_meaning vs source) (λ names. refl))))
  where
    lexed : Trees → Result Tree Refusal
    lexed t = Ok (substituted t.0 t.1)

-- if a program's trees are specified by the text, so is its tree with definitions substituted
pub substituted_tree_gives : {A : Type 0} (bits : ℕ) (vs : List (List ℕ)) (text : List ℕ) (r : Result (Program A) (Failure (ExprFault A))) → Gives trees_of r (trees_in bits vs text) → Gives program_tree r (program_of bits vs text)
unfolding program_of
substituted_tree_gives bits vs text (Ok p) h = ap substituted_tree h
substituted_tree_gives bits vs text (Err e) h = fails_then e (trees_in bits vs text) (λ t. Ok (substituted t.0 t.1)) h

-- ---- names without a meaning

-- the error is an unknown name
abbrev IsName : Refusal → Type 0
IsName (UnknownName w) = Unit {0}
IsName _ = ⊥

abbrev OnlyNames : {A : Type 0} → Result A Refusal → Type 0
OnlyNames (Ok x) = Unit {0}
OnlyNames (Err f) = IsName f

then_named : {A B : Type 0} (r : Result A Refusal) (next : A → Result B Refusal) → OnlyNames r → ((x : A) → OnlyNames (next x)) → OnlyNames (r >>= next)
then_named (Ok x) next h k = k x
then_named (Err f) next h k = h

later_named : (w : List ℕ) (o : Option ℕ) → OnlyNames (used_later w o)
later_named w None = tt
later_named w (Some j) = tt

used_named : (i : ℕ) (ws : List (List ℕ)) (w : List ℕ) (o : Option ℕ) → OnlyNames (used i ws w o)
used_named i ws w None = later_named w (number_from i ws w)
used_named i ws w (Some k) = tt

resolved_named : (vs : List (List ℕ)) (i : ℕ) (ws : List (List ℕ)) (e : Syntax) → OnlyNames (resolved vs i ws e)
unfolding resolved
resolved_named vs i ws (s.Number c) = tt
resolved_named vs i ws (s.Name w) = used_named i ws w (input_of vs w)
resolved_named vs i ws (s.Negated a) = then_named (resolved vs i ws a) (λ x. Ok (t.Negated x)) (resolved_named vs i ws a) (λ x. tt)
resolved_named vs i ws (s.Binary o a b) =
    then_named (resolved vs i ws a) (λ x. resolved vs i ws b >>= λ y. Ok (t.Binary o x y)) (resolved_named vs i ws a)
    (λ x. then_named (resolved vs i ws b) (λ y. Ok (t.Binary o x y)) (resolved_named vs i ws b) (λ y. tt))
resolved_named vs i ws (s.Applied g a) = then_named (resolved vs i ws a) (λ x. Ok (t.Applied g x)) (resolved_named vs i ws a) (λ x. tt)
resolved_named vs i ws (s.Power a n) = then_named (resolved vs i ws a) (λ x. Ok (t.Power x n)) (resolved_named vs i ws a) (λ x. tt)
resolved_named vs i ws (s.Select c a b) =
    then_named (resolved vs i ws c) (λ x. resolved vs i ws a >>= λ y. resolved vs i ws b >>= λ z. Ok (t.Select x y z)) (resolved_named vs i ws c)
    (λ x. then_named (resolved vs i ws a) (λ y. resolved vs i ws b >>= λ z. Ok (t.Select x y z)) (resolved_named vs i ws a)
    (λ y. then_named (resolved vs i ws b) (λ z. Ok (t.Select x y z)) (resolved_named vs i ws b) (λ z. tt)))

trees_ok : List Tree → Result (List Tree) Refusal
trees_ok z = Ok z

pair_ok : Trees → Result Trees Refusal
pair_ok z = Ok z

all_named : (vs : List (List ℕ)) (i : ℕ) (ds : List Definition) → OnlyNames (all_resolved vs i ds)
unfolding all_resolved trees_ok
all_named vs i [] = tt
all_named vs i (d ∷ ds) =
    then_named (resolved vs (i + 1) (defined_names ds) d.1) (λ x. all_resolved vs (i + 1) ds >>= λ xs. trees_ok (x ∷ xs)) (resolved_named vs (i + 1) (defined_names ds) d.1)
    (λ x. then_named (all_resolved vs (i + 1) ds) (λ xs. trees_ok (x ∷ xs)) (all_named vs (i + 1) ds) (λ xs. tt))

meaning_named : (vs : List (List ℕ)) (source : Source) → OnlyNames (source_meaning vs source)
unfolding source_meaning trees pair_ok
meaning_named vs source =
    then_named (trees vs source) (λ t. Ok (substituted t.0 t.1))
    (then_named (resolved vs 0 (defined_names source.1) source.0) (λ x. all_resolved vs 0 source.1 >>= λ xs. pair_ok (x, xs)) (resolved_named vs 0 (defined_names source.1) source.0)
    (λ x. then_named (all_resolved vs 0 source.1) (λ xs. pair_ok (x, xs)) (all_named vs 0 source.1) (λ xs. tt))) (λ t. tt)

-- ---- soundness

-- the grammar gives the text the tree that is parsed, and an error has its cause
abbrev ProgramMeans : ℕ → List (List ℕ) → List ℕ → Result Tree Refusal → Type 0
ProgramMeans bits vs text (Ok e) = IsEnergy bits vs text 64 e
ProgramMeans bits vs text (Err f) = IsCause bits vs text f

module _ (bits : ℕ) (vs : List (List ℕ)) (text : List ℕ) where
  lexing_cause : (f : Refusal) → TextMeans bits text (Err f) → IsCause bits vs text f
  lexing_cause (BadCharacter at) m = m
  lexing_cause (BadNumber at) m = m
  lexing_cause (NumberRange at) m = m
  lexing_cause _ m = absurd m

  grammar_cause : (f : Refusal) (ts : List Lexed) → IsText bits text ts → Cause AtSource f ts → IsCause bits vs text f
  grammar_cause (UnexpectedToken at) ts t c = tt
  grammar_cause (WrongArgumentCount w) ts t c = tt
  grammar_cause (BadExponent at) ts t c = tt
  grammar_cause TooLarge ts t c = record { tokens = ts; spelled = t; many = inr c }
  grammar_cause (UnknownName w) ts t c = inl (record { tokens = ts; spelled = t; called = c })
  grammar_cause (LeftOutFunction w) ts t c = record { tokens = ts; spelled = t; called = c }
  grammar_cause _ ts t c = absurd c

  -- the tokens derive the source
  record IsSource (source : Source) : Type 0 where
    tokens : List Lexed
    spelled : IsText bits text tokens
    few : length tokens ≤ 4096
    derived : IsProgram 65 tokens source.0 source.1
    few_definitions : length source.1 ≤ 64

  abbrev written : (source : Source) → IsSource source → IsWritten bits text
  written source w = record { tokens = w.tokens; body = source.0; definitions = source.1; spelled = w.spelled; derived = w.derived }

  uses_mean : (source : Source) → IsSource source → AreNew vs [] (defined_names source.1) → (r : Result Tree Refusal) → source_meaning vs source ≡ r → OnlyNames r → ProgramMeans bits vs text r
  uses_mean source w n (Ok e) h k = record {
    tokens = w.tokens;
    body = source.0;
    definitions = source.1;
    spelled = w.spelled;
    few = w.few;
    derived = w.derived;
    few_definitions = w.few_definitions;
    new = n;
    meant = h;
  }
  uses_mean source w n (Err (UnknownName name)) h k = inr (record { written = written source w; new = n; first = h })
  uses_mean source w n (Err _) h k = absurd k

  names_mean : (source : Source) → IsSource source → (r : Result (List (List ℕ)) Refusal) → CheckedMeans vs [] (defined_names source.1) r → ProgramMeans bits vs text (of_names (source_meaning vs) source r)
  names_mean source w (Ok all) n = uses_mean source w n (source_meaning vs source) refl (meaning_named vs source)
  names_mean source w (Err (ReservedName name)) m = record { written = written source w; before = m.0.front; after = m.0.after; parts = m.0.parts; new = m.0.new; taken = m.1 }
  names_mean source w (Err (RepeatedDefinition name)) m =
      record { written = written source w; before = m.0.front; after = m.0.after; parts = m.0.parts; new = m.0.new; free = m.1; given = m.2 }
  names_mean source w (Err _) m = absurd m

  source_mean : (ts : List Lexed) → IsText bits text ts → length ts ≤ 4096 → (r : Result Source Refusal) → SourceMeans ts r → ProgramMeans bits vs text (of_source (source_meaning vs) vs r)
  source_mean ts t few (Ok source) m =
      names_mean source (record { tokens = ts; spelled = t; few = few; derived = m.0; few_definitions = m.1 }) (checked vs [] (defined_names source.1)) (checked_means vs [] (defined_names source.1))
  source_mean ts t few (Err f) c = grammar_cause f ts t c

  few_mean : (ts : List Lexed) → IsText bits text ts → (c : Bool) → ltb 4096 (length ts) ≡ c → ProgramMeans bits vs text (of_few (source_meaning vs) vs (length text) (limited c ts))
  few_mean ts t true h = record { tokens = ts; spelled = t; many = inl (ltb-true 4096 (length ts) h) }
  few_mean ts t false h = source_mean ts t (ltb-false 4096 (length ts) h) (source_at (length text) ts) (source_means (length text) ts)

  tokens_mean : (r : Tokens) → TextMeans bits text r → ProgramMeans bits vs text (r >>= of_tokens (source_meaning vs) vs (length text))
  tokens_mean (Ok ts) t = few_mean ts t (ltb 4096 (length ts)) refl
  tokens_mean (Err f) m = lexing_cause f m

  program_means : ProgramMeans bits vs text (program_of bits vs text)
  program_means = subst (ProgramMeans bits vs text) (sym (program_is bits vs text)) (tokens_mean (tokens_of bits text) (text_means bits text))

-- if parsing returns a program, the text derives the program's tree
pub is_found : {A : Type 0} (bits : ℕ) (vs : List (List ℕ)) (text : List ℕ) (r : Result (Program A) (Failure (ExprFault A))) → Gives program_tree r (program_of bits vs text) → IfOk r (λ p. IsEnergy bits vs text 64 (program_tree p))
is_found bits vs text (Ok p) h = subst (ProgramMeans bits vs text) h (program_means bits vs text)
is_found bits vs text (Err f) h = tt

-- if parsing returns an error, the text contains the cause that `IsCause` specifies
pub is_cause : {A : Type 0} (bits : ℕ) (vs : List (List ℕ)) (text : List ℕ) (r : Result (Program A) (Failure (ExprFault A))) → Gives program_tree r (program_of bits vs text)
    → IfErr r (λ failure. IfRefused failure (λ fault. IsCause bits vs text (refusal_of fault)))
is_cause bits vs text r h =
    refused_for program_tree refusal_of (λ fault. IsCause bits vs text (refusal_of fault)) r (program_of bits vs text) (λ fault e. subst (ProgramMeans bits vs text) e (program_means bits vs text)) h

-- ---- completeness

complete : (bits : ℕ) (vs : List (List ℕ)) (text : List ℕ) (n : ℕ) (e : Tree) → IsEnergy bits vs text n e → (program_of bits vs text ≡ Ok e) ⊎ ((64 < n) × (program_of bits vs text ≡ Err TooLarge))
complete bits vs text n e p =
    let few : ltb 4096 (length p.tokens) ≡ false = le-ltb 4096 (length p.tokens) p.few in
    let start : program_of bits vs text ≡ of_source (source_meaning vs) vs (source_at (length text) p.tokens) =
    program_is bits vs text ∙ ap (λ (r : Tokens). r >>= of_tokens (source_meaning vs) vs (length text)) (text_complete bits text p.tokens p.spelled) ∙ ap (λ (c : Bool). of_few (source_meaning vs) vs (length text) (limited c p.tokens)) few in
    by_source start (source_complete (length text) n p.tokens p.body p.definitions p.derived p.few_definitions)
  where
    by_source : program_of bits vs text ≡ of_source (source_meaning vs) vs (source_at (length text) p.tokens) → Answers n 64 (source_at (length text) p.tokens) (Ok (p.body, p.definitions)) → (program_of bits vs text ≡ Ok e) ⊎ ((64 < n) × (program_of bits vs text ≡ Err TooLarge))
    by_source start (inl h) =
        inl (start ∙ ap (of_source (source_meaning vs) vs) h ∙ ap (of_names (source_meaning vs) (p.body, p.definitions)) (new_checked vs [] (defined_names p.definitions) p.new) ∙ p.meant)
    by_source start (inr h) = inr (h.0, start ∙ ap (of_source (source_meaning vs) vs) h.1)

read_as : {A : Type 0} (n : ℕ) (e : Tree) (r : Result (Program A) (Failure (ExprFault A))) (whole : Result Tree Refusal) → (whole ≡ Ok e) ⊎ ((64 < n) × (whole ≡ Err TooLarge)) → Gives program_tree r whole → IsRead n e r
read_as n e (Ok x) whole (inl h) g = same_ok (program_tree x) e (sym g ∙ h)
read_as n e (Ok x) whole (inr h) g = absurd cc
read_as n e (Err (Refused fault)) whole (inl h) g = absurd cc
read_as n e (Err (Refused fault)) whole (inr h) g = (same_err (refusal_of fault) TooLarge (sym g ∙ h.1), h.0)
read_as n e (Err Memory) whole w g = tt

-- if the text derives a tree, parsing returns that tree, `TooLarge` if it nests too deep, or a memory error
pub is_read : {A : Type 0} (bits : ℕ) (vs : List (List ℕ)) (text : List ℕ) (r : Result (Program A) (Failure (ExprFault A))) → Gives program_tree r (program_of bits vs text) → (n : ℕ) (e : Tree) → IsEnergy bits vs text n e → IsRead n e r
is_read bits vs text r h n e p = read_as n e r (program_of bits vs text) (complete bits vs text n e p) h

-- parsing returns a tree if and only if the text derives that tree within 64 levels
pub reads_texts : ReadsEnergyTexts
reads_texts bits vs text e = (λ h. subst (ProgramMeans bits vs text) h (program_means bits vs text), λ p. known (complete bits vs text 64 e p))
  where
    known : (program_of bits vs text ≡ Ok e) ⊎ ((64 < 64) × (program_of bits vs text ≡ Err TooLarge)) → program_of bits vs text ≡ Ok e
    known (inl h) = h
    known (inr h) = let more = h.0 in absurd (omega (arith, more))
