-- A body with definitions is read exactly if the grammar derives it; errors are derived from the tokens.
use Rattle.std.proofs.Common.{◌≡◌, inl, inr, ℕ, zero, suc, ◌≤◌, Bool, true, false, List, [], ◌∷◌, ◌++◌, length, Some, None, Result, Ok, Err, refl, sym, ap, subst, arith}
use Rattle.line_text.specs.Steps.{◌>>=◌}
use Rattle.energy_program.specs.Faults.{Refusal}
use Rattle.expr.specs.Parsing.{Reading, open_sign, caret_sign, sum_sign, product_sign, expr_at}
use Rattle.expr.specs.Sources.{after_semicolons, Heading, named_at, heading_at, Definitions, before, defined, definitions_at, source_at}
use Rattle.expr.specs.Syntax.{Syntax, Definition, Source}
use Rattle.expr.specs.Tokens.{Lexed}
use Rattle.expr.specs.Tokens as t
use Rattle.expr.specs.Grammar.{IsExpr, IsTail, IsProgram}
use Rattle.expr.specs.Grammar as g
use Rattle.expr.specs.Halting.{HaltsExpr, HaltsTail, HaltsProgram}
use Rattle.expr.specs.Halting as h
use Rattle.expr.proofs.Sound.{Stop, Spells, Cause, Means, cause_as, AtExpr, expr_means}
use Rattle.expr.proofs.Complete.{Answers, answers_same, answers_then, expr_complete}

abbrev definitions_ok : List Definition → Definitions
definitions_ok z = Ok z

abbrev source_ok : Source → Result Source Refusal
source_ok z = Ok z

-- ---- headings

-- the tokens begin with a definition's heading, after which the rest of the definition follows
record Headed (ts : List Lexed) (w : List ℕ) (after : List Lexed) : Type 0 where
  spells : (a b : List Lexed) (x : Syntax) (ds : List Definition) → after ≡ a ++ b → IsExpr 65 a x → IsTail 65 b ds → IsTail 65 ts ((w, x) ∷ ds)
  here : (f : Refusal) (n : ℕ) → HaltsExpr f 65 after → HaltsTail f 65 (suc n) ts
  later : (f : Refusal) (n : ℕ) (a b : List Lexed) (x : Syntax) → after ≡ a ++ b → IsExpr 65 a x → HaltsTail f 65 n b → HaltsTail f 65 (suc n) ts

abbrev AtTail : ℕ → Stop
AtTail n f ts = HaltsTail f 65 n ts

-- reading a heading stops only at a definition too many
abbrev AtHeading : Bool → Stop
AtHeading true f ts = HaltsTail f 65 zero ts
AtHeading false f ts = ⊥

abbrev HeadingMeans : Bool → List Lexed → Result Heading Refusal → Type 0
HeadingMeans full ts (Ok None) = IsTail 65 ts []
HeadingMeans full ts (Ok (Some x)) = (full ≡ false) × Headed ts x.0 x.1
HeadingMeans full ts (Err f) = Cause (AtHeading full) f ts

-- one more semicolon
one_more : (full : Bool) (at : ℕ) (ts : List Lexed) (r : Result Heading Refusal) → HeadingMeans full ts r → HeadingMeans full ((t.Semicolon, at) ∷ ts) r
one_more full at ts (Ok None) m = g.empty at m
one_more full at ts (Ok (Some x)) m = (
  m.0,
  record {
    spells = λ a b y ds e p q. g.empty at (m.1.spells a b y ds e p q);
    here = λ f n p. h.empty at (m.1.here f n p);
    later = λ f n a b y e p q. h.empty at (m.1.later f n a b y e p q);
  },
)
one_more true at ts (Err f) m = cause_as (AtHeading true) (AtHeading true) f ts ((t.Semicolon, at) ∷ ts) (λ p. h.empty at p) m
one_more false at ts (Err f) m = cause_as (AtHeading false) (AtHeading false) f ts ((t.Semicolon, at) ∷ ts) (λ p. p) m

named_means : (end : ℕ) (full : Bool) (at : ℕ) (rest : List Lexed) → HeadingMeans full ((t.Semicolon, at) ∷ rest) (named_at end full (after_semicolons rest))
unfolding named_at after_semicolons
named_means end full at [] = g.empty at g.end
named_means end full at ((t.Semicolon, b) ∷ rest) = one_more full at ((t.Semicolon, b) ∷ rest) (named_at end full (after_semicolons rest)) (named_means end full b rest)
named_means end true at ((t.Name w, from) ∷ rest) = h.too_many at from
named_means end false at ((t.Name w, from) ∷ (t.Equals, to) ∷ after) = (
  refl,
  record {
    spells = λ a b x ds e p q. subst (λ (z : List Lexed). IsTail 65 ((t.Semicolon, at) ∷ (t.Name w, from) ∷ (t.Equals, to) ∷ z) ((w, x) ∷ ds)) (sym e) (g.definition at from to p q);
    here = λ f n p. h.here at from to p;
    later = λ f n a b x e p q. subst (λ (z : List Lexed). HaltsTail f 65 (suc n) ((t.Semicolon, at) ∷ (t.Name w, from) ∷ (t.Equals, to) ∷ z)) (sym e) (h.later at from to p q);
  },
)
named_means end false at ((t.Name w, from) ∷ _) = tt
named_means end full at (_ ∷ rest) = tt

heading_means : (end : ℕ) (full : Bool) (ts : List Lexed) → HeadingMeans full ts (heading_at end full ts)
unfolding heading_at
heading_means end full [] = g.end
heading_means end full ((t.Semicolon, at) ∷ rest) = named_means end full at rest
heading_means end full (_ ∷ rest) = tt

-- if there is no room for another definition, no heading is read
pub full_none : (end : ℕ) (ts : List Lexed) (x : List ℕ × List Lexed) → heading_at end true ts ≡ Ok (Some x) → ⊥
full_none end ts x e = let m = subst (HeadingMeans true ts) e (heading_means end true ts) in let same = m.0 in absurd cc

-- ---- soundness

abbrev TailMeans : ℕ → List Lexed → Definitions → Type 0
TailMeans n ts (Ok ds) = IsTail 65 ts ds × (length ds ≤ n)
TailMeans n ts (Err f) = Cause (AtTail n) f ts

others_mean : (n : ℕ) (ts after : List Lexed) (w : List ℕ) (x : Syntax) (rest : List Lexed) → Headed ts w after → Spells (IsExpr 65) after x rest → (r : Definitions) → TailMeans n rest r → TailMeans (suc n) ts (before ((w, x) ∷ []) r)
others_mean n ts after w x rest k s (Ok ds) m = let few = m.1 in (k.spells s.front rest x ds s.parts s.holds m.0, omega (arith, few))
others_mean n ts after w x rest k s (Err f) m = cause_as (AtTail n) (AtTail (suc n)) f rest ts (λ p. k.later f n s.front rest x s.parts s.holds p) m

module _ (end n : ℕ) (others : (ts : List Lexed) → TailMeans n ts (definitions_at end n ts)) where
  value_means : (ts : List Lexed) (w : List ℕ) (after : List Lexed) → Headed ts w after → (r : Reading) → Means (IsExpr 65) (AtExpr 65) after r → TailMeans (suc n) ts (r >>= λ x. before ((w, x.0) ∷ []) (definitions_at end n x.1))
  value_means ts w after k (Ok x) s = others_mean n ts after w x.0 x.1 k s (definitions_at end n x.1) (others x.1)
  value_means ts w after k (Err f) m = cause_as (AtExpr 65) (AtTail (suc n)) f after ts (λ p. k.here f n p) m

  next_means : (ts : List Lexed) (r : Result Heading Refusal) → HeadingMeans false ts r → TailMeans (suc n) ts (r >>= λ h. defined (expr_at end 65) (definitions_at end n) h)
  next_means ts (Ok None) m = (m, omega arith)
  next_means ts (Ok (Some x)) m = value_means ts x.0 x.1 m.1 (expr_at end 65 x.1) (expr_means end 65 x.1)
  next_means ts (Err f) m = cause_as (AtHeading false) (AtTail (suc n)) f ts ts (λ p. absurd p) m

last_means : (ts : List Lexed) (r : Result Heading Refusal) → HeadingMeans true ts r → TailMeans zero ts (r >>= λ h. definitions_ok [])
last_means ts (Ok None) m = (m, omega arith)
last_means ts (Ok (Some x)) m = let same = m.0 in absurd cc
last_means ts (Err f) m = cause_as (AtHeading true) (AtTail zero) f ts ts (λ p. p) m

definitions_mean : (end n : ℕ) (ts : List Lexed) → TailMeans n ts (definitions_at end n ts)
unfolding definitions_at
definitions_mean end zero ts = last_means ts (heading_at end true ts) (heading_means end true ts)
definitions_mean end (suc n) ts = next_means end n (definitions_mean end n) ts (heading_at end false ts) (heading_means end false ts)

-- where reading a body with definitions stops
abbrev pub AtSource : Stop
AtSource f ts = HaltsProgram f 65 64 ts

-- the grammar derives a source that is read, which has at most 64 definitions, and an error has its cause
abbrev pub SourceMeans : List Lexed → Result Source Refusal → Type 0
SourceMeans ts (Ok s) = IsProgram 65 ts s.0 s.1 × (length s.1 ≤ 64)
SourceMeans ts (Err f) = Cause AtSource f ts

behind_body : (ts : List Lexed) (x : Syntax) (rest : List Lexed) → Spells (IsExpr 65) ts x rest → (r : Definitions) → TailMeans 64 rest r → SourceMeans ts (r >>= λ ds. source_ok (x, ds))
behind_body ts x rest s (Ok ds) m = (subst (λ (z : List Lexed). IsProgram 65 z x ds) (sym s.parts) (g.program s.holds m.0), m.1)
behind_body ts x rest s (Err f) m = cause_as (AtTail 64) AtSource f rest ts (λ p. subst (HaltsProgram f 65 64) (sym s.parts) (h.behind s.holds p)) m

body_means : (end : ℕ) (ts : List Lexed) (r : Reading) → Means (IsExpr 65) (AtExpr 65) ts r → SourceMeans ts (r >>= λ x. definitions_at end 64 x.1 >>= λ ds. source_ok (x.0, ds))
body_means end ts (Ok x) s = behind_body ts x.0 x.1 s (definitions_at end 64 x.1) (definitions_mean end 64 x.1)
body_means end ts (Err f) m = cause_as (AtExpr 65) AtSource f ts ts (λ p. h.body p) m

-- a body with definitions follows the grammar
pub source_means : (end : ℕ) (ts : List Lexed) → SourceMeans ts (source_at end ts)
unfolding source_at
source_means end ts = body_means end ts (expr_at end 65 ts) (expr_means end 65 ts)

-- a source that is read has at most 64 definitions
pub source_few : (end : ℕ) (ts : List Lexed) (s : Source) → source_at end ts ≡ Ok s → length s.1 ≤ 64
source_few end ts s e = let m = subst (SourceMeans ts) e (source_means end ts) in m.1

-- ---- completeness

-- the tokens begin with neither an opening parenthesis, a caret nor a binary operator
record Stops (ts : List Lexed) : Type 0 where
  opens : open_sign ts ≡ None
  caret : caret_sign ts ≡ None
  product : product_sign ts ≡ None
  sum : sum_sign ts ≡ None

tail_stops : {n : ℕ} {ts : List Lexed} {ds : List Definition} → IsTail n ts ds → Stops ts
tail_stops g.end = record { opens = refl; caret = refl; product = refl; sum = refl }
tail_stops (g.empty at p) = record { opens = refl; caret = refl; product = refl; sum = refl }
tail_stops (g.definition at from to p q) = record { opens = refl; caret = refl; product = refl; sum = refl }

empty_same : {n : ℕ} {ts : List Lexed} {ds : List Definition} (end : ℕ) (full : Bool) (at : ℕ) → IsTail n ts ds → heading_at end full ((t.Semicolon, at) ∷ ts) ≡ heading_at end full ts
unfolding heading_at named_at after_semicolons
empty_same end full at g.end = refl
empty_same end full at (g.empty b p) = refl
empty_same end full at (g.definition b from to p q) = refl

expr_is : (end n : ℕ) (a : List Lexed) (x : Syntax) (rest : List Lexed) → IsExpr (suc n) a x → Stops rest → Answers n 64 (expr_at end 65 (a ++ rest)) (Ok (x, rest))
expr_is end n a x rest p s = go (expr_complete end (suc n) a x p 65 rest (s.opens, s.caret) s.product s.sum)
  where
    go : Answers (suc n) 65 (expr_at end 65 (a ++ rest)) (Ok (x, rest)) → Answers n 64 (expr_at end 65 (a ++ rest)) (Ok (x, rest))
    go (inl k) = inl k
    go (inr k) = inr (omega (arith, k.0), k.1)

empty_definitions : {n : ℕ} {ts : List Lexed} {ds : List Definition} (end many at : ℕ) → IsTail n ts ds → definitions_at end many ((t.Semicolon, at) ∷ ts) ≡ definitions_at end many ts
unfolding definitions_at
empty_definitions end zero at p = ap (λ (z : Result Heading Refusal). z >>= λ o. definitions_ok []) (empty_same end true at p)
empty_definitions end (suc many) at p = ap (λ (z : Result Heading Refusal). z >>= λ o. defined (expr_at end 65) (definitions_at end many) o) (empty_same end false at p)

definitions_end : (end many : ℕ) → definitions_at end many [] ≡ Ok []
unfolding definitions_at heading_at
definitions_end end zero = refl
definitions_end end (suc many) = refl

definitions_next : (end many at from to : ℕ) (w : List ℕ) (ts : List Lexed)
    → definitions_at end (suc many) ((t.Semicolon, at) ∷ (t.Name w, from) ∷ (t.Equals, to) ∷ ts) ≡ (expr_at end 65 ts >>= λ x. before ((w, x.0) ∷ []) (definitions_at end many x.1))
unfolding definitions_at heading_at named_at after_semicolons
definitions_next end many at from to w ts = refl

definitions_are : {n : ℕ} {ts : List Lexed} {ds : List Definition} (end : ℕ) → IsTail (suc n) ts ds → (many : ℕ) → length ds ≤ many → Answers n 64 (definitions_at end many ts) (Ok ds)
definitions_are end g.end many few = inl (definitions_end end many)
definitions_are {n} end (g.empty {n = m} {b} {ds} at p) many few = answers_same n 64 (definitions_at end many b) _ (Ok ds) (Ok ds) (empty_definitions end many at p) refl (definitions_are end p many few)
definitions_are end (g.definition at from to p q) zero few = absurd (omega (arith, few))
definitions_are {n} end (g.definition {n = m} {w} {a} {b} {x} {ds} at from to p q) (suc many) few =
    let rest = definitions_are end q many (omega (arith, few)) in
    answers_same n 64 (expr_at end 65 (a ++ b) >>= λ y. before ((w, y.0) ∷ []) (definitions_at end many y.1)) _ (Ok ((w, x) ∷ ds)) (Ok ((w, x) ∷ ds)) (definitions_next end many at from to w (a ++ b)) refl
    (answers_then n 64 (expr_at end 65 (a ++ b)) (x, b) (λ y. before ((w, y.0) ∷ []) (definitions_at end many y.1)) (Ok ((w, x) ∷ ds))
    (answers_then n 64 (definitions_at end many b) ds (λ z. Ok (((w, x) ∷ []) ++ z)) (Ok ((w, x) ∷ ds)) (inl refl) rest) (expr_is end n a x b p (tail_stops q)))

-- if the grammar derives a program, the program is read unless it nests too deep
pub source_complete : (end n : ℕ) (ts : List Lexed) (body : Syntax) (ds : List Definition) → IsProgram (suc n) ts body ds → length ds ≤ 64 → Answers n 64 (source_at end ts) (Ok (body, ds))
unfolding source_at
source_complete end n ts body ds (g.program {n = m} {a} {b} p q) few =
    answers_then n 64 (expr_at end 65 (a ++ b)) (body, b) (λ x. definitions_at end 64 x.1 >>= λ z. Ok (x.0, z)) (Ok (body, ds))
    (answers_then n 64 (definitions_at end 64 b) ds (λ z. Ok (body, z)) (Ok (body, ds)) (inl refl) (definitions_are end q 64 few)) (expr_is end n a body b p (tail_stops q))
