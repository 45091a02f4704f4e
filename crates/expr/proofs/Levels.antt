-- The levels of the grammar, as the code takes them apart.
use Rattle.std.proofs.Common.{◌≡◌, ℕ, zero, suc, ◌-◌, ◌<◌, List, Option, Some, None, Result, Ok, Err, refl, ap, ◌∙◌, arith}
use Rattle.fallible.specs.declared.failure.Failure.{Failure}
use Rattle.energy_program.specs.declared.faults.ExprFault.{ExprFault}
use Rattle.line_text.specs.Steps.{◌>>=◌}
use Rattle.energy_program.specs.Faults.{Refusal, Fails, Gives, refusal_of}
use Rattle.std.specs.Borrow.{Bor}
use Rattle.fallible.specs.declared.failure.Failure.TheVariants.{Refused, Memory}
use Rattle.expr.specs.declared.tokens.Token.{Token}
use Rattle.expr.specs.Tokens.{Lexed, lexed}
use Rattle.expr.specs.Syntax.{Syntax}
use Rattle.expr.specs.Syntax as tree
use Rattle.expr.specs.Parsing.{ReadingOf, Closes, beside, close, closed, power_at, call_at, Reading, Beginning, Word, Group, start, misplaced, minus_sign, open_sign, atom_by, unary_by, name_by, unary_at, term_at, expr_at, closed_at, atom_at}
use Rattle.energy_program.proofs.FaultLaws.{fails_same, fails_then}
use Rattle.line_text.proofs.StepLaws.{same_ok, err_as}

-- if a call's result gives a value, the result also gives each equal value
pub gives_same : {C X Y : Type 0} (view : X → Y) (r : Result X (Failure (ExprFault C))) (s u : Result Y Refusal) → u ≡ s → Gives view r s → Gives view r u
gives_same view r s u same h = rw same h

-- the reading that returns this tree and the tokens after it
abbrev pub reading : Syntax → List Lexed → Reading
reading e rest = Ok (e, rest)

-- reading an atom depends on the beginning that `start` reads from the first token
pub atom_start : (end n : ℕ) (ts : List Lexed) (x : Option (Beginning × List Lexed)) → start ts ≡ x → atom_at end n ts ≡ atom_by end (expr_at end n) ts x
unfolding atom_at
atom_start end n ts x e = ap (atom_by end (expr_at end n) ts) e

-- with no level left, reading a factor returns the error `misplaced`
pub unary_none_left : (end n : ℕ) (ts : List Lexed) → n ≡ 0 → unary_at end n ts ≡ Err (misplaced end ts)
unfolding unary_at
unary_none_left end zero ts e = refl
unary_none_left end (suc n) ts e = absurd (omega arith)

-- reading a factor with its signs depends on whether the first token is a minus
pub unary_is : (end n : ℕ) (ts : List Lexed) → unary_at end (suc n) ts ≡ unary_by (unary_at end n) (power_at end n ts) (minus_sign ts)
unfolding unary_at power_at atom_at expr_at term_at
unary_is end n ts = refl

less_one : (n k : ℕ) → n ≡ suc k → n - 1 ≡ k
less_one n k e = omega arith

-- a factor without a minus is a power, one level down
pub unary_none : (end n : ℕ) (ts : List Lexed) → 0 < n → minus_sign ts ≡ None → unary_at end n ts ≡ power_at end (n - 1) ts
unary_none end zero ts d e = absurd (omega arith)
unary_none end (suc n) ts d e = rw (less_one (suc n) n refl) (unary_is end n ts ∙ ap (unary_by (unary_at end n) (power_at end n ts)) e)

-- after a minus, the factor is read with one level less
pub unary_minus : (end n : ℕ) (ts rest : List Lexed) → 0 < n → minus_sign ts ≡ Some rest → unary_at end n ts ≡ (unary_at end (n - 1) rest >>= λ x. Ok (tree.Negated x.0, x.1))
unary_minus end zero ts rest d e = absurd (omega arith)
unary_minus end (suc n) ts rest d e = rw (less_one (suc n) n refl) (unary_is end n ts ∙ ap (unary_by (unary_at end n) (power_at end n ts)) e)

-- if reading the factor after a minus fails, reading the whole factor fails with the same error
pub minus_fails : {C : Type 0} (end n : ℕ) (ts rest : List Lexed) (e : Failure (ExprFault C)) → 0 < n → minus_sign ts ≡ Some rest → Fails e (unary_at end (n - 1) rest) → Fails e (unary_at end n ts)
minus_fails end n ts rest e d f h = fails_same e _ (unary_at end n ts) (unary_minus end n ts rest d f) (fails_then e (unary_at end (n - 1) rest) (λ x. Ok (tree.Negated x.0, x.1)) h)

-- if the factor after a minus is read, the whole factor is its negation
pub minus_reads : (end n : ℕ) (ts rest : List Lexed) (x : Syntax) (after : List Lexed) → 0 < n → minus_sign ts ≡ Some rest → unary_at end (n - 1) rest ≡ Ok (x, after) → unary_at end n ts ≡ Ok (tree.Negated x, after)
minus_reads end n ts rest x after d f h = unary_minus end n ts rest d f ∙ rw h refl

-- ---- atoms

-- an atom's beginning, once it is known which one it is
pub started : {A : Type 0} (ts : List Lexed) (begins : A → Beginning) (a b : A) (rest : List Lexed) → start ts ≡ Some (begins a, rest) → a ≡ b → start ts ≡ Some (begins b, rest)
started ts begins a b rest e same = e ∙ ap (λ x. Some (begins x, rest)) same

-- a parenthesis that opens begins a group
pub atom_group : (end n : ℕ) (ts rest : List Lexed) → start ts ≡ Some (Group, rest) → atom_at end n ts ≡ closed_at end n rest
unfolding closed_at
atom_group end n ts rest f = atom_start end n ts _ f

-- a word is read as a name if no opening parenthesis follows
pub atom_name : (end n : ℕ) (ts : List Lexed) (w : List ℕ) (rest : List Lexed) → start ts ≡ Some (Word w, rest) → open_sign rest ≡ None → atom_at end n ts ≡ Ok (tree.Name w, rest)
atom_name end n ts w rest f o = atom_start end n ts _ f ∙ ap (name_by end (expr_at end n) w rest) o

-- a word is read as a call if an opening parenthesis follows
pub atom_call : (end n : ℕ) (ts : List Lexed) (w : List ℕ) (rest inside : List Lexed) → start ts ≡ Some (Word w, rest) → open_sign rest ≡ Some inside → atom_at end n ts ≡ call_at end n w inside
unfolding call_at
atom_call end n ts w rest inside f o = atom_start end n ts _ f ∙ ap (name_by end (expr_at end n) w rest) o

-- ---- parentheses

-- the view of a value that was read, with the tokens after it
abbrev pub shown : {T X : Type 0} → (T → X) → T × Bor (List Token) → X × List Lexed
shown view y = (view y.0, lexed y.1.now)

abbrev with_view : {T X : Type 0} → (T → X) → T × List Lexed → ReadingOf X
with_view view y = Ok (view y.0, y.1)

closed_by : {A T X : Type 0} (view : T → X) (x : T) (after : Result (List Lexed) Refusal) (result : Result (T × Bor (List Token)) (Failure (ExprFault A))) → Gives (shown (λ (y : T). y)) result (beside x after)
    → Gives (shown view) result (after >>= λ rest. with_view view (x, rest))
closed_by view x (Ok rest) (Ok y) h = let same = same_ok (x, rest) (shown (λ z. z) y) h in ap (with_view view) same
closed_by view x (Err f) (Ok y) h = absurd cc
closed_by view x (Ok rest) (Err (Refused f)) h = absurd cc
closed_by view x (Err f) (Err (Refused k)) h = err_as f (refusal_of k) h
closed_by view x after (Err Memory) h = tt

-- if a call returns the part inside parentheses, the call that also reads the closing one returns `closed` of the part
pub closing_gives : {A T X : Type 0} (view : T → X) (end : ℕ) (inner : List Lexed → ReadingOf X) (ts : List Lexed) (read result : Result (T × Bor (List Token)) (Failure (ExprFault A))) → Closes end read result
    → Gives (shown view) read (inner ts) → Gives (shown view) result (closed end inner ts)
unfolding closed
closing_gives view end inner ts (Ok x) result h k = rw k (closed_by view x.0 (close end (lexed x.1.now)) result h)
closing_gives view end inner ts (Err e) result h k = rw h (fails_then e (inner ts) (λ x. close end x.1 >>= λ after. Ok (x.0, after)) k)
