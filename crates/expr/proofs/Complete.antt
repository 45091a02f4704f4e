-- Completeness of reading: a text of the grammar is read, unless it nests deeper than allowed.
use Rattle.std.proofs.Common.{◌≡◌, ◌⊎◌, inl, inr, ℕ, zero, suc, ℤ, ◌<◌, true, List, [], ◌∷◌, ◌++◌, Option, Some, None, Result, Ok, Err, refl, sym, ap, subst, ◌∙◌, append_assoc, arith}
use Rattle.energy_program.specs.declared.callees.Callee.{Callee}
use Rattle.fixed.specs.declared.operations.Operator.TheVariants as op
use Rattle.expr.specs.Calls.{called}
use Rattle.line_text.specs.Steps.{◌>>=◌}
use Rattle.energy_program.specs.Faults.{Refusal, TooLarge}
use Rattle.energy_program.specs.Names.{function_of}
use Rattle.expr.specs.Tokens.{Lexeme, Lexed}
use Rattle.expr.specs.Tokens as t
use Rattle.expr.specs.Syntax.{Syntax, Arguments, Empty, One}
use Rattle.expr.specs.Syntax as tree
use Rattle.expr.specs.Parsing.{ReadingOf, Reading, Numeral, begins_operand, awaits_operand, sum_sign, product_sign, minus_sign, open_sign, close_sign, caret_sign, close, closed, chained, signed_sign, grouped_at, exponent_at, raised_at, arguments_by, called_by, unary_at, term_at, expr_at, closed_at, atom_at, power_at, list_at, arguments_at, call_at}
use Rattle.expr.specs.Grammar.{IsWhole, IsExponent, IsExpr, IsTerm, IsUnary, IsPower, IsAtom, IsArguments, IsList}
use Rattle.expr.specs.Grammar as g
use Rattle.expr.proofs.Chain.{Level, Left, starts, next, operand_fails, ends, sums, products, lists}
use Rattle.expr.proofs.Levels.{reading, unary_is, unary_none_left, atom_start, atom_group, atom_name, atom_call}

-- the reading is `v`, or it is `TooLarge` and n exceeds the limit d
abbrev pub Answers : {X : Type 0} → ℕ → ℕ → Result X Refusal → Result X Refusal → Type 0
Answers n d r v = (r ≡ v) ⊎ ((d < n) × (r ≡ Err TooLarge))

-- a value and the step after it
pub answers_then : {X Y : Type 0} (n d : ℕ) (r : Result X Refusal) (x : X) (f : X → Result Y Refusal) (v : Result Y Refusal) → Answers n d (f x) v → Answers n d r (Ok x) → Answers n d (r >>= f) v
answers_then {X} {Y} n d r x f v (inl k) (inl h) = inl (ap (λ (z : Result X Refusal). z >>= f) h ∙ k)
answers_then {X} {Y} n d r x f v (inr k) (inl h) = inr (k.0, ap (λ (z : Result X Refusal). z >>= f) h ∙ k.1)
answers_then {X} {Y} n d r x f v k (inr h) = inr (h.0, ap (λ (z : Result X Refusal). z >>= f) h.1)

-- an equal result answers the same
pub answers_same : {X : Type 0} (n d : ℕ) (r s u v : Result X Refusal) → s ≡ r → u ≡ v → Answers n d r u → Answers n d s v
answers_same n d r s u v e f (inl h) = inl (e ∙ h ∙ f)
answers_same n d r s u v e f (inr h) = inr (h.0, e ∙ h.1)

answers_deeper : {X : Type 0} (n d : ℕ) (r s u v : ReadingOf X) → s ≡ r → u ≡ v → Answers n d r u → Answers (suc n) (suc d) s v
answers_deeper n d r s u v e f (inl h) = inl (e ∙ h ∙ f)
answers_deeper n d r s u v e f (inr h) = inr (omega (arith, h.0), e ∙ h.1)

-- the chain goes on at these tokens, or it is `TooLarge` and n exceeds the limit d
abbrev Goes : {S X : Type 0} → ℕ → ℕ → Level S X → ReadingOf X → X → List Lexed → Type 0
Goes n d l whole left ts = Left l whole left ts ⊎ ((d < n) × (whole ≡ Err TooLarge))

module _ {S X : Type 0} (l : Level S X) (n d : ℕ) where
  goes_first : (ts : List Lexed) (x : Syntax) (rest : List Lexed) → Answers n d (l.operand ts) (Ok (x, rest)) → Goes n d l (chained l.sign l.operand l.first l.make ts) (l.first x) rest
  unfolding chained
  goes_first ts x rest (inl h) = inl (starts l ts x rest h)
  goes_first ts x rest (inr h) = inr (h.0, rw h.1 refl)

  goes_next : (whole : ReadingOf X) (token : Lexed) (o : S) (x : X) (y : Syntax) (after rest : List Lexed) → l.sign (token ∷ after) ≡ Some (o, after) → Answers n d (l.operand after) (Ok (y, rest))
      → Goes n d l whole x (token ∷ after) → Goes n d l whole (l.make o x y) rest
  goes_next whole token o x y after rest s (inl e) (inl h) = inl (next l whole x (token ∷ after) o after s y rest h e)
  goes_next whole token o x y after rest s (inr e) (inl h) = inr (e.0, operand_fails l whole x (token ∷ after) o after s TooLarge h e.1)
  goes_next whole token o x y after rest s e (inr h) = inr h

  -- two parts with an operator's token between them
  goes_more : (read : List Lexed → ReadingOf X) (token : Lexed) (o : S) (a b : List Lexed) (x : X) (y : Syntax) (rest : List Lexed) → l.sign (token ∷ (b ++ rest)) ≡ Some (o, b ++ rest) → Answers n d (l.operand (b ++ rest)) (Ok (y, rest))
      → Goes n d l (read (a ++ (token ∷ (b ++ rest)))) x (token ∷ (b ++ rest)) → Goes n d l (read ((a ++ (token ∷ b)) ++ rest)) (l.make o x y) rest
  goes_more read token o a b x y rest s e h =
      subst (λ (z : List Lexed). Goes n d l (read z) (l.make o x y) rest) (sym (append_assoc a (token ∷ b) rest)) (goes_next (read (a ++ (token ∷ (b ++ rest)))) token o x y (b ++ rest) rest s e h)

  goes_end : (whole : ReadingOf X) (x : X) (rest : List Lexed) → l.sign rest ≡ None → Goes n d l whole x rest → Answers n d whole (Ok (x, rest))
  goes_end whole x rest s (inl h) = inl (ends l whole x rest h s)
  goes_end whole x rest s (inr h) = inr h

-- appending `rest` to two parts joined by an operator's token appends it to the second part
moved : (a b rest : List Lexed) (token : Lexed) → (a ++ (token ∷ b)) ++ rest ≡ a ++ (token ∷ (b ++ rest))
moved a b rest token = append_assoc a (token ∷ b) rest

-- an operand, on no level
operand_misplaced : (end n : ℕ) (k : Lexeme) (at : ℕ) (rest : List Lexed) (v : Reading) → begins_operand k ≡ true → Answers (suc n) 0 (unary_at end 0 ((k, at) ∷ rest)) v
operand_misplaced end n k at rest v h = inr (omega arith, unary_none_left end 0 ((k, at) ∷ rest) refl ∙ rw h refl)

negative_step : (end n d : ℕ) (at : ℕ) (a : List Lexed) (x : Syntax) (rest : List Lexed) → ((k : ℕ) → Answers n k (unary_at end k (a ++ rest)) (Ok (x, rest))) → Answers (suc n) d (unary_at end d ((t.Minus, at) ∷ (a ++ rest))) (Ok (tree.Negated x, rest))
negative_step end n zero at a x rest ih = operand_misplaced end n t.Minus at (a ++ rest) _ refl
negative_step end n (suc d) at a x rest ih =
    answers_deeper n d (unary_at end d (a ++ rest) >>= λ z. Ok (tree.Negated z.0, z.1)) (unary_at end (suc d) ((t.Minus, at) ∷ (a ++ rest))) _ _ (unary_is end d ((t.Minus, at) ∷ (a ++ rest))) refl
    (answers_then n d (unary_at end d (a ++ rest)) (x, rest) (λ z. Ok (tree.Negated z.0, z.1)) (Ok (tree.Negated x, rest)) (inl refl) (ih d))

closed_step : {X : Type 0} (end n d : ℕ) (inner : List Lexed → ReadingOf X) (ts : List Lexed) (x : X) (to : ℕ) (rest : List Lexed) → Answers n d (inner ts) (Ok (x, (t.Close, to) ∷ rest)) → Answers n d (closed end inner ts) (Ok (x, rest))
unfolding closed
closed_step end n d inner ts x to rest ih = answers_then n d (inner ts) (x, (t.Close, to) ∷ rest) (λ y. close end y.1 >>= λ after. Ok (y.0, after)) (Ok (x, rest)) (inl refl) ih

-- the first token of an atom begins an operand, and is no minus
pub record Starts (ts : List Lexed) : Type 0 where
  pub first : Lexeme
  pub at : ℕ
  pub rest : List Lexed
  pub parts : ts ≡ (first, at) ∷ rest
  pub operand : begins_operand first ≡ true
  pub no_minus : minus_sign ts ≡ None

atom_starts : {n : ℕ} {a : List Lexed} {x : Syntax} → IsAtom n a x → (rest : List Lexed) → Starts (a ++ rest)
atom_starts (g.number {n} {c} {k} at) rest = record { first = t.Number c k; at = at; rest = rest; parts = refl; operand = refl; no_minus = refl }
atom_starts (g.name {n} {w} at) rest = record { first = t.Name w; at = at; rest = rest; parts = refl; operand = refl; no_minus = refl }
atom_starts (g.call {n} {w} {f} {a} {xs} {x} at from to e p q) rest = record { first = t.Name w; at = at; rest = ((t.Open, from) ∷ (a ++ ((t.Close, to) ∷ []))) ++ rest; parts = refl; operand = refl; no_minus = refl }
atom_starts (g.group {n} {a} {x} at to p) rest = record { first = t.Open; at = at; rest = (a ++ ((t.Close, to) ∷ [])) ++ rest; parts = refl; operand = refl; no_minus = refl }

power_starts : {n : ℕ} {a : List Lexed} {x : Syntax} → IsPower n a x → (rest : List Lexed) → Starts (a ++ rest)
power_starts (g.atom p) rest = atom_starts p rest
power_starts (g.raised {n} {a} {b} {x} {k} at p e) rest = subst Starts (sym (append_assoc a ((t.Caret, at) ∷ b) rest)) (atom_starts p ((t.Caret, at) ∷ (b ++ rest)))

power_step : (end n d : ℕ) (ts : List Lexed) (v : Syntax × List Lexed) → Starts ts → ((k : ℕ) → Answers n k (power_at end k ts) (Ok v)) → Answers (suc n) d (unary_at end d ts) (Ok v)
power_step end n zero ts v s ih = subst (λ (z : List Lexed). Answers (suc n) 0 (unary_at end 0 z) (Ok v)) (sym s.parts) (operand_misplaced end n s.first s.at s.rest (Ok v) s.operand)
power_step end n (suc d) ts v s ih = answers_deeper n d (power_at end d ts) (unary_at end (suc d) ts) _ _ (unary_is end d ts ∙ rw s.no_minus refl) refl (ih d)

-- ---- exponents

whole_reads : (a : List Lexed) (k : ℤ) → IsWhole a k → (rest : List Lexed) → signed_sign (a ++ rest) ≡ Some (k, rest)
whole_reads _ _ (g.positive {c} {n} at h) rest = rw h refl
whole_reads _ _ (g.negative {c} {n} from at h) rest = rw h refl

whole_closed : (a : List Lexed) (k : ℤ) → IsWhole a k → (rest : List Lexed) → open_sign (a ++ rest) ≡ None
whole_closed _ _ (g.positive at h) rest = refl
whole_closed _ _ (g.negative from at h) rest = refl

whole_awaits : (a : List Lexed) (k : ℤ) → IsWhole a k → (rest : List Lexed) → awaits_operand (a ++ rest) ≡ true
whole_awaits _ _ (g.positive at h) rest = refl
whole_awaits _ _ (g.negative from at h) rest = refl

grouped_reads : (end d n at : ℕ) (a : List Lexed) (k : ℤ) (to : ℕ) → IsWhole a k → (rest : List Lexed) → Answers (suc n) d (grouped_at end d at (a ++ ((t.Close, to) ∷ rest))) (Ok (k, rest))
unfolding grouped_at
grouped_reads end zero n at a k to w rest = inr (omega arith, rw (whole_awaits a k w ((t.Close, to) ∷ rest)) refl)
grouped_reads end (suc d) n at a k to w rest = inl (rw (whole_reads a k w ((t.Close, to) ∷ rest)) refl)

exponent_reads : (end d at : ℕ) {n : ℕ} {a : List Lexed} {k : ℤ} → IsExponent n a k → (rest : List Lexed) → Answers n d (exponent_at end d at (a ++ rest)) (Ok (k, rest))
unfolding exponent_at
exponent_reads end d at (g.bare {n} {a} {k} w) rest = inl (rw (whole_closed a k w rest, whole_reads a k w rest) refl)
exponent_reads end d at (g.group {n} {a} {k} from to w) rest =
    subst (λ (z : List Lexed). Answers (suc n) d (grouped_at end d at z) (Ok (k, rest))) (sym (append_assoc a ((t.Close, to) ∷ []) rest)) (grouped_reads end d n at a k to w rest)

raised_reads : (end n d : ℕ) (x : Syntax) (at : ℕ) (b : List Lexed) (k : ℤ) (rest : List Lexed) → IsExponent n b k → Answers n d (raised_at end d x ((t.Caret, at) ∷ (b ++ rest))) (Ok (tree.Power x k, rest))
unfolding raised_at
raised_reads end n d x at b k rest e = answers_then n d (exponent_at end d at (b ++ rest)) (k, rest) (λ z. Ok (tree.Power x z.0, z.1)) (Ok (tree.Power x k, rest)) (inl refl) (exponent_reads end d at e rest)

raised_none : (end d : ℕ) (x : Syntax) (ts : List Lexed) → caret_sign ts ≡ None → raised_at end d x ts ≡ Ok (x, ts)
unfolding raised_at
raised_none end d x ts c = rw c refl

power_by : (end n d : ℕ) (ts : List Lexed) (x : Syntax) (after : List Lexed) (v : Reading) → Answers n d (atom_at end d ts) (Ok (x, after)) → Answers n d (raised_at end d x after) v → Answers n d (power_at end d ts) v
unfolding power_at
power_by end n d ts x after v h e = answers_then n d (atom_at end d ts) (x, after) (λ y. raised_at end d y.0 y.1) v e h

sum_first : (end n d : ℕ) (ts : List Lexed) (x : Syntax) (rest : List Lexed) → Answers n d (term_at end d ts) (Ok (x, rest)) → Goes n d (sums end d) (expr_at end d ts) x rest
unfolding expr_at
sum_first end n d ts x rest h = goes_first (sums end d) n d ts x rest h

product_first : (end n d : ℕ) (ts : List Lexed) (x : Syntax) (rest : List Lexed) → Answers n d (unary_at end d ts) (Ok (x, rest)) → Goes n d (products end d) (term_at end d ts) x rest
unfolding term_at
product_first end n d ts x rest h = goes_first (products end d) n d ts x rest h

list_first : (end n d : ℕ) (ts : List Lexed) (x : Syntax) (rest : List Lexed) → Answers n d (expr_at end d ts) (Ok (x, rest)) → Goes n d (lists end d) (list_at end d ts) (One x) rest
unfolding list_at
list_first end n d ts x rest h = goes_first (lists end d) n d ts x rest h

-- ---- calls

arguments_none : (end d to : ℕ) (rest : List Lexed) → arguments_at end d ((t.Close, to) ∷ rest) ≡ Ok (Empty, rest)
unfolding arguments_at
arguments_none end d to rest = refl

arguments_some : (end n d : ℕ) (ts : List Lexed) (xs : Arguments) (to : ℕ) (rest : List Lexed) → close_sign ts ≡ None → Answers n d (list_at end d ts) (Ok (xs, (t.Close, to) ∷ rest)) → Answers n d (arguments_at end d ts) (Ok (xs, rest))
unfolding arguments_at list_at
arguments_some end n d ts xs to rest c h = subst (λ (o : Option (List Lexed)). Answers n d (arguments_by end (expr_at end d) ts o) (Ok (xs, rest))) (sym c) (closed_step end n d (list_at end d) ts xs to rest h)

call_reads : (end n d : ℕ) (w : List ℕ) (f : Callee) (ts : List Lexed) (xs : Arguments) (x : Syntax) (rest : List Lexed) → function_of w ≡ Some f → called w f xs ≡ Ok x → Answers n d (arguments_at end d ts) (Ok (xs, rest)) → Answers n d (call_at end d w ts) (Ok (x, rest))
unfolding call_at arguments_at
call_reads end n d w f ts xs x rest s c h =
    subst (λ (o : Option Callee). Answers n d (called_by end (expr_at end d) w ts o) (Ok (x, rest))) (sym s)
    (answers_then n d (arguments_at end d ts) (xs, rest) (λ y. called w f y.0 >>= λ z. Ok (z, y.1)) (Ok (x, rest)) (inl (ap (λ (r : Result Syntax Refusal). r >>= λ z. reading z rest) c)) h)

-- the first token of an expression closes no parenthesis
abbrev Opens : List Lexed → Type 0
Opens ts = close_sign ts ≡ None

opens_first : (ts : List Lexed) (k : Lexeme) (at : ℕ) (rest : List Lexed) → ts ≡ (k, at) ∷ rest → begins_operand k ≡ true → Opens ts
opens_first ts (t.Number c n) at rest p e = rw p refl
opens_first ts (t.Name w) at rest p e = rw p refl
opens_first ts t.Open at rest p e = rw p refl
opens_first ts t.Minus at rest p e = rw p refl
opens_first ts _ at rest p e = absurd cc

unary_opens : {n : ℕ} {a : List Lexed} {x : Syntax} → IsUnary n a x → (rest : List Lexed) → Opens (a ++ rest)
unary_opens (g.negative at p) rest = refl
unary_opens (g.power {n} {a} p) rest = let s = power_starts p rest in opens_first (a ++ rest) s.first s.at s.rest s.parts s.operand

term_opens : {n : ℕ} {a : List Lexed} {x : Syntax} → IsTerm n a x → (rest : List Lexed) → Opens (a ++ rest)
term_opens (g.unary p) rest = unary_opens p rest
term_opens (g.product {n} {a} {b} at p q) rest = subst Opens (sym (append_assoc a ((t.Star, at) ∷ b) rest)) (term_opens p ((t.Star, at) ∷ (b ++ rest)))
term_opens (g.quotient {n} {a} {b} at p q) rest = subst Opens (sym (append_assoc a ((t.Slash, at) ∷ b) rest)) (term_opens p ((t.Slash, at) ∷ (b ++ rest)))

expr_opens : {n : ℕ} {a : List Lexed} {x : Syntax} → IsExpr n a x → (rest : List Lexed) → Opens (a ++ rest)
expr_opens (g.term p) rest = term_opens p rest
expr_opens (g.sum {n} {a} {b} at p q) rest = subst Opens (sym (append_assoc a ((t.Plus, at) ∷ b) rest)) (expr_opens p ((t.Plus, at) ∷ (b ++ rest)))
expr_opens (g.difference {n} {a} {b} at p q) rest = subst Opens (sym (append_assoc a ((t.Minus, at) ∷ b) rest)) (expr_opens p ((t.Minus, at) ∷ (b ++ rest)))

list_opens : {n : ℕ} {a : List Lexed} {xs : Arguments} → IsList n a xs → (rest : List Lexed) → Opens (a ++ rest)
list_opens (g.first p) rest = expr_opens p rest
list_opens (g.next {n} {a} {b} at p q) rest = subst Opens (sym (append_assoc a ((t.Comma, at) ∷ b) rest)) (list_opens p ((t.Comma, at) ∷ (b ++ rest)))

closed_again : (end n d : ℕ) (ts : List Lexed) (x : Syntax) (to : ℕ) (rest : List Lexed) → Answers n d (expr_at end d ts) (Ok (x, (t.Close, to) ∷ rest)) → Answers n d (closed_at end d ts) (Ok (x, rest))
unfolding closed_at
closed_again end n d ts x to rest h = closed_step end n d (expr_at end d) ts x to rest h

-- the tokens begin with neither an opening parenthesis nor a caret
abbrev pub Follows : List Lexed → Type 0
Follows rest = (open_sign rest ≡ None) × (caret_sign rest ≡ None)

module _ (end : ℕ) where
  term_end : (n d : ℕ) (ts : List Lexed) (x : Syntax) (rest : List Lexed) → product_sign rest ≡ None → Goes n d (products end d) (term_at end d ts) x rest → Answers n d (term_at end d ts) (Ok (x, rest))
  term_end n d ts x rest s h = goes_end (products end d) n d (term_at end d ts) x rest s h

  expr_end : (n d : ℕ) (ts : List Lexed) (x : Syntax) (rest : List Lexed) → sum_sign rest ≡ None → Goes n d (sums end d) (expr_at end d ts) x rest → Answers n d (expr_at end d ts) (Ok (x, rest))
  expr_end n d ts x rest s h = goes_end (sums end d) n d (expr_at end d ts) x rest s h

  mutual
    expr_reads : {n : ℕ} {a : List Lexed} {x : Syntax} → IsExpr n a x → (d : ℕ) (rest : List Lexed) → Follows rest → product_sign rest ≡ None → Goes n d (sums end d) (expr_at end d (a ++ rest)) x rest
    expr_reads (g.term {n} {a} {x} p) d rest u s = sum_first end n d (a ++ rest) x rest (term_end n d (a ++ rest) x rest s (term_reads p d rest u))
    expr_reads (g.sum {n} {a} {b} {x} {y} at p q) d rest u s =
        goes_more (sums end d) n d (expr_at end d) (t.Plus, at) op.Add a b x y rest refl (term_end n d (b ++ rest) y rest s (term_reads q d rest u)) (expr_reads p d ((t.Plus, at) ∷ (b ++ rest)) (refl, refl) refl)
    expr_reads (g.difference {n} {a} {b} {x} {y} at p q) d rest u s =
        goes_more (sums end d) n d (expr_at end d) (t.Minus, at) op.Subtract a b x y rest refl (term_end n d (b ++ rest) y rest s (term_reads q d rest u)) (expr_reads p d ((t.Minus, at) ∷ (b ++ rest)) (refl, refl) refl)

    term_reads : {n : ℕ} {a : List Lexed} {x : Syntax} → IsTerm n a x → (d : ℕ) (rest : List Lexed) → Follows rest → Goes n d (products end d) (term_at end d (a ++ rest)) x rest
    term_reads (g.unary {n} {a} {x} p) d rest u = product_first end n d (a ++ rest) x rest (unary_reads p d rest u)
    term_reads (g.product {n} {a} {b} {x} {y} at p q) d rest u =
        goes_more (products end d) n d (term_at end d) (t.Star, at) op.Multiply a b x y rest refl (unary_reads q d rest u) (term_reads p d ((t.Star, at) ∷ (b ++ rest)) (refl, refl))
    term_reads (g.quotient {n} {a} {b} {x} {y} at p q) d rest u =
        goes_more (products end d) n d (term_at end d) (t.Slash, at) op.Divide a b x y rest refl (unary_reads q d rest u) (term_reads p d ((t.Slash, at) ∷ (b ++ rest)) (refl, refl))

    unary_reads : {n : ℕ} {a : List Lexed} {x : Syntax} → IsUnary n a x → (d : ℕ) (rest : List Lexed) → Follows rest → Answers n d (unary_at end d (a ++ rest)) (Ok (x, rest))
    unary_reads (g.negative {n} {a} {x} at p) d rest u = negative_step end n d at a x rest (λ k. unary_reads p k rest u)
    unary_reads (g.power {n} {a} {x} p) d rest u = power_step end n d (a ++ rest) (x, rest) (power_starts p rest) (λ k. power_reads p k rest u)

    power_reads : {n : ℕ} {a : List Lexed} {x : Syntax} → IsPower n a x → (d : ℕ) (rest : List Lexed) → Follows rest → Answers n d (power_at end d (a ++ rest)) (Ok (x, rest))
    power_reads (g.atom {n} {a} {x} p) d rest u = power_by end n d (a ++ rest) x rest (Ok (x, rest)) (atom_reads p d rest u.0) (inl (raised_none end d x rest u.1))
    power_reads (g.raised {n} {a} {b} {x} {k} at p e) d rest u =
        answers_same n d (power_at end d (a ++ ((t.Caret, at) ∷ (b ++ rest)))) (power_at end d ((a ++ ((t.Caret, at) ∷ b)) ++ rest)) _ _ (ap (power_at end d) (moved a b rest (t.Caret, at))) refl
        (power_by end n d (a ++ ((t.Caret, at) ∷ (b ++ rest))) x ((t.Caret, at) ∷ (b ++ rest)) (Ok (tree.Power x k, rest)) (atom_reads p d ((t.Caret, at) ∷ (b ++ rest)) refl) (raised_reads end n d x at b k rest e))

    atom_reads : {n : ℕ} {a : List Lexed} {x : Syntax} → IsAtom n a x → (d : ℕ) (rest : List Lexed) → open_sign rest ≡ None → Answers n d (atom_at end d (a ++ rest)) (Ok (x, rest))
    atom_reads (g.number {n} {c} {k} at) d rest u = inl (atom_start end d ((t.Number c k, at) ∷ rest) (Some (Numeral c, rest)) refl)
    atom_reads (g.name {n} {w} at) d rest u = inl (atom_name end d ((t.Name w, at) ∷ rest) w rest refl u)
    atom_reads (g.call {n} {w} {f} {a} {xs} {x} at from to s p c) d rest u =
        answers_same n d (call_at end d w (a ++ ((t.Close, to) ∷ rest))) (atom_at end d (((t.Name w, at) ∷ (t.Open, from) ∷ (a ++ ((t.Close, to) ∷ []))) ++ rest)) (Ok (x, rest)) (Ok (x, rest))
        (atom_call end d _ w ((t.Open, from) ∷ ((a ++ ((t.Close, to) ∷ [])) ++ rest)) ((a ++ ((t.Close, to) ∷ [])) ++ rest) refl refl ∙ ap (call_at end d w) (simp append_assoc)) refl
        (call_reads end n d w f (a ++ ((t.Close, to) ∷ rest)) xs x rest s c (arguments_read p d to rest))
    atom_reads (g.group {n} {a} {x} at to p) d rest u =
        answers_same n d (closed_at end d (a ++ ((t.Close, to) ∷ rest))) (atom_at end d (((t.Open, at) ∷ (a ++ ((t.Close, to) ∷ []))) ++ rest)) (Ok (x, rest)) (Ok (x, rest))
        (atom_group end d _ ((a ++ ((t.Close, to) ∷ [])) ++ rest) refl ∙ ap (closed_at end d) (simp append_assoc)) refl
        (closed_again end n d (a ++ ((t.Close, to) ∷ rest)) x to rest (expr_end n d (a ++ ((t.Close, to) ∷ rest)) x ((t.Close, to) ∷ rest) refl (expr_reads p d ((t.Close, to) ∷ rest) (refl, refl) refl)))

    arguments_read : {n : ℕ} {a : List Lexed} {xs : Arguments} → IsArguments n a xs → (d to : ℕ) (rest : List Lexed) → Answers n d (arguments_at end d (a ++ ((t.Close, to) ∷ rest))) (Ok (xs, rest))
    arguments_read (g.none {n}) d to rest = inl (arguments_none end d to rest)
    arguments_read (g.some {n} {a} {xs} p) d to rest =
        arguments_some end n d (a ++ ((t.Close, to) ∷ rest)) xs to rest (list_opens p ((t.Close, to) ∷ rest)) (goes_end (lists end d) n d (list_at end d (a ++ ((t.Close, to) ∷ rest))) xs ((t.Close, to) ∷ rest) refl (list_reads p d ((t.Close, to) ∷ rest) (refl, refl) refl refl))

    list_reads : {n : ℕ} {a : List Lexed} {xs : Arguments} → IsList n a xs → (d : ℕ) (rest : List Lexed) → Follows rest → product_sign rest ≡ None → sum_sign rest ≡ None
        → Goes n d (lists end d) (list_at end d (a ++ rest)) xs rest
    list_reads (g.first {n} {a} {x} p) d rest u s v = list_first end n d (a ++ rest) x rest (expr_end n d (a ++ rest) x rest v (expr_reads p d rest u s))
    list_reads (g.next {n} {a} {b} {xs} {y} at p q) d rest u s v =
        goes_more (lists end d) n d (list_at end d) (t.Comma, at) at a b xs y rest refl (expr_end n d (b ++ rest) y rest v (expr_reads q d rest u s)) (list_reads p d ((t.Comma, at) ∷ (b ++ rest)) (refl, refl) refl refl)

-- an expression that no operator follows
pub expr_complete : (end n : ℕ) (a : List Lexed) (x : Syntax) → IsExpr n a x → (d : ℕ) (rest : List Lexed) → Follows rest → product_sign rest ≡ None → sum_sign rest ≡ None → Answers n d (expr_at end d (a ++ rest)) (Ok (x, rest))
expr_complete end n a x p d rest o s u = expr_end end n d (a ++ rest) x rest u (expr_reads end p d rest o s)
