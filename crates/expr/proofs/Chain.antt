-- Chains of operands with signs between them, as the code's loops read them.
use Rattle.std.proofs.Common.{◌≡◌, ℕ, zero, suc, ◌<◌, ◌≤◌, List, ◌∷◌, ◌++◌, length, length-append, Some, None, Result, Ok, Err, Box, refl, sym, ap, subst, ◌∙◌, arith}
use Rattle.std.specs.Borrow.{Bor}
use Rattle.fallible.specs.declared.failure.Failure.{Failure}
use Rattle.fallible.specs.declared.failure.Failure.TheVariants.{Memory, Refused}
use Rattle.fallible.proofs.FailureLaws.{fails_as}
use Rattle.fixed.specs.declared.operations.Operator.{Operator}
use Rattle.energy_program.specs.declared.faults.ExprFault.{ExprFault}
use Rattle.energy_program.specs.Faults.{Refusal, Fails, Gives, refusal_of}
use Rattle.energy_program.proofs.FaultLaws.{fails_then}
use Rattle.line_text.proofs.StepLaws.{same_ok}
use Rattle.expr.specs.declared.syntax.Syntax as code
use Rattle.expr.specs.declared.tokens.Token.{Token}
use Rattle.expr.specs.Tokens.{Lexed, lexed}
use Rattle.expr.specs.Tokens as t
use Rattle.expr.specs.Syntax.{Syntax, Arguments, One, syntax_of}
use Rattle.expr.specs.Syntax as tree
use Rattle.expr.specs.Parsing.{Operates, ReadingOf, Reading, seen, SignOf, sum_sign, product_sign, comma_sign, chain, chained, itself, listed, unary_at, term_at, expr_at}
use Rattle.expr.specs.Grammar.{IsExpr, IsTerm, IsUnary, IsAtom, IsList}
use Rattle.expr.specs.Grammar as g
use Rattle.expr.proofs.Sound.{RuleOf, Stop, Spells, Means, SignMeans, AtExpr, AtTerm, AtUnary, AtList, sum_joins, product_joins, comma_joins, unary_means, term_means, expr_means}

-- a chain of operands: how its signs and its operands are read, and how its value is made
pub record Level (S X : Type 0) : Type 0 where
  pub sign : List Lexed → SignOf S
  pub operand : List Lexed → Reading
  pub first : Syntax → X
  pub make : S → X → Syntax → X
  pub one_token : (ts : List Lexed) (o : S) (rest : List Lexed) → sign ts ≡ Some (o, rest) → length ts ≡ suc (length rest)
  pub takes : (ts : List Lexed) (x : Syntax × List Lexed) → operand ts ≡ Ok x → length x.1 < length ts

-- a chain that is read up to these tokens; the fuel is at least their number
pub record Left {S X : Type 0} (l : Level S X) (whole : ReadingOf X) (left : X) (ts : List Lexed) : Type 0 where
  pub fuel : ℕ
  pub enough : length ts ≤ fuel
  pub read : whole ≡ chain l.sign l.operand l.make fuel left ts

module _ {S X : Type 0} (l : Level S X) where
  abbrev Whole : List Lexed → ReadingOf X
  Whole ts = chained l.sign l.operand l.first l.make ts

  -- if the first operand is read, the chain goes on after it
  pub starts : (ts : List Lexed) (x : Syntax) (rest : List Lexed) → l.operand ts ≡ Ok (x, rest) → Left l (Whole ts) (l.first x) rest
  unfolding chained
  starts ts x rest e = record { fuel = length rest; enough = omega arith; read = rw e refl }

  -- if reading the first operand fails, reading the chain fails with the same error
  pub start_fails : {C : Type 0} (ts : List Lexed) (e : Failure (ExprFault C)) → Fails e (l.operand ts) → Fails e (Whole ts)
  unfolding chained
  start_fails ts e h = fails_then e (l.operand ts) (λ x. chain l.sign l.operand l.make (length x.1) (l.first x.0) x.1) h

  -- a sign and an operand take two tokens at least
  pub less : (ts : List Lexed) (o : S) (rest : List Lexed) (y : Syntax) (after : List Lexed) → l.sign ts ≡ Some (o, rest) → l.operand rest ≡ Ok (y, after) → length after < length ts
  less ts o rest y after s e = let p = l.one_token ts o rest s in let q = l.takes rest (y, after) e in omega arith

  module _ (whole : ReadingOf X) (left : X) (ts : List Lexed) (o : S) (rest : List Lexed) (s : l.sign ts ≡ Some (o, rest)) where
    abbrev Reads : ℕ → Type 0
    Reads fuel = whole ≡ chain l.sign l.operand l.make fuel left ts

    next_by : (fuel : ℕ) (y : Syntax) (after : List Lexed) → length ts ≤ fuel → Reads fuel → l.operand rest ≡ Ok (y, after) → Left l whole (l.make o left y) after
    unfolding chain
    next_by zero y after enough read e = let p = l.one_token ts o rest s in absurd (omega arith)
    next_by (suc n) y after enough read e = let p = less ts o rest y after s e in record { fuel = n; enough = omega arith; read = read ∙ rw (s, e) refl }

    -- if a sign and an operand are read, the chain goes on after them
    pub next : (y : Syntax) (after : List Lexed) → Left l whole left ts → l.operand rest ≡ Ok (y, after) → Left l whole (l.make o left y) after
    next y after k e = next_by k.fuel y after k.enough k.read e

    fails_by : (fuel : ℕ) (f : Refusal) → length ts ≤ fuel → Reads fuel → l.operand rest ≡ Err f → whole ≡ Err f
    unfolding chain
    fails_by zero f enough read e = let p = l.one_token ts o rest s in absurd (omega arith)
    fails_by (suc n) f enough read e = read ∙ rw (s, e) refl

    -- if reading the next operand fails, reading the chain fails with the same error
    pub operand_fails : (f : Refusal) → Left l whole left ts → l.operand rest ≡ Err f → whole ≡ Err f
    operand_fails f k e = fails_by k.fuel f k.enough k.read e

    -- the same, for a failure of the code
    pub next_fails : {C : Type 0} (e : Failure (ExprFault C)) → Left l whole left ts → Fails e (l.operand rest) → Fails e whole
    next_fails e k h = fails_as refusal_of e (l.operand rest) whole (λ f. operand_fails f k) h

  end_by : (whole : ReadingOf X) (left : X) (ts : List Lexed) (fuel : ℕ) → whole ≡ chain l.sign l.operand l.make fuel left ts → l.sign ts ≡ None → whole ≡ Ok (left, ts)
  unfolding chain
  end_by whole left ts zero read s = read
  end_by whole left ts (suc n) read s = read ∙ rw s refl

  -- if no sign follows, the chain ends
  pub ends : (whole : ReadingOf X) (left : X) (ts : List Lexed) → Left l whole left ts → l.sign ts ≡ None → whole ≡ Ok (left, ts)
  ends whole left ts k s = end_by whole left ts k.fuel k.read s

-- ---- operands take a token at least

joined_some : (a b : List Lexed) (k : Lexed) → 0 < length (a ++ (k ∷ b))
joined_some a b k = omega (arith, length-append a (k ∷ b))

atom_some : {n : ℕ} {a : List Lexed} {x : Syntax} → IsAtom n a x → 0 < length a
atom_some (g.number at) = omega arith
atom_some _ = omega arith

-- a factor has a token
pub unary_some : {n : ℕ} {a : List Lexed} {x : Syntax} → IsUnary n a x → 0 < length a
unary_some (g.negative at p) = omega arith
unary_some (g.power (g.atom p)) = atom_some p
unary_some (g.power (g.raised {n} {a} {b} at p e)) = joined_some a b (t.Caret, at)

-- a product has a token
pub term_some : {n : ℕ} {a : List Lexed} {x : Syntax} → IsTerm n a x → 0 < length a
term_some (g.unary p) = unary_some p
term_some (g.product {n} {a} {b} at p q) = joined_some a b (t.Star, at)
term_some (g.quotient {n} {a} {b} at p q) = joined_some a b (t.Slash, at)

-- a sum has a token
pub expr_some : {n : ℕ} {a : List Lexed} {x : Syntax} → IsExpr n a x → 0 < length a
expr_some (g.term p) = term_some p
expr_some (g.sum {n} {a} {b} at p q) = joined_some a b (t.Plus, at)
expr_some (g.difference {n} {a} {b} at p q) = joined_some a b (t.Minus, at)

-- reading tokens that derive a value takes a token at least, if no value is derived without one
pub takes_by : {X : Type 0} (P : RuleOf X) (D : Stop) (operand : List Lexed → ReadingOf X) → ((a : List Lexed) (x : X) → P a x → 0 < length a) → ((ts : List Lexed) → Means P D ts (operand ts))
    → (ts : List Lexed) (x : X × List Lexed) → operand ts ≡ Ok x → length x.1 < length ts
takes_by P D operand some means ts x e =
    let s : Spells P ts x.0 x.1 = subst (Means P D ts) e (means ts) in
    let n = ap length s.parts in
    let m = length-append s.front x.1 in
    let k = some s.front x.0 s.holds in
    omega arith

-- sums of products
abbrev pub sums : ℕ → ℕ → Level Operator Syntax
sums end n = record {
  sign = sum_sign;
  operand = term_at end n;
  first = itself;
  make = tree.Binary;
  one_token = λ ts o rest e. let j = subst (SignMeans (IsExpr n) (IsTerm n) (AtExpr n) (AtTerm n) tree.Binary ts) e (sum_joins n ts) in ap length j.parts;
  takes = takes_by (IsTerm n) (AtTerm n) (term_at end n) (λ a x p. term_some p) (term_means end n);
}

-- products of factors
abbrev pub products : ℕ → ℕ → Level Operator Syntax
products end n = record {
  sign = product_sign;
  operand = unary_at end n;
  first = itself;
  make = tree.Binary;
  one_token = λ ts o rest e. let j = subst (SignMeans (IsTerm n) (IsUnary n) (AtTerm n) (AtUnary n) tree.Binary ts) e (product_joins n ts) in ap length j.parts;
  takes = takes_by (IsUnary n) (AtUnary n) (unary_at end n) (λ a x p. unary_some p) (unary_means end n);
}

-- arguments
abbrev pub lists : ℕ → ℕ → Level ℕ Arguments
lists end n = record {
  sign = comma_sign;
  operand = expr_at end n;
  first = One;
  make = listed;
  one_token = λ ts o rest e. let j = subst (SignMeans (IsList n) (IsExpr n) (AtList n) (AtExpr n) listed ts) e (comma_joins n ts) in ap length j.parts;
  takes = takes_by (IsExpr n) (AtExpr n) (expr_at end n) (λ a x p. expr_some p) (expr_means end n);
}

-- ---- the operation of a sign

-- if the operation fails, so does its operand
pub operation_fails : {C : Type 0} (o : Operator) (x : Syntax) (read : Result (Box (code.Syntax C) C × Bor (List Token)) (Failure (ExprFault C))) (e : Failure (ExprFault C)) (r : Reading)
    → Operates o x read (Err e) → Gives seen read r → Fails e r
operation_fails o x (Ok y) Memory r h g = tt
operation_fails o x (Ok y) (Refused f) r h g = absurd cc
operation_fails o x (Err f) e r h g = let same : e ≡ f = cc in rw same g

-- if there is a value, it is the operation on the operand, which was read
pub operation_reads : {C : Type 0} (o : Operator) (x : Syntax) (read : Result (Box (code.Syntax C) C × Bor (List Token)) (Failure (ExprFault C))) (made : Box (code.Syntax C) C × Bor (List Token)) (r : Reading)
    → Operates o x read (Ok made) → Gives seen read r
    → (y : Syntax) × (r ≡ Ok (y, lexed made.1.now)) × (syntax_of made.0.value ≡ tree.Binary o x y)
operation_reads o x (Ok y) made r h g =
    let same = same_ok (tree.Binary o x (syntax_of y.0.value), lexed y.1.now) (seen made) h in
    (syntax_of y.0.value, g ∙ ap (λ rest. Ok (syntax_of y.0.value, rest)) (ap (λ p. p.1) same), sym (ap (λ p. p.0) same))
operation_reads o x (Err f) made r h g = absurd cc
