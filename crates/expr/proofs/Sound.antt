-- Reading follows the grammar: tokens at the front derive a value that is read, and an error has its cause among the
-- tokens.
use Rattle.std.proofs.Common.{◌≡◌, ℕ, zero, suc, ℤ, Bool, true, false, List, [], ◌∷◌, ◌++◌, length, Option, Some, None, Ok, Err, refl, sym, ap, subst, ◌∙◌, append_assoc, if◌then◌else◌}
use Rattle.fixed.specs.declared.constants.Constant.{Constant}
use Rattle.energy_program.specs.declared.callees.Callee.{Callee}
use Rattle.energy_program.specs.declared.callees.Callee.TheVariants as takes
use Rattle.expr.specs.Calls.{called}
use Rattle.line_text.specs.Steps.{◌>>=◌}
use Rattle.energy_program.specs.Faults.{Refusal, UnexpectedToken, WrongArgumentCount, BadExponent, UnknownName, TooLarge, LeftOutFunction}
use Rattle.energy_program.specs.Names.{function_of, is_left_out}
use Rattle.expr.specs.Tokens.{Lexeme, Lexed}
use Rattle.expr.specs.Tokens as t
use Rattle.energy_program.specs.Tree.{is_whole}
use Rattle.expr.specs.Syntax.{Syntax, Arguments, One, Two, Three}
use Rattle.expr.specs.Syntax as tree
use Rattle.expr.specs.Parsing.{ReadingOf, Reading, SignOf, start, on_sign, begins_operand, sum_sign, product_sign, open_sign, close_sign, comma_sign, close, closed, itself, operands, listed, listing, arguments_by, called_by, name_by, chain, chained, atom_by, with_tokens, positive_whole, negative_whole, signed_sign, or_bad, grouped_by, grouped_at, exponent_at, raised_at, powered, unary_at, term_at, expr_at}
use Rattle.expr.specs.Grammar.{IsWhole, IsExponent, IsExpr, IsTerm, IsUnary, IsPower, IsAtom, IsArguments, IsList}
use Rattle.expr.specs.Grammar as g
use Rattle.expr.specs.Halting.{Halts, HaltsExpr, HaltsTerm, HaltsUnary, HaltsList}
use Rattle.expr.specs.Halting as h

-- a rule of the grammar: a relation between tokens and a value
abbrev pub RuleOf : Type 0 → Type 1
RuleOf X = List Lexed → X → Type 0

-- a rule of the grammar for trees
abbrev pub Rule : Type 1
Rule = RuleOf Syntax

-- tokens at which reading stops with an error
abbrev pub Stop : Type 1
Stop = Refusal → List Lexed → Type 0

-- the tokens are a front that derives `e` and the rest
pub record Spells {X : Type 0} (P : RuleOf X) (ts : List Lexed) (e : X) (rest : List Lexed) : Type 0 where
  pub front : List Lexed
  pub parts : ts ≡ front ++ rest
  pub holds : P front e

-- the cause of an error of the grammar; unexpected tokens, wrong numbers of arguments and bad exponents have none
abbrev pub Cause : Stop → Refusal → List Lexed → Type 0
Cause D (UnexpectedToken at) ts = Unit {0}
Cause D (WrongArgumentCount name) ts = Unit {0}
Cause D (BadExponent at) ts = Unit {0}
Cause D TooLarge ts = D TooLarge ts
Cause D (UnknownName name) ts = D (UnknownName name) ts
Cause D (LeftOutFunction name) ts = D (LeftOutFunction name) ts
Cause D _ ts = ⊥

-- a reading of the tokens: tokens at the front derive its value, or its error has its cause
abbrev pub Means : {X : Type 0} → RuleOf X → Stop → List Lexed → ReadingOf X → Type 0
Means P D ts (Ok x) = Spells P ts x.0 x.1
Means P D ts (Err f) = Cause D f ts

-- a cause that implies another
pub cause_as : (D E : Stop) (f : Refusal) (ts us : List Lexed) → (D f ts → E f us) → Cause D f ts → Cause E f us
cause_as D E (UnexpectedToken at) ts us same c = tt
cause_as D E (WrongArgumentCount name) ts us same c = tt
cause_as D E (BadExponent at) ts us same c = tt
cause_as D E TooLarge ts us same c = same c
cause_as D E (UnknownName name) ts us same c = same c
cause_as D E (LeftOutFunction name) ts us same c = same c
cause_as D E _ ts us same c = absurd c

-- a reading and the next step
then_means : {X Y : Type 0} (P : RuleOf X) (D : Stop) (Q : RuleOf Y) (E : Stop) (ts us : List Lexed) (r : ReadingOf X) (next : X × List Lexed → ReadingOf Y) → ((f : Refusal) → D f ts → E f us)
    → ((x : X) (rest : List Lexed) → Spells P ts x rest → Means Q E us (next (x, rest))) → Means P D ts r → Means Q E us (r >>= next)
then_means P D Q E ts us (Ok x) next stops goes m = goes x.0 x.1 m
then_means P D Q E ts us (Err f) next stops goes m = cause_as D E f ts us (stops f) m

-- tokens in front of those that derive a value
behind : {X Y : Type 0} (P : RuleOf X) (Q : RuleOf Y) (pre ts : List Lexed) (x : X) (y : Y) (rest : List Lexed) → ((a : List Lexed) → P a x → Q (pre ++ a) y) → Spells P ts x rest → Spells Q (pre ++ ts) y rest
behind P Q pre ts x y rest make s = record {
  front = pre ++ s.front;
  parts = ap (λ (z : List Lexed). pre ++ z) s.parts ∙ sym (append_assoc pre s.front rest);
  holds = make s.front s.holds;
}

-- a reading behind other tokens
behind_means : {X : Type 0} (P : RuleOf X) (D : Stop) (Q : RuleOf X) (E : Stop) (pre ts : List Lexed) (r : ReadingOf X) → ((f : Refusal) → D f ts → E f (pre ++ ts)) → ((a : List Lexed) (x : X) → P a x → Q (pre ++ a) x)
    → Means P D ts r → Means Q E (pre ++ ts) r
behind_means P D Q E pre ts (Ok x) stops make m = behind P Q pre ts x.0 x.0 x.1 (λ a p. make a x.0 p) m
behind_means P D Q E pre ts (Err f) stops make m = cause_as D E f ts (pre ++ ts) (stops f) m

-- ---- operands separated by signs

-- tokens that begin with a sign: a part before the sign and one after it satisfy the rule together
pub record Joined {S X : Type 0} (P : RuleOf X) (Q : Rule) (D E : Stop) (make : S → X → Syntax → X) (ts : List Lexed) (o : S) (rest : List Lexed) : Type 0 where
  pub token : Lexed
  pub parts : ts ≡ token ∷ rest
  pub join : (a b : List Lexed) (x : X) (y : Syntax) → P a x → Q b y → P (a ++ (token ∷ b)) (make o x y)
  pub stop : (f : Refusal) (a : List Lexed) (x : X) → P a x → E f rest → D f (a ++ (token ∷ rest))

-- the sign that the tokens begin with, if there is one
abbrev pub SignMeans : {S X : Type 0} → RuleOf X → Rule → Stop → Stop → (S → X → Syntax → X) → List Lexed → SignOf S → Type 0
SignMeans P Q D E make ts None = Unit {0}
SignMeans P Q D E make ts (Some x) = Joined P Q D E make ts x.0 x.1

module _ {S X : Type 0} (P : RuleOf X) (Q : Rule) (D E : Stop) (make : S → X → Syntax → X) (sign : List Lexed → SignOf S) (operand : List Lexed → Reading)
    (joins : (ts : List Lexed) → SignMeans P Q D E make ts (sign ts)) (means : (ts : List Lexed) → Means Q E ts (operand ts)) where
  abbrev Turns : ℕ → Type 0
  Turns n = (pre : List Lexed) (left : X) (ts : List Lexed) → P pre left → Means P D (pre ++ ts) (chain sign operand make n left ts)

  by_sign : (n : ℕ) → Turns n → (pre : List Lexed) (left : X) (ts : List Lexed) → P pre left → (s : SignOf S) → SignMeans P Q D E make ts s
      → Means P D (pre ++ ts) (on_sign s (Ok (left, ts)) (λ o r. operand r >>= λ y. chain sign operand make n (make o left y.0) y.1))
  by_sign n ih pre left ts p None j = record { front = pre; parts = refl; holds = p }
  by_sign n ih pre left ts p (Some x) j =
      then_means Q E P D x.1 (pre ++ ts) (operand x.1) (λ y. chain sign operand make n (make x.0 left y.0) y.1)
      (λ f e. subst (λ (z : List Lexed). D f (pre ++ z)) (sym j.parts) (j.stop f pre left p e))
      (λ y rest q.
      let whole : pre ++ ts ≡ (pre ++ (j.token ∷ q.front)) ++ rest =
      ap (λ (z : List Lexed). pre ++ z) (j.parts ∙ ap (λ (z : List Lexed). j.token ∷ z) q.parts) ∙ sym (append_assoc pre (j.token ∷ q.front) rest) in
      subst (λ (z : List Lexed). Means P D z (chain sign operand make n (make x.0 left y) rest)) (sym whole)
      (ih (pre ++ (j.token ∷ q.front)) (make x.0 left y) rest (j.join pre q.front left y p q.holds))) (means x.1)

  turns : (n : ℕ) → Turns n
  unfolding chain
  turns zero pre left ts p = record { front = pre; parts = refl; holds = p }
  turns (suc n) pre left ts p = by_sign n (turns n) pre left ts p (sign ts) (joins ts)

  -- a chain of operands
  chained_means : (first : Syntax → X) → ((a : List Lexed) (x : Syntax) → Q a x → P a (first x)) → ((f : Refusal) (ts : List Lexed) → E f ts → D f ts) → (ts : List Lexed) → Means P D ts (chained sign operand first make ts)
  unfolding chained
  chained_means first one stops ts =
      then_means Q E P D ts ts (operand ts) (λ x. chain sign operand make (length x.1) (first x.0) x.1) (λ f e. stops f ts e)
      (λ y rest q. subst (λ (z : List Lexed). Means P D z (chain sign operand make (length rest) (first y) rest)) (sym q.parts) (turns (length rest) q.front (first y) rest (one q.front y q.holds))) (means ts)

-- where reading the rules of n levels stops
abbrev pub AtExpr : ℕ → Stop
AtExpr n f ts = HaltsExpr f n ts

abbrev pub AtTerm : ℕ → Stop
AtTerm n f ts = HaltsTerm f n ts

abbrev pub AtUnary : ℕ → Stop
AtUnary n f ts = HaltsUnary f n ts

abbrev pub AtList : ℕ → Stop
AtList n f ts = HaltsList f n ts

-- what a plus or minus joins
pub sum_joins : (n : ℕ) (ts : List Lexed) → SignMeans (IsExpr n) (IsTerm n) (AtExpr n) (AtTerm n) tree.Binary ts (sum_sign ts)
sum_joins n ((t.Plus, at) ∷ ts) = record { token = (t.Plus, at); parts = refl; join = λ a b x y p q. g.sum at p q; stop = λ f a x p q. h.sum at p q }
sum_joins n ((t.Minus, at) ∷ ts) = record { token = (t.Minus, at); parts = refl; join = λ a b x y p q. g.difference at p q; stop = λ f a x p q. h.difference at p q }
sum_joins n _ = tt

-- what a star or slash joins
pub product_joins : (n : ℕ) (ts : List Lexed) → SignMeans (IsTerm n) (IsUnary n) (AtTerm n) (AtUnary n) tree.Binary ts (product_sign ts)
product_joins n ((t.Star, at) ∷ ts) = record { token = (t.Star, at); parts = refl; join = λ a b x y p q. g.product at p q; stop = λ f a x p q. h.product at p q }
product_joins n ((t.Slash, at) ∷ ts) = record { token = (t.Slash, at); parts = refl; join = λ a b x y p q. g.quotient at p q; stop = λ f a x p q. h.quotient at p q }
product_joins n _ = tt

-- what a comma joins
pub comma_joins : (n : ℕ) (ts : List Lexed) → SignMeans (IsList n) (IsExpr n) (AtList n) (AtExpr n) listed ts (comma_sign ts)
comma_joins n ((t.Comma, at) ∷ ts) = record { token = (t.Comma, at); parts = refl; join = λ a b x y p q. g.next at p q; stop = λ f a x p q. h.next at p q }
comma_joins n _ = tt

-- ---- parentheses

-- the tokens are a part that derives `e`, and a closing parenthesis
record Enclosed {X : Type 0} (P : RuleOf X) (ts : List Lexed) (e : X) : Type 0 where
  inner : List Lexed
  to : ℕ
  parts : ts ≡ inner ++ ((t.Close, to) ∷ [])
  holds : P inner e

close_means : {X : Type 0} (P : RuleOf X) (D : Stop) (end : ℕ) (ts : List Lexed) (x : X) (rest : List Lexed) → Spells P ts x rest → Means (Enclosed P) D ts (close end rest >>= λ after. Ok (x, after))
close_means P D end ts x ((t.Close, to) ∷ after) s = record {
  front = s.front ++ ((t.Close, to) ∷ []);
  parts = s.parts ∙ sym (append_assoc s.front ((t.Close, to) ∷ []) after);
  holds = record { inner = s.front; to = to; parts = refl; holds = s.holds };
}
close_means P D end ts x _ s = tt

closed_means : {X : Type 0} (P : RuleOf X) (D : Stop) (end : ℕ) (inner : List Lexed → ReadingOf X) (ts : List Lexed) → Means P D ts (inner ts) → Means (Enclosed P) D ts (closed end inner ts)
unfolding closed
closed_means P D end inner ts m = then_means P D (Enclosed P) D ts ts (inner ts) (λ x. close end x.1 >>= λ after. Ok (x.0, after)) (λ f d. d) (λ x rest s. close_means P D end ts x rest s) m

-- ---- exponents

-- the exponent that the tokens begin with, if there is one
abbrev ExponentMeans : List Lexed → SignOf ℤ → Type 0
ExponentMeans ts None = Unit {0}
ExponentMeans ts (Some x) = Spells IsWhole ts x.0 x.1

positive_means : (z : Constant) (m at : ℕ) (rest : List Lexed) (c : Bool) → is_whole m ≡ c → ExponentMeans ((t.Number z m, at) ∷ rest) (positive_whole (with_tokens rest (if c then Some m else None)))
positive_means z m at rest true w = record { front = (t.Number z m, at) ∷ []; parts = refl; holds = g.positive at w }
positive_means z m at rest false w = tt

negative_means : (from : ℕ) (z : Constant) (m at : ℕ) (rest : List Lexed) (c : Bool) → is_whole m ≡ c → ExponentMeans ((t.Minus, from) ∷ (t.Number z m, at) ∷ rest) (negative_whole (with_tokens rest (if c then Some m else None)))
negative_means from z m at rest true w = record { front = (t.Minus, from) ∷ (t.Number z m, at) ∷ []; parts = refl; holds = g.negative from at w }
negative_means from z m at rest false w = tt

signed_means : (ts : List Lexed) → ExponentMeans ts (signed_sign ts)
signed_means ((t.Number z m, at) ∷ rest) = positive_means z m at rest (is_whole m) refl
signed_means ((t.Minus, from) ∷ (t.Number z m, at) ∷ rest) = negative_means from z m at rest (is_whole m) refl
signed_means ((t.Minus, from) ∷ _) = tt
signed_means _ = tt

bad_means : (D : Stop) (at : ℕ) (ts : List Lexed) (s : SignOf ℤ) → ExponentMeans ts s → Means IsWhole D ts (or_bad at s)
bad_means D at ts None m = tt
bad_means D at ts (Some x) m = m

-- an exponent after its opening parenthesis
abbrev Grouped : ℕ → RuleOf ℤ
Grouped n a k = (from : ℕ) → IsExponent n ((t.Open, from) ∷ a) k

abbrev AtGrouped : ℕ → Stop
AtGrouped n f ts = Halts f n ts × (f ≡ TooLarge)

grouped_means : (end n at : ℕ) (ts : List Lexed) → Means (Grouped n) (AtGrouped n) ts (grouped_at end n at ts)
unfolding grouped_at
grouped_means end (suc n) at ts =
    behind_means (Enclosed IsWhole) (AtGrouped (suc n)) (Grouped (suc n)) (AtGrouped (suc n)) [] ts (grouped_by end at ts) (λ f d. d)
    (λ a k e from. subst (λ (z : List Lexed). IsExponent (suc n) ((t.Open, from) ∷ z) k) (sym e.parts) (g.group from e.to e.holds))
    (then_means IsWhole (AtGrouped (suc n)) (Enclosed IsWhole) (AtGrouped (suc n)) ts ts (or_bad at (signed_sign ts)) (λ x. close end x.1 >>= λ after. Ok (x.0, after)) (λ f d. d)
    (λ x rest s. close_means IsWhole (AtGrouped (suc n)) end ts x rest s) (bad_means (AtGrouped (suc n)) at ts (signed_sign ts) (signed_means ts)))
grouped_means end zero at [] = tt
grouped_means end zero at ((t.Number z m, to) ∷ rest) = (h.too_deep to refl, refl)
grouped_means end zero at ((t.Name w, to) ∷ rest) = (h.too_deep to refl, refl)
grouped_means end zero at ((t.Minus, to) ∷ rest) = (h.too_deep to refl, refl)
grouped_means end zero at ((t.Open, to) ∷ rest) = (h.too_deep to refl, refl)
grouped_means end zero at (_ ∷ rest) = tt

-- reading an exponent stops inside its parentheses
record AtExponent (n : ℕ) (f : Refusal) (ts : List Lexed) : Type 0 where
  from : ℕ
  inside : List Lexed
  parts : ts ≡ (t.Open, from) ∷ inside
  halts : Halts f n inside
  large : f ≡ TooLarge

exponent_means : (end n at : ℕ) (ts : List Lexed) → Means (IsExponent n) (AtExponent n) ts (exponent_at end n at ts)
unfolding exponent_at
exponent_means end n at ((t.Open, from) ∷ inside) =
    behind_means (Grouped n) (AtGrouped n) (IsExponent n) (AtExponent n) ((t.Open, from) ∷ []) inside (grouped_at end n at inside)
    (λ f d. record { from = from; inside = inside; parts = refl; halts = d.0; large = d.1 }) (λ a k e. e from) (grouped_means end n at inside)
exponent_means end n at ts =
    behind_means IsWhole (AtExponent n) (IsExponent n) (AtExponent n) [] ts (or_bad at (signed_sign ts)) (λ f d. d) (λ a k w. g.bare w) (bad_means (AtExponent n) at ts (signed_sign ts) (signed_means ts))

-- ---- powers and atoms

raised_means : (end n : ℕ) (a : List Lexed) (x : Syntax) (ts : List Lexed) → IsAtom n a x → Means (IsPower n) (AtUnary (suc n)) (a ++ ts) (raised_at end n x ts)
unfolding raised_at
raised_means end n a x ((t.Caret, at) ∷ ts) p =
    then_means (IsExponent n) (AtExponent n) (IsPower n) (AtUnary (suc n)) ts (a ++ ((t.Caret, at) ∷ ts)) (exponent_at end n at ts) (λ k. Ok (tree.Power x k.0, k.1))
    (λ f d. subst (λ (z : List Lexed). HaltsUnary f (suc n) (a ++ ((t.Caret, at) ∷ z))) (sym d.parts) (h.exponent at d.from p d.halts d.large))
    (λ k rest s. record {
      front = a ++ ((t.Caret, at) ∷ s.front);
      parts = ap (λ (z : List Lexed). a ++ ((t.Caret, at) ∷ z)) s.parts ∙ sym (append_assoc a ((t.Caret, at) ∷ s.front) rest);
      holds = g.raised at p s.holds;
    }) (exponent_means end n at ts)
raised_means end n a x ts p = record { front = a; parts = refl; holds = g.atom p }

module _ (end n : ℕ) (inner : List Lexed → Reading) (means : (ts : List Lexed) → Means (IsExpr n) (AtExpr n) ts (inner ts)) where
  list_means : (ts : List Lexed) → Means (IsList n) (AtList n) ts (listing inner ts)
  list_means = chained_means (IsList n) (IsExpr n) (AtList n) (AtExpr n) listed comma_sign inner (comma_joins n) means One (λ a x p. g.first p) (λ f ts p. h.first p)

  arguments_means : (ts : List Lexed) → Means (Enclosed (IsArguments n)) (AtList n) ts (arguments_by end inner ts (close_sign ts))
  arguments_means ((t.Close, to) ∷ rest) = record { front = (t.Close, to) ∷ []; parts = refl; holds = record { inner = []; to = to; parts = refl; holds = g.none } }
  arguments_means ts =
      behind_means (Enclosed (IsList n)) (AtList n) (Enclosed (IsArguments n)) (AtList n) [] ts (closed end (listing inner) ts) (λ f d. d)
      (λ a xs e. record { inner = e.inner; to = e.to; parts = e.parts; holds = g.some e.holds }) (closed_means (IsList n) (AtList n) end (listing inner) ts (list_means ts))

  called_means : (w : List ℕ) (at from : ℕ) (inside : List Lexed) (f : Callee) (xs : Arguments) (rest : List Lexed) → function_of w ≡ Some f → Spells (Enclosed (IsArguments n)) inside xs rest
      → Means (IsAtom n) (AtUnary (suc n)) ((t.Name w, at) ∷ (t.Open, from) ∷ inside) (called w f xs >>= λ y. Ok (y, rest))
  called_means w at from inside f xs rest known s = by_callee f xs known s
    where
      made : (f : Callee) (xs : Arguments) (x : Syntax) → function_of w ≡ Some f → Spells (Enclosed (IsArguments n)) inside xs rest → called w f xs ≡ Ok x → Spells (IsAtom n) ((t.Name w, at) ∷ (t.Open, from) ∷ inside) x rest
      made f xs x known s c =
          behind (Enclosed (IsArguments n)) (IsAtom n) ((t.Name w, at) ∷ (t.Open, from) ∷ []) inside xs x rest
          (λ a e. subst (λ (z : List Lexed). IsAtom n ((t.Name w, at) ∷ (t.Open, from) ∷ z) x) (sym e.parts) (g.call at from e.to known e.holds c)) s

      by_callee : (f : Callee) (xs : Arguments) → function_of w ≡ Some f → Spells (Enclosed (IsArguments n)) inside xs rest
          → Means (IsAtom n) (AtUnary (suc n)) ((t.Name w, at) ∷ (t.Open, from) ∷ inside) (called w f xs >>= λ y. Ok (y, rest))
      by_callee (takes.One o) (One x) known s = made (takes.One o) (One x) (tree.Applied o x) known s refl
      by_callee (takes.Two o) (Two x y) known s = made (takes.Two o) (Two x y) (tree.Binary o x y) known s refl
      by_callee takes.Three (Three x y z) known s = made takes.Three (Three x y z) (tree.Select x y z) known s refl
      by_callee _ _ known s = tt

  refused_means : (w : List ℕ) (at from : ℕ) (inside : List Lexed) (left_out : Bool) → function_of w ≡ None → is_left_out w ≡ left_out
      → Cause (AtUnary (suc n)) (if left_out then LeftOutFunction w else UnknownName w) ((t.Name w, at) ∷ (t.Open, from) ∷ inside)
  refused_means w at from inside true none known = h.here (h.left_out at from none known)
  refused_means w at from inside false none known = h.here (h.unknown at from none known)

  call_means : (w : List ℕ) (at from : ℕ) (inside : List Lexed) (o : Option Callee) → function_of w ≡ o → Means (IsAtom n) (AtUnary (suc n)) ((t.Name w, at) ∷ (t.Open, from) ∷ inside) (called_by end inner w inside o)
  call_means w at from inside None none = refused_means w at from inside (is_left_out w) none refl
  call_means w at from inside (Some f) known =
      then_means (Enclosed (IsArguments n)) (AtList n) (IsAtom n) (AtUnary (suc n)) inside ((t.Name w, at) ∷ (t.Open, from) ∷ inside) (arguments_by end inner inside (close_sign inside))
      (λ x. called w f x.0 >>= λ y. Ok (y, x.1)) (λ k d. h.argument at from known d) (λ xs rest s. called_means w at from inside f xs rest known s) (arguments_means inside)

  name_means : (w : List ℕ) (at : ℕ) (rest : List Lexed) → Means (IsAtom n) (AtUnary (suc n)) ((t.Name w, at) ∷ rest) (name_by end inner w rest (open_sign rest))
  name_means w at ((t.Open, from) ∷ inside) = call_means w at from inside (function_of w) refl
  name_means w at rest = record { front = (t.Name w, at) ∷ []; parts = refl; holds = g.name at }

  atom_means : (ts : List Lexed) → Means (IsAtom n) (AtUnary (suc n)) ts (atom_by end inner ts (start ts))
  atom_means ((t.Number z m, at) ∷ rest) = record { front = (t.Number z m, at) ∷ []; parts = refl; holds = g.number at }
  atom_means ((t.Name w, at) ∷ rest) = name_means w at rest
  atom_means ((t.Open, at) ∷ rest) =
      behind_means (Enclosed (IsExpr n)) (AtExpr n) (IsAtom n) (AtUnary (suc n)) ((t.Open, at) ∷ []) rest (closed end inner rest) (λ f d. h.group at d)
      (λ a x e. subst (λ (z : List Lexed). IsAtom n ((t.Open, at) ∷ z) x) (sym e.parts) (g.group at e.to e.holds)) (closed_means (IsExpr n) (AtExpr n) end inner rest (means rest))
  atom_means _ = tt

  power_means : (ts : List Lexed) → Means (IsUnary (suc n)) (AtUnary (suc n)) ts (powered end n (atom_by end inner ts (start ts)))
  power_means ts =
      behind_means (IsPower n) (AtUnary (suc n)) (IsUnary (suc n)) (AtUnary (suc n)) [] ts (powered end n (atom_by end inner ts (start ts))) (λ f d. d) (λ a x p. g.power p)
      (then_means (IsAtom n) (AtUnary (suc n)) (IsPower n) (AtUnary (suc n)) ts ts (atom_by end inner ts (start ts)) (λ x. raised_at end n x.0 x.1) (λ f d. d)
      (λ x rest s. subst (λ (z : List Lexed). Means (IsPower n) (AtUnary (suc n)) z (raised_at end n x rest)) (sym s.parts) (raised_means end n s.front x rest s.holds)) (atom_means ts))

-- ---- the levels

misplaced_means : (n at : ℕ) (k : Lexeme) (rest : List Lexed) (c : Bool) → begins_operand k ≡ c → Cause (AtUnary zero) (if c then TooLarge else UnexpectedToken at) ((k, at) ∷ rest)
misplaced_means n at k rest true c = h.here (h.too_deep at c)
misplaced_means n at k rest false c = tt

term_by : (end n : ℕ) → ((ts : List Lexed) → Means (IsUnary n) (AtUnary n) ts (unary_at end n ts)) → (ts : List Lexed) → Means (IsTerm n) (AtTerm n) ts (operands product_sign (unary_at end n) ts)
term_by end n means = chained_means (IsTerm n) (IsUnary n) (AtTerm n) (AtUnary n) tree.Binary product_sign (unary_at end n) (product_joins n) means itself (λ a x p. g.unary p) (λ f ts p. h.unary p)

expr_by : (end n : ℕ) → ((ts : List Lexed) → Means (IsUnary n) (AtUnary n) ts (unary_at end n ts)) → (ts : List Lexed) → Means (IsExpr n) (AtExpr n) ts (operands sum_sign (operands product_sign (unary_at end n)) ts)
expr_by end n means =
    chained_means (IsExpr n) (IsTerm n) (AtExpr n) (AtTerm n) tree.Binary sum_sign (operands product_sign (unary_at end n)) (sum_joins n) (term_by end n means) itself (λ a x p. g.term p) (λ f ts p. h.term p)

-- a factor follows the grammar
pub unary_means : (end n : ℕ) (ts : List Lexed) → Means (IsUnary n) (AtUnary n) ts (unary_at end n ts)
unfolding unary_at
unary_means end zero [] = tt
unary_means end zero ((k, at) ∷ rest) = misplaced_means zero at k rest (begins_operand k) refl
unary_means end (suc n) ((t.Minus, at) ∷ rest) =
    then_means (IsUnary n) (AtUnary n) (IsUnary (suc n)) (AtUnary (suc n)) rest ((t.Minus, at) ∷ rest) (unary_at end n rest) (λ x. Ok (tree.Negated x.0, x.1)) (λ f d. h.negative at d)
    (λ x after s. behind (IsUnary n) (IsUnary (suc n)) ((t.Minus, at) ∷ []) rest x (tree.Negated x) after (λ a p. g.negative at p) s) (unary_means end n rest)
unary_means end (suc n) ts = power_means end n (operands sum_sign (operands product_sign (unary_at end n))) (expr_by end n (unary_means end n)) ts

-- a product follows the grammar
pub term_means : (end n : ℕ) (ts : List Lexed) → Means (IsTerm n) (AtTerm n) ts (term_at end n ts)
unfolding term_at
term_means end n ts = term_by end n (unary_means end n) ts

-- a sum follows the grammar
pub expr_means : (end n : ℕ) (ts : List Lexed) → Means (IsExpr n) (AtExpr n) ts (expr_at end n ts)
unfolding expr_at term_at
expr_means end n ts = expr_by end n (unary_means end n) ts

-- if a sum is read, the grammar derives it from the tokens
pub expr_sound : (end n : ℕ) (ts : List Lexed) (e : Syntax) (rest : List Lexed) → expr_at end n ts ≡ Ok (e, rest) → Spells (IsExpr n) ts e rest
expr_sound end n ts e rest h = subst (Means (IsExpr n) (AtExpr n) ts) h (expr_means end n ts)
