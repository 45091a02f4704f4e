-- The functional specification of the parser: tokens are read from left to right up to the first error. A function
-- `rule_at` reads a rule of the grammar, its helper `rule_by` continues after looking at the next token.
use Rattle.std.specs.Prelude.{◌≡◌, ℕ, zero, suc, ℤ, pos, neg_ℤ, Bool, true, false, if◌then◌else◌, List, [], ◌∷◌, length, Option, Some, None, Result, Ok, Err, Box}
use Rattle.std.specs.Borrow.{Bor}
use Rattle.fixed.specs.Constants.{constant}
use Rattle.fixed.specs.declared.constants.Constant.{Constant}
use Rattle.expr.specs.declared.parser.OperandStart.{OperandStart}
use Rattle.expr.specs.declared.parser.OperandStart.TheVariants as begin
use Rattle.fixed.specs.declared.operations.Operator.{Operator}
use Rattle.fixed.specs.declared.operations.Operator.TheVariants as op
use Rattle.expr.specs.declared.calls.Arguments as call
use Rattle.energy_program.specs.declared.callees.Callee.{Callee}
use Rattle.energy_program.specs.declared.powers.Exponent.{Exponent}
use Rattle.expr.specs.declared.syntax.Syntax as code
use Rattle.expr.specs.declared.tokens.Token.{Token}
use Rattle.line_text.specs.Steps.{◌>>=◌}
use Rattle.fallible.specs.declared.failure.Failure.{Failure}
use Rattle.energy_program.specs.declared.faults.ExprFault.{ExprFault}
use Rattle.energy_program.specs.Faults.{Refusal, UnexpectedToken, BadExponent, TooLarge, Gives}
use Rattle.expr.specs.Calls.{called}
use Rattle.energy_program.specs.Names.{call_refusal, function_of}
use Rattle.expr.specs.Syntax.{Syntax, syntax_of, Arguments, Empty, One, arguments_of, with_argument}
use Rattle.expr.specs.Syntax as s
use Rattle.expr.specs.Tokens.{Lexeme, Lexed, lexed}
use Rattle.energy_program.specs.Tree.{is_whole}
use Rattle.expr.specs.Tokens as t

-- a parsed value and the tokens after it, or the first error
abbrev pub ReadingOf : Type 0 → Type 0
ReadingOf X = Result (X × List Lexed) Refusal

abbrev pub Reading : Type 0
Reading = ReadingOf Syntax

-- the views of a parser's results: trees without their memory, tokens as lexemes with their positions
abbrev pub seen : {A : Type 0} → Box (code.Syntax A) A × Bor (List Token) → Syntax × List Lexed
seen x = (syntax_of x.0.value, lexed x.1.now)

abbrev pub arguments_seen : {A : Type 0} → call.Arguments A × Bor (List Token) → Arguments × List Lexed
arguments_seen x = (arguments_of x.0, lexed x.1.now)

abbrev pub exponent_seen : Exponent × Bor (List Token) → ℤ × List Lexed
exponent_seen x = (x.0.value, lexed x.1.now)

abbrev pub sign_seen : {S : Type 0} → S × Bor (List Token) → S × List Lexed
sign_seen x = (x.0, lexed x.1.now)

-- a value paired with the result read after it
abbrev pub beside : {X Y E : Type 0} → X → Result Y E → Result (X × Y) E
beside x (Ok y) = Ok (x, y)
beside x (Err e) = Err e

-- the result, followed by these tokens
abbrev pub followed : {X : Type 0} → Result X Refusal → List Lexed → ReadingOf X
followed made rest = made >>= λ x. Ok (x, rest)

abbrev pub rest_seen : Bor (List Token) → List Lexed
rest_seen rest = lexed rest.now

-- the offset of the first token, or `end` if there is none
abbrev pub offset : ℕ → List Lexed → ℕ
offset end [] = end
offset end ((k, at) ∷ rest) = at

-- ---- the next token

-- the meaning of a leading sign, and the tokens after it
abbrev pub SignOf : Type 0 → Type 0
SignOf S = Option (S × List Lexed)

abbrev pub OperatorSign : Type 0
OperatorSign = SignOf Operator

abbrev pub sum_sign : List Lexed → OperatorSign
sum_sign ((t.Plus, at) ∷ rest) = Some (op.Add, rest)
sum_sign ((t.Minus, at) ∷ rest) = Some (op.Subtract, rest)
sum_sign _ = None

abbrev pub product_sign : List Lexed → OperatorSign
product_sign ((t.Star, at) ∷ rest) = Some (op.Multiply, rest)
product_sign ((t.Slash, at) ∷ rest) = Some (op.Divide, rest)
product_sign _ = None

abbrev pub minus_sign : List Lexed → Option (List Lexed)
minus_sign ((t.Minus, at) ∷ rest) = Some rest
minus_sign _ = None

abbrev pub open_sign : List Lexed → Option (List Lexed)
open_sign ((t.Open, at) ∷ rest) = Some rest
open_sign _ = None

abbrev pub close_sign : List Lexed → Option (List Lexed)
close_sign ((t.Close, at) ∷ rest) = Some rest
close_sign _ = None

abbrev pub caret_sign : List Lexed → SignOf ℕ
caret_sign ((t.Caret, at) ∷ rest) = Some (at, rest)
caret_sign _ = None

abbrev pub comma_sign : List Lexed → SignOf ℕ
comma_sign ((t.Comma, at) ∷ rest) = Some (at, rest)
comma_sign _ = None

abbrev pub begins_operand : Lexeme → Bool
begins_operand (t.Number c k) = true
begins_operand (t.Name w) = true
begins_operand t.Open = true
begins_operand t.Minus = true
begins_operand _ = false

-- the first token can begin an operand
abbrev pub awaits_operand : List Lexed → Bool
awaits_operand [] = false
awaits_operand ((k, at) ∷ rest) = begins_operand k

abbrev pub close : ℕ → List Lexed → Result (List Lexed) Refusal
close end ((t.Close, at) ∷ rest) = Ok rest
close end ts = Err (UnexpectedToken (offset end ts))

-- the parsed value followed by a closing parenthesis; an earlier error stays
abbrev pub Closes : {A T : Type 0} → ℕ → Result (T × Bor (List Token)) (Failure (ExprFault A))
    → Result (T × Bor (List Token)) (Failure (ExprFault A)) → Type 0
Closes end (Ok x) result = Gives (λ y. (y.0, lexed y.1.now)) result (beside x.0 (close end (lexed x.1.now)))
Closes end (Err e) result = result ≡ Err e

-- the operation on a tree and the operand that is read after its sign; an earlier error stays
abbrev pub Operates : {A : Type 0} → Operator → Syntax → Result (Box (code.Syntax A) A × Bor (List Token)) (Failure (ExprFault A))
    → Result (Box (code.Syntax A) A × Bor (List Token)) (Failure (ExprFault A)) → Type 0
Operates o x (Ok y) result = Gives seen result (Ok (s.Binary o x (syntax_of y.0.value), lexed y.1.now))
Operates o x (Err e) result = result ≡ Err e

-- the error if no level is left
abbrev pub misplaced : ℕ → List Lexed → Refusal
misplaced end [] = UnexpectedToken end
misplaced end ((k, at) ∷ rest) = if begins_operand k then TooLarge else UnexpectedToken at

-- the first token of an atom
pub data Beginning : Type 0 where
  Numeral : Constant → Beginning
  Word : List ℕ → Beginning
  Group : Beginning

abbrev pub beginning : OperandStart → Beginning
beginning (begin.Number z l h) = Numeral (constant z l h)
beginning (begin.Name name) = Word name.now
beginning begin.Open = Group

abbrev pub start_seen : OperandStart × Bor (List Token) → Beginning × List Lexed
start_seen x = (beginning x.0, lexed x.1.now)

abbrev pub beginning_of : Lexeme → Option Beginning
beginning_of (t.Number c k) = Some (Numeral c)
beginning_of (t.Name name) = Some (Word name)
beginning_of t.Open = Some Group
beginning_of _ = None

abbrev pub with_rest : List Lexed → Option Beginning → SignOf Beginning
with_rest rest None = None
with_rest rest (Some b) = Some (b, rest)

-- the start of an atom, and the tokens after it
abbrev pub start : List Lexed → SignOf Beginning
start [] = None
start ((k, at) ∷ rest) = with_rest rest (beginning_of k)

-- ---- operands separated by signs

abbrev pub on_sign : {S X : Type 0} → SignOf S → ReadingOf X → (S → List Lexed → ReadingOf X) → ReadingOf X
on_sign None done go = done
on_sign (Some x) done go = go x.0 x.1

-- Further operands after their signs, left-associative. The number bounds how many there are.
unfoldable pub chain : {S X : Type 0} → (List Lexed → SignOf S) → (List Lexed → Reading) → (S → X → Syntax → X) → ℕ
    → X → List Lexed → ReadingOf X
chain sign operand join zero left ts = Ok (left, ts)
chain sign operand join (suc n) left ts =
    on_sign (sign ts) (Ok (left, ts)) (λ o rest. operand rest >>= λ y. chain sign operand join n (join o left y.0) y.1)

-- An operand and those that follow it. Each sign is a token, so the number of tokens bounds them.
unfoldable pub chained : {S X : Type 0} → (List Lexed → SignOf S) → (List Lexed → Reading) → (Syntax → X)
    → (S → X → Syntax → X) → List Lexed → ReadingOf X
chained sign operand first join ts = operand ts >>= λ x. chain sign operand join (length x.1) (first x.0) x.1

-- the operands of a rule, joined by the rule's signs (`itself`: the first operand is the tree so far)
abbrev pub itself : Syntax → Syntax
itself x = x

abbrev pub operands : (List Lexed → OperatorSign) → (List Lexed → Reading) → List Lexed → Reading
operands sign operand = chained sign operand itself s.Binary

abbrev pub listed : ℕ → Arguments → Syntax → Arguments
listed at xs y = with_argument xs y

-- ---- exponents

abbrev pub whole_of : Lexeme → Option ℕ
whole_of (t.Number c n) = if is_whole n then Some n else None
whole_of _ = None

abbrev pub with_tokens : {S : Type 0} → List Lexed → Option S → SignOf S
with_tokens rest None = None
with_tokens rest (Some x) = Some (x, rest)

abbrev pub whole_sign : List Lexed → SignOf ℕ
whole_sign [] = None
whole_sign ((k, at) ∷ rest) = with_tokens rest (whole_of k)

abbrev pub positive_whole : SignOf ℕ → SignOf ℤ
positive_whole None = None
positive_whole (Some x) = Some (pos x.0, x.1)

abbrev pub negative_whole : SignOf ℕ → SignOf ℤ
negative_whole None = None
negative_whole (Some x) = Some (neg_ℤ (pos x.0), x.1)

abbrev pub signed_by : List Lexed → Option (List Lexed) → SignOf ℤ
signed_by ts None = positive_whole (whole_sign ts)
signed_by ts (Some rest) = negative_whole (whole_sign rest)

-- an integer with its optional minus, if one comes
abbrev pub signed_sign : List Lexed → SignOf ℤ
signed_sign ts = signed_by ts (minus_sign ts)

-- the exponent, or `BadExponent` at the offset of the `^`
abbrev pub or_bad : ℕ → SignOf ℤ → ReadingOf ℤ
or_bad at None = Err (BadExponent at)
or_bad at (Some x) = Ok x

abbrev pub is_misplaced : ℕ → List Lexed → Bool
is_misplaced zero ts = awaits_operand ts
is_misplaced (suc n) ts = false

abbrev pub grouped_by : ℕ → ℕ → List Lexed → ReadingOf ℤ
grouped_by end at ts = or_bad at (signed_sign ts) >>= λ x. close end x.1 >>= λ after. Ok (x.0, after)

abbrev pub unless_misplaced : Bool → ReadingOf ℤ → ReadingOf ℤ
unless_misplaced true reading = Err TooLarge
unless_misplaced false reading = reading

unfoldable pub grouped_at : ℕ → ℕ → ℕ → List Lexed → ReadingOf ℤ
grouped_at end n at ts = unless_misplaced (is_misplaced n ts) (grouped_by end at ts)

abbrev pub exponent_by : ℕ → ℕ → ℕ → List Lexed → Option (List Lexed) → ReadingOf ℤ
exponent_by end n at ts None = or_bad at (signed_sign ts)
exponent_by end n at ts (Some inside) = grouped_at end n at inside

unfoldable pub exponent_at : ℕ → ℕ → ℕ → List Lexed → ReadingOf ℤ
exponent_at end n at ts = exponent_by end n at ts (open_sign ts)

abbrev pub raised_by : ℕ → ℕ → Syntax → List Lexed → SignOf ℕ → Reading
raised_by end n x ts None = Ok (x, ts)
raised_by end n x ts (Some c) = exponent_at end n c.0 c.1 >>= λ k. Ok (s.Power x k.0, k.1)

-- the optional exponent after an atom
unfoldable pub raised_at : ℕ → ℕ → Syntax → List Lexed → Reading
raised_at end n x ts = raised_by end n x ts (caret_sign ts)

-- ---- the rules, with a bound on nesting

-- an inner result followed by a closing parenthesis
unfoldable pub closed : {X : Type 0} → ℕ → (List Lexed → ReadingOf X) → List Lexed → ReadingOf X
closed end inner ts = do
  x ← inner ts
  after ← close end x.1
  Ok (x.0, after)

abbrev pub listing : (List Lexed → Reading) → List Lexed → ReadingOf Arguments
listing inner = chained comma_sign inner One listed

abbrev pub arguments_by : ℕ → (List Lexed → Reading) → List Lexed → Option (List Lexed) → ReadingOf Arguments
arguments_by end inner ts None = closed end (listing inner) ts
arguments_by end inner ts (Some rest) = Ok (Empty, rest)

abbrev pub called_by : ℕ → (List Lexed → Reading) → List ℕ → List Lexed → Option Callee → Reading
called_by end inner name ts None = Err (call_refusal name)
called_by end inner name ts (Some f) = arguments_by end inner ts (close_sign ts) >>= λ x. called name f x.0 >>= λ y. Ok (y, x.1)

abbrev pub name_by : ℕ → (List Lexed → Reading) → List ℕ → List Lexed → Option (List Lexed) → Reading
name_by end inner name rest None = Ok (s.Name name, rest)
name_by end inner name rest (Some inside) = called_by end inner name inside (function_of name)

abbrev pub atom_by : ℕ → (List Lexed → Reading) → List Lexed → SignOf Beginning → Reading
atom_by end inner ts None = Err (UnexpectedToken (offset end ts))
atom_by end inner ts (Some (Numeral c, rest)) = Ok (s.Number c, rest)
atom_by end inner ts (Some (Word name, rest)) = name_by end inner name rest (open_sign rest)
atom_by end inner ts (Some (Group, rest)) = closed end inner rest

abbrev pub powered : ℕ → ℕ → Reading → Reading
powered end n atom = atom >>= λ x. raised_at end n x.0 x.1

abbrev pub unary_by : (List Lexed → Reading) → Reading → Option (List Lexed) → Reading
unary_by operand other (Some rest) = operand rest >>= λ x. Ok (s.Negated x.0, x.1)
unary_by operand other None = other

-- a unary expression with n levels left
unfoldable pub unary_at : ℕ → ℕ → List Lexed → Reading
unary_at end zero ts = Err (misplaced end ts)
unary_at end (suc n) ts =
    unary_by (unary_at end n) (powered end n
    (atom_by end (operands sum_sign (operands product_sign (unary_at end n))) ts (start ts))) (minus_sign ts)

unfoldable pub term_at : ℕ → ℕ → List Lexed → Reading
term_at end n = operands product_sign (unary_at end n)

unfoldable pub expr_at : ℕ → ℕ → List Lexed → Reading
expr_at end n = operands sum_sign (term_at end n)

unfoldable pub closed_at : ℕ → ℕ → List Lexed → Reading
closed_at end n ts = closed end (expr_at end n) ts

unfoldable pub list_at : ℕ → ℕ → List Lexed → ReadingOf Arguments
list_at end n = listing (expr_at end n)

unfoldable pub arguments_at : ℕ → ℕ → List Lexed → ReadingOf Arguments
arguments_at end n ts = arguments_by end (expr_at end n) ts (close_sign ts)

unfoldable pub call_at : ℕ → ℕ → List ℕ → List Lexed → Reading
call_at end n name ts = called_by end (expr_at end n) name ts (function_of name)

unfoldable pub atom_at : ℕ → ℕ → List Lexed → Reading
atom_at end n ts = atom_by end (expr_at end n) ts (start ts)

unfoldable pub power_at : ℕ → ℕ → List Lexed → Reading
power_at end n ts = powered end n (atom_at end n ts)
