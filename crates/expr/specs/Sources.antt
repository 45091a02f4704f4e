-- The functional specification of whole texts: a body, then definitions, from left to right.
use Rattle.std.specs.Prelude.{ℕ, zero, suc, Bool, true, false, List, [], ◌∷◌, ◌++◌, Option, Some, None, Result, Ok, Err}
use Rattle.std.specs.Borrow.{Bor}
use Rattle.expr.specs.declared.tokens.Token.{Token}
use Rattle.line_text.specs.Steps.{◌>>=◌}
use Rattle.energy_program.specs.Faults.{Refusal, UnexpectedToken, TooLarge}
use Rattle.expr.specs.Parsing.{Reading, SignOf, offset, with_tokens, expr_at}
use Rattle.expr.specs.Syntax.{Definition, Source}
use Rattle.expr.specs.Tokens.{Lexeme, Lexed, lexed}
use Rattle.expr.specs.Tokens as t

abbrev pub semicolon_sign : List Lexed → Option (List Lexed)
semicolon_sign ((t.Semicolon, at) ∷ rest) = Some rest
semicolon_sign _ = None

abbrev pub equals : ℕ → List Lexed → Result (List Lexed) Refusal
equals end ((t.Equals, at) ∷ rest) = Ok rest
equals end ts = Err (UnexpectedToken (offset end ts))

abbrev pub name_in : Lexeme → Option (List ℕ)
name_in (t.Name w) = Some w
name_in _ = None

-- a leading name, and the tokens after it
abbrev pub name_sign : List Lexed → SignOf (List ℕ)
name_sign [] = None
name_sign ((k, at) ∷ rest) = with_tokens rest (name_in k)

abbrev pub name_seen : Bor (List ℕ) × Bor (List Token) → List ℕ × List Lexed
name_seen x = (x.0.now, lexed x.1.now)

-- the tokens after all leading semicolons
unfoldable pub after_semicolons : List Lexed → List Lexed
after_semicolons [] = []
after_semicolons ((t.Semicolon, at) ∷ rest) = after_semicolons rest
after_semicolons ((k, at) ∷ rest) = (k, at) ∷ rest

-- ---- definitions

-- the name of a definition and the tokens after its `=`, or `None` if no definition follows
abbrev pub Heading : Type 0
Heading = SignOf (List ℕ)

abbrev pub heading_seen : Option (Bor (List ℕ) × Bor (List Token)) → Heading
heading_seen None = None
heading_seen (Some x) = Some (name_seen x)

abbrev pub no_heading : List Lexed → Result Heading Refusal
no_heading [] = Ok None
no_heading ((k, at) ∷ rest) = Err (UnexpectedToken at)

abbrev pub named_by : ℕ → Bool → List Lexed → SignOf (List ℕ) → Result Heading Refusal
named_by end full ts None = no_heading ts
named_by end true ts (Some x) = Err TooLarge
named_by end false ts (Some x) = equals end x.1 >>= λ after. Ok (Some (x.0, after))

-- the heading after the semicolons; full: no further definition is allowed
unfoldable pub named_at : ℕ → Bool → List Lexed → Result Heading Refusal
named_at end full ts = named_by end full ts (name_sign ts)

abbrev pub heading_by : ℕ → Bool → List Lexed → Option (List Lexed) → Result Heading Refusal
heading_by end full ts None = no_heading ts
heading_by end full ts (Some rest) = named_at end full (after_semicolons rest)

unfoldable pub heading_at : ℕ → Bool → List Lexed → Result Heading Refusal
heading_at end full ts = heading_by end full ts (semicolon_sign ts)

abbrev pub Definitions : Type 0
Definitions = Result (List Definition) Refusal

abbrev pub before : List Definition → Definitions → Definitions
before front others = others >>= λ ds. Ok (front ++ ds)

abbrev pub defined : (List Lexed → Reading) → (List Lexed → Definitions) → Heading → Definitions
defined value others None = Ok []
defined value others (Some h) = value h.1 >>= λ x. before ((h.0, x.0) ∷ []) (others x.1)

-- the definitions after the body, at most n
unfoldable pub definitions_at : ℕ → ℕ → List Lexed → Definitions
definitions_at end zero ts = heading_at end true ts >>= λ h. Ok []
definitions_at end (suc n) ts = heading_at end false ts >>= λ h. defined (expr_at end 65) (definitions_at end n) h

-- the body and definitions of all of the tokens, with at most 64 parentheses and minus signs open around a token and at
-- most 64 definitions
unfoldable pub source_at : ℕ → List Lexed → Result Source Refusal
source_at end ts = do
  body ← expr_at end 65 ts
  definitions ← definitions_at end 64 body.1
  Ok (body.0, definitions)
