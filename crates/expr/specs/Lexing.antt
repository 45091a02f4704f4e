-- The functional specification of the lexer: bytes are read from left to right up to the first error.
use Rattle.std.specs.Prelude.{◌≡◌, ℕ, zero, suc, ◌-◌, ◌==◌, if◌then◌else◌, List, [], ◌∷◌, ◌++◌, length, take, drop, Option, Some, None, Result, Ok, Err}
use Rattle.std.specs.List.{prefix_len}
use Rattle.std.specs.Borrow.{Bor}
use Rattle.fixed.specs.declared.constants.Constant.{Constant}
use Rattle.fixed.specs.declared.faults.NumFault.{NumFault}
use Rattle.fixed.specs.declared.faults.NumFault.TheVariants as number
use Rattle.fixed.specs.NumeralParts.{constant_front_of}
use Rattle.expr.specs.declared.lexer.Wrong.{Wrong}
use Rattle.expr.specs.declared.lexer.Wrong.TheVariants as wrong
use Rattle.expr.specs.declared.tokens.Kind.{Kind}
use Rattle.line_text.specs.Identifiers.{is_identifier_start, is_identifier_continue}
use Rattle.expr.specs.Bytes.{is_space, begins_number}
use Rattle.energy_program.specs.Faults.{Refusal, BadCharacter, BadNumber, NumberRange}
use Rattle.expr.specs.Tokens.{Lexeme, Lexed, lexeme, whole_in}
use Rattle.expr.specs.Tokens as t

-- the symbol that a byte is, if it is one
unfoldable pub symbol_of : ℕ → Option Lexeme
symbol_of b =
    if b == 43 then Some t.Plus else (if b == 45 then Some t.Minus else (if b == 42 then Some t.Star else (if b == 47 then Some t.Slash
    else (if b == 94 then Some t.Caret
    else (if b == 40 then Some t.Open else (if b == 41 then Some t.Close else (if b == 44 then Some t.Comma
    else (if b == 59 then Some t.Semicolon else (if b == 61 then Some t.Equals else None)))))))))

-- a token and the bytes after it, or a lexical error
abbrev pub TokenRead : Type 0
TokenRead = Result (Lexeme × List ℕ) Wrong

abbrev pub number_token : List ℕ → Result (Constant × List ℕ) NumFault → TokenRead
number_token text (Ok x) = Ok (t.Number x.0 (whole_in (take (length text - length x.1) text)), x.1)
number_token text (Err f) = Err (wrong.Number f)

abbrev pub symbol_token : List ℕ → Option Lexeme → TokenRead
symbol_token after None = Err wrong.Byte
symbol_token after (Some k) = Ok (k, after)

-- the token at the front, and the bytes after it
unfoldable pub token_at : ℕ → List ℕ → TokenRead
token_at bits [] = Err wrong.Byte
token_at bits (b ∷ rest) =
    if begins_number b then number_token (b ∷ rest) (constant_front_of bits (b ∷ rest))
    else (if is_identifier_start b then Ok (
      t.Name (take (prefix_len is_identifier_continue (b ∷ rest)) (b ∷ rest)),
      drop (prefix_len is_identifier_continue (b ∷ rest)) (b ∷ rest),
    )
    else symbol_token rest (symbol_of b))

abbrev pub ShowsToken : Result (Kind × Bor (List ℕ)) Wrong → TokenRead → Type 0
ShowsToken (Ok x) read = read ≡ Ok (lexeme x.0, x.1.now)
ShowsToken (Err e) read = read ≡ Err e

abbrev pub Tokens : Type 0
Tokens = Result (List Lexed) Refusal

abbrev pub with_front : List Lexed → Tokens → Tokens
with_front front (Ok ts) = Ok (front ++ ts)
with_front front (Err e) = Err e

-- the error at an offset
abbrev pub refusal_at : ℕ → Wrong → Refusal
refusal_at at wrong.Byte = BadCharacter at
refusal_at at (wrong.Number number.BadNumber) = BadNumber at
refusal_at at (wrong.Number number.NumberRange) = NumberRange at

abbrev pub go_on : ℕ → TokenRead → (List ℕ → Tokens) → Tokens
go_on at (Ok x) others = with_front ((x.0, at) ∷ []) (others x.1)
go_on at (Err e) others = Err (refusal_at at e)

-- The tokens of the last bytes of a text of `total` bytes. The first number bounds how many bytes are left, which makes
-- the recursion structural.
unfoldable pub tokens_from : ℕ → ℕ → ℕ → List ℕ → Tokens
tokens_from n bits total [] = Ok []
tokens_from zero bits total (b ∷ rest) = Ok []
tokens_from (suc n) bits total (b ∷ rest) =
    if is_space b then tokens_from n bits total rest
    else go_on (total - length (b ∷ rest)) (token_at bits (b ∷ rest)) (tokens_from n bits total)

-- the tokens of a text, or its first lexical error
unfoldable pub tokens_of : ℕ → List ℕ → Tokens
tokens_of bits text = tokens_from (length text) bits (length text) text
