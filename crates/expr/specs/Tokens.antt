-- Tokens with their offsets.
use Rattle.std.specs.Prelude.{◌≡◌, ℕ, List, map, min, Option, Some, None}
use Rattle.std.specs.declared.vec.Vec.{Vec}
use Rattle.fixed.specs.Constants.{constant}
use Rattle.fixed.specs.declared.constants.Constant.{Constant}
use Rattle.expr.specs.declared.tokens.Kind.{Kind}
use Rattle.expr.specs.declared.tokens.Kind.TheVariants as k
use Rattle.expr.specs.declared.tokens.Token.{Token}
use Rattle.line_text.specs.Columns.{digits_of}

-- A number is its constant, and the integer that its numeral spells in plain digits (100 if greater, 0 if it isn't plain
-- digits); a name is its bytes.
pub data Lexeme : Type 0 where
  Number : Constant → ℕ → Lexeme
  Name : List ℕ → Lexeme
  Plus : Lexeme
  Minus : Lexeme
  Star : Lexeme
  Slash : Lexeme
  Caret : Lexeme
  Open : Lexeme
  Close : Lexeme
  Comma : Lexeme
  Semicolon : Lexeme
  Equals : Lexeme

-- the integer that the bytes spell in plain digits, 100 if it is greater; 0 if they aren't plain digits
abbrev pub up_to_100 : Option ℕ → ℕ
up_to_100 None = 0
up_to_100 (Some n) = min n 100

abbrev pub whole_in : List ℕ → ℕ
whole_in text = up_to_100 (digits_of text)

-- a token, and the offset of its first byte
abbrev pub Lexed : Type 0
Lexed = Lexeme × ℕ

abbrev pub lexeme : Kind → Lexeme
lexeme (k.Number z l h n) = Number (constant z l h) n
lexeme (k.Name bytes) = Name bytes.now
lexeme k.Plus = Plus
lexeme k.Minus = Minus
lexeme k.Star = Star
lexeme k.Slash = Slash
lexeme k.Caret = Caret
lexeme k.Open = Open
lexeme k.Close = Close
lexeme k.Comma = Comma
lexeme k.Semicolon = Semicolon
lexeme k.Equals = Equals

abbrev pub lexed : List Token → List Lexed
lexed tokens = map (λ token. (lexeme token.kind, token.at)) tokens

abbrev pub lexed_items : {A : Type 0} → Vec Token A → List Lexed
lexed_items v = lexed v.items

-- the call returned what the definition gives, seen through `view`, or neither is there
abbrev pub Shows : {X Y : Type 0} → (X → Y) → Option X → Option Y → Type 0
Shows view None given = given ≡ None
Shows view (Some x) given = given ≡ Some (view x)
