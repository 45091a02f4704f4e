-- Positions at which the parser stops with `TooLarge`, `UnknownName` or `LeftOutFunction` before it can find an
-- unexpected token. Up to there the tokens follow the grammar; then comes a token that could begin an operand with no
-- level left, the name of a definition too many, or a name before a parenthesis that isn't a function. `TooLarge`
-- precedes both name errors at the same token.
use Rattle.std.specs.Prelude.{◌≡◌, ℕ, zero, suc, true, false, List, ◌∷◌, ◌++◌, Some, None}
use Rattle.energy_program.specs.Faults.{Refusal, TooLarge, UnknownName, LeftOutFunction}
use Rattle.energy_program.specs.declared.callees.Callee.{Callee}
use Rattle.energy_program.specs.Names.{function_of, is_left_out}
use Rattle.expr.specs.Tokens.{Lexeme, Lexed}
use Rattle.expr.specs.Tokens as t
use Rattle.expr.specs.Syntax.{Syntax, Arguments}
use Rattle.expr.specs.Grammar.{IsExpr, IsTerm, IsAtom, IsList}
use Rattle.expr.specs.Parsing.{begins_operand}

-- the parser stops at the first of these tokens, with n levels left
pub data Halts : Refusal → ℕ → List Lexed → Type 0 where
  too_deep : {k : Lexeme} {rest : List Lexed} (at : ℕ) → begins_operand k ≡ true → Halts TooLarge zero ((k, at) ∷ rest)
  unknown : {n : ℕ} {w : List ℕ} {rest : List Lexed} (at to : ℕ) → function_of w ≡ None → is_left_out w ≡ false
      → Halts (UnknownName w) (suc n) ((t.Name w, at) ∷ (t.Open, to) ∷ rest)
  left_out : {n : ℕ} {w : List ℕ} {rest : List Lexed} (at to : ℕ) → function_of w ≡ None → is_left_out w ≡ true
      → Halts (LeftOutFunction w) (suc n) ((t.Name w, at) ∷ (t.Open, to) ∷ rest)

mutual
  pub data HaltsExpr : Refusal → ℕ → List Lexed → Type 0 where
    term : {f : Refusal} {n : ℕ} {ts : List Lexed} → HaltsTerm f n ts → HaltsExpr f n ts
    sum : {f : Refusal} {n : ℕ} {a b : List Lexed} {x : Syntax} (at : ℕ) → IsExpr n a x → HaltsTerm f n b
        → HaltsExpr f n (a ++ ((t.Plus, at) ∷ b))
    difference : {f : Refusal} {n : ℕ} {a b : List Lexed} {x : Syntax} (at : ℕ) → IsExpr n a x → HaltsTerm f n b
        → HaltsExpr f n (a ++ ((t.Minus, at) ∷ b))

  pub data HaltsTerm : Refusal → ℕ → List Lexed → Type 0 where
    unary : {f : Refusal} {n : ℕ} {ts : List Lexed} → HaltsUnary f n ts → HaltsTerm f n ts
    product : {f : Refusal} {n : ℕ} {a b : List Lexed} {x : Syntax} (at : ℕ) → IsTerm n a x → HaltsUnary f n b
        → HaltsTerm f n (a ++ ((t.Star, at) ∷ b))
    quotient : {f : Refusal} {n : ℕ} {a b : List Lexed} {x : Syntax} (at : ℕ) → IsTerm n a x → HaltsUnary f n b
        → HaltsTerm f n (a ++ ((t.Slash, at) ∷ b))

  pub data HaltsUnary : Refusal → ℕ → List Lexed → Type 0 where
    here : {f : Refusal} {n : ℕ} {ts : List Lexed} → Halts f n ts → HaltsUnary f n ts
    negative : {f : Refusal} {n : ℕ} {b : List Lexed} (at : ℕ) → HaltsUnary f n b → HaltsUnary f (suc n) ((t.Minus, at) ∷ b)
    group : {f : Refusal} {n : ℕ} {b : List Lexed} (at : ℕ) → HaltsExpr f n b → HaltsUnary f (suc n) ((t.Open, at) ∷ b)
    argument : {f : Refusal} {n : ℕ} {w : List ℕ} {g : Callee} {b : List Lexed} (at from : ℕ) → function_of w ≡ Some g
        → HaltsList f n b → HaltsUnary f (suc n) ((t.Name w, at) ∷ (t.Open, from) ∷ b)
    -- in the parentheses of an exponent
    exponent : {f : Refusal} {n : ℕ} {a b : List Lexed} {x : Syntax} (at from : ℕ) → IsAtom n a x → Halts f n b
        → f ≡ TooLarge → HaltsUnary f (suc n) (a ++ ((t.Caret, at) ∷ (t.Open, from) ∷ b))

  pub data HaltsList : Refusal → ℕ → List Lexed → Type 0 where
    first : {f : Refusal} {n : ℕ} {b : List Lexed} → HaltsExpr f n b → HaltsList f n b
    next : {f : Refusal} {n : ℕ} {a b : List Lexed} {xs : Arguments} (at : ℕ) → IsList n a xs → HaltsExpr f n b
        → HaltsList f n (a ++ ((t.Comma, at) ∷ b))

-- At most `many` definitions may follow. The parser also stops at the name of one too many.
pub data HaltsTail : Refusal → ℕ → ℕ → List Lexed → Type 0 where
  too_many : {n : ℕ} {w : List ℕ} {rest : List Lexed} (at from : ℕ)
      → HaltsTail TooLarge n zero ((t.Semicolon, at) ∷ (t.Name w, from) ∷ rest)
  empty : {f : Refusal} {n many : ℕ} {b : List Lexed} (at : ℕ) → HaltsTail f n many b → HaltsTail f n many ((t.Semicolon, at) ∷ b)
  here : {f : Refusal} {n many : ℕ} {w : List ℕ} {b : List Lexed} (at from to : ℕ) → HaltsExpr f n b
      → HaltsTail f n (suc many) ((t.Semicolon, at) ∷ (t.Name w, from) ∷ (t.Equals, to) ∷ b)
  later : {f : Refusal} {n many : ℕ} {w : List ℕ} {a b : List Lexed} {x : Syntax} (at from to : ℕ) → IsExpr n a x → HaltsTail f n many b
      → HaltsTail f n (suc many) ((t.Semicolon, at) ∷ (t.Name w, from) ∷ (t.Equals, to) ∷ (a ++ b))

pub data HaltsProgram : Refusal → ℕ → ℕ → List Lexed → Type 0 where
  body : {f : Refusal} {n many : ℕ} {b : List Lexed} → HaltsExpr f n b → HaltsProgram f n many b
  behind : {f : Refusal} {n many : ℕ} {a b : List Lexed} {x : Syntax} → IsExpr n a x → HaltsTail f n many b
      → HaltsProgram f n many (a ++ b)
