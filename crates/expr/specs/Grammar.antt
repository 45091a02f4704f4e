-- The context-free grammar, as derivations: which tokens derive which syntax tree. Each rule has one constructor per
-- alternative.
--   program    = expr { ";" [ definition ] }
--   definition = name "=" expr
--   expr     = term { ("+" | "-") term }
--   term     = unary { ("*" | "/") unary }
--   unary    = "-" unary | power
--   power    = atom [ "^" exponent ]
--   exponent = [ "-" ] whole | "(" [ "-" ] whole ")"
--   atom     = number | name | name "(" [ expr { "," expr } ] ")" | "(" expr ")"
-- A whole is an integer from 1 to 32 in plain digits. A call has the number of arguments that its function takes.
use Rattle.std.specs.Prelude.{◌≡◌, ℕ, suc, ℤ, pos, neg_ℤ, true, List, [], ◌∷◌, ◌++◌, Some, Ok}
use Rattle.energy_program.specs.declared.callees.Callee.{Callee}
use Rattle.fixed.specs.declared.constants.Constant.{Constant}
use Rattle.fixed.specs.declared.operations.Operator.TheVariants as op
use Rattle.expr.specs.Calls.{called}
use Rattle.energy_program.specs.Names.{function_of}
use Rattle.energy_program.specs.Tree.{is_whole}
use Rattle.expr.specs.Tokens.{Lexed}
use Rattle.expr.specs.Tokens as t
use Rattle.expr.specs.Syntax.{Syntax, Number, Name, Negated, Binary, Power, Arguments, Empty, One, with_argument, Definition}

-- the tokens derive a signed exponent
pub data IsWhole : List Lexed → ℤ → Type 0 where
  positive : {c : Constant} {n : ℕ} (at : ℕ) → is_whole n ≡ true → IsWhole ((t.Number c n, at) ∷ []) (pos n)
  negative : {c : Constant} {n : ℕ} (from at : ℕ) → is_whole n ≡ true
      → IsWhole ((t.Minus, from) ∷ (t.Number c n, at) ∷ []) (neg_ℤ (pos n))

-- The tokens derive an exponent. The number counts levels, as in the rules below; an exponent's minus uses none.
pub data IsExponent : ℕ → List Lexed → ℤ → Type 0 where
  bare : {n : ℕ} {a : List Lexed} {k : ℤ} → IsWhole a k → IsExponent n a k
  group : {n : ℕ} {a : List Lexed} {k : ℤ} (at to : ℕ) → IsWhole a k → IsExponent (suc n) ((t.Open, at) ∷ (a ++ ((t.Close, to) ∷ []))) k

-- The tokens derive the tree of the rule. The number counts levels: around each token fewer parentheses and minus signs
-- are open.
mutual
  pub data IsExpr : ℕ → List Lexed → Syntax → Type 0 where
    term : {n : ℕ} {a : List Lexed} {x : Syntax} → IsTerm n a x → IsExpr n a x
    sum : {n : ℕ} {a b : List Lexed} {x y : Syntax} (at : ℕ) → IsExpr n a x → IsTerm n b y
        → IsExpr n (a ++ ((t.Plus, at) ∷ b)) (Binary op.Add x y)
    difference : {n : ℕ} {a b : List Lexed} {x y : Syntax} (at : ℕ) → IsExpr n a x → IsTerm n b y
        → IsExpr n (a ++ ((t.Minus, at) ∷ b)) (Binary op.Subtract x y)

  pub data IsTerm : ℕ → List Lexed → Syntax → Type 0 where
    unary : {n : ℕ} {a : List Lexed} {x : Syntax} → IsUnary n a x → IsTerm n a x
    product : {n : ℕ} {a b : List Lexed} {x y : Syntax} (at : ℕ) → IsTerm n a x → IsUnary n b y
        → IsTerm n (a ++ ((t.Star, at) ∷ b)) (Binary op.Multiply x y)
    quotient : {n : ℕ} {a b : List Lexed} {x y : Syntax} (at : ℕ) → IsTerm n a x → IsUnary n b y
        → IsTerm n (a ++ ((t.Slash, at) ∷ b)) (Binary op.Divide x y)

  pub data IsUnary : ℕ → List Lexed → Syntax → Type 0 where
    negative : {n : ℕ} {a : List Lexed} {x : Syntax} (at : ℕ) → IsUnary n a x → IsUnary (suc n) ((t.Minus, at) ∷ a) (Negated x)
    power : {n : ℕ} {a : List Lexed} {x : Syntax} → IsPower n a x → IsUnary (suc n) a x

  -- a power or an atom with n levels left inside its parentheses
  pub data IsPower : ℕ → List Lexed → Syntax → Type 0 where
    atom : {n : ℕ} {a : List Lexed} {x : Syntax} → IsAtom n a x → IsPower n a x
    raised : {n : ℕ} {a b : List Lexed} {x : Syntax} {k : ℤ} (at : ℕ) → IsAtom n a x → IsExponent n b k
        → IsPower n (a ++ ((t.Caret, at) ∷ b)) (Power x k)

  pub data IsAtom : ℕ → List Lexed → Syntax → Type 0 where
    number : {n : ℕ} {c : Constant} {k : ℕ} (at : ℕ) → IsAtom n ((t.Number c k, at) ∷ []) (Number c)
    name : {n : ℕ} {w : List ℕ} (at : ℕ) → IsAtom n ((t.Name w, at) ∷ []) (Name w)
    call : {n : ℕ} {w : List ℕ} {f : Callee} {a : List Lexed} {xs : Arguments} {x : Syntax} (at from to : ℕ)
        → function_of w ≡ Some f → IsArguments n a xs → called w f xs ≡ Ok x
        → IsAtom n ((t.Name w, at) ∷ (t.Open, from) ∷ (a ++ ((t.Close, to) ∷ []))) x
    group : {n : ℕ} {a : List Lexed} {x : Syntax} (at to : ℕ) → IsExpr n a x → IsAtom n ((t.Open, at) ∷ (a ++ ((t.Close, to) ∷ []))) x

  -- the arguments between the parentheses of a call
  pub data IsArguments : ℕ → List Lexed → Arguments → Type 0 where
    none : {n : ℕ} → IsArguments n [] Empty
    some : {n : ℕ} {a : List Lexed} {xs : Arguments} → IsList n a xs → IsArguments n a xs

  pub data IsList : ℕ → List Lexed → Arguments → Type 0 where
    first : {n : ℕ} {a : List Lexed} {x : Syntax} → IsExpr n a x → IsList n a (One x)
    next : {n : ℕ} {a b : List Lexed} {xs : Arguments} {y : Syntax} (at : ℕ) → IsList n a xs → IsExpr n b y
        → IsList n (a ++ ((t.Comma, at) ∷ b)) (with_argument xs y)

-- the rest of a text after the body: semicolons, each optionally followed by a definition
pub data IsTail : ℕ → List Lexed → List Definition → Type 0 where
  end : {n : ℕ} → IsTail n [] []
  empty : {n : ℕ} {b : List Lexed} {ds : List Definition} (at : ℕ) → IsTail n b ds → IsTail n ((t.Semicolon, at) ∷ b) ds
  definition : {n : ℕ} {w : List ℕ} {a b : List Lexed} {x : Syntax} {ds : List Definition} (at from to : ℕ) → IsExpr n a x → IsTail n b ds
      → IsTail n ((t.Semicolon, at) ∷ (t.Name w, from) ∷ (t.Equals, to) ∷ (a ++ b)) ((w, x) ∷ ds)

-- the tokens derive a body and definitions
pub data IsProgram : ℕ → List Lexed → Syntax → List Definition → Type 0 where
  program : {n : ℕ} {a b : List Lexed} {x : Syntax} {ds : List Definition} → IsExpr n a x → IsTail n b ds → IsProgram n (a ++ b) x ds
