-- The grammar of whole energy texts, the causes of their errors, and the functional specification of the parser.
use Rattle.std.specs.Prelude.{◌≡◌, ◌↔◌, ℕ, suc, ◌<◌, ◌≤◌, nat_lt, ◌⊎◌, Bool, true, false, List, [], ◌∷◌, ◌++◌, length, Result, Ok, Err}
use Rattle.fallible.specs.Failures.{IfRefused}
use Rattle.fallible.specs.declared.failure.Failure.{Failure}
use Rattle.energy_program.specs.declared.faults.ExprFault.{ExprFault}
use Rattle.energy_program.specs.declared.programs.Program.{Program}
use Rattle.line_text.specs.Steps.{◌>>=◌}
use Rattle.energy_program.specs.Faults.{Refusal, BadCharacter, BadNumber, UnexpectedToken, UnknownName, WrongArgumentCount, BadExponent, NumberRange, RepeatedDefinition, ReservedName, TooLarge, LeftOutFunction, refusal_of}
use Rattle.expr.specs.Definitions.{AreNew, checked, is_given, is_taken}
use Rattle.expr.specs.Grammar.{IsProgram}
use Rattle.expr.specs.Halting.{HaltsProgram}
use Rattle.expr.specs.Lexing.{tokens_of}
use Rattle.expr.specs.Sources.{source_at}
use Rattle.expr.specs.Syntax.{Syntax, Definition, Source, defined_names}
use Rattle.expr.specs.Text.{IsText, IsWrongAt, BeginsBadly, BeginsMalformed, BeginsTooGreat}
use Rattle.expr.specs.Tokens.{Lexed}
use Rattle.energy_program.specs.Programs.{program_tree, Trees}
use Rattle.energy_program.specs.Tree.{Tree}
use Rattle.expr.specs.Uses.{substituted_tree, source_meaning, trees}

-- The text has the tree, with these variables and with at most n parentheses and minus signs open around any token: it
-- splits into tokens, the tokens derive a body and definitions, and all names resolve.
pub record IsEnergy (bits : ℕ) (variables : List (List ℕ)) (text : List ℕ) (n : ℕ) (e : Tree) : Type 0 where
  pub tokens : List Lexed
  pub body : Syntax
  pub definitions : List Definition
  pub spelled : IsText bits text tokens
  pub few : length tokens ≤ 4096
  pub derived : IsProgram (suc n) tokens body definitions
  pub few_definitions : length definitions ≤ 64
  pub new : AreNew variables [] (defined_names definitions)
  pub meant : source_meaning variables (body, definitions) ≡ Ok e

-- the parser's result for a text that has this tree: the tree, or `TooLarge` if it nests deeper than 64
abbrev pub IsRead : {A : Type 0} → ℕ → Tree → Result (Program A) (Failure (ExprFault A)) → Type 0
IsRead n e (Ok p) = program_tree p ≡ e
IsRead n e (Err failure) = IfRefused failure (λ fault. (refusal_of fault ≡ TooLarge) × (64 < n))

-- ---- causes of errors

-- the text has too many tokens, too many parentheses and minus signs open around one, or too many definitions
pub record IsLarge (bits : ℕ) (text : List ℕ) : Type 0 where
  pub tokens : List Lexed
  pub spelled : IsText bits text tokens
  pub many : (4096 < length tokens) ⊎ HaltsProgram TooLarge 65 64 tokens

-- the name of a function that the language leaves out is called
pub record IsLeftOut (bits : ℕ) (text : List ℕ) (name : List ℕ) : Type 0 where
  pub tokens : List Lexed
  pub spelled : IsText bits text tokens
  pub called : HaltsProgram (LeftOutFunction name) 65 64 tokens

-- the grammar derives the text
pub record IsWritten (bits : ℕ) (text : List ℕ) : Type 0 where
  pub tokens : List Lexed
  pub body : Syntax
  pub definitions : List Definition
  pub spelled : IsText bits text tokens
  pub derived : IsProgram 65 tokens body definitions

-- the first definition whose name is not allowed has this name, which is reserved or a variable's
pub record IsReserved (bits : ℕ) (variables : List (List ℕ)) (text : List ℕ) (name : List ℕ) : Type 0 where
  pub written : IsWritten bits text
  pub before : List (List ℕ)
  pub after : List (List ℕ)
  pub parts : defined_names written.definitions ≡ before ++ (name ∷ after)
  pub new : AreNew variables [] before
  pub taken : is_taken variables name ≡ true

-- the first definition whose name is not allowed has this name, which an earlier definition has
pub record IsRepeated (bits : ℕ) (variables : List (List ℕ)) (text : List ℕ) (name : List ℕ) : Type 0 where
  pub written : IsWritten bits text
  pub before : List (List ℕ)
  pub after : List (List ℕ)
  pub parts : defined_names written.definitions ≡ before ++ (name ∷ after)
  pub new : AreNew variables [] before
  pub free : is_taken variables name ≡ false
  pub given : is_given before name ≡ true

-- all definitions' names are allowed, and the leftmost name without a meaning is this one
pub record IsUndefined (bits : ℕ) (variables : List (List ℕ)) (text : List ℕ) (name : List ℕ) : Type 0 where
  pub written : IsWritten bits text
  pub new : AreNew variables [] (defined_names written.definitions)
  pub first : source_meaning variables (written.body, written.definitions) ≡ Err (UnknownName name)

-- the name is called and isn't a function
pub record IsNoFunction (bits : ℕ) (text : List ℕ) (name : List ℕ) : Type 0 where
  pub tokens : List Lexed
  pub spelled : IsText bits text tokens
  pub called : HaltsProgram (UnknownName name) 65 64 tokens

-- The cause of an error. An unexpected token, a wrong number of arguments and a bad exponent have no cause of their
-- own: only the functional specification fixes where they are.
abbrev pub IsCause : ℕ → List (List ℕ) → List ℕ → Refusal → Type 0
IsCause bits variables text (BadCharacter at) = IsWrongAt bits BeginsBadly text at
IsCause bits variables text (BadNumber at) = IsWrongAt bits BeginsMalformed text at
IsCause bits variables text (NumberRange at) = IsWrongAt bits (BeginsTooGreat bits) text at
IsCause bits variables text (UnexpectedToken at) = Unit {0}
IsCause bits variables text (UnknownName name) = IsNoFunction bits text name ⊎ IsUndefined bits variables text name
IsCause bits variables text (WrongArgumentCount name) = Unit {0}
IsCause bits variables text (BadExponent at) = Unit {0}
IsCause bits variables text (RepeatedDefinition name) = IsRepeated bits variables text name
IsCause bits variables text (ReservedName name) = IsReserved bits variables text name
IsCause bits variables text TooLarge = IsLarge bits text
IsCause bits variables text (LeftOutFunction name) = IsLeftOut bits text name

-- ---- functional specification of the parser

-- the tokens, or `TooLarge` if there are too many
abbrev pub limited : Bool → List Lexed → Result (List Lexed) Refusal
limited true tokens = Err TooLarge
limited false tokens = Ok tokens

-- the resolved trees of a body and definitions, after the checks of the definitions' names
abbrev pub trees_of_source : List (List ℕ) → Source → Result Trees Refusal
trees_of_source variables source = checked variables [] (defined_names source.1) >>= λ names. trees variables source

-- the trees of the tokens of a text that has `end` bytes
abbrev pub trees_of_tokens : List (List ℕ) → ℕ → List Lexed → Result Trees Refusal
trees_of_tokens variables end tokens = source_at end tokens >>= trees_of_source variables

-- the trees of a text, or its first error
unfoldable pub trees_in : ℕ → List (List ℕ) → List ℕ → Result Trees Refusal
trees_in bits variables text = do
  tokens ← tokens_of bits text
  few ← limited (nat_lt 4096 (length tokens)) tokens
  source ← source_at (length text) few
  names ← checked variables [] (defined_names source.1)
  trees variables source

-- the tree of a text with definitions substituted, or its first error
unfoldable pub program_of : ℕ → List (List ℕ) → List ℕ → Result Tree Refusal
program_of bits variables text = substituted_tree (trees_in bits variables text)

-- A text is parsed to a tree if and only if the grammar gives it that tree.
abbrev pub ReadsEnergyTexts : Type 0
ReadsEnergyTexts =
    (bits : ℕ) (variables : List (List ℕ)) (text : List ℕ) (e : Tree)
    → (program_of bits variables text ≡ Ok e) ↔ IsEnergy bits variables text 64 e
