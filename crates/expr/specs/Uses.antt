-- Name resolution, from left to right up to the first name without a meaning. A name is one of the variables, or else a
-- later definition's.
use Rattle.std.specs.Prelude.{◌≡◌, ℕ, ◌+◌, List, [], ◌∷◌, length, map, Option, Some, None, Result, Ok, Err, Box, IsTrue}
use Rattle.fallible.specs.Failures.{IsOrMemory}
use Rattle.fallible.specs.declared.failure.Failure.{Failure}
use Rattle.energy_program.specs.declared.faults.ExprFault.{ExprFault}
use Rattle.energy_program.specs.declared.trees.Expr as code
use Rattle.line_text.specs.Steps.{◌>>=◌}
use Rattle.energy_program.specs.Faults.{Refusal, UnknownName}
use Rattle.energy_program.specs.Names.{input_of}
use Rattle.expr.specs.Definitions.{number_from}
use Rattle.energy_program.specs.Variables.{names_of}
use Rattle.expr.specs.declared.definitions.Scope.{Scope}
use Rattle.expr.specs.Syntax.{Syntax, Definition, Source, definition_of, defined_names}
use Rattle.expr.specs.Syntax as s
use Rattle.energy_program.specs.Tree.{Tree, is_scoped, substituted, tree_of, variable_count}
use Rattle.energy_program.specs.Tree as t
use Rattle.energy_program.specs.Programs.{Trees}

-- a tree made of a part; an error of the part stays, and memory may run out
abbrev pub Grows : {A : Type 0} → (Tree → Tree) → Result (Box (code.Expr A) A) (Failure (ExprFault A))
    → Result (Box (code.Expr A) A) (Failure (ExprFault A)) → Type 0
Grows make (Ok part) result = IsOrMemory (λ e. tree_of e.value ≡ make (tree_of part.value)) result
Grows make (Err e) result = result ≡ Err e

-- a tree made of two parts, or of three; the first part's error stays
abbrev pub GrowsTwo : {A : Type 0} → (Tree → Tree → Tree) → Result (Box (code.Expr A) A) (Failure (ExprFault A))
    → Result (Box (code.Expr A) A) (Failure (ExprFault A)) → Result (Box (code.Expr A) A) (Failure (ExprFault A)) → Type 0
GrowsTwo make (Ok left) right result = Grows (make (tree_of left.value)) right result
GrowsTwo make (Err e) right result = result ≡ Err e

abbrev pub GrowsThree : {A : Type 0} → (Tree → Tree → Tree → Tree)
    → Result (Box (code.Expr A) A) (Failure (ExprFault A)) → Result (Box (code.Expr A) A) (Failure (ExprFault A))
    → Result (Box (code.Expr A) A) (Failure (ExprFault A))
    → Result (Box (code.Expr A) A) (Failure (ExprFault A)) → Type 0
GrowsThree make (Ok first) second third result = GrowsTwo (make (tree_of first.value)) second third result
GrowsThree make (Err e) second third result = result ≡ Err e

-- the definition that a name refers to, or the error of an unknown name
abbrev pub used_later : List ℕ → Option ℕ → Result Tree Refusal
used_later name None = Err (UnknownName name)
used_later name (Some j) = Ok (t.Definition j)

-- the input or later definition that a name refers to
abbrev pub used : ℕ → List (List ℕ) → List ℕ → Option ℕ → Result Tree Refusal
used first later name None = used_later name (number_from first later name)
used first later name (Some i) = Ok (t.Input i)

-- the tree with names resolved; vs are the variables, ws the names of the later definitions, numbered from i
unfoldable pub resolved : List (List ℕ) → ℕ → List (List ℕ) → Syntax → Result Tree Refusal
resolved vs i ws (s.Number c) = Ok (t.Number c)
resolved vs i ws (s.Name name) = used i ws name (input_of vs name)
resolved vs i ws (s.Negated a) = resolved vs i ws a >>= λ x. Ok (t.Negated x)
resolved vs i ws (s.Binary o a b) = resolved vs i ws a >>= λ x. resolved vs i ws b >>= λ y. Ok (t.Binary o x y)
resolved vs i ws (s.Applied f a) = resolved vs i ws a >>= λ x. Ok (t.Applied f x)
resolved vs i ws (s.Power a n) = resolved vs i ws a >>= λ x. Ok (t.Power x n)
resolved vs i ws (s.Select c a b) = resolved vs i ws c >>= λ x. resolved vs i ws a >>= λ y. resolved vs i ws b >>= λ z. Ok (t.Select x y z)

-- a name, and a tree, resolved in a scope
abbrev pub used_in : {A : Type 0} → Scope A → List ℕ → Result Tree Refusal
used_in scope name = used scope.first (defined_names (map definition_of scope.later.now)) name (input_of (names_of scope.names.now) name)

abbrev pub resolved_in : {A : Type 0} → Scope A → Syntax → Result Tree Refusal
resolved_in scope e = resolved (names_of scope.names.now) scope.first (defined_names (map definition_of scope.later.now)) e

-- the tree uses the scope's variables and definitions only
abbrev pub IsInScope : {A : Type 0} → Scope A → Tree → Type 0
IsInScope scope e =
    IsTrue (is_scoped (variable_count scope.names.now.parameters scope.names.now.globals) scope.first
    (scope.first + length scope.later.now) e)

-- the resolved trees of definitions, numbered from i; each sees the later ones
unfoldable pub all_resolved : List (List ℕ) → ℕ → List Definition → Result (List Tree) Refusal
all_resolved vs i [] = Ok []
all_resolved vs i (d ∷ ds) = resolved vs (i + 1) (defined_names ds) d.1 >>= λ x. all_resolved vs (i + 1) ds >>= λ xs. Ok (x ∷ xs)

-- the trees of a text; the body sees all definitions
unfoldable pub trees : List (List ℕ) → Source → Result Trees Refusal
trees vs source = do
  body ← resolved vs 0 (defined_names source.1) source.0
  definitions ← all_resolved vs 0 source.1
  Ok (body, definitions)

-- the body with all definitions substituted
abbrev pub substituted_tree : Result Trees Refusal → Result Tree Refusal
substituted_tree r = r >>= λ t. Ok (substituted t.0 t.1)

-- the tree of a text, with its definitions substituted
unfoldable pub source_meaning : List (List ℕ) → Source → Result Tree Refusal
source_meaning vs source = substituted_tree (trees vs source)
