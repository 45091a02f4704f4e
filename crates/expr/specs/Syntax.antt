-- Abstract syntax before name resolution: names are bytes.
use Rattle.std.specs.Prelude.{ℕ, ℤ, List, map}
use Rattle.std.specs.declared.vec.Vec.{Vec}
use Rattle.fixed.specs.declared.constants.Constant.{Constant}
use Rattle.fixed.specs.declared.operations.Operator.{Operator}
use Rattle.fixed.specs.declared.operations.Function.{Function}
use Rattle.expr.specs.declared.syntax.Syntax as code
use Rattle.expr.specs.declared.syntax.Syntax.TheVariants as e
use Rattle.expr.specs.declared.sources.Definition as define
use Rattle.expr.specs.declared.sources.Source as whole
use Rattle.expr.specs.declared.calls.Arguments as written
use Rattle.expr.specs.declared.calls.Arguments.TheVariants as w

pub data Syntax : Type 0 where
  Number : Constant → Syntax
  Name : List ℕ → Syntax
  Negated : Syntax → Syntax
  Binary : Operator → Syntax → Syntax → Syntax
  Applied : Function → Syntax → Syntax
  Power : Syntax → ℤ → Syntax
  Select : Syntax → Syntax → Syntax → Syntax

abbrev pub syntax_of : {A : Type 0} → code.Syntax A → Syntax
syntax_of (e.Number c) = Number c
syntax_of (e.Name bytes) = Name bytes.now
syntax_of (e.Negated' p a) = Negated (syntax_of a)
syntax_of (e.Binary' o p a q b) = Binary o (syntax_of a) (syntax_of b)
syntax_of (e.Applied' f p a) = Applied f (syntax_of a)
syntax_of (e.Power' p a n) = Power (syntax_of a) n.value
syntax_of (e.Select' p x q a s b) = Select (syntax_of x) (syntax_of a) (syntax_of b)

-- the arguments of a call; no function takes more than three, so a longer list is only `More`
pub data Arguments : Type 0 where
  Empty : Arguments
  One : Syntax → Arguments
  Two : Syntax → Syntax → Arguments
  Three : Syntax → Syntax → Syntax → Arguments
  More : Arguments

abbrev pub arguments_of : {A : Type 0} → written.Arguments A → Arguments
arguments_of w.Empty = Empty
arguments_of (w.One x) = One (syntax_of x.value)
arguments_of (w.Two x y) = Two (syntax_of x.value) (syntax_of y.value)
arguments_of (w.Three x y z) = Three (syntax_of x.value) (syntax_of y.value) (syntax_of z.value)
arguments_of w.More = More

-- the arguments with one more at the end
abbrev pub with_argument : Arguments → Syntax → Arguments
with_argument Empty x = One x
with_argument (One x) y = Two x y
with_argument (Two x y) z = Three x y z
with_argument (Three x y z) more = More
with_argument More more = More

-- a name and its expression
abbrev pub Definition : Type 0
Definition = List ℕ × Syntax

abbrev pub definition_of : {A : Type 0} → define.Definition A → Definition
definition_of d = (d.name.now, syntax_of d.value.value)

abbrev pub definition_views : {A : Type 0} → Vec (define.Definition A) A → List Definition
definition_views v = map definition_of v.items

-- the names of these definitions
abbrev pub defined_names : List Definition → List (List ℕ)
defined_names definitions = map (λ d. d.0) definitions

-- the body of a text and its definitions
abbrev pub Source : Type 0
Source = Syntax × List Definition

abbrev pub source_of : {A : Type 0} → whole.Source A → Source
source_of s = (syntax_of s.body.value, definition_views s.definitions)
