-- Reading in steps: the fault of the first step that fails is the result.
use Rattle.std.specs.Prelude.{Option, Some, None, Result, Ok, Err}

-- sequencing: the first fault is the result
infixl 10 ◌>>=◌
abbrev pub ◌>>=◌ : {A B E : Type 0} → Result A E → (A → Result B E) → Result B E
(Ok x) >>= f = f x
(Err e) >>= f = Err e

-- the value read, or this fault if there is none
abbrev pub said : {X E : Type 0} → E → Option X → Result X E
said fault None = Err fault
said fault (Some x) = Ok x
