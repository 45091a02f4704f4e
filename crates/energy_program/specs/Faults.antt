-- The errors of energy texts without their memory, and the relations that contracts use to state a call's error.
use Rattle.std.specs.Prelude.{◌≡◌, ℕ, List, Result}
use Rattle.fallible.specs.Failures.{IfRefused}
use Rattle.fallible.specs.Failures as fallible
use Rattle.fallible.specs.declared.failure.Failure.{Failure}
use Rattle.energy_program.specs.declared.faults.ExprFault.{ExprFault}
use Rattle.energy_program.specs.declared.faults.ExprFault.TheVariants as fault

-- The error of a rejected text. A number is a byte offset, a list is the bytes of a name.
pub data Refusal : Type 0 where
  BadCharacter : ℕ → Refusal
  BadNumber : ℕ → Refusal
  UnexpectedToken : ℕ → Refusal
  UnknownName : List ℕ → Refusal
  WrongArgumentCount : List ℕ → Refusal
  BadExponent : ℕ → Refusal
  NumberRange : ℕ → Refusal
  RepeatedDefinition : List ℕ → Refusal
  ReservedName : List ℕ → Refusal
  TooLarge : Refusal
  LeftOutFunction : List ℕ → Refusal

-- the error of a fault, without the fault's memory
abbrev pub refusal_of : {A : Type 0} → ExprFault A → Refusal
refusal_of (fault.BadCharacter at) = BadCharacter at
refusal_of (fault.BadNumber at) = BadNumber at
refusal_of (fault.UnexpectedToken at) = UnexpectedToken at
refusal_of (fault.UnknownName name) = UnknownName name.bytes.items
refusal_of (fault.WrongArgumentCount name) = WrongArgumentCount name.bytes.items
refusal_of (fault.BadExponent at) = BadExponent at
refusal_of (fault.NumberRange at) = NumberRange at
refusal_of (fault.RepeatedDefinition name) = RepeatedDefinition name.bytes.items
refusal_of (fault.ReservedName name) = ReservedName name.bytes.items
refusal_of fault.TooLarge = TooLarge
refusal_of (fault.LeftOutFunction name) = LeftOutFunction name.bytes.items

-- the failure is this error, or memory ran out
abbrev pub IsFaultOrMemory : {A : Type 0} → Failure (ExprFault A) → Refusal → Type 0
IsFaultOrMemory failure r = IfRefused failure (λ fault. refusal_of fault ≡ r)

-- ---- results of calls on texts, related to a specified result: faults are compared as errors

-- the call failed as specified, or memory ran out
abbrev pub Fails : {A Y : Type 0} → Failure (ExprFault A) → Result Y Refusal → Type 0
Fails failure read = fallible.Fails refusal_of failure read

-- the call returned a value whose view is the specified one, or failed as specified, or ran out of memory
abbrev pub Gives : {A X Y : Type 0} → (X → Y) → Result X (Failure (ExprFault A)) → Result Y Refusal → Type 0
Gives view result read = fallible.Gives view refusal_of result read

-- the call returned a value whose view is the specified one, or failed as specified
abbrev pub Answers : {A X Y : Type 0} → (X → Y) → Result X (ExprFault A) → Result Y Refusal → Type 0
Answers view result read = fallible.Answers view refusal_of result read
