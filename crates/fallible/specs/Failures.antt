-- Relations between the result of a call that can run out of memory and the result of a definition, `said`.
use Rattle.std.specs.Prelude.{◌≡◌, Result, Ok, Err}
use Rattle.fallible.specs.declared.failure.Failure.{Failure}
use Rattle.fallible.specs.declared.failure.Failure.TheVariants.{Refused, Memory}

-- A refusal is the fault that the definition gives, translated by `seen`. A failed allocation is always permitted, for
-- every input.
abbrev pub Fails : {Y R S : Type 0} → (R → S) → Failure R → Result Y S → Type 0
Fails seen (Refused fault) said = said ≡ Err (seen fault)
Fails seen Memory said = Unit {0}

-- The call's result agrees with the definition, or memory ran out. `view` and `seen` translate values and refusals.
abbrev pub Gives : {X Y R S : Type 0} → (X → Y) → (R → S) → Result X (Failure R) → Result Y S → Type 0
Gives view seen (Ok x) said = said ≡ Ok (view x)
Gives view seen (Err failure) said = Fails seen failure said

-- The result of a call that doesn't allocate agrees with the definition. `view` and `seen` translate values and faults.
abbrev pub Answers : {X Y R S : Type 0} → (X → Y) → (R → S) → Result X R → Result Y S → Type 0
Answers view seen (Ok x) said = said ≡ Ok (view x)
Answers view seen (Err fault) said = said ≡ Err (seen fault)

-- a failure with its fault translated, as when a call passes on the failure of a part
abbrev pub refused_as : {R S : Type 0} → (R → S) → Failure R → Failure S
refused_as handed_on (Refused fault) = Refused (handed_on fault)
refused_as handed_on Memory = Memory

-- the property holds of the fault, unless memory ran out
abbrev pub IfRefused : {R : Type 0} → Failure R → (R → Type 0) → Type 0
IfRefused (Refused fault) holds = holds fault
IfRefused Memory holds = Unit {0}

-- the property holds of the value, or memory ran out
abbrev pub IsOrMemory : {X R : Type 0} → (X → Type 0) → Result X (Failure R) → Type 0
IsOrMemory holds (Ok x) = holds x
IsOrMemory holds (Err failure) = failure ≡ Memory

-- both values, or the first error
abbrev pub paired : {X Y E : Type 0} → Result X E → Result Y E → Result (X × Y) E
paired (Ok x) (Ok y) = Ok (x, y)
paired (Err e) r = Err e
paired (Ok x) (Err e) = Err e
