-- Faults that are passed on.
use Rattle.std.specs.Prelude.{◌≡◌}
use Rattle.fallible.specs.declared.failure.Failure.{Failure}
use Rattle.fallible.specs.declared.failure.Failure.TheVariants.{Memory, Refused}

-- a failure with its fault translated, as when a call passes on the failure of a part
abbrev pub IsRefusedBy : {S T : Type 0} → (S → T → Type 0) → Failure S → Failure T → Type 0
IsRefusedBy {S} {T} by (Refused fault) e = (t : T) × by fault t × (e ≡ Refused t)
IsRefusedBy by Memory e = e ≡ Memory
