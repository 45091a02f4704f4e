-- Theorems about verdicts.
use Rattle.std.specs.Prelude.{◌≡◌, ℕ, ◌<◌, ◌*◌, ◌^◌, List, Ok, Err}
use Rattle.kernel_code.specs.declared.instructions.Instr.{Instr}
use Rattle.kernel_code.specs.Code.{IsCode}
use Rattle.kernel_code.specs.Paths.{IsLongest}
use Rattle.kernel_code.specs.Tables.{Table}
use Rattle.verifier.specs.declared.faults.VerifyFault.{VerifyFault}
use Rattle.verifier.specs.Safety.{IsCertified, IsRefusal}
use Rattle.verifier.specs.Verdicts.{Answer, IsVerdict, Range}

-- verdicts are unique
abbrev pub VerdictsAreOne : Type 0
VerdictsAreOne = (code : List Instr) (t : Table) (g : Range) (x y : Answer) → IsCode code → IsVerdict code t g x
    → IsVerdict code t g y → x ≡ y

-- acceptance is sound: accepted code never faults
abbrev pub AcceptedAreSafe : Type 0
AcceptedAreSafe =
    (code : List Instr) (t : Table) (g : Range) (steps bound : ℕ) → 0 < g.slices → IsLongest code steps → IsVerdict code t g (Ok bound)
    → IsCertified code t g.core g.cutoff steps bound

-- rejection is sound: each error holds of the code
abbrev pub RefusedAreWrong : Type 0
RefusedAreWrong =
    (code : List Instr) (t : Table) (g : Range) (f : VerifyFault) → IsCode code → 0 < g.slices → IsVerdict code t g (Err f)
    → IsRefusal code t g.core g.cutoff (g.slices * 2 ^ g.depth) f
