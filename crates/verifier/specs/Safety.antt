-- Certified code, which never faults, and the meaning of errors.
use Rattle.std.specs.Prelude.{ℕ, ◌+◌, ◌<◌, ◌≤◌, List, length, ℤ, pos, ◌≤ℤ◌, ◌<ℤ◌, ◌+ℤ◌, ◌-ℤ◌, ◌*◌, Ok, Err, unsigned_abs}
use Rattle.fixed.specs.Fractions.{bits_of}
use Rattle.kernel_code.specs.declared.instructions.Instr.{Instr}
use Rattle.kernel_code.specs.declared.traps.Trap.{Trap}
use Rattle.kernel_code.specs.declared.traps.TrapKind.TheVariants.{Operation}
use Rattle.kernel_code.specs.Machine.{Ends, GivesValue}
use Rattle.kernel_code.specs.Tables.{Table, inputs_of}
use Rattle.kernel_code.specs.Paths.{IsLongest, MissesNothing}
use Rattle.verifier.specs.Misfits.{GoesWrongSo}
use Rattle.verifier.specs.declared.faults.VerifyFault.{VerifyFault}
use Rattle.verifier.specs.declared.faults.VerifyFault.TheVariants.{Fault, Undecided}

-- ---- accepted code

-- the number of inputs of code under a table: the distance, the parameters of both particles, and the globals
abbrev pub input_count : Table → ℕ
input_count t = 2 * t.parameters + length t.globals + 1

-- on the inputs of these types at this distance, the code gives a value of at most this magnitude in at most `steps`
-- instructions
pub record GivesInSteps (code : List Instr) (t : Table) (a b : ℕ) (r : ℤ) (steps bound : ℕ) : Type 0 where
  pub value : ℤ
  pub n : ℕ
  pub ends : Ends (bits_of t.frac) code (inputs_of t a b r) n (Ok value)
  pub few : n ≤ steps
  pub small : unsigned_abs value ≤ bound

-- the code does so for every pair of types at every distance from core up to but not including cutoff; no path lacks
-- anything, and the longest has `steps` instructions
pub record IsCertified (code : List Instr) (t : Table) (core cutoff : ℤ) (steps bound : ℕ) : Type 0 where
  pub each : (a b : ℕ) (r : ℤ) → a < length t.rows → b < length t.rows → core ≤ℤ r → r <ℤ cutoff → GivesInSteps code t a b r steps bound
  pub longest : IsLongest code steps
  pub misses : MissesNothing code (input_count t)

-- ---- rejected code

-- for these types the machine traps at this distance in the range
pub record Traps (code : List Instr) (t : Table) (from last : ℤ) (a b : ℕ) (r : ℤ) (trap : Trap) : Type 0 where
  pub first : a < length t.rows
  pub second : b < length t.rows
  pub low : from ≤ℤ r
  pub high : r ≤ℤ last
  pub n : ℕ
  pub ends : Ends (bits_of t.frac) code (inputs_of t a b r) n (Err trap)

-- for these types the machine gives values at both distances, which differ, and the range has more distances than the
-- limit
pub record IsUndecided (code : List Instr) (t : Table) (from last : ℤ) (limit : ℕ) (a b : ℕ) (lo hi : ℤ) : Type 0 where
  pub first : a < length t.rows
  pub second : b < length t.rows
  pub low : from ≤ℤ lo
  pub two : lo <ℤ hi
  pub high : hi ≤ℤ last
  pub at_lo : GivesValue (bits_of t.frac) code (inputs_of t a b lo)
  pub at_hi : GivesValue (bits_of t.frac) code (inputs_of t a b hi)
  pub wide : (from +ℤ pos limit) ≤ℤ last

-- the meaning of an error, if ranges of at most `limit` distances are always decided
abbrev pub IsRefusal : List Instr → Table → (core cutoff : ℤ) → (limit : ℕ) → VerifyFault → Type 0
IsRefusal code t core cutoff limit (Fault a b r pc fault) =
    Traps code t core (cutoff -ℤ pos 1) a b r (record { pc = pc; kind = Operation fault })
IsRefusal code t core cutoff limit (Undecided a b lo hi pc fault) = IsUndecided code t core (cutoff -ℤ pos 1) limit a b lo hi
IsRefusal code t core cutoff limit f = GoesWrongSo code (input_count t) f
