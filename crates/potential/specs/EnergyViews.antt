-- Results of calls, as the energies of the definitions.
use Rattle.energy_program.specs.Programs.{program_tree, trees_of}
use Rattle.energy_program.specs.declared.programs.Program.{Program}
use Rattle.potential.specs.Energies.{Energy}
use Rattle.potential.specs.declared.slope_parts.Slope.{Slope}
use Rattle.potential.specs.declared.slope_parts.SlopeParts.{SlopeParts}

-- an energy and the code of its derivative, as one value of `Energy`
abbrev pub energy_view : {A : Type 0} → SlopeParts A → Energy
energy_view p = record { tree = program_tree p.energy; slope = trees_of p.slope; code = p.code }

-- an energy and its derivative, held apart, as one value of `Energy`
abbrev pub with_slope : {A : Type 0} → Program A → Slope A → Energy
with_slope energy s = record { tree = program_tree energy; slope = trees_of s.program; code = s.code }
