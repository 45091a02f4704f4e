-- The forces that pairs add to the atoms of a system.
use Rattle.std.specs.Prelude.{◌*◌, ℤ, List, length, map}
use Rattle.rounds.specs.Totals.{AreSums}
use Rattle.rounds.specs.Tiles.{additions_of_all}
use Rattle.integrator.specs.declared.systems.System.{System}
use Rattle.potential.specs.declared.slope_kernels.SlopeKernel.{SlopeKernel}
use Rattle.ring_box.specs.declared.found_pairs.FoundPair.{FoundPair}
use Rattle.frame_sums.specs.Rows.{add_found}

-- each component of each atom has the sum of the forces of these pairs, modulo 2^64
abbrev pub AreForcesOfPairs : {A : Type 0} → System (SlopeKernel A) A → List FoundPair → List ℤ → Type 0
AreForcesOfPairs s pairs sums = AreSums (additions_of_all (map (add_found s) pairs)) (3 * length s.types.items) sums
