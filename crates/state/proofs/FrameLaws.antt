-- Atoms at rest in a box fit the columns of a GRO file.
use Rattle.std.proofs.Common.{ℤ, List, [], ◌∷◌, arith}
use Rattle.std.specs.List.{AllByRecursion}
use Rattle.std.proofs.lemmas.Int.{ints}
use Rattle.line_text.specs.Parts.{AreThree}
use Rattle.gro.specs.Frames as gro
use Rattle.gro.specs.GroWriting.{FitsAtom, FitsColumns, FitsPosition, FitsSide}
use Rattle.state.specs.StateFrames.{IsAtomAtRest, IsFrameAtRest, IsInBox, IsSide}

three_fit : (P Q : ℤ → Type 0) → ((z : ℤ) → P z → Q z) → (zs : List ℤ) → AreThree P zs → AreThree Q zs
three_fit P Q f (x ∷ y ∷ z ∷ []) h = (f x h.0, f y h.1, f z h.2)
three_fit P Q f _ h = absurd h

position_fits : (z : ℤ) → IsInBox z → FitsPosition z
position_fits z h = let low = h.0 in let high = h.1 in (omega (arith, ints), omega (arith, ints))

side_fits : (z : ℤ) → IsSide z → FitsSide z
side_fits z h = let low = h.0 in let high = h.1 in (omega (arith, ints), omega (arith, ints))

atoms_fit : (atoms : List gro.AtomView) → AllByRecursion IsAtomAtRest atoms → AllByRecursion FitsAtom atoms
atoms_fit [] h = tt
atoms_fit (a ∷ atoms) h =
    let first : FitsAtom a = record { at = three_fit IsInBox FitsPosition position_fits a.at h.0.at; velocity = h.0.velocity } in
    (first, atoms_fit atoms h.1)

-- the numbers of a frame at rest in a box fit their columns
pub frame_fits : (f : gro.FrameView) → IsFrameAtRest f → FitsColumns f
frame_fits f h = record { atoms = atoms_fit f.atoms h.atoms; sides = three_fit IsSide FitsSide side_fits f.sides h.sides }
