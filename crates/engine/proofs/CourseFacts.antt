-- Data that a course keeps while its system stays the same.
use Rattle.std.proofs.Common.{◌≡◌, List, ℤ, Option, Some, None, refl, IfSome}
use Rattle.std.specs.Option.{ForSome}
use Rattle.integrator.specs.Frames.{Frame}
use Rattle.integrator.specs.declared.systems.System.{System}
use Rattle.potential.specs.declared.slope_kernels.SlopeKernel.{SlopeKernel}
use Rattle.frame_sums.specs.Rounds.{AreForces}

-- forces that are found are those that are known
pub now_known : {A : Type 0} (y z : System (SlopeKernel A) A) (f : Frame) (forces : List ℤ) → z ≡ y → AreForces y f forces → ForSome (Some forces) (AreForces z f)
now_known y z f forces same are x is = let here : x ≡ forces = cc in rw (same, here) are

pub if_known : {X : Type 0} (o : Option X) (P : X → Type 0) → ForSome o P → IfSome o P
if_known None P h = tt
if_known (Some x) P h = h x refl
