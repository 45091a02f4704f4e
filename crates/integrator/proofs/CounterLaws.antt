-- A state's counter after some steps.
use Rattle.std.proofs.Common.{◌≡◌, ℕ, Bool, true, false, ℤ, Option, Some, None, arith, refl, sym, is_none, if◌then◌else◌, true≢false}
use Rattle.std.proofs.lemmas.Int.{ints}
use Rattle.std.proofs.lemmas.Option.{same_Some}
use Rattle.fixed.specs.Arithmetic.{in_range}
use Rattle.integrator.specs.Frames.{opposite}
use Rattle.integrator.specs.States.{counter_after, counter_at}
use Rattle.integrator.specs.declared.direction.Direction.{Direction}
use Rattle.integrator.specs.declared.direction.Direction.TheVariants.{Forward, Back}
use Rattle.line_text.proofs.StepLaws.{none_is_no_some}

-- after 0 steps the counter is the counter of the start
pub counter_stays : (w : Direction) (step : ℤ) → counter_at w step 0 ≡ step
counter_stays Forward step = omega (arith, ints)
counter_stays Back step = omega (arith, ints)

some_counter : (fits : Bool) (z k : ℤ) → in_range z ≡ fits → ◌≡◌ {A = Option ℤ} (if fits then Some z else None) (Some k) → (k ≡ z) × (in_range k ≡ true)
some_counter true z k h e = let same : z ≡ k = same_Some z k e in (sym same, rw (← same) h)
some_counter false z k h e = absurd (none_is_no_some k e)

-- a counter reached after n steps is n away from the start's counter, and in range
pub counter_is : (w : Direction) (step k : ℤ) (n : ℕ) → counter_after w step n ≡ Some k → (k ≡ counter_at w step n) × (in_range k ≡ true)
counter_is w step k n e = some_counter (in_range (counter_at w step n)) (counter_at w step n) k refl e

some_fits : (fits : Bool) (z : ℤ) → is_none (if fits then Some z else None) ≡ false → fits ≡ true
some_fits true z h = refl
some_fits false z h = absurd (true≢false h)

-- if there is a counter after n steps, the counter is in range
pub counter_fits : (w : Direction) (step : ℤ) (n : ℕ) → is_none (counter_after w step n) ≡ false → in_range (counter_at w step n) ≡ true
counter_fits w step n h = some_fits (in_range (counter_at w step n)) (counter_at w step n) h

-- the counter of the start is n steps in the opposite direction from the counter of the end
pub counter_back : (w : Direction) (step k : ℤ) (n : ℕ) → k ≡ counter_at w step n → step ≡ counter_at (opposite w) k n
counter_back Forward step k n e = rw e (omega (arith, ints))
counter_back Back step k n e = rw e (omega (arith, ints))
