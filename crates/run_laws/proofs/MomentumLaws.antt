-- Bounds on the change of momentum by rounded displacements.
use Rattle.std.proofs.Common.{◌∙◌, ap, sym, List, [], ◌∷◌, get_or, ◌≡◌, ℕ, ◌*◌, ◌^◌, ◌<◌, ◌≤◌, length, ℤ, pos, ◌*ℤ◌, arith, refl, subst, filter_map, pow_pos}
use Rattle.std.specs.List.{All, AllZip}
use Rattle.std.proofs.lemmas.List.{get_or-map, length-map}
use Rattle.std.proofs.lemmas.List.Elements.{All-cons, All-nil}
use Rattle.std.proofs.lemmas.Int.{ints}
use Rattle.std.proofs.Math.Nat.{one-le-mul}
use Rattle.fixed.specs.Fractions.{bits_of}
use Rattle.fixed.specs.Rounding.{IsNearest}
use Rattle.fixed.specs.declared.frac.Frac.{Frac}
use Rattle.fixed.proofs.FloorLemmas.{nearest_is}
use Rattle.line_text.specs.Parts.{AreThree}
use Rattle.job.specs.JobLines.{LineSays, LineValue, said_type, says_type}
use Rattle.job.specs.Values.{TypeValue}
use Rattle.potential.specs.Tables.{no_type}
use Rattle.state.specs.StateText.{AtomView, IsSide}
use Rattle.integrator.specs.Displacement.{displacement_of}
use Rattle.integrator.specs.Forces.{pairs_of, sum_of_shares}
use Rattle.run_laws.specs.AtomSums.{over_atoms}
use Rattle.engine.specs.RunSpecification.{box_of, type_at}
use Rattle.run_laws.specs.Momentum.{AtomsKeepMomentum, BalancedKeepMomentum, NewtonsThirdLaw, StepsAreBalanced, StepsKeepMomentum, mass_at}
use Rattle.run_laws.proofs.SumLaws.{moved_within}
use Rattle.run_laws.proofs.ThirdLaw.{all_balanced}

-- the forces on all atoms sum to zero
pub third_law : NewtonsThirdLaw
third_law n force = record {
  x = all_balanced (λ f. f.x) refl (λ f g. refl) (λ f. refl) n force;
  y = all_balanced (λ f. f.y) refl (λ f g. refl) (λ f. refl) n force;
  z = all_balanced (λ f. f.z) refl (λ f g. refl) (λ f. refl) n force;
}

-- the forces on all atoms in a step sum to zero
pub steps_balanced : StepsAreBalanced
steps_balanced j tree sides types p c next follows = third_law (length c) follows.force

-- a displacement is the integer nearest to the exact displacement by the force
nearest : (frac : Frac) (F : ℤ) (dt m L : ℕ) → 0 < L → 0 < m → IsNearest (F *ℤ pos (dt * dt * 10000 * 2 ^ 32)) (pos (m * (L * 2 ^ bits_of frac))) (displacement_of frac F dt m L)
nearest frac F dt m L long heavy =
    let grouped : m * L * 2 ^ bits_of frac ≡ m * (L * 2 ^ bits_of frac) = omega arith in
    let some = one-le-mul (one-le-mul heavy long) (pow_pos (bits_of frac)) in
    subst (λ (d : ℕ). IsNearest (F *ℤ pos (dt * dt * 10000 * 2 ^ 32)) (pos d) (displacement_of frac F dt m L)) grouped
    (nearest_is (F *ℤ pos (dt * dt * 10000 * 2 ^ 32)) (pos (m * L * 2 ^ bits_of frac)) (displacement_of frac F dt m L) (omega (arith, ints, some)) refl)

-- if the forces sum to zero, the rounded displacements change the momentum by at most half the total mass
pub balanced_keep : BalancedKeepMomentum
balanced_keep frac dt L n mass force long heavy balanced =
    moved_within (dt * dt * 10000 * 2 ^ 32) (L * 2 ^ bits_of frac) mass force (λ a. displacement_of frac (force a) dt (mass a) L) n (one-le-mul long (pow_pos (bits_of frac)))
    (λ a l. nearest frac (force a) dt (mass a) L long (heavy a l)) balanced

-- a step changes the momentum by at most half the total mass
pub steps_keep : StepsKeepMomentum
steps_keep j tree sides types p c next follows long heavy =
    let b = third_law (length c) follows.force in
    let kept = λ (L : ℕ) (force : ℕ → ℤ) (l : 0 < L) (e : over_atoms (length c) force ≡ pos 0). balanced_keep j.frac j.time_step L (length c) (mass_at j types) force l heavy e in
    record {
      x = kept (box_of sides).x (λ a. (sum_of_shares follows.force (pairs_of (length c)) a).x) long.0 b.x;
      y = kept (box_of sides).y (λ a. (sum_of_shares follows.force (pairs_of (length c)) a).y) long.1 b.y;
      z = kept (box_of sides).z (λ a. (sum_of_shares follows.force (pairs_of (length c)) a).z) long.2 b.z;
    }

-- ---- of a job and a state

-- each type in the lines of a job has a mass of at least 1
said_masses : (frac : Frac) (lines : List (List ℕ)) (values : List LineValue) → AllZip (LineSays frac) lines values → All (λ (t : TypeValue). 1 ≤ t.mass) (filter_map said_type values)
said_masses frac [] [] h = All-nil (λ (t : TypeValue). 1 ≤ t.mass)
said_masses frac [] (v ∷ vs) h = absurd h
said_masses frac (line ∷ lines) [] h = absurd h
said_masses frac (line ∷ lines) (says_type t ∷ vs) h = All-cons (λ (t : TypeValue). 1 ≤ t.mass) t (filter_map said_type vs) h.0.some_mass (said_masses frac lines vs h.1)
said_masses frac (line ∷ lines) (_ ∷ vs) h = said_masses frac lines vs h.1

no_side_is_nothing : (sides : List ℕ) → AreThree IsSide sides → (0 < (box_of sides).x) × (0 < (box_of sides).y) × (0 < (box_of sides).z)
no_side_is_nothing [] h = absurd h
no_side_is_nothing (x ∷ []) h = absurd h
no_side_is_nothing (x ∷ y ∷ []) h = absurd h
no_side_is_nothing (x ∷ y ∷ z ∷ []) h = (h.0.0, h.1.0, h.2.0)
no_side_is_nothing (x ∷ y ∷ z ∷ w ∷ rest) h = absurd h

-- a step of a state's atoms under a job changes the momentum by at most half the total mass
pub atoms_keep : AtomsKeepMomentum
atoms_keep job state j tree s types p c next job_text state_text' typed count follows =
    let some : All (λ (t : TypeValue). 1 ≤ t.mass) j.types = subst (All (λ (t : TypeValue). 1 ≤ t.mass)) job_text.say.types (said_masses j.frac job_text.lines job_text.values job_text.each) in
    let size : length types ≡ length s.atoms = sym (length-map types (λ t. (type_at j t).name)) ∙ ap length typed.named ∙ length-map s.atoms (λ (a : AtomView). a.name) in
    steps_keep j tree s.sides types p c next follows (no_side_is_nothing s.sides state_text'.fits.sides) (λ a l.
    let below : a < length types = omega (arith, l, count, size) in
    let at = get_or-map (λ t. (type_at j t).mass) types a 0 0 below in
    let heavy = some (get_or types a 0) no_type (typed.known a 0 below) in
    omega (arith, at, heavy))
