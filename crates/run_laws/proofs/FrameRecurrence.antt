-- Steps of frames: a backward step is a forward step with the two frames exchanged. If any two frames of n atoms have a
-- next frame, any two recur.
use Rattle.std.proofs.Common.{◌≡◌, ℕ, zero, suc, ◌+◌, ◌-◌, ◌*◌, ◌^◌, ◌<◌, ◌≤◌, length, Some, arith, refl, ap, sym, ◌∙◌}
use Rattle.std.specs.Option.{option_and_then}
use Rattle.std.proofs.lemmas.Option.{same_Some}
use Rattle.integrator.specs.Frames.{AreOfSameAtoms, Dynamics, Frames, exchanged, frames, steps_in}
use Rattle.integrator.specs.declared.direction.Direction.TheVariants.{Forward}
use Rattle.integrator.proofs.MotionLaws.{forward_from_back, returned}
use Rattle.run_laws.proofs.FrameNumbers.{pair_apart, pair_below, pair_number}
use Rattle.run_laws.proofs.Pigeonhole.{two_meet}
use Rattle.engine.proofs.AdvanceLaws.{steps_added}

module _ (d : Dynamics) where
  -- n steps are one-to-one: if they lead from two starts to the same frames, the starts are equal
  pub one_start : (n : ℕ) (f f' g : Frames) → AreOfSameAtoms f → AreOfSameAtoms f' → steps_in Forward d n f ≡ Some g → steps_in Forward d n f' ≡ Some g → f ≡ f'
  one_start n f f' g h h' e e' = same_Some f f' (sym (returned Forward d n f g h e).back ∙ (returned Forward d n f' g h' e').back)

  -- if n steps lead from f to g, n steps lead from g with its frames exchanged to f with its frames exchanged
  pub reversed : (n : ℕ) (f g : Frames) → AreOfSameAtoms f → steps_in Forward d n f ≡ Some g → steps_in Forward d n (exchanged g) ≡ Some (exchanged f)
  reversed n f g h e = forward_from_back d n g f (returned Forward d n f g h e).back

-- ---- recurrence

-- some steps lead frames to themselves
pub record Round (d : Dynamics) (most : ℕ) (f : Frames) : Type 0 where
  pub steps : ℕ
  pub some : 0 < steps
  pub at_most : steps ≤ most
  pub back : steps_in Forward d steps f ≡ Some f

-- two frames of n atoms
pub record Stand (n : ℕ) : Type 0 where
  pub at : Frames
  pub are : AreOfSameAtoms at
  pub atoms : length at.current ≡ n

-- any two frames of n atoms have a next frame
abbrev pub LeadOn : Dynamics → ℕ → Type 0
LeadOn d n = (s : Stand n) → (g : Frames) × (steps_in Forward d 1 s.at ≡ Some g)

module _ (d : Dynamics) (n : ℕ) (on : LeadOn d n) where
  next : Stand n → Stand n
  next s =
      let g = on s in
      let r = returned Forward d 1 s.at g.0 s.are g.1 in
      record { at = g.0; are = r.frames'; atoms = sym r.frames'.alike ∙ r.atoms ∙ s.are.alike ∙ s.atoms }

  next_at : (s : Stand n) → steps_in Forward d 1 s.at ≡ Some (next s).at
  unfolding next
  next_at s = (on s).1

  -- the frames after k steps
  after : ℕ → Stand n → Stand n
  after zero s = s
  after (suc k) s = after k (next s)

  led : (k : ℕ) (s : Stand n) → steps_in Forward d k s.at ≡ Some (after k s).at
  unfolding after steps_in
  led zero s = refl
  led (suc k) s =
      let e : suc k ≡ 1 + k = omega arith in
      ap (λ i. steps_in Forward d i s.at) e ∙ steps_added Forward d 1 k s.at ∙ ap (option_and_then (steps_in Forward d k)) (next_at s) ∙ led k (next s)

  abbrev number : Stand n → ℕ
  number s = pair_number n s.at.previous s.at.current

  abbrev most : ℕ
  most = 2 ^ (96 * n) * 2 ^ (96 * n)

  below : (s : Stand n) → number s < most
  below s = pair_below n s.at.previous s.at.current (s.are.alike ∙ s.atoms) s.atoms s.are.previous s.are.current

  alike : (s t : Stand n) → number s ≡ number t → s.at ≡ t.at
  alike s t e =
      let p = pair_apart n s.at.previous s.at.current t.at.previous t.at.current (s.are.alike ∙ s.atoms) s.atoms (t.are.alike ∙ t.atoms) t.atoms s.are.previous s.are.current t.are.previous t.are.current e in
      ap (λ f. frames f s.at.current) p.0 ∙ ap (frames t.at.previous) p.1

  -- if the frames after i steps and after i + m steps are equal, the frames after m steps are the starting frames
  round : (s : Stand n) (i m : ℕ) → (after i s).at ≡ (after (m + i) s).at → steps_in Forward d m s.at ≡ Some s.at
  round s i m e =
      let on_from_m : steps_in Forward d i (after m s).at ≡ Some (after (m + i) s).at =
      sym (ap (option_and_then (steps_in Forward d i)) (led m s)) ∙ sym (steps_added Forward d m i s.at) ∙ led (m + i) s in
      let same : (after m s).at ≡ s.at =
      one_start d i (after m s).at s.at (after i s).at (after m s).are s.are (on_from_m ∙ ap Some (sym e)) (led i s) in
      led m s ∙ ap Some same

  -- two frames of n atoms recur within 2^(96 n) * 2^(96 n) steps
  pub comes_round : (s : Stand n) → Round d most s.at
  comes_round s =
      let met = two_meet most (λ k. number (after k s)) (λ k l. below (after k s)) in
      let apart = met.apart in
      let within = met.within in
      let m = met.last - met.first in
      let e : m + met.first ≡ met.last = omega (arith, apart) in
      record {
        steps = m;
        some = omega (arith, apart);
        at_most = omega (arith, within);
        back = round s met.first m (alike (after met.first s) (after met.last s) met.same ∙ ap (λ k. (after k s).at) (sym e));
      }
