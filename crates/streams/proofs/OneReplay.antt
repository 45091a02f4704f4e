-- A stream has at most one replay with a plan.
use Rattle.std.proofs.Common.{◌≡◌, ℕ, ℤ, pos, ◌+ℤ◌, ◌-ℤ◌, suc, List, [], ◌++◌, Bool, Option, Some, is_some, ap, append_assoc, arith, refl, subst, sym, ◌∙◌}
use Rattle.std.proofs.lemmas.Int.{ints}
use Rattle.std.proofs.lemmas.Option.{same_Some}
use Rattle.engine.proofs.SpecifiedSteps.{led_to}
use Rattle.engine.proofs.SpecifiedTexts.{moved_again, one_job, one_state, only_types, says_energy}
use Rattle.engine.specs.Engines.{AreSafe}
use Rattle.engine.specs.RunSpecification.{IsLevesqueVerletRun, IsTextOf}
use Rattle.integrator.proofs.CounterLaws.{counter_is, counter_stays}
use Rattle.integrator.proofs.ReturnLaws.{SystemParts, system_parts}
use Rattle.integrator.proofs.StateLaws.{at_home}
use Rattle.integrator.specs.Frames.{Frames, steps_in}
use Rattle.integrator.specs.Starts.{as_written}
use Rattle.integrator.specs.States.{counter_after, counter_at, frames_of, moved_state}
use Rattle.integrator.specs.declared.direction.Direction.{Direction}
use Rattle.integrator.specs.declared.direction.Direction.TheVariants.{Forward, Back}
use Rattle.job.specs.Values.{JobValue}
use Rattle.potential.specs.Energies.{Energy}
use Rattle.state.specs.StateText.{AtomView, StateView, state_text}
use Rattle.streams.specs.OneRun.{LinesAreOne, ReplaysAreOne, StatesAreOne}
use Rattle.streams.specs.Plans.{IsReplayed, ReplayPlanView}
use Rattle.streams.specs.Replays.{AreReplayed, IsLineOf, IsVerdict, IsWritten, and_one, begins, goes_on, passed, replayed, segment_line}
use Rattle.streams.specs.declared.differences.Difference.{Difference}
use Rattle.streams.proofs.OneDifference.{one_verdict}
use Rattle.streams.proofs.SplitLaws.{last_safe, one_first, one_split, same_states}

-- ---- runs from a safe state

module _ (job state : List ℕ) (safe : AreSafe job state) where
  abbrev pub j : JobValue
  j = safe.j

  abbrev pub s : StateView
  s = safe.s

  abbrev pub system : Energy × List ℕ
  system = safe.it.system

  pub parts : SystemParts j s system
  parts = system_parts j s system safe.it.made

  -- the frames that steps lead to
  abbrev pub Frames_after : Direction → ℕ → Frames → Type 0
  Frames_after w n f = steps_in w (as_written j s.sides system.0.tree system.1) n (frames_of s) ≡ Some f

  -- a run's state is made of frames and a counter that its start determines
  pub led : (w : Direction) (n : ℕ) (text : List ℕ) (r : IsLevesqueVerletRun job state w n text)
      → Frames_after w n (frames_of r.after) × (r.after.step ≡ counter_at w s.step n)
      × (r.after ≡ moved_state s (frames_of r.after) r.after.step)
  led w n text r =
      let same_job : r.j ≡ j = one_job job r.j j r.job_text safe.job_text in
      let same_state : r.before ≡ s = one_state state r.before s r.state_text' safe.state_text' in
      let same_tree : r.tree ≡ system.0.tree =
      (says_energy j system.0 parts.energy_read).only r.tree (rw same_job at r.energy) in
      let typed = rw (same_job, same_state) at r.typed in
      let same_types : r.types ≡ system.1 =
      only_types j 1 s.atoms system.1 r.types safe.job_text.say.apart.types parts.typed typed in
      let leads = rw (same_job, same_tree, same_types, same_state) at r.leads in
      let l = led_to w j system.0.tree system.1 n s r.after leads in
      (l.0, l.1, moved_again s r.after (rw same_state at r.same) (rw same_state at r.kept))

  -- the same steps lead to one text
  one_text : (w : Direction) (n : ℕ) (a b : List ℕ) → IsLevesqueVerletRun job state w n a → IsLevesqueVerletRun job state w n b
      → a ≡ b
  one_text w n a b r q =
      let l = led w n a r in
      let k = led w n b q in
      let frames' : frames_of r.after ≡ frames_of q.after = same_Some (frames_of r.after) (frames_of q.after) (sym l.0 ∙ k.0) in
      let step : r.after.step ≡ q.after.step = l.1 ∙ sym k.1 in
      r.after_text.is
      ∙ ap state_text (l.2 ∙ ap (λ (f : Frames). moved_state s f r.after.step) frames'
      ∙ ap (λ (z : ℤ). moved_state s (frames_of q.after) z) step ∙ sym k.2)
      ∙ sym q.after_text.is

  -- no steps lead to the start
  stays : (w : Direction) (text : List ℕ) → IsLevesqueVerletRun job state w 0 text → text ≡ state
  unfolding steps_in
  stays w text r =
      let l = led w 0 text r in
      let frames' : frames_of s ≡ frames_of r.after = same_Some (frames_of s) (frames_of r.after) l.0 in
      let step : r.after.step ≡ s.step = l.1 ∙ counter_stays w s.step in
      r.after_text.is
      ∙ ap state_text (l.2 ∙ ap (λ (f : Frames). moved_state s f r.after.step) (sym frames')
      ∙ ap (λ (z : ℤ). moved_state s (frames_of s) z) step
      ∙ ap (λ (atoms : List AtomView). record s { atoms = atoms }) (at_home s.atoms))
      ∙ sym safe.state_text'.is

  no_steps : (w : Direction) (n : ℕ) (text : List ℕ) → n ≡ 0 → IsLevesqueVerletRun job state w n text → text ≡ state
  no_steps w n text none r = stays w text (subst (λ (k : ℕ). IsLevesqueVerletRun job state w k text) none r)

  -- runs that change the counter alike lead to one text, whatever their directions
  one_reached : (v w : Direction) (n m : ℕ) (a b : List ℕ) (to : ℤ) → counter_after v s.step n ≡ Some to
      → counter_after w s.step m ≡ Some to → IsLevesqueVerletRun job state v n a → IsLevesqueVerletRun job state w m b → a ≡ b
  one_reached Forward Forward n m a b to p q r t =
      let e : to ≡ s.step +ℤ pos n = (counter_is Forward s.step to n p).0 in
      let f : to ≡ s.step +ℤ pos m = (counter_is Forward s.step to m q).0 in
      let same : m ≡ n = omega (arith, ints, e, f) in
      one_text Forward n a b r (subst (λ (k : ℕ). IsLevesqueVerletRun job state Forward k b) same t)
  one_reached Back Back n m a b to p q r t =
      let e : to ≡ s.step -ℤ pos n = (counter_is Back s.step to n p).0 in
      let f : to ≡ s.step -ℤ pos m = (counter_is Back s.step to m q).0 in
      let same : m ≡ n = omega (arith, ints, e, f) in
      one_text Back n a b r (subst (λ (k : ℕ). IsLevesqueVerletRun job state Back k b) same t)
  one_reached Forward Back n m a b to p q r t =
      let e : to ≡ s.step +ℤ pos n = (counter_is Forward s.step to n p).0 in
      let f : to ≡ s.step -ℤ pos m = (counter_is Back s.step to m q).0 in
      no_steps Forward n a (omega (arith, ints, e, f)) r ∙ sym (no_steps Back m b (omega (arith, ints, e, f)) t)
  one_reached Back Forward n m a b to p q r t =
      let e : to ≡ s.step -ℤ pos n = (counter_is Back s.step to n p).0 in
      let f : to ≡ s.step +ℤ pos m = (counter_is Forward s.step to m q).0 in
      no_steps Back n a (omega (arith, ints, e, f)) r ∙ sym (no_steps Forward m b (omega (arith, ints, e, f)) t)

-- ---- lines

module _ (job before after : List ℕ) (safe : AreSafe job before) where
  -- a segment has one verdict and one line
  one_line : (d e : Option Difference) (l m : List ℕ) → IsLineOf job before after d l → IsLineOf job before after e m
      → (d ≡ e) × (l ≡ m)
  one_line d e l m p q =
      let first : p.s ≡ safe.s = one_state before p.s safe.s p.first safe.state_text' in
      let first' : q.s ≡ safe.s = one_state before q.s safe.s q.first safe.state_text' in
      let second : q.t ≡ p.t = one_state after q.t p.t q.second p.second in
      let to : counter_after p.direction safe.s.step p.steps ≡ Some p.t.step =
      subst (λ (x : StateView). counter_after p.direction x.step p.steps ≡ Some p.t.step) first p.counted in
      let to' : counter_after q.direction safe.s.step q.steps ≡ Some p.t.step =
      subst (λ (x : StateView). counter_after q.direction x.step q.steps ≡ Some p.t.step) first'
      (subst (λ (y : StateView). counter_after q.direction q.s.step q.steps ≡ Some y.step) second q.counted) in
      let text : q.text ≡ p.text =
      one_reached job before safe q.direction p.direction q.steps p.steps q.text p.text p.t.step to' to q.is_run p.is_run in
      let run : q.run ≡ p.run = one_state p.text q.run p.run (subst (λ (x : List ℕ). IsTextOf x q.run) text q.run_text) p.run_text in
      let verdict : IsVerdict p.run p.t e =
      subst (λ (x : StateView). IsVerdict x p.t e) run (subst (λ (y : StateView). IsVerdict q.run y e) second q.verdict) in
      let same : d ≡ e = one_verdict p.run p.t d e p.verdict verdict in (
        same,
        p.line' ∙ ap (λ (x : StateView). segment_line x.step p.t.step d) (first ∙ sym first')
            ∙ ap (λ (y : StateView). segment_line q.s.step y.step d) (sym second)
            ∙ ap (λ (x : Option Difference). segment_line q.s.step q.t.step x) same ∙ sym q.line',
      )

  -- and one text
  one_written : (plan : ReplayPlanView) (number : ℕ) (b c : Bool) (l m : List ℕ) → IsWritten plan job number before after b l
      → IsWritten plan job number before after c m → (b ≡ c) × (l ≡ m)
  one_written plan number b c l m (passed g) (passed h) = (refl, refl)
  one_written plan number b c l m (passed g) (replayed e k h q) =
      let first : h.s ≡ g.s = one_state before h.s g.s h.first g.first in
      let second : h.t ≡ g.t = one_state after h.t g.t h.second g.second in
      absurd (g.holds (subst (λ (x : StateView). IsReplayed plan number x.step g.t.step) first
      (subst (λ (y : StateView). IsReplayed plan number h.s.step y.step) second h.holds)))
  one_written plan number b c l m (replayed e k h q) (passed g) =
      let first : h.s ≡ g.s = one_state before h.s g.s h.first g.first in
      let second : h.t ≡ g.t = one_state after h.t g.t h.second g.second in
      absurd (g.holds (subst (λ (x : StateView). IsReplayed plan number x.step g.t.step) first
      (subst (λ (y : StateView). IsReplayed plan number h.s.step y.step) second h.holds)))
  one_written plan number b c l m (replayed d i g p) (replayed e k h q) =
      let same = one_line d e i k p q in (ap (λ (x : Option Difference). is_some x) same.0, same.1)

-- ---- replays

module _ (plan : ReplayPlanView) (job : List ℕ) where
  one_replay : (count count' d d' : ℕ) (front front' last last' text text' rest rest' : List ℕ)
      → AreReplayed plan job count d front last text → AreReplayed plan job count' d' front' last' text'
      → count ≡ count' → front ++ rest ≡ front' ++ rest' → (d ≡ d') × (text ≡ text')
  one_replay count count' d d' front front' last last' text text' rest rest' (begins state safe) (begins state' safe') same split = (refl, refl)
  one_replay count count' d d' front front' last last' text text' rest rest' (begins state safe)
      (goes_on number e earlier before told after line b are safe' w) same split = absurd (omega (arith, same))
  one_replay count count' d d' front front' last last' text text' rest rest'
      (goes_on number e earlier before told after line b are safe w) (begins state safe') same split = absurd (omega (arith, same))
  one_replay count count' d d' front front' last last' text text' rest rest'
      (goes_on number e earlier before told after line b are safe w)
      (goes_on number' e' earlier' before' told' after' line' b' are' safe' w') same split =
      let numbers : number' ≡ number = omega (arith, same) in
      let counts : suc number ≡ suc number' = omega (arith, same) in
      let split' : earlier ++ (after ++ rest) ≡ earlier' ++ (after' ++ rest') =
      sym (append_assoc earlier after rest) ∙ split ∙ append_assoc earlier' after' rest' in
      let states = same_states plan plan job (suc number) (suc number') e e' earlier earlier' before before' told told'
      (after ++ rest) (after' ++ rest') are are' counts split' in
      let one = one_first after after' rest rest' safe.s safe'.s safe.state_text' safe'.state_text' states.2 in
      let first = one_replay (suc number) (suc number') e e' earlier earlier' before before' told told' (after ++ rest)
      (after' ++ rest') are are' counts split' in
      let last_written : IsWritten plan job number before after b' line' =
      subst (λ (n : ℕ). IsWritten plan job n before after b' line') numbers
      (subst (λ (x : List ℕ). IsWritten plan job number' x after b' line') (sym states.1)
      (subst (λ (y : List ℕ). IsWritten plan job number' before' y b' line') (sym one.0) w')) in
      let written = one_written job before after (last_safe plan job (suc number) e earlier before told are) plan number b b' line line' w last_written in (
        ap (λ (n : ℕ). and_one b n) first.0 ∙ ap (λ (x : Bool). and_one x e') written.0,
        ap (λ (x : List ℕ). x ++ line) first.1 ∙ ap (λ (x : List ℕ). told' ++ x) written.1,
      )

pub states_are_one : StatesAreOne
states_are_one plan other job count count' differing differing' stream last last' text text' one two =
    one_split plan other job count count' differing differing' stream last last' text text' one two

pub lines_are_one : LinesAreOne
lines_are_one job before after d e l m safe p q = one_line job before after safe d e l m p q

pub replays_are_one : ReplaysAreOne
replays_are_one plan job count count' differing differing' stream last last' text text' one two =
    let states = one_split plan plan job count count' differing differing' stream last last' text text' one two in
    one_replay plan job count count' differing differing' stream stream last last' text text' [] [] one two states.0 refl
