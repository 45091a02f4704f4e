-- Streams of one run: replays of all parts that find no difference, and replays of a stream of one run.
use Rattle.std.proofs.Common.{◌≡◌, ◌<◌, ◌≤◌, ◌-◌, ◌^◌, ◌%◌, ◌≤ℤ◌, ◌⊎◌, ℕ, ℤ, suc, pos, List, [], ◌++◌, Bool, true, false, Some, None, arith, ap, append_assoc, append-nil, inl, inr, refl, sym, subst, ◌∙◌, neg_ℤ}
use Rattle.std.specs.Int.Signed.{le_z}
use Rattle.std.specs.Prelude.{T}
use Rattle.std.proofs.lemmas.Bool.{cases_Bool, cases_eq}
use Rattle.std.proofs.lemmas.Int.{ints}
use Rattle.std.proofs.lemmas.Nat.{mod_below}
use Rattle.engine.proofs.SpecifiedRuns.{run_counted}
use Rattle.engine.specs.RunSpecification.{IsLevesqueVerletRun, IsTextOf}
use Rattle.integrator.specs.declared.direction.Direction.{Direction}
use Rattle.state.specs.StateText.{StateView, state_text}
use Rattle.streams.specs.OneRun.{DifferingAreNoRun, IsOneRun, OneRunsAreReplayed, SameStreamsAreOneRun, part_of_all, goes_on, starts}
use Rattle.streams.specs.Plans.{IsReplayed, ReplayPlanView}
use Rattle.streams.specs.Replays.{AreReplayed, IsWritten, and_one, begins, passed, replayed, segment_line}
use Rattle.streams.specs.Replays as replays
use Rattle.streams.specs.Streams.{AreAccepted}
use Rattle.streams.proofs.OneReplay.{replays_are_one}
use Rattle.streams.proofs.SplitLaws.{next_accepted, one_split, replayed_accepted, same_states}
use lib.Signed.{mag}

-- ---- parts of all segments

-- a counter of 64 bits is within the range of all
within_all : (z : ℤ) → mag z < 2 ^ 63 → (neg_ℤ (pos (2 ^ 63)) ≤ℤ z) × (z ≤ℤ pos (2 ^ 63 - 1))
within_all z fits = (omega (arith, ints), omega (arith, ints))

-- a segment is of the part with its number
of_its_part : (number parts : ℕ) (s t : StateView) → mag s.step < 2 ^ 63 → mag t.step < 2 ^ 63
    → IsReplayed (part_of_all (suc (number % parts)) parts) number s.step t.step
of_its_part number parts s t first second = record {
  part = omega arith;
  from_in_range = within_all s.step first;
  to_in_range = within_all t.step second;
}

-- a text goes on with the run of the text before it
record GoesOn (job before after : List ℕ) : Type 0 where
  direction : Direction
  steps : ℕ
  is : IsLevesqueVerletRun job before direction steps after

same_goes_on : (job : List ℕ) (number parts : ℕ) (before after : List ℕ) (b : Bool) (line : List ℕ) → b ≡ false
    → IsWritten (part_of_all (suc (number % parts)) parts) job number before after b line → GoesOn job before after
same_goes_on job number parts before after b line same (passed h) =
    absurd (h.holds (of_its_part number parts h.s h.t h.first.fits.step h.second.fits.step))
same_goes_on job number parts before after b line same (replayed None l counters is) = record {
  direction = is.direction;
  steps = is.steps;
  is = subst (IsLevesqueVerletRun job before is.direction is.steps) (is.run_text.is ∙ ap state_text is.verdict ∙ sym is.second.is) is.is_run;
}
same_goes_on job number parts before after b line same (replayed (Some d) l counters is) = absurd (cc same)

none_more : (b : Bool) (n : ℕ) → and_one b n ≡ 0 → (b ≡ false) × (n ≡ 0)
none_more true n none = absurd (cc none)
none_more false n none = (refl, none)

-- the first `count` states, none of which differs
record HaveSame (plan : ReplayPlanView) (job : List ℕ) (count : ℕ) (front last : List ℕ) : Type 0 where
  differing : ℕ
  none : differing ≡ 0
  text : List ℕ
  are : AreReplayed plan job count differing front last text

-- the segment behind these states doesn't differ either
record HaveNext (plan : ReplayPlanView) (job : List ℕ) (number : ℕ) (front before after : List ℕ) : Type 0 where
  earlier : HaveSame plan job (suc number) front before
  differs : Bool
  same : differs ≡ false
  line : List ℕ
  written : IsWritten plan job number before after differs line

-- If a replay of one more state finds no difference, it found none before.
module _ (plan other : ReplayPlanView) (job : List ℕ) (number d : ℕ) (front before text after : List ℕ) (t : StateView)
    (is : IsTextOf after t) (are : AreReplayed plan job (suc number) d front before text) where
  goes_back : (count e : ℕ) (stream last told : List ℕ) → count ≡ suc (suc number) → stream ≡ front ++ after → e ≡ 0
      → AreReplayed other job count e stream last told → HaveNext other job number front before after
  goes_back count e stream last told counts split none (begins state safe) = absurd (omega (arith, counts))
  goes_back count e stream last told counts split none (replays.goes_on number' e' front' before' told' after' line b are' safe w) =
      let numbers : number' ≡ number = omega (arith, counts) in
      let states = same_states other plan job (suc number') (suc number) e' d front' front before' before told' text after' after are' are
      (omega (arith, counts)) split in
      let n = none_more b e' none in
      record {
        earlier = record {
          differing = e';
          none = n.1;
          text = told';
          are = subst (λ (k : ℕ). AreReplayed other job (suc k) e' front before told') numbers
              (subst (λ (x : List ℕ). AreReplayed other job (suc number') e' x before told') states.0
              (subst (λ (x : List ℕ). AreReplayed other job (suc number') e' front' x told') states.1 are'));
        };
        differs = b;
        same = n.0;
        line = line;
        written = subst (λ (k : ℕ). IsWritten other job k before after b line) numbers
            (subst (λ (x : List ℕ). IsWritten other job number' x after b line) states.1
            (subst (λ (y : List ℕ). IsWritten other job number' before' y b line) states.2 w));
      }

module _ (parts : ℕ) (some : 0 < parts) (job : List ℕ) where
  -- no part of these states differs
  abbrev AllSame : (count : ℕ) → (front last : List ℕ) → Type 0
  AllSame count front last =
      (part : ℕ) → 0 < part → part ≤ parts → HaveSame (part_of_all part parts) job count front last

  one_run : (plan : ReplayPlanView) (count d : ℕ) (front last text : List ℕ) → AreReplayed plan job count d front last text
      → AllSame count front last → IsOneRun job front last
  one_run plan count d front last text (begins state safe) same = starts state safe.s safe.state_text'
  one_run plan count d front last text (replays.goes_on number e earlier before told after line b are safe w) same =
      let back : (part : ℕ) → 0 < part → part ≤ parts → HaveNext (part_of_all part parts) job number earlier before after =
      λ part first within.
      let h = same part first within in
      goes_back plan (part_of_all part parts) job number e earlier before told after safe.s safe.state_text' are (suc (suc number)) h.differing
      (earlier ++ after) after h.text refl refl h.none h.are in
      let below = mod_below number parts some in
      let of_part = back (suc (number % parts)) (omega arith) (omega (arith, below)) in
      let next = same_goes_on job number parts before after of_part.differs of_part.line of_part.same of_part.written in
      goes_on earlier before after next.direction next.steps
      (one_run plan (suc number) e earlier before told are (λ part first within. (back part first within).earlier)) next.is

pub same_streams_are_one_run : SameStreamsAreOneRun
same_streams_are_one_run parts job stream last some all =
    let one = all 1 (omega arith) (omega (arith, some)) in
    one_run parts some job (part_of_all 1 parts) one.0 0 stream last one.1 one.2 (λ part first within.
    let h = all part first within in
    let count = (one_split (part_of_all part parts) (part_of_all 1 parts) job h.0 one.0 0 0 stream last last h.1 one.1 h.2 one.2).0 in
    record {
      differing = 0;
      none = refl;
      text = h.1;
      are = subst (λ (n : ℕ). AreReplayed (part_of_all part parts) job n 0 stream last h.1) count h.2;
    })

-- ---- which segments are replayed

both : {P Q : Type 0} → P ⊎ (P → ⊥) → Q ⊎ (Q → ⊥) → (P × Q) ⊎ (P × Q → ⊥)
both (inl p) (inl q) = inl (p, q)
both (inl p) (inr other) = inr (λ h. other h.1)
both (inr other) q = inr (λ h. other h.0)

in_order : (a b : ℤ) → (a ≤ℤ b) ⊎ (a ≤ℤ b → ⊥)
in_order a b = by_test (cases_Bool (le_z a b))
  where
    by_test : (le_z a b ≡ true) ⊎ (le_z a b ≡ false) → (a ≤ℤ b) ⊎ (a ≤ℤ b → ⊥)
    by_test (inl is) = inl (record { le = subst T (sym is) tt })
    by_test (inr other) = inr (λ h. subst T other h.le)

module _ (plan : ReplayPlanView) (number : ℕ) (from to : ℤ) where
  -- what makes a segment one that is to be replayed
  abbrev All : Type 0
  All = (number % plan.parts ≡ plan.part - 1)
      × (((plan.from ≤ℤ from) × (from ≤ℤ plan.to)) × ((plan.from ≤ℤ to) × (to ≤ℤ plan.to)))

  of_all : All ⊎ (All → ⊥) → IsReplayed plan number from to ⊎ (IsReplayed plan number from to → ⊥)
  of_all (inl h) = inl (record { part = h.0; from_in_range = h.1.0; to_in_range = h.1.1 })
  of_all (inr other) = inr (λ h. other (h.part, (h.from_in_range, h.to_in_range)))

  -- a segment is to be replayed, or not
  is_replayed : IsReplayed plan number from to ⊎ (IsReplayed plan number from to → ⊥)
  is_replayed =
      of_all (both (cases_eq (number % plan.parts) (plan.part - 1))
      (both (both (in_order plan.from from) (in_order from plan.to)) (both (in_order plan.from to) (in_order to plan.to))))

-- ---- replays of a stream of one run

module _ (plan : ReplayPlanView) (job : List ℕ) where
  -- a segment of a run is the same, if it is replayed
  same_written : (number : ℕ) (before after : List ℕ) (direction : Direction) (steps : ℕ)
      → (r : IsLevesqueVerletRun job before direction steps after)
      → IsReplayed plan number r.before.step r.after.step ⊎ (IsReplayed plan number r.before.step r.after.step → ⊥)
      → (line : List ℕ) × IsWritten plan job number before after false line
  same_written number before after direction steps r (inl is) = (
    segment_line r.before.step r.after.step None,
    replayed None _ (record { s = r.before; t = r.after; first = r.state_text'; second = r.after_text; holds = is }) (record {
      s = r.before;
      t = r.after;
      first = r.state_text';
      second = r.after_text;
      direction = direction;
      steps = steps;
      counted = run_counted job before direction steps after r;
      run = r.after;
      text = after;
      run_text = r.after_text;
      is_run = r;
      verdict = refl;
      line' = refl;
    }),
  )
  same_written number before after direction steps r (inr other) =
      ([], passed (record { s = r.before; t = r.after; first = r.state_text'; second = r.after_text; holds = other }))

  -- the first states of accepted ones, if they are of one run
  record Replayed (m : ℕ) (front last rest : List ℕ) : Type 0 where
    number : ℕ
    text : List ℕ
    are : AreReplayed plan job (suc number) 0 front last text
    left : ℕ
    more : AreAccepted job left rest

  replayed_run : (front last : List ℕ) → IsOneRun job front last → (m : ℕ) (rest : List ℕ) → AreAccepted job m (front ++ rest)
      → Replayed m front last rest
  replayed_run front last (starts state s is) m rest accepted =
      let next = next_accepted job m state rest s is accepted in
      record { number = 0; text = []; are = begins state next.2; left = next.0; more = next.3 }
  replayed_run front last (goes_on earlier before after direction steps one run) m rest accepted =
      let first = replayed_run earlier before one m (after ++ rest)
      (subst (AreAccepted job m) (append_assoc earlier after rest) accepted) in
      let next = next_accepted job first.left after rest run.after run.after_text first.more in
      let w = same_written first.number before after direction steps run (is_replayed plan first.number run.before.step run.after.step) in
      record {
        number = suc first.number;
        text = first.text ++ w.0;
        are = replays.goes_on first.number 0 earlier before first.text after w.0 false first.are next.2 w.1;
        left = next.0;
        more = next.3;
      }

pub one_runs_are_replayed : OneRunsAreReplayed
one_runs_are_replayed plan job count stream last one accepted =
    let r = replayed_run plan job stream last one count [] (subst (AreAccepted job count) (sym (append-nil stream)) accepted) in
    (suc r.number, r.text, r.are)

pub differing_are_no_run : DifferingAreNoRun
differing_are_no_run plan job count differing stream last text other are some one =
    let accepted = replayed_accepted plan job count differing stream last text are in
    let r = one_runs_are_replayed plan job count stream other one accepted in
    let none = (replays_are_one plan job count r.0 differing 0 stream last other text r.1 are r.2).0 in
    omega (arith, some, none)
