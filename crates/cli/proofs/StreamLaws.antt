-- Streams of states: if the page gives an output of a stream, none of its reasons to reject the stream holds.
use Rattle.std.proofs.Common.{◌≡◌, ◌≢◌, ◌⊎◌, ◌∙◌, ◌+◌, ◌≤◌, ◌-◌, ◌^◌, ℕ, zero, suc, List, [], ◌++◌, Some, None, ap, append-nil, append_assoc, arith, inl, inr, refl, subst, sym, Result, Ok, Err}
use Rattle.std.specs.Borrow.{Bor}
use Rattle.std.specs.Result.{result_map_both}
use Rattle.command_line.specs.declared.commands.EachOutput.{EachOutput}
use Rattle.engine.specs.Engines.{AreSafe, OfTexts}
use Rattle.engine.specs.declared.faults.InputFault.{InputFault}
use Rattle.fallible.specs.Out.{Appends, Output}
use Rattle.job.specs.Values.{JobValue}
use Rattle.runs.proofs.RunLaws.{nothing_written}
use Rattle.runs.specs.Visits.{Showing}
use Rattle.state.specs.Sources.{Left, StartsNoState}
use Rattle.state.specs.StateText.{StateView}
use Rattle.streams.proofs.SplitLaws.{next_accepted, one_first, replayed_accepted}
use Rattle.streams.specs.Plans.{ReplayPlanView}
use Rattle.streams.specs.Replays.{AreReplayed, begins, goes_on, replayed_by}
use Rattle.streams.specs.Streams.{AreAccepted, AreShown, Breaks, OfFirst, OfLeft, StreamOutput, WritesStates, WritesStream, shown_by}
use Rattle.streams.specs.declared.faults.StreamFault.{StreamFault}
use Rattle.cli.specs.Actions.{Held, IsHeld, Paths, also_requested, stream_action}
use Rattle.cli.specs.CommandFailure.{DoNotFit, HasNoSlopeFor, IsNoJob, IsNotOneRun, LackCode, RejectsNext}
use Rattle.cli.specs.Failures.{fault_of_stream}
use Rattle.cli.specs.Performed.{Performs}
use Rattle.cli.specs.StreamTexts.{HasStream, PrintsFirst, StreamPart, shows_of}
use Rattle.cli.specs.declared.faults.CommandFault.{CommandFault}
use Rattle.cli.proofs.AcceptLaws.{code_given, code_of_texts_given, engine_given}

-- ---- accepted states

-- the states behind the first of accepted states are accepted
rest_accepted : (job : List ℕ) (m count : ℕ) (bytes front rest : List ℕ) → AreAccepted job m bytes → bytes ≡ front ++ rest
    → AreAccepted job count front → (k : ℕ) × (m ≡ count + k) × AreAccepted job k rest
rest_accepted job m zero bytes front rest accepted split none =
    (m, omega arith, subst (AreAccepted job m) (split ∙ ap (λ x. x ++ rest) none) accepted)
rest_accepted job m (suc n) bytes front rest accepted split (state, more, same, safe, others) =
    let split' = split ∙ ap (λ x. x ++ rest) same ∙ append_assoc state more rest in
    let next = next_accepted job m state (more ++ rest) safe.s safe.state_text' (subst (AreAccepted job m) split' accepted) in
    let left = rest_accepted job next.0 n (more ++ rest) more rest next.3 refl others in
    (left.0, omega (arith, next.1, left.1), left.2)

-- an accepted state behind accepted states
one_more : (job : List ℕ) (n : ℕ) (front state : List ℕ) → AreAccepted job n front → AreSafe job state
    → AreAccepted job (suc n) (front ++ state)
one_more job zero front state none safe = (state, [], ap (λ x. x ++ state) none ∙ sym (append-nil state), safe, refl)
one_more job (suc n) front state (first, rest, same, safe', accepted) safe = (
  first,
  rest ++ state,
  ap (λ x. x ++ state) same ∙ append_assoc first rest state,
  safe',
  one_more job n rest state accepted safe,
)

-- a statement about the first state of these bytes is one about the first accepted state
alike : (job state rest more : List ℕ) (holds : JobValue → StateView → Type 0) (safe : AreSafe job state) → rest ≡ state ++ more
    → OfFirst rest (λ x. OfTexts job x holds) → OfTexts job state holds
alike job state rest more holds safe same (state', more', same', h) =
    let one = one_first state' state more' more h.s safe.s h.state_text' safe.state_text' (sym same' ∙ same) in
    subst (λ x. OfTexts job x holds) one.0 h

-- the first of accepted states isn't rejected
first_given : (job : List ℕ) (k i : ℕ) (rest : List ℕ) → k ≡ suc i → AreAccepted job k rest
    → IsNoJob job ⊎ StartsNoState rest ⊎ OfFirst rest (λ state. OfTexts job state DoNotFit) → ⊥
first_given job zero i rest some accepted why = absurd (omega (arith, some))
first_given job (suc k) i rest some (state, more, same, safe, accepted) (inl none) = none safe.j safe.job_text
first_given job (suc k) i rest some (state, more, same, safe, accepted) (inr (inl none)) =
    none safe.s more safe.state_text'.fits (same ∙ ap (λ x. x ++ more) safe.state_text'.is)
first_given job (suc k) i rest some (state, more, same, safe, accepted) (inr (inr misfit)) =
    engine_given job state safe (inr (inr (alike job state rest more DoNotFit safe same misfit)))

some_accepted : (job : List ℕ) (k : ℕ) (rest : List ℕ) → AreAccepted job k rest → rest ≢ [] → (i : ℕ) × (k ≡ suc i)
some_accepted job zero rest none some = absurd (some none)
some_accepted job (suc i) rest accepted some = (i, refl)

-- ---- outputs of streams

-- An output of a stream is sound if it has something only of states that are accepted, and nothing before the first. The
-- outputs of all commands are.
pub record IsSound (o : StreamOutput) (job : List ℕ) : Type 0 where
  pub accepted : (count differing : ℕ) (front text : List ℕ) → o.has count differing front text → AreAccepted job count front
  pub none : (differing : ℕ) (front text : List ℕ) → o.has 0 differing front text → text ≡ []

shown_accepted : (Shows : Showing) (job : List ℕ) (n : ℕ) (front text : List ℕ) → AreShown Shows job n front text
    → AreAccepted job n front
shown_accepted Shows job zero front text shown = shown.0
shown_accepted Shows job (suc n) front text (earlier, state, before, last, shown, is, front', text') =
    subst (AreAccepted job (suc n)) (sym front') (one_more job n earlier state (shown_accepted Shows job n earlier before shown) is.safe)

-- of states that are shown, each for itself
pub sound_shown : (Shows : Showing) (job : List ℕ) → IsSound (shown_by Shows job) job
sound_shown Shows job = record {
  accepted = λ count differing front text has. shown_accepted Shows job count front text has.1;
  none = λ differing front text has. has.1.1;
}

some_replayed : (plan : ReplayPlanView) (job : List ℕ) (count differing : ℕ) (front last text : List ℕ)
    → AreReplayed plan job count differing front last text → 1 ≤ count
some_replayed plan job count differing front last text (begins state safe) = omega arith
some_replayed plan job count differing front last text (goes_on number d earlier before told after line b are safe w) = omega arith

module _ (plan : ReplayPlanView) (job : List ℕ) where
  has_accepted : (count differing : ℕ) (front text : List ℕ) → (replayed_by plan job).has count differing front text
      → AreAccepted job count front
  has_accepted count differing front text (inl (none, same, front', text')) =
      subst (λ n. AreAccepted job n front) (sym none) front'
  has_accepted count differing front text (inr (last, are)) = replayed_accepted plan job count differing front last text are

  has_none : (differing : ℕ) (front text : List ℕ) → (replayed_by plan job).has 0 differing front text → text ≡ []
  has_none differing front text (inl (none, same, front', text')) = text'
  has_none differing front text (inr (last, are)) =
      let some = some_replayed plan job 0 differing front last text are in absurd (omega (arith, some))

  -- of states that are compared with the run of the state before
  pub sound_replayed : IsSound (replayed_by plan job) job
  sound_replayed = record { accepted = has_accepted; none = has_none }

-- ---- streams that are given

some_left : (job : List ℕ) (n count k : ℕ) (rest : List ℕ) → suc n ≡ count + k → AreAccepted job k rest
    → (count ≡ 0) ⊎ (rest ≢ []) → (i : ℕ) × (k ≡ suc i)
some_left job n count k rest all left (inl none) = (n, omega (arith, none, all))
some_left job n count k rest all left (inr some) = some_accepted job k rest left some

-- If the page gives an output of a stream, no state of the stream is rejected, nor differs from the run of the state before,
pub states_given : (o : StreamOutput) (job bytes : List ℕ) (before after : Output) → IsSound o job → HasStream o job bytes
    → PrintsFirst o bytes before after (λ part between after. (RejectsNext job part ⊎ IsNotOneRun part) × (after ≡ between)) → ⊥
states_given o job bytes before after sound ((n, few, accepted), code, none)
    (part, text, between, split, has, appends, (inl (some, why), same)) =
    let front = sound.accepted part.count part.differing part.front text has in
    let left = rest_accepted job (suc n) part.count bytes part.front part.rest accepted split front in
    let one = some_left job n part.count left.0 part.rest left.1 left.2 some in
    first_given job left.0 one.0 part.rest one.1 left.2 why
states_given o job bytes before after sound ((n, few, accepted), code, none)
    (part, text, between, split, has, appends, (inr (some, differ, whole), same)) =
    let all : part.front ≡ bytes = sym (split ∙ ap (λ x. part.front ++ x) whole ∙ append-nil part.front) in
    let zero = none part.count part.differing text (subst (λ x. o.has part.count part.differing x text) all has) in
    omega (arith, zero, differ)

-- nor is its code,
pub stream_code_given : (o : StreamOutput) (job bytes : List ℕ) → HasStream o job bytes
    → OfFirst bytes (LackCode o.observes job) → ⊥
stream_code_given o job bytes ((n, few, (state, more, same, safe, accepted)), code, none) (state', more', same', inl lacks) =
    code_of_texts_given job state safe (alike job state bytes more HasNoSlopeFor safe same (state', more', same', lacks))
stream_code_given o job bytes ((n, few, accepted), code, none) (state', more', same', inr (observes, safe, lacks)) =
    code_given o.observes job state' (safe, code) (inr (observes, safe, lacks))

-- and if its bytes are known, it can be read to its end.
pub stream_read : (o : StreamOutput) (job bytes : List ℕ) (left : Left) (before after : Output) → IsSound o job
    → HasStream o job bytes → left ≡ Some bytes → PrintsFirst o bytes before after
    (λ part between after. ((left ≡ None) ⊎ (2 ^ 64 - 1 ≤ part.count)) × (after ≡ between)) → ⊥
stream_read o job bytes left before after sound has known (part, text, between, split, shown, appends, (inl none, same)) =
    let bad : None ≡ Some bytes = sym none ∙ known in cc
stream_read o job bytes left before after sound ((n, few, accepted), code, none) known
    (part, text, between, split, shown, appends, (inr many, same)) =
    let front = sound.accepted part.count part.differing part.front text shown in
    let all = (rest_accepted job (suc n) part.count bytes part.front part.rest accepted split front).1 in
    omega (arith, few, many, all)

-- ---- the output

-- Before the first state the output is unchanged, and all bytes are left.
pub none_printed : (o : StreamOutput) (job bytes : List ℕ) (part : StreamPart) (text : List ℕ) (before between : Output)
    → IsSound o job → part.count ≡ 0 → bytes ≡ part.front ++ part.rest → o.has part.count part.differing part.front text
    → Appends before between text → (bytes ≡ part.rest) × (between ≡ before)
none_printed o job bytes part text before between sound none split has appends =
    let has' = subst (λ n. o.has n part.differing part.front text) none has in
    let empty : part.front ≡ [] = sound.accepted 0 part.differing part.front text has' in (
      split ∙ ap (λ x. x ++ part.rest) empty,
      nothing_written (λ k t. Unit {0}) before between
          (record { text = text; texts = sound.none part.differing part.front text has'; appends = appends }),
    )

-- ---- commands

-- If the states of a stream are shown in one way, they are shown in each way that is the same.
pub shows_each : {T A : Type 0} (r : Result T (CommandFault A)) (held : Held) (requested requested' : Paths) (job states : List ℕ)
    (s t : EachOutput) (before after : Output) → t ≡ s
    → Performs held requested requested' (stream_action (shown_by (shows_of s)) job states) before after r
    → Performs held requested requested' (stream_action (shown_by (shows_of t)) job states) before after r
shows_each r held requested requested' job states s t before after is h =
    subst (λ u. Performs held requested requested' (stream_action (shown_by (shows_of u)) job states) before after r) (sym is) h

-- The result of writing an output of a stream is that of the command.
pub stream_written : {T A : Type 0} (wrote : Result T (StreamFault (InputFault A))) (r : Result T (CommandFault A)) (held : Held)
    (requested requested' : Paths) (output : List ℕ → StreamOutput) (job states text : List ℕ) (left : Left) (before after : Output)
    (path : Bor (List ℕ)) → r ≡ result_map_both (λ x. x) (fault_of_stream path) wrote → path.now ≡ states
    → requested' ≡ also_requested (also_requested requested job) states → IsHeld held job text → left ≡ held states
    → WritesStream (output text) text left before after wrote
    → Performs held requested requested' (stream_action output job states) before after r
stream_written (Ok x) r held requested requested' output job states text left before after path is same asks known lines writes =
    let stream = subst (λ (l : Left). OfLeft l (λ bytes. WritesStates (output text) bytes before after)) lines writes.written in
    subst (Performs held requested requested' (stream_action output job states) before after) (sym is)
    (asks, (text, known, (stream.0, stream.1, stream.2)))
stream_written (Err g) r held requested requested' output job states text left before after path is same asks known lines writes =
    let stream = subst (λ (l : Left). OfLeft l (λ bytes. Breaks (output text) text l bytes before after g)) lines writes.stopped in
    subst (Performs held requested requested' (stream_action output job states) before after) (sym is)
    (inr (asks, (text, known, (stream.0, stream.1, (g, path, same, refl, stream.2)))))
