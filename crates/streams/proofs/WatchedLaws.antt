-- Replays on their way: the segments that were replayed, with their reports, and each end of a replay.
use Rattle.std.proofs.Common.{◌≡◌, ◌≢◌, ◌<◌, ◌≤◌, ◌+◌, ◌-◌, ◌^◌, ℕ, suc, ℤ, List, [], ◌++◌, Bool, None, Some, append-nil, ap, arith, inl, inr, refl, sym, subst, IfErr, IfSome, OnOk, Result, Ok, Err, ◌∙◌}
use Rattle.engine.specs.Engines.{AreSafe, EngineView, HasNoEngineOfTexts, IsOfState}
use Rattle.engine.specs.declared.faults.InputFault.{InputFault}
use Rattle.engine.specs.declared.faults.InputFault.TheVariants as input
use Rattle.engine.specs.RunSpecification.{IsTextOf}
use Rattle.fallible.specs.Failures.{IfRefused}
use Rattle.fallible.specs.Out.{Output}
use Rattle.fallible.specs.declared.failure.Failure.{Failure}
use Rattle.fallible.specs.declared.output.OutFault.{OutFault}
use Rattle.fallible.specs.declared.failure.Failure.TheVariants.{Memory, Refused}
use Rattle.job.specs.JobText.{IsJobText, limits}
use Rattle.job.specs.Values.{JobValue}
use Rattle.integrator.specs.States.{counter_after}
use Rattle.integrator.specs.declared.direction.Direction.{Direction}
use Rattle.runs.specs.Visits.{BeganText}
use Rattle.runs.specs.Watching.{Report, hundredths, hundredths_behind, reports_at}
use Rattle.state.specs.Sources.{IsAtEnd, KeepsFaultBefore, Left, Takes, TakesText, with_text}
use Rattle.state.specs.StateFaults.{ReadsAs}
use Rattle.state.specs.StateText.{StateView}
use Rattle.state.specs.declared.faults.StateFault.{StateFault}
use Rattle.state.specs.declared.sources.ReadFault.{ReadFault}
use Rattle.state.specs.declared.sources.ReadFault.TheVariants as read
use Rattle.streams.specs.Faults.{opening_fault, reading_fault, state_fault}
use Rattle.streams.specs.OnTheWay.{HasNoState, IsAt, OfState}
use Rattle.streams.specs.Plans.{IsReplayed, ReplayPlanView}
use Rattle.streams.specs.Replays.{OfCounters, and_one, replayed_by}
use Rattle.streams.specs.Segments.{FailsRun, FailsSegment, IsEngineLine, IsNotTaken, ReplaysSegment, RunReported, SegmentReported, WholeReported}
use Rattle.streams.specs.Streams.{Breaks, OfLeft}
use Rattle.streams.specs.Watched.{AreAllWatched, AreDone, AreFirstWatched, AreOfSegment, AreWatched, AreWatchedBefore, AreWatchedTo, AreWatchedUpTo, AreOfRun, IsWatched, ReplaysStream, begins, goes_on, passed, replayed}
use Rattle.streams.specs.declared.faults.StreamFault.{StreamFault}
use Rattle.streams.specs.declared.faults.StreamFault.TheVariants as stream
use Rattle.streams.proofs.ReplayStreamLaws.{Way, nothing_replayed, progress_of, segment_stops, way_begins, way_ends, way_goes}
use Rattle.streams.proofs.StreamLaws.{Progress, count_stops, is_all, is_rest, is_with_text, not_taken, opening_stops, reading_stops, rest_of, takes}

-- ---- one segment

module _ (direction : Direction) (from to : ℤ) (steps : ℕ) (counted : counter_after direction from steps ≡ Some to) (o : Output)
    (told : List Report → Type 0) where
  -- a whole run was reported
  pub run_whole : told (reports_at o steps (hundredths steps)) → RunReported from to o told
  run_whole got =
      (steps, reports_at o steps (hundredths steps), record { direction = direction; counted = counted; few = omega arith; are = refl }, got)

  -- memory ran out on the way
  pub run_some : (made : ℕ) → made < steps → told (reports_at o steps (hundredths_behind steps 0 made))
      → (all : ℕ) × (made : ℕ) × (reports : List Report) × AreOfRun from to o all made reports × told reports
  run_some made few got = (
    steps,
    made,
    reports_at o steps (hundredths_behind steps 0 made),
    record { direction = direction; counted = counted; few = omega (arith, few); are = refl },
    got,
  )

-- a state isn't taken after its run
pub taken_fails : {A : Type 0} (e : EngineView) (t : StateView) (number : ℕ) (f : StreamFault (InputFault A)) (o : Output)
    (told : List Report → Type 0) → IsNotTaken e.job t number f → RunReported e.state.step t.step o told → FailsRun e t number o told f
taken_fails e t number (stream.State n f) o told h run = (h, inr run)
taken_fails e t number stream.Memory o told h (steps, reports, are, is) = (steps, steps, reports, are, is)
taken_fails e t number (stream.Rejected f) o told h run = h
taken_fails e t number (stream.Differ n) o told h run = h
taken_fails e t number stream.CannotRead o told h run = h
taken_fails e t number (stream.Out f) o told h run = h

module _ (plan : ReplayPlanView) (number : ℕ) (e : EngineView) (text : List ℕ) (o : Output) (told : List Report → Type 0) where
  -- the text is no state's
  pub unread_fails : (A : Type 0) (failure : Failure StateFault) → IfRefused failure (λ f. ReadsAs text (Err f)) → told []
      → FailsSegment {A = A} plan number e text o o told (state_fault (number + 2) failure)
  unread_fails A (Refused f) h none = ((refl, h), refl, inl (tt, none))
  unread_fails A Memory h none = (refl, inl none)

  module _ (t : StateView) (is : IsTextOf text t) where
    -- a state that is passed isn't taken
    pub passed_fails : {A : Type 0} (f : StreamFault (InputFault A)) → (IsReplayed plan number e.state.step t.step → ⊥)
        → IsNotTaken e.job t (number + 2) f → told [] → FailsSegment plan number e text o o told f
    passed_fails (stream.State n f) not h none =
        (not_taken e.job text (number + 2) t is (stream.State n f) h, refl, inr (record { s = t; state_text' = is; it = (0, ([], passed not, none)) }))
    passed_fails stream.Memory not h none = (refl, inl none)
    passed_fails (stream.Rejected f) not h none = h
    passed_fails (stream.Differ k) not h none = h
    passed_fails stream.CannotRead not h none = h
    passed_fails (stream.Out f) not h none = absurd h

    module _ (has : IsReplayed plan number e.state.step t.step) where
      -- the whole run to the state was reported
      pub run_reported : RunReported e.state.step t.step o told → WholeReported plan number e t o told
      run_reported (steps, reports, are, got) = (steps, (reports, replayed steps steps reports has are, got))

      -- the run to the state failed
      pub run_fails : {A : Type 0} (f : StreamFault (InputFault A)) → FailsRun e t (number + 2) o told f
          → FailsSegment plan number e text o o told f
      run_fails (stream.State n f) (h, inl unrun) = (not_taken e.job text (number + 2) t is (stream.State n f) h, refl, inl unrun)
      run_fails (stream.State n f) (h, inr run) =
          (not_taken e.job text (number + 2) t is (stream.State n f) h, refl, inr (record { s = t; state_text' = is; it = run_reported run }))
      run_fails stream.Memory (steps, made, reports, are, got) =
          (refl, inr (record { s = t; state_text' = is; it = (steps, made, (reports, replayed steps made reports has are, got)) }))
      run_fails (stream.Rejected f) h = h
      run_fails (stream.Differ n) h = h
      run_fails stream.CannotRead h = h
      run_fails (stream.Out f) h = absurd h

-- ---- streams on their way

-- `number` segments were replayed up to the state with the text `last`, and `told` is true of their reports
pub record Watching (plan : ReplayPlanView) (job : List ℕ) (all : Left) (number differing : ℕ) (last : List ℕ) (left : Left)
    (before now : Output) (told : List Report → Type 0) : Type 0 where
  pub way : Way plan job all number differing last left before now
  pub reports : List Report
  pub are : AreWatched plan job before (suc number) way.front last reports
  pub got : told reports

-- ---- other statements about the reports

module _ (plan : ReplayPlanView) (job : List ℕ) (left : Left) (o o' : Output) (told told' : List Report → Type 0)
    (to : (reports : List Report) → told reports → told' reports) where
  of_reports : (Are : List ℕ → List Report → Type 0) → OfLeft left (λ bytes. (reports : List Report) × Are bytes reports × told reports)
      → OfLeft left (λ bytes. (reports : List Report) × Are bytes reports × told' reports)
  of_reports Are (bytes, is, (reports, are, got)) = (bytes, is, (reports, are, to reports got))

  -- what a statement about the reports implies holds of a replay too
  pub watched_told : {X A : Type 0} (r : Result X (StreamFault (InputFault A))) → IsWatched plan job left o o' told r
      → IsWatched plan job left o o' told' r
  watched_told (Ok x) h = record { all = of_reports (λ bytes. AreAllWatched plan job o bytes o') h.all; some = tt }
  watched_told (Err f) h = record { all = tt; some = of_reports (λ bytes. AreWatchedBefore plan job o bytes o' f) h.some }

-- ---- ends

-- the faults of states are of states
of_state : {A : Type 0} (j : JobValue) (text : List ℕ) (number n : ℕ) (f : InputFault A) → HasNoState j text number (stream.State n f)
    → IsOfState f
of_state j text number n (input.Job f) h = h.1
of_state j text number n (input.State f) h = tt
of_state j text number n (input.Energy f) h = h.1
of_state j text number n (input.System f) h = tt
of_state j text number n input.ForceRange h = tt

module _ (plan : ReplayPlanView) (job : List ℕ) where
  -- the reports up to a fault
  abbrev Before : {A : Type 0} → Left → (o r : Output) → (told : List Report → Type 0) → StreamFault (InputFault A) → Type 0
  Before all o r told f = OfLeft all (λ bytes. (reports : List Report) × AreWatchedBefore plan job o bytes r f reports × told reports)

  -- a replay was stopped by a fault
  stopped : (X : Type 0) {A : Type 0} (all : Left) (o r : Output) (told : List Report → Type 0) (f : StreamFault (InputFault A))
      → OfLeft all (λ bytes. Breaks (replayed_by plan job) job all bytes o r f) → Before all o r told f
      → ReplaysStream {X = X} plan job all o r told (Err f)
  stopped X all o r told f writes watched =
      record { writes = record { written = tt; stopped = writes }; watched = record { all = tt; some = watched } }

  -- ---- before the first state

  module _ (left : Left) (o : Output) (told : List Report → Type 0) (none : told []) where
    -- the first text wasn't read
    pub reading_first : (X A : Type 0) (fault : ReadFault) → (fault ≡ read.CannotRead → left ≡ None)
        → ReplaysStream {X = X} {A = A} plan job left o o told (Err (reading_fault fault))
    reading_first X A fault unknown =
        stopped X left o o told (reading_fault fault)
        (reading_stops (replayed_by plan job) job left 0 left o o fault unknown (nothing_replayed plan job left o)) (before fault)
      where
        before : (fault : ReadFault) → Before {A = A} left o o told (reading_fault fault)
        before read.CannotRead = (rest_of left, is_rest left, ([], inl (refl, refl), none))
        before read.Memory = (rest_of left, is_rest left, ([], (0, inl (inl (refl, refl))), none))

    opening_before : {A : Type 0} (failure : Failure (InputFault A)) → Before left o o told (opening_fault failure)
    opening_before (Refused (input.Job f)) = (rest_of left, is_rest left, ([], (refl, refl), none))
    opening_before (Refused (input.State f)) = (rest_of left, is_rest left, ([], (tt, inl (inl refl, inl (refl, refl))), none))
    opening_before (Refused (input.Energy f)) = (rest_of left, is_rest left, ([], (refl, refl), none))
    opening_before (Refused (input.System f)) = (rest_of left, is_rest left, ([], (tt, inl (inl refl, inl (refl, refl))), none))
    opening_before (Refused input.ForceRange) = (rest_of left, is_rest left, ([], (tt, inl (inl refl, inl (refl, refl))), none))
    opening_before Memory = (rest_of left, is_rest left, ([], (0, inl (inl (refl, refl))), none))

    -- the first state has no engine
    pub opening_first : (X : Type 0) {A : Type 0} (text : List ℕ) (left' : Left) → TakesText left left' text
        → (failure : Failure (InputFault A)) → IfRefused failure (HasNoEngineOfTexts job text)
        → ReplaysStream {X = X} plan job left o o told (Err (opening_fault failure))
    opening_first X text left' taken failure refused =
        stopped X left o o told (opening_fault failure)
        (opening_stops (replayed_by plan job) job left text left' o failure refused taken.keeps
        (takes (replayed_by plan job) job left 0 left left' text o o taken.taken (nothing_replayed plan job left o))) (opening_before failure)

  -- before the first segment
  pub watch_begins : (text : List ℕ) (left : Left) (o : Output) (told : List Report → Type 0) → AreSafe job text → told []
      → Watching plan job (with_text text left) 0 0 text left o o told
  unfolding way_begins
  watch_begins text left o told safe none =
      record { way = way_begins plan job text left o safe; reports = []; are = begins text safe; got = none }

  module _ (all : Left) (number differing : ℕ) (last : List ℕ) (left : Left) (o m : Output) (told : List Report → Type 0)
      (w : Watching plan job all number differing last left o m told) where
    -- the segments up to here
    done : AreDone plan job o m (suc number) differing w.way.front last w.reports
    done = record { text = w.way.text; lines = w.way.are; appends = w.way.appends; are = w.are }

    progress : Progress (replayed_by plan job) all (suc number) left o m
    progress = progress_of plan job all number differing last left o m w.way

    -- the reports of the segments up to here, before the bytes that are left
    first_watched : OfLeft all (λ bytes. (reports : List Report) × AreFirstWatched plan job o bytes m reports × told reports)
    first_watched = (
      w.way.front ++ rest_of left,
      subst (λ (x : Left). IfSome x (λ bytes. w.way.front ++ rest_of left ≡ bytes)) (sym w.way.split)
          (is_with_text w.way.front (rest_of left) left (is_rest left)),
      (w.reports, inr (suc number, differing, w.way.front, rest_of left, last, refl, done), w.got),
    )

    -- the next text wasn't read
    pub reading_ends : (X A : Type 0) (fault : ReadFault) → (fault ≡ read.CannotRead → left ≡ None)
        → ReplaysStream {X = X} {A = A} plan job all o m told (Err (reading_fault fault))
    reading_ends X A fault unknown =
        stopped X all o m told (reading_fault fault)
        (reading_stops (replayed_by plan job) job all (suc number) left o m fault unknown progress) (before fault)
      where
        without_memory : OfLeft all (λ bytes. (reports : List Report) × AreFirstWatched plan job o bytes m reports × told reports)
            → Before {A = A} all o m told (reading_fault read.Memory)
        without_memory (bytes, is, (reports, first, got)) = (bytes, is, (reports, (0, inl first), got))

        before : (fault : ReadFault) → Before {A = A} all o m told (reading_fault fault)
        before read.CannotRead = first_watched
        before read.Memory = without_memory first_watched

    -- no more states can be counted
    pub count_ends : (X A : Type 0) → 2 ^ 64 - 1 ≤ suc number → ReplaysStream {X = X} {A = A} plan job all o m told (Err stream.CannotRead)
    count_ends X A many =
        stopped X all o m told stream.CannotRead (count_stops (replayed_by plan job) job all (suc number) left o m many progress) first_watched

    all_watched : IsAtEnd left → OfLeft all (λ bytes. (reports : List Report) × AreAllWatched plan job o bytes m reports × told reports)
    all_watched at_end = (
      w.way.front,
      subst (λ (x : Left). IfSome x (λ bytes. w.way.front ≡ bytes)) (sym w.way.split) (is_all w.way.front left at_end),
      (w.reports, (suc number, differing, last, done), w.got),
    )

    watch_ends : {X A : Type 0} (r : Result X (StreamFault (InputFault A))) → IsAtEnd left
        → IfErr r (λ fault. (fault ≡ stream.Differ differing) × (0 < differing)) → IsWatched plan job all o m told r
    watch_ends (Ok x) at_end differ = record { all = all_watched at_end; some = tt }
    watch_ends (Err f) at_end differ = rw differ.0 (record { all = tt; some = all_watched at_end })

    -- all segments were replayed
    pub replay_ends : {X A : Type 0} (r : Result X (StreamFault (InputFault A))) → IsAtEnd left → OnOk r (differing ≡ 0)
        → IfErr r (λ fault. (fault ≡ stream.Differ differing) × (0 < differing)) → ReplaysStream plan job all o m told r
    replay_ends r at_end same differ = record {
      writes = way_ends plan job all number differing last left o m r at_end same differ w.way;
      watched = watch_ends r at_end differ;
    }

  -- ---- the next segment, between two values of a watcher

  module _ {W : Type 0} (told : W → W → List Report → Type 0)
      (both : (u v w : W) (first more : List Report) → told u v first → told v w more → told u w (first ++ more))
      (j : JobValue) (job_text : IsJobText limits job j) (last : List ℕ) (e : EngineView) (at : IsAt j last e) where
    same : e.state ≡ at.s
    same = ap (λ (x : EngineView). x.state) at.is.is

    counters : (number steps made : ℕ) (text : List ℕ) (t : StateView) (o : Output) (more : List Report) → IsTextOf text t
        → AreOfSegment plan number e.state.step t.step o steps made more
        → OfCounters last text (λ from to. AreOfSegment plan number from to o steps made more)
    counters number steps made text t o more is are =
        record { s = at.s; t = t; first = at.state_text'; second = is; holds = rw same at are }

    module _ (all : Left) (number differing : ℕ) (left left' : Left) (o m r : Output) (text : List ℕ) (u v w : W)
        (h : Watching plan job all number differing last left o m (told u v)) (taken : Takes left left' text) where
      goes : (b : Bool) → AreSafe job text → (next : OfState text (ReplaysSegment plan number e m r (told v w) b))
          → WholeReported plan number e next.s m (told v w) → Watching plan job all (suc number) (and_one b differing) text left' o r (told u w)
      unfolding way_goes
      goes b safe next (steps, (more, are, got)) = record {
        way = way_goes plan job j job_text last e at all number differing left left' o m r text (told v w) b h.way taken safe next;
        reports = h.reports ++ more;
        are = goes_on number differing steps h.way.front last h.way.text text m h.reports more h.are h.way.are h.way.appends
            (counters number steps steps text next.s m more next.state_text' are);
        got = both u v w h.reports more h.got got;
      }

      -- the segment to the next text was replayed
      pub watch_goes : (b : Bool) → AreSafe job text → OfState text (ReplaysSegment plan number e m r (told v w) b)
          → Watching plan job all (suc number) (and_one b differing) text left' o r (told u w)
      watch_goes b safe next = goes b safe next next.it.reported

      done_here : AreDone plan job o m (suc number) differing h.way.front last h.reports
      done_here = record { text = h.way.text; lines = h.way.are; appends = h.way.appends; are = h.are }

      abbrev bytes : List ℕ
      bytes = h.way.front ++ (text ++ rest_of left')

      is_bytes : IfSome all (λ told. bytes ≡ told)
      is_bytes =
          let split : all ≡ with_text h.way.front (with_text text left') = h.way.split ∙ ap (with_text h.way.front) taken in
          subst (λ (x : Left). IfSome x (λ told. bytes ≡ told)) (sym split)
          (is_with_text h.way.front (text ++ rest_of left') (with_text text left') (is_with_text text (rest_of left') left' (is_rest left')))

      -- nothing of the segment was reported
      none_more : told v w [] → (reports : List Report) × AreFirstWatched plan job o bytes m reports × told u w reports
      none_more none = (
        h.reports,
        inr (suc number, differing, h.way.front, text ++ rest_of left', last, refl, done_here),
        subst (told u w) (append-nil h.reports) (both u v w h.reports [] h.got none),
      )

      -- some of the segment was reported
      up_to : (t : StateView) → IsTextOf text t → (steps made : ℕ) → SegmentReported plan number e t m (told v w) steps made
          → (reports : List Report) × AreWatchedUpTo plan job o bytes m steps made reports × told u w reports
      up_to t is steps made (more, are, got) = (
        h.reports ++ more,
        record {
          number = number;
          differing = differing;
          front = h.way.front;
          before = last;
          rest = text ++ rest_of left';
          earlier = h.reports;
          more = more;
          split = refl;
          done = done_here;
          next = (text, rest_of left', refl, counters number steps made text t m more is are);
          reports' = refl;
        },
        both u v w h.reports more h.got got,
      )

      -- all of the segment was reported
      whole_more : (t : StateView) → IsTextOf text t → WholeReported plan number e t m (told v w)
          → (reports : List Report) × ((steps : ℕ) × AreWatchedUpTo plan job o bytes m steps steps reports) × told u w reports
      whole_more t is (steps, part) =
          let some = up_to t is steps steps part in (some.0, (steps, some.1), some.2)

      some_more : (t : StateView) → IsTextOf text t → ((steps : ℕ) × (made : ℕ) × SegmentReported plan number e t m (told v w) steps made)
          → (reports : List Report) × ((made : ℕ) × AreWatchedTo plan job o bytes m made reports) × told u w reports
      some_more t is (steps, made, part) =
          let some = up_to t is steps made part in (some.0, (made, inr (steps, some.1)), some.2)

      begun_more : (A : Type 0) (f : OutFault) (t : StateView) → IsTextOf text t
          → BeganText (IsEngineLine plan number e t) m r × WholeReported plan number e t m (told v w) → Before {A = A} all o r (told u w) (stream.Out f)
      begun_more A f t is (began, reported) =
          let some = whole_more t is reported in (bytes, is_bytes, (some.0, (m, began.text, began.beginning, some.1), some.2))

      segment_watched : {A : Type 0} (f : StreamFault (InputFault A)) → FailsSegment plan number e text m r (told v w) f
          → Before all o r (told u w) f
      segment_watched {A} (stream.Out f) h = begun_more A f h.s h.state_text' h.it
      segment_watched (stream.State n f) (unfit, kept, inl (unrun, none)) =
          let first = none_more none in
          subst (λ (x : Output). Before all o x (told u w) (stream.State n f)) (sym kept)
          (bytes, is_bytes, (first.0, (of_state e.job text (number + 2) n f unfit, inl (inr unrun, first.1)), first.2))
      segment_watched (stream.State n f) (unfit, kept, inr s) =
          let some = whole_more s.s s.state_text' s.it in
          subst (λ (x : Output). Before all o x (told u w) (stream.State n f)) (sym kept)
          (bytes, is_bytes, (some.0, (of_state e.job text (number + 2) n f unfit, inr some.1), some.2))
      segment_watched {A} stream.Memory (kept, inl none) =
          let first = none_more none in
          subst (λ (x : Output). Before {A = A} all o x (told u w) stream.Memory) (sym kept) (bytes, is_bytes, (first.0, (0, inl first.1), first.2))
      segment_watched {A} stream.Memory (kept, inr s) =
          let some = some_more s.s s.state_text' s.it in
          subst (λ (x : Output). Before {A = A} all o x (told u w) stream.Memory) (sym kept) (bytes, is_bytes, (some.0, some.1, some.2))
      segment_watched (stream.Rejected f) h = absurd h
      segment_watched (stream.Differ n) h = absurd h
      segment_watched stream.CannotRead h = absurd h

      -- the segment to the next text wasn't written
      pub segment_ends : (X : Type 0) {A : Type 0} (f : StreamFault (InputFault A)) → e.job ≡ j → text ≢ [] → KeepsFaultBefore text left'
          → FailsSegment plan number e text m r (told v w) f → ReplaysStream {X = X} plan job all o r (told u w) (Err f)
      segment_ends X f of_job some keeps fails =
          stopped X all o r (told u w) f
          (segment_stops plan job j job_text last e at all number differing left left' o m r text of_job h.way taken some keeps (told v w) f fails)
          (segment_watched f fails)
