-- Replays on their way: the segments that were replayed, the bytes that are left, and each end of the stream.
use Rattle.std.proofs.Common.{◌≡◌, ℕ, suc, ◌+◌, List, [], ◌++◌, Bool, Option, arith, refl, ap, sym, subst, ◌∙◌, inl, inr, ◌≢◌, ◌<◌, IfSome, IfErr, OnOk, Result, Ok, Err}
use Rattle.engine.proofs.SpecifiedRuns.{reached_text, told}
use Rattle.engine.specs.Engines.{AreSafe, EngineView, IsEngineOf, IsEngineOfTexts}
use Rattle.engine.specs.RunSpecification.{IsTextOf}
use Rattle.engine.specs.declared.faults.InputFault.{InputFault}
use Rattle.fallible.proofs.Appends.{appends_both, appends_nothing}
use Rattle.fallible.specs.Out.{Appends, Output}
use Rattle.job.specs.JobText.{IsJobText, limits}
use Rattle.job.specs.Values.{JobValue}
use Rattle.runs.specs.Watching.{Report}
use Rattle.state.proofs.TakeLaws.{takes_both, takes_nothing}
use Rattle.state.specs.Sources.{IsAtEnd, KeepsFaultBefore, Left, Takes, with_text}
use Rattle.state.specs.StateText.{StateView, state_text}
use Rattle.streams.proofs.StreamLaws.{Progress, at_safe, differing_stops, is_all, rest_of, state_stops, stops_at}
use Rattle.streams.specs.OnTheWay.{HasNoState, IsAt, OfState}
use Rattle.streams.specs.Plans.{ReplayPlanView}
use Rattle.streams.specs.Replays.{AreReplayed, IsLineOf, IsNextLine, IsWritten, and_one, begins, goes_on, replayed, replayed_by, segment_line}
use Rattle.streams.specs.Replays as replays
use Rattle.streams.specs.Segments.{Compares, FailsSegment, IsEngineLine, IsEngineText, ReplaysSegment, compared, passed}
use Rattle.streams.specs.Streams.{Breaks, OfLeft, WritesStates, WritesStream}
use Rattle.streams.specs.declared.differences.Difference.{Difference}
use Rattle.streams.specs.declared.faults.StreamFault.{StreamFault}
use Rattle.streams.specs.declared.faults.StreamFault.TheVariants as stream

-- `number` segments were replayed up to the state with the text `last`, and `left` is left
pub record Way (plan : ReplayPlanView) (job : List ℕ) (all : Left) (number differing : ℕ) (last : List ℕ) (left : Left)
    (before now : Output) : Type 0 where
  pub front : List ℕ
  pub text : List ℕ
  pub are : AreReplayed plan job (suc number) differing front last text
  pub appends : Appends before now text
  pub split : Takes all left front

module _ (plan : ReplayPlanView) (job : List ℕ) where
  -- before the first state
  pub nothing_replayed : (all : Left) (o : Output) → Progress (replayed_by plan job) all 0 all o o
  nothing_replayed all o = record {
    differing = 0;
    front = [];
    text = [];
    has = inl (refl, refl, refl, refl);
    appends = appends_nothing o;
    split = takes_nothing all;
  }

  -- before the first segment
  unfoldable pub way_begins : (text : List ℕ) (left : Left) (o : Output) → AreSafe job text
      → Way plan job (with_text text left) 0 0 text left o o
  way_begins text left o safe = record {
    front = text;
    text = [];
    are = begins text safe;
    appends = appends_nothing o;
    split = refl;
  }

  -- what an output has of the stream
  pub progress_of : (all : Left) (number differing : ℕ) (last : List ℕ) (left : Left) (o m : Output)
      → Way plan job all number differing last left o m → Progress (replayed_by plan job) all (suc number) left o m
  progress_of all number differing last left o m w = record {
    differing = differing;
    front = w.front;
    text = w.text;
    has = inr (last, w.are);
    appends = w.appends;
    split = w.split;
  }

  -- all segments were replayed, and none differs
  same_ends : (all : Left) (number differing : ℕ) (last : List ℕ) (left : Left) (o m : Output) → IsAtEnd left → differing ≡ 0
      → Way plan job all number differing last left o m → OfLeft all (λ bytes. WritesStates (replayed_by plan job) bytes o m)
  same_ends all number differing last left o m at_end none w = (
    w.front,
    subst (λ (x : Left). IfSome x (λ told. w.front ≡ told)) (sym w.split) (is_all w.front left at_end),
    (number, w.text, inr (last, subst (λ (d : ℕ). AreReplayed plan job (suc number) d w.front last w.text) none w.are), w.appends),
  )

  -- all segments were replayed
  pub way_ends : {X A : Type 0} (all : Left) (number differing : ℕ) (last : List ℕ) (left : Left) (o m : Output)
      (r : Result X (StreamFault (InputFault A))) → IsAtEnd left → OnOk r (differing ≡ 0)
      → IfErr r (λ fault. (fault ≡ stream.Differ differing) × (0 < differing))
      → Way plan job all number differing last left o m → WritesStream (replayed_by plan job) job all o m r
  unfolding progress_of
  way_ends all number differing last left o m (Ok u) at_end same differ w =
      record { written = same_ends all number differing last left o m at_end same w; stopped = tt }
  way_ends all number differing last left o m (Err f) at_end same differ w =
      let p = progress_of all number differing last left o m w in
      rw differ.0 (record {
        written = tt;
        stopped = differing_stops (replayed_by plan job) job all number differing left o m at_end differ.1 p refl;
      })

  module _ (j : JobValue) (job_text : IsJobText limits job j) (last : List ℕ) (e : EngineView) (at : IsAt j last e) where
    opens : IsEngineOfTexts job last e
    opens = record { j = j; s = at.s; job_text = job_text; state_text' = at.state_text'; it = at.is }

    same : e.state ≡ at.s
    same = ap (λ (x : EngineView). x.state) at.is.is

    module _ (text : List ℕ) (t : StateView) (is : IsTextOf text t) where
      line_of : (d : Option Difference) → Compares e t d → IsLineOf job last text d (segment_line e.state.step t.step d)
      line_of d h = record {
        s = at.s;
        t = t;
        first = at.state_text';
        second = is;
        direction = h.direction;
        steps = h.steps;
        counted = rw same at h.counted;
        run = h.reached.state;
        text = state_text h.reached.state;
        run_text = reached_text job last h.direction h.steps e h.reached opens h.went;
        is_run = told job last h.direction h.steps e h.reached opens h.went;
        verdict = h.verdict;
        line' = ap (λ (s : StateView). segment_line s.step t.step d) same;
      }

      line_at : (number : ℕ) (line : List ℕ) (h : IsEngineLine plan number e t line) → IsLineOf job last text h.difference line
      line_at number line h = subst (IsLineOf job last text h.difference) (sym h.line') (line_of h.difference h.compared)

      -- the engine's text of a segment is to be written of it
      pub written : (number : ℕ) (b : Bool) (line : List ℕ) → IsEngineText plan number e t b line → IsWritten plan job number last text b line
      written number b line (passed h) =
          replays.passed (record { s = at.s; t = t; first = at.state_text'; second = is; holds = rw same at h })
      written number b line (compared x h) =
          replayed h.difference x (record { s = at.s; t = t; first = at.state_text'; second = is; holds = rw same at h.replayed })
          (line_at number x h)

      -- the engine's line of the segment is to be written next
      next_line : (number : ℕ) (line : List ℕ) → e.job ≡ j → IsEngineLine plan number e t line → IsNextLine plan job number last text line
      next_line number line of_job h = record {
        safe = at_safe job j job_text text h.taken
            (record { s = t; state_text' = is; is = subst (λ (x : JobValue). IsEngineOf x t h.taken) of_job h.safe });
        replayed = record { s = at.s; t = t; first = at.state_text'; second = is; holds = rw same at h.replayed };
        difference = h.difference;
        line = line_at number line h;
      }

    -- the segment to the next text was replayed
    unfoldable pub way_goes : (all : Left) (number differing : ℕ) (left left' : Left) (o m r : Output) (text : List ℕ)
        (got : List Report → Type 0) (b : Bool) → Way plan job all number differing last left o m → Takes left left' text → AreSafe job text
        → OfState text (ReplaysSegment plan number e m r got b) → Way plan job all (suc number) (and_one b differing) text left' o r
    way_goes all number differing left left' o m r text got b w taken safe h = record {
      front = w.front ++ text;
      text = w.text ++ h.it.line;
      are = goes_on number differing w.front last w.text text h.it.line b w.are safe (written text h.s h.state_text' number b h.it.line h.it.is);
      appends = appends_both w.appends h.it.appends;
      split = takes_both all left left' w.front text w.split taken;
    }

    -- the segment to the next text wasn't written
    module _ (all : Left) (number differing : ℕ) (left left' : Left) (o m r : Output) (text : List ℕ)
        (of_job : e.job ≡ j) (w : Way plan job all number differing last left o m) (taken : Takes left left' text)
        (some : text ≢ []) (keeps : KeepsFaultBefore text left') (told : List Report → Type 0) where
      before_text : Progress (replayed_by plan job) all (suc number) (with_text text left') o m
      before_text = record {
        differing = differing;
        front = w.front;
        text = w.text;
        has = inr (last, w.are);
        appends = w.appends;
        split = w.split ∙ ap (with_text w.front) taken;
      }

      unchanged : {A : Type 0} (f : StreamFault (InputFault A)) → HasNoState j text (number + 2) f → r ≡ m
          → OfLeft all (λ bytes. Breaks (replayed_by plan job) job all bytes o r f)
      unchanged f h after = rw after (state_stops (replayed_by plan job) job j job_text all (suc number) (number + 2) text left' o m f
          (omega arith) h some keeps before_text)

      pub segment_stops : {A : Type 0} (f : StreamFault (InputFault A)) → FailsSegment plan number e text m r told f
          → OfLeft all (λ bytes. Breaks (replayed_by plan job) job all bytes o r f)
      unfolding before_text
      segment_stops (stream.Out f) h =
          let began = h.it.0 in
          stops_at (replayed_by plan job) job all (suc number) text left' o m r (stream.Out f) before_text (
            text,
            rest_of left',
            refl,
            record {
              text = began.text;
              shown = (number, differing, last, w.text, refl, w.are, next_line text h.s h.state_text' number began.text of_job began.shown);
              beginning = began.beginning;
            },
          )
      segment_stops (stream.State n f) h = unchanged (stream.State n f)
          (subst (λ (x : JobValue). HasNoState x text (number + 2) (stream.State n f)) of_job h.0) h.1
      segment_stops stream.Memory h = unchanged stream.Memory tt h.0
      segment_stops (stream.Rejected f) h = absurd h
      segment_stops (stream.Differ n) h = absurd h
      segment_stops stream.CannotRead h = absurd h
