-- Streams on their way: the states that were shown, the bytes that are left, and each end of the stream.
use Rattle.std.proofs.Common.{◌≡◌, ℕ, suc, ◌<◌, ◌-◌, ◌^◌, ◌≤◌, List, [], ◌∷◌, ◌++◌, length, Some, None, refl, ap, sym, subst, ◌∙◌, inl, inr, ◌≢◌, IfSome, Err, append-nil, arith}
use Rattle.fallible.specs.Failures.{IfRefused}
use Rattle.fallible.specs.Out.{Appends, Output}
use Rattle.fallible.specs.declared.failure.Failure.{Failure}
use Rattle.fallible.specs.declared.failure.Failure.TheVariants.{Memory, Refused}
use Rattle.fallible.proofs.Appends.{appends_both, appends_nothing}
use Rattle.engine.specs.EngineEnergies.{HasNoEnergy}
use Rattle.engine.specs.Engines.{AreSafe, EngineView, HasNoEngine, HasNoEngineOfTexts, IsEngineOfTexts, IsOfState, OfTexts}
use Rattle.engine.specs.RunSpecification.{IsTextOf}
use Rattle.engine.specs.declared.faults.InputFault.{InputFault}
use Rattle.engine.specs.declared.faults.InputFault.TheVariants as input
use Rattle.job.specs.JobText.{IsJobText, limits}
use Rattle.job.specs.Values.{JobValue}
use Rattle.potential.specs.declared.faults.EnergyFault.{EnergyFault}
use Rattle.runs.specs.Visits.{FailsText, Showing, WroteText}
use Rattle.runs.specs.declared.faults.TextFault.{TextFault}
use Rattle.runs.specs.declared.faults.TextFault.TheVariants as unwritten
use Rattle.state.proofs.TakeLaws.{takes_both, takes_nothing}
use Rattle.state.specs.Sources.{IsAtEnd, KeepsFaultBefore, Left, Takes, with_text}
use Rattle.state.specs.StateFaults.{ReadsAs}
use Rattle.state.specs.StateText.{StateView}
use Rattle.state.specs.declared.faults.StateFault.{StateFault}
use Rattle.state.specs.declared.faults.StateFault.TheVariants.{Trailing}
use Rattle.state.specs.declared.sources.ReadFault.{ReadFault}
use Rattle.state.specs.declared.sources.ReadFault.TheVariants as read
use Rattle.streams.specs.Faults.{energy_fault, opening_fault, reading_fault, text_fault}
use Rattle.streams.specs.OnTheWay.{HasNoState, IsAt, OfState}
use Rattle.streams.specs.Segments.{IsNotTaken}
use Rattle.streams.specs.Streams.{Breaks, IsShownOfText, OfFirst, OfLeft, StreamOutput, Stops, WritesStates, shown_by}
use Rattle.streams.specs.declared.faults.StreamFault.{StreamFault}
use Rattle.streams.specs.declared.faults.StreamFault.TheVariants as stream

-- ---- what is left

-- bytes that may be left: none, if they are unknown
abbrev pub rest_of : Left → List ℕ
rest_of None = []
rest_of (Some rest) = rest

pub is_rest : (left : Left) → IfSome left (λ told. rest_of left ≡ told)
is_rest None = tt
is_rest (Some rest) = refl

pub is_with_text : (text rest : List ℕ) (left : Left) → IfSome left (λ told. rest ≡ told)
    → IfSome (with_text text left) (λ told. text ++ rest ≡ told)
is_with_text text rest None h = tt
is_with_text text rest (Some told) h = ap (λ (x : List ℕ). text ++ x) h

pub is_all : (front : List ℕ) (left : Left) → IsAtEnd left → IfSome (with_text front left) (λ told. front ≡ told)
is_all front None h = tt
is_all front (Some rest) h = sym (ap (λ (x : List ℕ). front ++ x) h ∙ append-nil front)

-- none at the end
at_end : (left : Left) → IsAtEnd left → IfSome left (λ told. [] ≡ told)
at_end None h = tt
at_end (Some rest) h = sym h

-- a text that isn't empty has no empty text in front of more bytes
some_first : (text rest : List ℕ) → text ≢ [] → text ++ rest ≢ []
some_first [] rest some same = some refl
some_first (x ∷ text) rest some same = cc

-- a list whose length isn't 0 isn't empty
pub not_nil : (xs : List ℕ) → (length xs ≡ 0 → ⊥) → xs ≢ []
not_nil xs h same = h (ap length same)

-- ---- engines of texts

-- an engine at a state has its job
pub at_job : (j : JobValue) (text : List ℕ) (e : EngineView) → IsAt j text e → e.job ≡ j
at_job j text e at = ap (λ (x : EngineView). x.job) at.is.is

-- the engine of texts has the job of its text
pub texts_job : (job text : List ℕ) (e : EngineView) → IsEngineOfTexts job text e → IsJobText limits job e.job
texts_job job text e opens =
    subst (IsJobText limits job) (sym (ap (λ (x : EngineView). x.job) opens.it.is)) opens.job_text

no_engine : {A : Type 0} (j : JobValue) (text : List ℕ) (number n : ℕ) (s : StateView) → IsTextOf text s → (f : InputFault A)
    → (n ≡ number) × IsOfState f × HasNoEngine j s f → HasNoState j text number (stream.State n f)
no_engine j text number n s is (input.Job f) h = absurd h.1
no_engine j text number n s is (input.State f) h = absurd h.2
no_engine j text number n s is (input.Energy f) h = absurd h.1
no_engine j text number n s is (input.System f) h = (h.0, tt, record { s = s; state_text' = is; it = h.2 })
no_engine j text number n s is input.ForceRange h = (h.0, tt, record { s = s; state_text' = is; it = h.2 })

-- a state that an engine doesn't take can't be run under its job
pub not_taken : {A : Type 0} (j : JobValue) (text : List ℕ) (number : ℕ) (s : StateView) → IsTextOf text s
    → (fault : StreamFault (InputFault A)) → IsNotTaken j s number fault → HasNoState j text number fault
not_taken j text number s is (stream.State n f) h = no_engine j text number n s is f h
not_taken j text number s is stream.Memory h = tt
not_taken j text number s is (stream.Rejected f) h = h
not_taken j text number s is (stream.Differ n) h = h
not_taken j text number s is stream.CannotRead h = h
not_taken j text number s is (stream.Out f) h = h

-- ---- on the way

-- `count` states were told; of all bytes, their texts were taken, and `left` is left
pub record Progress (o : StreamOutput) (all : Left) (count : ℕ) (left : Left) (before now : Output) : Type 0 where
  pub differing : ℕ
  pub front : List ℕ
  pub text : List ℕ
  pub has : o.has count differing front text
  pub appends : Appends before now text
  pub split : Takes all left front

-- before the first state
pub begins : (Shows : Showing) (job : List ℕ) (all : Left) (o : Output) → Progress (shown_by Shows job) all 0 all o o
begins Shows job all o =
    record { differing = 0; front = []; text = []; has = (refl, (refl, refl)); appends = appends_nothing o; split = takes_nothing all }

-- all states were shown
pub ends : (Shows : Showing) (job : List ℕ) (all : Left) (n : ℕ) (left : Left) (o m : Output) → IsAtEnd left
    → Progress (shown_by Shows job) all (suc n) left o m → OfLeft all (λ bytes. WritesStates (shown_by Shows job) bytes o m)
ends Shows job all n left o m at_end p = (
  p.front,
  subst (λ (x : Left). IfSome x (λ told. p.front ≡ told)) (sym p.split) (is_all p.front left at_end),
  (n, p.text, (refl, p.has.1), p.appends),
)

module _ (told : StreamOutput) (job : List ℕ) where
  -- the text of the next state was taken
  pub takes : (all : Left) (n : ℕ) (before after : Left) (text : List ℕ) (o m : Output) → Takes before after text
      → Progress told all n before o m → Progress told all n (with_text text after) o m
  takes all n before after text o m taken p = subst (λ (left : Left). Progress told all n left o m) taken p

  -- the states were shown up to a fault
  stops_in : {A : Type 0} (all : Left) (n : ℕ) (left : Left) (o m r : Output) (rest : List ℕ) (f : StreamFault (InputFault A))
      → IfSome left (λ bytes. rest ≡ bytes) → (p : Progress told all n left o m)
      → Stops told job all n p.differing p.front rest m r f
      → OfLeft all (λ bytes. Breaks told job all bytes o r f)
  stops_in all n left o m r rest f is p stops = (
    p.front ++ rest,
    subst (λ (x : Left). IfSome x (λ told. p.front ++ rest ≡ told)) (sym p.split) (is_with_text p.front rest left is),
    record {
      count = n;
      differing = p.differing;
      front = p.front;
      rest = rest;
      text = p.text;
      between = m;
      split = refl;
      has = p.has;
      appends = p.appends;
      stops = stops;
    },
  )

  -- the fault is of the bytes that begin with this text
  pub stops_at : {A : Type 0} (all : Left) (n : ℕ) (text : List ℕ) (left : Left) (o m r : Output) (f : StreamFault (InputFault A))
      → (p : Progress told all n (with_text text left) o m)
      → Stops told job all n p.differing p.front (text ++ rest_of left) m r f
      → OfLeft all (λ bytes. Breaks told job all bytes o r f)
  stops_at all n text left o m r f p stops =
      stops_in all n (with_text text left) o m r (text ++ rest_of left) f (is_with_text text (rest_of left) left (is_rest left)) p stops

  -- the next text wasn't read
  pub reading_stops : {A : Type 0} (all : Left) (n : ℕ) (left : Left) (o m : Output) (fault : ReadFault)
      → (fault ≡ read.CannotRead → left ≡ None) → Progress told all n left o m
      → OfLeft all (λ bytes. Breaks {A = A} told job all bytes o m (reading_fault fault))
  reading_stops all n left o m read.CannotRead untold p =
      let none : all ≡ None = p.split ∙ ap (with_text p.front) (untold refl) in
      stops_in all n left o m m (rest_of left) stream.CannotRead (is_rest left) p (inl none, refl)
  reading_stops all n left o m read.Memory untold p = stops_in all n left o m m (rest_of left) stream.Memory (is_rest left) p refl

  -- no more states can be counted
  pub count_stops : {A : Type 0} (all : Left) (n : ℕ) (left : Left) (o m : Output) → 2 ^ 64 - 1 ≤ n
      → Progress told all n left o m → OfLeft all (λ bytes. Breaks {A = A} told job all bytes o m stream.CannotRead)
  count_stops all n left o m many p = stops_in all n left o m m (rest_of left) stream.CannotRead (is_rest left) p (inr many, refl)

  -- all states were taken, and some differ
  pub differing_stops : {A : Type 0} (all : Left) (n number : ℕ) (left : Left) (o m : Output) → IsAtEnd left → 0 < number
      → (p : Progress told all (suc n) left o m) → number ≡ p.differing
      → OfLeft all (λ bytes. Breaks {A = A} told job all bytes o m (stream.Differ number))
  differing_stops all n number left o m ends some p is =
      stops_in all (suc n) left o m m [] (stream.Differ number) (at_end left ends) p (is, some, omega arith, refl, refl)

  -- the text is no state's, and the bytes that begin with it don't begin with a state's
  kept : (text : List ℕ) (left : Left) (f : StateFault) → KeepsFaultBefore text left → ReadsAs text (Err f)
      → ReadsAs (text ++ rest_of left) (Err f) × (f ≢ Trailing)
  kept text None f keeps h = keeps f h
  kept text (Some rest) f keeps h = keeps f h

  -- the first state has no engine
  pub opening_stops : {A : Type 0} (all : Left) (text : List ℕ) (left : Left) (o : Output) (failure : Failure (InputFault A))
      → IfRefused failure (HasNoEngineOfTexts job text) → KeepsFaultBefore text left → Progress told all 0 (with_text text left) o o
      → OfLeft all (λ bytes. Breaks told job all bytes o o (opening_fault failure))
  opening_stops all text left o (Refused (input.Job f)) h keeps p =
      stops_at all 0 text left o o o (stream.Rejected (input.Job f)) p (refl, inl (λ none. none, h), refl)
  opening_stops all text left o (Refused (input.State f)) h keeps p =
      let still = kept text left f keeps h.2 in
      stops_at all 0 text left o o o (stream.State 1 (input.State f)) p (refl, inl refl, tt, (h.0, h.1, still.0, still.1), refl)
  opening_stops all text left o (Refused (input.Energy f)) h keeps p =
      stops_at all 0 text left o o o (stream.Rejected (input.Energy f)) p (refl, inl (λ none. none, (text, rest_of left, refl, h)), refl)
  opening_stops all text left o (Refused (input.System f)) h keeps p =
      stops_at all 0 text left o o o (stream.State 1 (input.System f)) p (refl, inl refl, tt, (text, rest_of left, refl, h), refl)
  opening_stops all text left o (Refused input.ForceRange) h keeps p =
      stops_at all 0 text left o o o (stream.State 1 input.ForceRange)
      p (refl, inl refl, tt, (text, rest_of left, refl, h), refl)
  opening_stops all text left o Memory h keeps p = stops_at all 0 text left o o o stream.Memory p refl

  module _ (j : JobValue) (job_text : IsJobText limits job j) where
    -- the state of the first text doesn't fit the job
    first_texts : {A : Type 0} (text : List ℕ) (left : Left) (f : InputFault A) → OfState text (λ s. HasNoEngine j s f)
        → OfFirst (text ++ rest_of left) (λ state. OfTexts job state (λ j s. HasNoEngine j s f))
    first_texts text left f h =
        (text, rest_of left, refl, record { j = j; s = h.s; job_text = job_text; state_text' = h.state_text'; it = h.it })

    -- a later text has no engine
    pub state_stops : {A : Type 0} (all : Left) (n number : ℕ) (text : List ℕ) (left : Left) (o m : Output) (f : StreamFault (InputFault A))
        → number ≡ suc n → HasNoState j text number f → text ≢ [] → KeepsFaultBefore text left → Progress told all n (with_text text left) o m
        → OfLeft all (λ bytes. Breaks told job all bytes o m f)
    state_stops all n number text left o m (stream.Rejected f) is h some keeps p = absurd h
    state_stops all n number text left o m (stream.State k (input.Job f)) is h some keeps p = absurd h.1
    state_stops all n number text left o m (stream.State k (input.Energy f)) is h some keeps p = absurd h.1
    state_stops all n number text left o m (stream.State k (input.State f)) is h some keeps p =
        let still = kept text left f keeps h.1 in
        stops_at all n text left o m m (stream.State k (input.State f))
        p (h.0 ∙ is, inr (some_first text (rest_of left) some), tt, (j, job_text, still.0, still.1), refl)
    state_stops {A} all n number text left o m (stream.State k (input.System f)) is h some keeps p =
        stops_at all n text left o m m (stream.State k (input.System f))
        p (h.0 ∙ is, inr (some_first text (rest_of left) some), tt, first_texts {A = A} text left (input.System f) h.2, refl)
    state_stops {A} all n number text left o m (stream.State k input.ForceRange) is h some keeps p =
        stops_at all n text left o m m (stream.State k input.ForceRange)
        p (h.0 ∙ is, inr (some_first text (rest_of left) some), tt, first_texts {A = A} text left input.ForceRange h.2, refl)
    state_stops all n number text left o m (stream.Differ k) is h some keeps p = absurd h
    state_stops all n number text left o m stream.CannotRead is h some keeps p = absurd h
    state_stops all n number text left o m (stream.Out f) is h some keeps p = absurd h
    state_stops all n number text left o m stream.Memory is h some keeps p = stops_at all n text left o m m stream.Memory p refl

  -- the energy itself has no accepted code
  pub energy_stops : {A : Type 0} (all : Left) (text : List ℕ) (left : Left) (o : Output) (e : EngineView) → IsEngineOfTexts job text e
      → (failure : Failure (EnergyFault A)) → IfRefused failure (λ f. told.observes × HasNoEnergy e f)
      → Progress told all 0 (with_text text left) o o → OfLeft all (λ bytes. Breaks told job all bytes o o (energy_fault failure))
  energy_stops all text left o e opens (Refused f) h p =
      stops_at all 0 text left o o o (stream.Rejected (input.Energy f))
      p (refl, inr (h.0, (text, rest_of left, refl, record { engine = e; opens = opens; why = h.1 })), refl)
  energy_stops all text left o e opens Memory h p = stops_at all 0 text left o o o stream.Memory p refl

-- the code is safe for the state of an engine
pub at_safe : (job : List ℕ) (j : JobValue) → IsJobText limits job j → (state : List ℕ) (e : EngineView) → IsAt j state e
    → AreSafe job state
at_safe job j job_text state e at = record {
  j = j;
  s = at.s;
  job_text = job_text;
  state_text' = at.state_text';
  it = record { system = at.is.system; made = at.is.made; it = at.is.safe };
}

-- ---- states that are shown, each for itself

module _ (Shows : Showing) (job : List ℕ) (j : JobValue) (job_text : IsJobText limits job j) (state : List ℕ)
    (e : EngineView) (at : IsAt j state e) where
  -- a text that shows the engine's state shows the state of its text
  is_shown : (n : ℕ) (text : List ℕ) → Shows.texts e.job n e.state text → IsShownOfText Shows job state n text
  is_shown n text h = record {
    said = j;
    job_text = job_text;
    view = at.s;
    state_text' = at.state_text';
    safe = at_safe job j job_text state e at;
    shown = subst (λ (v : EngineView). Shows.texts v.job n v.state text) at.is.is h;
  }

  -- one more state was shown
  pub shows_next : (all : Left) (n : ℕ) (left : Left) (o m r : Output) → WroteText (Shows.texts e.job n e.state) m r
      → Progress (shown_by Shows job) all n (with_text state left) o m → Progress (shown_by Shows job) all (suc n) left o r
  shows_next all n left o m r wrote p = record {
    differing = p.differing;
    front = p.front ++ state;
    text = p.text ++ wrote.text;
    has = (p.has.0, (p.front, state, p.text, wrote.text, p.has.1, is_shown n wrote.text wrote.shown, refl, refl));
    appends = appends_both p.appends wrote.appends;
    split = takes_both all (with_text state left) left p.front state p.split refl;
  }

  -- the text of a state wasn't written
  pub text_stops : {A : Type 0} (all : Left) (n : ℕ) (left : Left) (o m r : Output) (fault : TextFault)
      → FailsText (Shows.texts e.job n e.state) Shows.allocates m r fault
      → Progress (shown_by Shows job) all n (with_text state left) o m
      → OfLeft all (λ bytes. Breaks {A = A} (shown_by Shows job) job all bytes o r (text_fault fault))
  text_stops all n left o m r unwritten.Memory h p =
      stops_at (shown_by Shows job) job all n state left o m r stream.Memory p h.1
  text_stops all n left o m r (unwritten.Out f) h p =
      stops_at (shown_by Shows job) job all n state left o m r (stream.Out f) p (
        state,
        rest_of left,
        refl,
        record { text = h.text; shown = is_shown n h.text h.shown; beginning = h.beginning },
      )
