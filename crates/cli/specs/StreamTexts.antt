-- What `replay` and `--each` print of a stream of states, from the bytes read to the bytes printed.
use Rattle.std.specs.Prelude.{◌≡◌, ◌<◌, ◌-◌, ◌^◌, ℕ, suc, Bool, true, false, List, ◌++◌}
use Rattle.command_line.specs.Commands.{ReplayView}
use Rattle.command_line.specs.declared.commands.EachOutput.{EachOutput}
use Rattle.command_line.specs.declared.commands.EachOutput.TheVariants as shown
use Rattle.command_line.specs.declared.commands.Quantity.{Quantity}
use Rattle.command_line.specs.declared.commands.Quantity.TheVariants as quantity
use Rattle.command_line.specs.declared.commands.Table.{Table}
use Rattle.fallible.specs.Out.{Appends, Output}
use Rattle.runs.specs.Frames.{ShowsFrame}
use Rattle.runs.specs.Observations.{ShowsTable}
use Rattle.runs.specs.Visits.{BeganText, Showing}
use Rattle.streams.specs.Plans.{ReplayPlanView}
use Rattle.observables.specs.declared.columns.Columns.{Columns}
use Rattle.observables.specs.declared.columns.Columns.TheVariants.{Decimals, DecimalsAndTensor, WholeNumbers, WholeNumbersAndTensor}
use Rattle.streams.specs.Streams.{AreAccepted, OfFirst, StreamOutput}
use Rattle.streams.specs.Texts.{ShowsQuantity}
use Rattle.streams.specs.declared.quantities.Quantity as streams
use Rattle.streams.specs.declared.quantities.Quantity.TheVariants.{Energy, Forces, Velocities}
use Rattle.cli.specs.Verdicts.{HasEnergyCode}

-- the columns of a table: integers with `--exact`, otherwise decimals; with `--tensor` also those of the pressure tensor
abbrev pub columns_by : (exact tensor : Bool) → Columns
columns_by false false = Decimals
columns_by false true = DecimalsAndTensor
columns_by true false = WholeNumbers
columns_by true true = WholeNumbersAndTensor

abbrev pub columns_of : Table → Columns
columns_of t = columns_by t.exact t.tensor

-- the quantity that the arguments name
abbrev pub shown_quantity : Quantity → streams.Quantity
shown_quantity quantity.Energy = Energy
shown_quantity quantity.Forces = Forces
shown_quantity quantity.Velocities = Velocities

-- how `--each` shows a state: by its frame with its time, by a row of one table, or behind a line with its step by its
-- energy, the forces on its atoms, or their velocities
abbrev pub shows_of : EachOutput → Showing
shows_of shown.Frame = ShowsFrame
shows_of (shown.Row t) = ShowsTable (columns_of t)
shows_of (shown.Measured q) = ShowsQuantity (shown_quantity q)

-- the plan of `replay`: which segments of a stream it compares with their runs
abbrev pub plan_of_replay : ReplayView → ReplayPlanView
plan_of_replay r = record { part = r.part; parts = r.parts; from = r.from; to = r.to }

-- ---- a part of a stream

-- A part of a stream, and what an output has of it: the texts of its first `count` states, one after another, are
-- `front`; `differing` of them differ from the run of the state before; the bytes behind them are `rest`.
pub record StreamPart : Type 0 where
  pub count : ℕ
  pub differing : ℕ
  pub front : List ℕ
  pub rest : List ℕ

-- The stream starts with the texts of some states, and what the output should have of them was printed. The statement
-- holds of this part of the stream, and of the output then and later.
abbrev pub PrintsFirst : StreamOutput → (bytes : List ℕ) → (before after : Output)
    → (Then : StreamPart → (between after : Output) → Type 0) → Type 0
PrintsFirst o bytes before after Then = (part : StreamPart) × (text : List ℕ) × (between : Output)
    × (bytes ≡ part.front ++ part.rest) × o.has part.count part.differing part.front text
    × Appends before between text × Then part between after

-- a prefix of the text of the next state was printed, and then a write failed
abbrev pub BeginsNext : StreamOutput → StreamPart → (between after : Output) → Type 0
BeginsNext o part between after = OfFirst part.rest (λ state. BeganText (o.next part.count part.front state) between after)

-- ---- streams that are accepted

-- No state of a stream differs from the run of the state before: whatever the output has of the stream, none does.
abbrev pub NoneDiffers : StreamOutput → (bytes : List ℕ) → Type 0
NoneDiffers o bytes = (count differing : ℕ) (text : List ℕ) → o.has count differing bytes text → differing ≡ 0

-- The bytes are the texts of one or more states, fewer than 2^64 - 1, the slope code is accepted for each of them, and
-- none differs. If the printed texts have energies, the code of the energy itself is accepted too.
abbrev pub HasStream : StreamOutput → (job bytes : List ℕ) → Type 0
HasStream o job bytes = ((n : ℕ) × (suc n < 2 ^ 64 - 1) × AreAccepted job (suc n) bytes)
    × (o.observes → HasEnergyCode job) × NoneDiffers o bytes
