-- The tables that `observe` prints: their columns, head lines and rows.
use Rattle.std.specs.Prelude.{ℕ, ℤ, pos, List, [], ◌∷◌, ◌++◌, map, Option, Some, None, codes, ◌==◌, if◌then◌else◌}
use Rattle.std.specs.Fmt.{signed_decimal}
use Rattle.std.specs.List.{join_with_byte}
use Rattle.std.specs.Option.{option_map}
use Rattle.line_text.specs.Columns.{decimals_text}
use Rattle.line_text.specs.Parts.{ended}
use Rattle.observables.specs.Ratios.{Ratio, decimal_of}
use Rattle.ring_box.specs.Axes.{component_along, side_along}
use Rattle.ring_box.specs.declared.vectors.Axis.{Axis}
use Rattle.ring_box.specs.declared.vectors.Axis.TheVariants.{X, Y, Z}
use Rattle.observables.specs.Observables.{kinetic_energy, potential_energy, total_energy, temperature, pressure, pressure_tensor, momentum, nearest_distance, nearest_in_bits, time}
use Rattle.observables.specs.declared.columns.Column.{Column}
use Rattle.observables.specs.declared.columns.Column.TheVariants.{Step, Time, Potential, Kinetic, Total, Temperature, Pressure, Momentum, Nearest, CorePairs, PressureAlong, TimeInFs, PotentialInBits, Squares, Virial, MomentumInPlaces, NearestInBits, Products, VirialAlong}
use Rattle.observables.specs.declared.columns.Columns.{Columns}
use Rattle.observables.specs.declared.columns.Columns.TheVariants.{Decimals, DecimalsAndTensor, WholeNumbers, WholeNumbersAndTensor}
use Rattle.observables.specs.declared.observations.Observation.{Observation}
use Rattle.observables.specs.declared.scales.Scales.{Scales}

-- ---- columns

-- what a column shows: its head, which is a name and a unit; its number of decimals, 0 for integers; and its number in
-- units of the last decimal, None if there is none
pub record Shown : Type 0 where
  pub head : List ℕ
  pub decimals : ℕ
  pub number : Scales → Observation → Option ℤ

-- a column of numbers that are integers in units of the last decimal
abbrev pub exactly : List ℕ → ℕ → (Scales → Observation → Option ℤ) → Shown
exactly head decimals value = record { head = head; decimals = decimals; number = value }

-- a column of fractions, each printed as the nearest decimal
abbrev pub nearest : List ℕ → ℕ → (Scales → Observation → Option Ratio) → Shown
nearest head decimals value =
    record { head = head; decimals = decimals; number = λ s o. option_map (decimal_of decimals) (value s o) }

-- the first, second or third of three, for the axes x, y and z
abbrev pub of_axis : Axis → List ℕ → List ℕ → List ℕ → List ℕ
of_axis X x y z = x
of_axis Y x y z = y
of_axis Z x y z = z

-- what is shown in a column
abbrev pub shown_in : Column → Shown
-- of the table of decimals; the time in fs is the time in units of 10^-3 ps
shown_in Step = exactly (codes "step") 0 (λ s o. Some o.step)
shown_in Time = exactly (codes "time/ps") 3 (λ s o. Some (time s o))
shown_in Potential = nearest (codes "potential/(kJ/mol)") 6 (λ s o. Some (potential_energy s o))
shown_in Kinetic = nearest (codes "kinetic/(kJ/mol)") 6 (λ s o. Some (kinetic_energy s o))
shown_in Total = nearest (codes "total/(kJ/mol)") 6 (λ s o. Some (total_energy s o))
shown_in Temperature = nearest (codes "temperature/K") 3 temperature
shown_in Pressure = nearest (codes "pressure/bar") 3 (λ s o. Some (pressure s o))
shown_in (Momentum a) = nearest (of_axis a (codes "momentum-x/(u.nm/ps)") (codes "momentum-y") (codes "momentum-z")) 6
    (λ s o. Some (momentum s (side_along a s.ring) (component_along a o.momentum)))
shown_in Nearest = nearest (codes "nearest/nm") 6 nearest_distance
shown_in CorePairs = exactly (codes "core-pairs") 0 (λ s o. Some (pos o.pairs.sums.core_pairs))
-- of the pressure tensor
shown_in (PressureAlong a b) = nearest (of_axis a
    (of_axis b (codes "pressure-xx/bar") (codes "pressure-xy") (codes "pressure-xz"))
    (of_axis b (codes "pressure-yx") (codes "pressure-yy") (codes "pressure-yz"))
    (of_axis b (codes "pressure-zx") (codes "pressure-zy") (codes "pressure-zz"))) 3
    (λ s o. Some (pressure_tensor a b s o))
-- of the table of integers
shown_in TimeInFs = exactly (codes "time/fs") 0 (λ s o. Some (time s o))
shown_in PotentialInBits = exactly (codes "potential/(2^-bits.kJ/mol)") 0 (λ s o. Some o.pairs.energy)
shown_in (Squares a) = exactly (of_axis a (codes "squares-x/(1e-5.u.place^2)") (codes "squares-y") (codes "squares-z")) 0
    (λ s o. Some (pos (component_along a o.squares)))
shown_in (Virial a) = exactly (of_axis a (codes "virial-x/(2^-bits.kJ/mol/nm.place)") (codes "virial-y") (codes "virial-z")) 0
    (λ s o. Some (component_along a (component_along a o.pairs.sums.virial)))
shown_in (MomentumInPlaces a) = exactly (of_axis a (codes "momentum-x/(1e-5.u.place)") (codes "momentum-y") (codes "momentum-z")) 0
    (λ s o. Some (component_along a o.momentum))
shown_in NearestInBits = exactly (codes "nearest/(2^-bits.nm)") 0 nearest_in_bits
-- of the integers of the tensor
shown_in (Products a) = exactly (of_axis a (codes "products-yz") (codes "products-xz") (codes "products-xy/(1e-5.u.place^2)")) 0
    (λ s o. Some (component_along a o.products))
shown_in (VirialAlong a b) = exactly (of_axis a
    (of_axis b (codes "virial-xx") (codes "virial-xy/(2^-bits.kJ/mol/nm.place)") (codes "virial-xz"))
    (of_axis b (codes "virial-yx") (codes "virial-yy") (codes "virial-yz"))
    (of_axis b (codes "virial-zx") (codes "virial-zy") (codes "virial-zz"))) 0
    (λ s o. Some (component_along b (component_along a o.pairs.sums.virial)))

-- ---- tables

-- the columns of a table of decimals, in the order in which they are printed
abbrev pub decimals_columns : List Column
decimals_columns =
    Step
    ∷ Time
    ∷ Potential
    ∷ Kinetic
    ∷ Total
    ∷ Temperature
    ∷ Pressure
    ∷ Momentum X
    ∷ Momentum Y
    ∷ Momentum Z
    ∷ Nearest
    ∷ CorePairs
    ∷ []

-- the components of the pressure tensor, which `--tensor` puts behind a table of decimals
abbrev pub tensor_columns : List Column
tensor_columns =
    PressureAlong X X
    ∷ PressureAlong Y Y
    ∷ PressureAlong Z Z
    ∷ PressureAlong X Y
    ∷ PressureAlong X Z
    ∷ PressureAlong Y Z
    ∷ []

-- the columns of a table of integers
abbrev pub integers_columns : List Column
integers_columns =
    Step
    ∷ TimeInFs
    ∷ PotentialInBits
    ∷ Squares X
    ∷ Squares Y
    ∷ Squares Z
    ∷ Virial X
    ∷ Virial Y
    ∷ Virial Z
    ∷ MomentumInPlaces X
    ∷ MomentumInPlaces Y
    ∷ MomentumInPlaces Z
    ∷ NearestInBits
    ∷ CorePairs
    ∷ []

-- the integers from which these components follow, together with those of the table
abbrev pub tensor_integers_columns : List Column
tensor_integers_columns =
    Products Z
    ∷ Products Y
    ∷ Products X
    ∷ VirialAlong X Y
    ∷ VirialAlong Y X
    ∷ VirialAlong X Z
    ∷ VirialAlong Z X
    ∷ VirialAlong Y Z
    ∷ VirialAlong Z Y
    ∷ []

-- the columns of a table
abbrev pub columns_of : Columns → List Column
columns_of Decimals = decimals_columns
columns_of DecimalsAndTensor = decimals_columns ++ tensor_columns
columns_of WholeNumbers = integers_columns
columns_of WholeNumbersAndTensor = integers_columns ++ tensor_integers_columns

-- ---- lines

-- a number in units of its last decimal, as text; `-` if there is none
abbrev pub number_text : ℕ → Option ℤ → List ℕ
number_text decimals None = codes "-"
number_text decimals (Some n) = if decimals == 0 then signed_decimal n else decimals_text decimals n

-- the text of an observation in a column
abbrev pub column_text : Scales → Observation → Column → List ℕ
column_text s o column = number_text (shown_in column).decimals ((shown_in column).number s o)

-- a line: texts separated by a space, and a LF
abbrev pub line_of : List (List ℕ) → List ℕ
line_of texts = ended (join_with_byte 32 texts)

-- the line before the first row
abbrev pub head_by : Columns → List ℕ
head_by columns = codes "# " ++ line_of (map (λ column. (shown_in column).head) (columns_of columns))

-- the row of an observation
abbrev pub row_by : Columns → Scales → Observation → List ℕ
row_by columns s o = line_of (map (column_text s o) (columns_of columns))
