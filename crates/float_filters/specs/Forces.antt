-- Components of forces, decided in floating point.
use Rattle.std.specs.Prelude.{ℕ, ℤ, List, false, cond, pos, ◌+◌, ◌*◌, ◌^◌, ◌≤◌, ◌<◌, ◌-ℤ◌, ◌*ℤ◌, neg_ℤ, slice_index_or, unsigned_abs}
use Rattle.std.specs.Float.Ieee.{Float, fin, binary64, lt, neg, div, mul, sub}
use Rattle.std.specs.Float.{NotNan}
use Rattle.fixed.specs.Roots.{root}
use Rattle.fixed.specs.Rounding.{IsFloor}
use Rattle.float_filters.specs.Near.{HasSign, IsNearInteger, IsNearRoot, numerator, denominator}
use Rattle.float_filters.specs.Floors.{IsFull, IsInteger, IsSet, half, halved, lane, positive_part}

-- x, or -x if x is less than 0
abbrev pub magnitude : Float → Float
magnitude x = cond (lt x (fin false 0 (pos 0))) (neg x) x

-- g / (r - 1/2), each operation rounded
abbrev pub ratio_of : Float → Float → Float
ratio_of g r = div binary64 g (halved r)

-- the margin of a component: the ratio in magnitude times the slack, rounded
abbrev pub margin_of : Float → Float → Float → Float
margin_of g r slack = mul binary64 (magnitude (ratio_of g r)) slack

-- the bounds of the certified floor: 1/2 less the margin, and the margin less 1/2
abbrev pub room_of : Float → Float → Float → Float
room_of g r slack = sub binary64 half (margin_of g r slack)

abbrev pub least_of : Float → Float → Float → Float
least_of g r slack = halved (margin_of g r slack)

-- the component: the ratio times x, rounded
abbrev pub float_component_of : Float → Float → Float → Float
float_component_of g r x = mul binary64 (ratio_of g r) x

-- the slack is at least 5/8 + 63/4 L / 2^53, and not huge; L is the integer length of a line
pub record IsSlack (L : ℕ) (slack : Float) : Type 0 where
  pub sign : HasSign false slack
  pub low : (5 * 2 ^ 52 + 63 * L) * denominator slack ≤ 2 ^ 55 * numerator slack
  pub high : numerator slack ≤ 2 ^ 100 * denominator slack

-- the floats stand for a line: s is the square of its length, which isn't 0, and a is one of its components
pub record IsLine (s : ℕ) (a : ℤ) (length x slack : Float) : Type 0 where
  pub some : 0 < s
  pub short : s < 2 ^ 112
  pub side : unsigned_abs a * unsigned_abs a ≤ s
  pub length_near : IsNearRoot 7 length s 1
  pub part_near : IsNearInteger 1 x a
  pub enough : IsSlack (root s) slack

-- the float is the integer g, which is at most 2^52 in magnitude
pub record IsSize (g : ℤ) (size : Float) : Type 0 where
  pub small : unsigned_abs g ≤ 2 ^ 52
  pub exact : IsNearInteger 0 size g

-- In a lane that is set, t is a number; and t - 3 * 2^51 is the component of the force of the size g along a line, rounded
-- down, for all exact numbers that the floats may stand for.
pub record AreForceFloors (sizes lengths x : List Float) (slack : Float) (t : List Float) (mask : List ℤ) : Type 0 where
  pub number : (k : ℕ) → k < 4 → IsSet mask k → NotNan (lane t k)
  pub each : (k : ℕ) → k < 4 → IsSet mask k → (s : ℕ) (g a : ℤ) → IsSize g (lane sizes k) → IsLine s a (lane lengths k) (lane x k) slack
      → IsInteger (lane t k) (positive_part (lane t k))
      × IsFloor (g *ℤ a) (pos (root s)) (pos (positive_part (lane t k)) -ℤ pos (3 * 2 ^ 51))

-- v has the components of forces of minus these slopes along lines, rounded down, for all exact numbers that the floats may
-- stand for
pub record AreComponents (slopes : List ℤ) (lengths x : List Float) (slack : Float) (v : List ℤ) : Type 0 where
  pub each : (k : ℕ) → k < 4 → (s : ℕ) (a : ℤ) → IsLine s a (lane lengths k) (lane x k) slack
      → IsFloor (neg_ℤ (slice_index_or slopes k (pos 0)) *ℤ a) (pos (root s)) (slice_index_or v k (pos 0))

-- lane k of the floats stands for a line with three components
pub record HasLine (lengths x y z : List Float) (slack : Float) (k : ℕ) : Type 0 where
  pub square : ℕ
  pub along_x : ℤ
  pub along_y : ℤ
  pub along_z : ℤ
  pub line_x : IsLine square along_x (lane lengths k) (lane x k) slack
  pub line_y : IsLine square along_y (lane lengths k) (lane y k) slack
  pub line_z : IsLine square along_z (lane lengths k) (lane z k) slack

-- a lane is set if there is no force along its line
pub record AreZeroForcesSure (sizes lengths x y z : List Float) (slack : Float) (mask : List ℤ) : Type 0 where
  pub each : (k : ℕ) → k < 4 → IsSize (pos 0) (lane sizes k) → HasLine lengths x y z slack k → IsFull mask k
