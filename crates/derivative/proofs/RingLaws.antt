-- Equations of commutative rings.
use Rattle.std.proofs.Common.{◌≡◌, ℕ, zero, suc, ◌+◌, ◌*◌, sym, ap, ◌∙◌, arith}
use Rattle.derivative.specs.Exact.{Ring, IsRing, minus, whole, power}

-- If both parts of two pairs are equal, the pairs are equal.
pub pair : {V : Type 0} (x y x1 y1 : V) → x ≡ x1 → y ≡ y1 → ◌≡◌ {A = V × V} (x, y) (x1, y1)
pair x y x1 y1 e f = ap (λ s. (s, y)) e ∙ ap (λ s. (x1, s)) f

module _ {V : Type 0} (r : Ring V) (h : IsRing r) where
  open r use {zero as o, one as i, plus, times, negative as neg}

  -- 0 + x = x
  pub zero_plus : (x : V) → plus o x ≡ x
  zero_plus x = h.plus_comm o x ∙ h.plus_zero x

  -- -x + x = 0
  pub negative_plus : (x : V) → plus (neg x) x ≡ o
  negative_plus x = h.plus_comm (neg x) x ∙ h.plus_negative x

  -- (x + y) - y = x
  pub plus_minus : (x y : V) → minus r (plus x y) y ≡ x
  plus_minus x y = h.plus_assoc x y (neg y) ∙ ap (plus x) (h.plus_negative y) ∙ h.plus_zero x

  -- (x - y) + y = x
  pub minus_plus : (x y : V) → plus (minus r x y) y ≡ x
  minus_plus x y = h.plus_assoc x (neg y) y ∙ ap (plus x) (negative_plus y) ∙ h.plus_zero x

  -- numbers that are equal with z added are equal
  pub cancel : (x y z : V) → plus x z ≡ plus y z → x ≡ y
  cancel x y z e = sym (plus_minus x z) ∙ ap (λ s. minus r s z) e ∙ plus_minus y z

  -- a number whose sum with y is 0 is its negative
  pub negative_unique : (x y : V) → plus x y ≡ o → x ≡ neg y
  negative_unique x y e = cancel x (neg y) y (e ∙ sym (negative_plus y))

  -- a negative's negative is the number
  pub negative_twice : (x : V) → neg (neg x) ≡ x
  negative_twice x = sym (negative_unique x (neg x) (h.plus_negative x))

  -- -0 = 0
  pub negative_zero : neg o ≡ o
  negative_zero = sym (negative_unique o o (h.plus_zero o))

  -- x 0 = 0
  pub times_zero : (x : V) → times x o ≡ o
  times_zero x =
      cancel (times x o) o (times x o)
      (sym (h.times_plus x o o) ∙ ap (times x) (h.plus_zero o) ∙ sym (zero_plus (times x o)))

  -- 0 x = 0
  pub zero_times : (x : V) → times o x ≡ o
  zero_times x = h.times_comm o x ∙ times_zero x

  -- 1 x = x
  pub one_times : (x : V) → times i x ≡ x
  one_times x = h.times_comm i x ∙ h.times_one x

  -- (x + y) z = x z + y z
  pub plus_times : (x y z : V) → times (plus x y) z ≡ plus (times x z) (times y z)
  plus_times x y z =
      h.times_comm (plus x y) z ∙ h.times_plus z x y
      ∙ ap (λ s. plus s (times z y)) (h.times_comm z x) ∙ ap (plus (times x z)) (h.times_comm z y)

  -- (-x) y = -(x y)
  pub negative_times : (x y : V) → times (neg x) y ≡ neg (times x y)
  negative_times x y =
      negative_unique (times (neg x) y) (times x y)
      (sym (plus_times (neg x) x y) ∙ ap (λ s. times s y) (negative_plus x) ∙ zero_times y)

  -- (x - y) z = x z - y z
  pub minus_times : (x y z : V) → times (minus r x y) z ≡ minus r (times x z) (times y z)
  minus_times x y z = plus_times x (neg y) z ∙ ap (plus (times x z)) (negative_times y z)

  -- the last two factors exchanged
  pub swap : (x y z : V) → times (times x y) z ≡ times (times x z) y
  swap x y z = h.times_assoc x y z ∙ ap (times x) (h.times_comm y z) ∙ sym (h.times_assoc x z y)

  -- ---- quotients: q d = n and q' d + q d' = n'

  -- and so q' (d d) = n' d - n d'
  pub quotient_slope : (q dq d dd n dn : V) → times q d ≡ n → plus (times dq d) (times q dd) ≡ dn
      → times dq (times d d) ≡ minus r (times dn d) (times n dd)
  quotient_slope q dq d dd n dn e de =
      let alone : times dq d ≡ minus r dn (times q dd) = sym (plus_minus (times dq d) (times q dd)) ∙ ap (λ s. minus r s (times q dd)) de in
      sym (h.times_assoc dq d d) ∙ ap (λ s. times s d) alone ∙ minus_times dn (times q dd) d
      ∙ ap (minus r (times dn d)) (swap q dd d ∙ ap (λ s. times s dd) e)

  -- the other way, times d
  pub slope_quotient : (q dq d dd n dn : V) → times q d ≡ n → times dq (times d d) ≡ minus r (times dn d) (times n dd)
      → times (plus (times dq d) (times q dd)) d ≡ times dn d
  slope_quotient q dq d dd n dn e de =
      plus_times (times dq d) (times q dd) d
      ∙ ap (λ s. plus s (times (times q dd) d)) (h.times_assoc dq d d ∙ de)
      ∙ ap (plus (minus r (times dn d) (times n dd))) (swap q dd d ∙ ap (λ s. times s dd) e)
      ∙ minus_plus (times dn d) (times n dd)

  -- ---- roots

  -- ---- natural numbers

  -- the sum of natural numbers
  pub whole_plus : (m n : ℕ) → whole r (m + n) ≡ plus (whole r m) (whole r n)
  whole_plus m zero = let e : m + 0 ≡ m = omega arith in ap (whole r) e ∙ sym (h.plus_zero (whole r m))
  whole_plus m (suc n) =
      let e : m + suc n ≡ suc (m + n) = omega arith in
      ap (whole r) e ∙ ap (λ s. plus s i) (whole_plus m n) ∙ h.plus_assoc (whole r m) (whole r n) i

  -- the product of natural numbers
  pub whole_times : (m n : ℕ) → whole r (m * n) ≡ times (whole r m) (whole r n)
  whole_times m zero = let e : m * 0 ≡ 0 = omega arith in ap (whole r) e ∙ sym (times_zero (whole r m))
  whole_times m (suc n) =
      let e : m * suc n ≡ m * n + m = omega arith in
      ap (whole r) e ∙ whole_plus (m * n) m ∙ ap (λ s. plus s (whole r m)) (whole_times m n)
      ∙ ap (plus (times (whole r m) (whole r n))) (sym (h.times_one (whole r m))) ∙ sym (h.times_plus (whole r m) (whole r n) i)

  -- 2 x = x + x
  pub twice : (x : V) → times (whole r 2) x ≡ plus x x
  twice x =
      plus_times (plus o i) i x ∙ ap (λ s. plus s (times i x)) (ap (λ s. times s x) (zero_plus i) ∙ one_times x) ∙ ap (plus x) (one_times x)

  -- y' (2 y) = y' y + y y'
  pub root_slope : (y dy : V) → times dy (times (whole r 2) y) ≡ plus (times dy y) (times y dy)
  root_slope y dy = ap (times dy) (twice y) ∙ h.times_plus dy y y ∙ ap (plus (times dy y)) (h.times_comm dy y)

  -- ---- powers

  -- (n x^(n - 1) x') x + x^n x' = (n + 1) x^n x', with n = m + 1
  pub next_power : (m : ℕ) (x dx : V)
      → plus (times (times (times (whole r (suc m)) (power r x m)) dx) x) (times (power r x (suc m)) dx)
      ≡ times (times (whole r (suc (suc m))) (power r x (suc m))) dx
  next_power m x dx =
      let w : V = whole r (suc m) in
      let p : V = power r x (suc m) in
      let first : times (times (times w (power r x m)) dx) x ≡ times (times w p) dx =
      swap (times w (power r x m)) dx x ∙ ap (λ s. times s dx) (h.times_assoc w (power r x m) x) in
      let last : times p dx ≡ times (times i p) dx = ap (λ s. times s dx) (sym (one_times p)) in
      ap (λ s. plus s (times p dx)) first ∙ ap (plus (times (times w p) dx)) last
      ∙ sym (plus_times (times w p) (times i p) dx) ∙ ap (λ s. times s dx) (sym (plus_times w i p))

  -- ---- reciprocals: y x^n = 1, with n = m + 1

  -- y times the slope of x^n, times x, is n x'
  pub reciprocal_slope : (m : ℕ) (x dx y : V) → times y (power r x (suc m)) ≡ i
      → times (times y (times (times (whole r (suc m)) (power r x m)) dx)) x ≡ times (whole r (suc m)) dx
  reciprocal_slope m x dx y e =
      let w : V = whole r (suc m) in
      let q : V = power r x m in
      let inner : times (times (times w q) dx) x ≡ times (times q x) (times w dx) =
      swap (times w q) dx x ∙ ap (λ s. times s dx) (h.times_assoc w q x ∙ h.times_comm w (times q x)) ∙ h.times_assoc (times q x) w dx in
      h.times_assoc y (times (times w q) dx) x ∙ ap (times y) inner ∙ sym (h.times_assoc y (times q x) (times w dx))
      ∙ ap (λ s. times s (times w dx)) e ∙ one_times (times w dx)
