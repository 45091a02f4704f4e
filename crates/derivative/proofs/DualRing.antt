-- Dual numbers over a commutative ring are one.
use Rattle.std.proofs.Common.{◌≡◌, ap, sym, ◌∙◌}
use Rattle.derivative.specs.Exact.{Ring, IsRing}
use Rattle.derivative.specs.DualNumbers.{dual}
use Rattle.derivative.proofs.RingLaws as ring
use Rattle.derivative.proofs.RingLaws.{pair}

module _ {V : Type 0} (r : Ring V) (h : IsRing r) where
  open r use {zero as o, one as i, plus, times, negative as neg}

  -- the middle two of four exchanged
  between : (a b c d : V) → plus (plus a b) (plus c d) ≡ plus (plus a c) (plus b d)
  between a b c d =
      h.plus_assoc a b (plus c d)
      ∙ ap (plus a) (sym (h.plus_assoc b c d) ∙ ap (λ s. plus s d) (h.plus_comm b c) ∙ h.plus_assoc c b d)
      ∙ sym (h.plus_assoc a c (plus b d))

  -- (x' y + x y') z + (x y) z' = x' (y z) + x (y' z + y z')
  assoc_slope : (x dx y dy z dz : V)
      → plus (times (plus (times dx y) (times x dy)) z) (times (times x y) dz)
      ≡ plus (times dx (times y z)) (times x (plus (times dy z) (times y dz)))
  assoc_slope x dx y dy z dz =
      ap (λ s. plus s (times (times x y) dz))
      (ring.plus_times r h (times dx y) (times x dy) z ∙ ap (plus (times (times dx y) z)) (h.times_assoc x dy z)
      ∙ ap (λ s. plus s (times x (times dy z))) (h.times_assoc dx y z))
      ∙ ap (plus (plus (times dx (times y z)) (times x (times dy z)))) (h.times_assoc x y dz)
      ∙ h.plus_assoc (times dx (times y z)) (times x (times dy z)) (times x (times y dz))
      ∙ ap (plus (times dx (times y z))) (sym (h.times_plus x (times dy z) (times y dz)))

  -- x' y + x y' = y' x + y x'
  comm_slope : (x dx y dy : V) → plus (times dx y) (times x dy) ≡ plus (times dy x) (times y dx)
  comm_slope x dx y dy =
      h.plus_comm (times dx y) (times x dy) ∙ ap (λ s. plus s (times dx y)) (h.times_comm x dy) ∙ ap (plus (times dy x)) (h.times_comm dx y)

  one_slope : (x dx : V) → plus (times dx i) (times x o) ≡ dx
  one_slope x dx = ap (λ s. plus s (times x o)) (h.times_one dx) ∙ ap (plus dx) (ring.times_zero r h x) ∙ h.plus_zero dx

  -- x' (y + z) + x (y' + z') = (x' y + x y') + (x' z + x z')
  plus_slope : (x dx y dy z dz : V)
      → plus (times dx (plus y z)) (times x (plus dy dz)) ≡ plus (plus (times dx y) (times x dy)) (plus (times dx z) (times x dz))
  plus_slope x dx y dy z dz =
      ap (λ s. plus s (times x (plus dy dz))) (h.times_plus dx y z) ∙ ap (plus (plus (times dx y) (times dx z))) (h.times_plus x dy dz)
      ∙ between (times dx y) (times dx z) (times x dy) (times x dz)

  -- x + x' e add and multiply as numbers do.
  pub dual_is_ring : IsRing (dual r)
  dual_is_ring =
      record {
        plus_assoc = λ x y z. pair _ _ _ _ (h.plus_assoc x.0 y.0 z.0) (h.plus_assoc x.1 y.1 z.1);
        plus_comm = λ x y. pair _ _ _ _ (h.plus_comm x.0 y.0) (h.plus_comm x.1 y.1);
        plus_zero = λ x. pair _ _ _ _ (h.plus_zero x.0) (h.plus_zero x.1);
        plus_negative = λ x. pair _ _ _ _ (h.plus_negative x.0) (h.plus_negative x.1);
        times_assoc = λ x y z. pair _ _ _ _ (h.times_assoc x.0 y.0 z.0) (assoc_slope x.0 x.1 y.0 y.1 z.0 z.1);
        times_comm = λ x y. pair _ _ _ _ (h.times_comm x.0 y.0) (comm_slope x.0 x.1 y.0 y.1);
        times_one = λ x. pair _ _ _ _ (h.times_one x.0) (one_slope x.0 x.1);
        times_plus = λ x y z. pair _ _ _ _ (h.times_plus x.0 y.0 z.0) (plus_slope x.0 x.1 y.0 y.1 z.0 z.1);
      }
