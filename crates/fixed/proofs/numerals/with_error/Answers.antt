use Rattle.std.proofs.Common.{◌≡◌, ◌<◌, ◌≤◌, ◌^◌, min, ℤ, pos, neg_ℤ, to_z, of_z, arith, ap, ◌∙◌}
use Rattle.std.proofs.lemmas.Int.{to_z-of_z}
use Rattle.std.specs.Int.{w16}
use Rattle.fixed.specs.Arithmetic.{floor_of, floor_over}
use Rattle.fixed.specs.Constants.{error}
use Rattle.fixed.specs.Rounding.{nearest_of}
use Rattle.fixed.proofs.TenLemmas.{ten_pos}
use Rattle.fixed.proofs.ConstantLemmas.{error_bounds, error_capped, error_wide, nearest_capped, opposite_error, opposite_wide, ten_capped}
use Rattle.fixed.proofs.numerals.with_error.Goals as goal

pub pow-divisor-requires : goal.pow-divisor-requires
pow-divisor-requires c = rw c.min.ensures (omega (arith, ten_capped c.args.power))

pub error_of-error-requires : goal.error_of-error-requires
error_of-error-requires c = record {
  small = c.requires.small;
  positive = rw (c.pow-divisor.ensures, c.min.ensures) (ten_pos (min c.args.power 33));
  most = rw (c.pow-divisor.ensures, c.min.ensures) (omega (arith, ten_capped c.args.power));
  nearest = rw (c.pow-divisor.ensures, c.min.ensures) (nearest_capped c.args.n c.args.power c.args.value c.requires.small c.requires.nearest);
}

pub small_floor-requires : goal.small_floor-requires
small_floor-requires c =
    let d = c.pow-divisor.result in
    let p : 0 < d = rw (c.pow-divisor.ensures, c.min.ensures) (ten_pos (min c.args.power 33)) in
    let m : d ≤ 10 ^ 33 = rw (c.pow-divisor.ensures, c.min.ensures) (omega (arith, ten_capped c.args.power)) in
    let near : c.args.value ≡ nearest_of (pos c.args.n) (pos d) = rw (c.pow-divisor.ensures, c.min.ensures) (nearest_capped c.args.n c.args.power c.args.value c.requires.small c.requires.nearest) in
    let within = error_bounds c.args.n d c.args.value c.error_of-error.result p m near c.error_of-error.ensures in
    record { positive = p; most = m; least = within.0; greatest = within.1 }

pub small_floor-requires-2 : goal.small_floor-requires-2
small_floor-requires-2 c =
    let d = c.pow-divisor.result in
    let p : 0 < d = rw (c.pow-divisor.ensures, c.min.ensures) (ten_pos (min c.args.power 33)) in
    let m : d ≤ 10 ^ 33 = rw (c.pow-divisor.ensures, c.min.ensures) (omega (arith, ten_capped c.args.power)) in
    let near : c.args.value ≡ nearest_of (pos c.args.n) (pos d) = rw (c.pow-divisor.ensures, c.min.ensures) (nearest_capped c.args.n c.args.power c.args.value c.requires.small c.requires.nearest) in
    let within = opposite_error c.args.n d c.args.value c.error_of-error.result p m near c.error_of-error.ensures in
    record { positive = p; most = m; least = within.0; greatest = within.1 }

pub returns : goal.returns
returns c =
    let d = c.pow-divisor.result in
    let p : 0 < d = rw (c.pow-divisor.ensures, c.min.ensures) (ten_pos (min c.args.power 33)) in
    let m : d ≤ 10 ^ 33 = rw (c.pow-divisor.ensures, c.min.ensures) (omega (arith, ten_capped c.args.power)) in
    let near : c.args.value ≡ nearest_of (pos c.args.n) (pos d) = rw (c.pow-divisor.ensures, c.min.ensures) (nearest_capped c.args.n c.args.power c.args.value c.requires.small c.requires.nearest) in
    let e = error c.args.n d c.args.value in
    let low : to_z w16 (of_z w16 c.small_floor.result) ≡ floor_of e (pos d) =
    to_z-of_z w16 _ (record { sfits = c.small_floor.type_inv }) ∙ c.small_floor.ensures.value ∙ ap (λ (x : ℤ). floor_over x d) (error_wide c.args.n d c.args.value c.error_of-error.result p m near c.error_of-error.ensures) in
    let high : to_z w16 (of_z w16 c.opposite.result) ≡ neg_ℤ (floor_of (neg_ℤ e) (pos d)) =
    to_z-of_z w16 _ (record { sfits = c.opposite.type_inv }) ∙ c.opposite.ensures
    ∙ ap neg_ℤ (to_z-of_z w16 _ (record { sfits = c.small_floor-2.type_inv }) ∙ c.small_floor-2.ensures.value
    ∙ ap (λ (x : ℤ). floor_over x d) (opposite_wide c.args.n d c.args.value c.error_of-error.result p m near c.error_of-error.ensures)) in
    rw (low, high) (rw (c.pow-divisor.ensures, c.min.ensures) (error_capped c.args.n c.args.power c.args.value c.requires.small c.requires.nearest))
