use Rattle.std.proofs.Common.{◌*◌, ◌^◌, subst, sym}
use Rattle.std.proofs.lemmas.Simd.{get_or-replicate}
use lib.Ieee.{Float, nan}
use Rattle.float_filters.specs.Near.{IsNearRoot}
use Rattle.float_filters.proofs.MarginLaws.{distance_found, raised_exact}
use Rattle.float_filters.proofs.VectorLaws.{set_again}
use Rattle.float_filters.proofs.distance_lanes.distances.Goals as goal

pub integers-requires : goal.integers-requires
integers-requires c k l =
    let two = c.both.ensures.set k l (set_again c.both.result k (c.are_all_set.ensures.set c.if-are_all_set.true k l)) in
    c.root_floors.ensures.number k l (set_again c.root_floors.result.1 k two.0)

pub returns-then-are_all_set : goal.returns-then-are_all_set
returns-then-are_all_set c = record {
  each = λ k l s limit u U le most near margin.
      let two = c.both.ensures.set k l (set_again c.both.result k (c.are_all_set.ensures.set c.if-are_all_set.true k l)) in
      let splat = subst (λ (z : Float). IsNearRoot 11 z limit (u * u * 2 ^ 98)) (sym (get_or-replicate 4 k c.args.margin nan l)) margin in
      let d = c.root_floors.ensures.each k l (set_again c.root_floors.result.1 k two.0) s limit u U le most near splat in
      distance_found _ _ s u c.args.core _ d c.requires.some (raised_exact _ c.args.core c.requires.few c.exact_u64.ensures)
      (c.are_at_least-far.ensures k l (set_again c.are_at_least-far.result k two.1)) (c.integers.ensures k l);
}
