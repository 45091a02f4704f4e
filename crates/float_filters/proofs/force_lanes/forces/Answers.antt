use Rattle.std.proofs.Common.{ℕ, ℤ, ◌<◌, ◌∙◌, pos, ◌*ℤ◌, neg_ℤ, slice_index_or, subst, sym}
use Rattle.fixed.specs.Roots.{root}
use Rattle.fixed.specs.Rounding.{IsFloor}
use Rattle.float_filters.specs.Floors.{lane}
use Rattle.float_filters.specs.Forces.{IsSize}
use Rattle.float_filters.proofs.VectorLaws.{full_again, full_set, set_again}
use Rattle.float_filters.proofs.force_lanes.forces.Goals as goal

pub integers-requires : goal.integers-requires
integers-requires c k l =
    let two = c.both.ensures.set k l (set_again c.both.result k (c.are_all_set.ensures.set c.if-are_all_set.true k l)) in
    c.force_floors-found.ensures.x.number k l (set_again c.force_floors-found.result.sure k two.0)

pub integers-requires-then-are_all_set : goal.integers-requires-then-are_all_set
integers-requires-then-are_all_set c k l =
    let two = c.both.ensures.set k l (set_again c.both.result k (c.are_all_set.ensures.set c.if-are_all_set.true k l)) in
    c.force_floors-found.ensures.y.number k l (set_again c.force_floors-found.result.sure k two.0)

pub integers-requires-then-are_all_set-2 : goal.integers-requires-then-are_all_set-2
integers-requires-then-are_all_set-2 c k l =
    let two = c.both.ensures.set k l (set_again c.both.result k (c.are_all_set.ensures.set c.if-are_all_set.true k l)) in
    c.force_floors-found.ensures.z.number k l (set_again c.force_floors-found.result.sure k two.0)

pub returns-then-are_all_set-clause-x : goal.returns-then-are_all_set-clause-x
returns-then-are_all_set-clause-x c = record {
  each = λ k l s a line.
      let two = c.both.ensures.set k l (set_again c.both.result k (c.are_all_set.ensures.set c.if-are_all_set.true k l)) in
      let f = c.force_floors-found.ensures.x.each k l (set_again c.force_floors-found.result.sure k two.0) s (neg_ℤ (slice_index_or c.args.slopes k (pos 0))) a (c.opposites.ensures.sizes k l (set_again c.opposites.result.1 k two.1)) line in
      subst (IsFloor (neg_ℤ (slice_index_or c.args.slopes k (pos 0)) *ℤ a) (pos (root s))) (sym (c.integers.ensures k l _ f.0)) f.1;
}

pub returns-then-are_all_set-clause-y : goal.returns-then-are_all_set-clause-y
returns-then-are_all_set-clause-y c = record {
  each = λ k l s a line.
      let two = c.both.ensures.set k l (set_again c.both.result k (c.are_all_set.ensures.set c.if-are_all_set.true k l)) in
      let f = c.force_floors-found.ensures.y.each k l (set_again c.force_floors-found.result.sure k two.0) s (neg_ℤ (slice_index_or c.args.slopes k (pos 0))) a (c.opposites.ensures.sizes k l (set_again c.opposites.result.1 k two.1)) line in
      subst (IsFloor (neg_ℤ (slice_index_or c.args.slopes k (pos 0)) *ℤ a) (pos (root s))) (sym (c.integers-then-are_all_set.ensures k l _ f.0)) f.1;
}

pub returns-then-are_all_set-clause-z : goal.returns-then-are_all_set-clause-z
returns-then-are_all_set-clause-z c = record {
  each = λ k l s a line.
      let two = c.both.ensures.set k l (set_again c.both.result k (c.are_all_set.ensures.set c.if-are_all_set.true k l)) in
      let f = c.force_floors-found.ensures.z.each k l (set_again c.force_floors-found.result.sure k two.0) s (neg_ℤ (slice_index_or c.args.slopes k (pos 0))) a (c.opposites.ensures.sizes k l (set_again c.opposites.result.1 k two.1)) line in
      subst (IsFloor (neg_ℤ (slice_index_or c.args.slopes k (pos 0)) *ℤ a) (pos (root s))) (sym (c.integers-then-are_all_set-2.ensures k l _ f.0)) f.1;
}

pub returns-else-are_all_set-clause-zeros : goal.returns-else-are_all_set-clause-zeros
returns-else-are_all_set-clause-zeros c h =
    let full = λ (k : ℕ) (l : k < 4).
    let exact = c.opposites.ensures.zeros k l (h k l).0 in
    let size = subst (λ (z : ℤ). IsSize (neg_ℤ z) (lane c.opposites.result.0 k)) (h k l).0 (c.opposites.ensures.sizes k l (full_set c.opposites.result.1 k exact)) in
    let sure = c.force_floors-found.ensures.zeros.each k l size (h k l).1 in
    full_again c.both.result k (c.both.ensures.full k l (full_again c.force_floors-found.result.sure k sure) (full_again c.opposites.result.1 k exact)) in
    sym c.if-are_all_set.false ∙ c.are_all_set.ensures.full full
