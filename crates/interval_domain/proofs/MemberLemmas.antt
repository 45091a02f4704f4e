-- Spans put together and cut, by their members.
use Rattle.std.proofs.Common.{◌≡◌, lit<, ⊎_elim, inl, inr, arith, ℤ, pos, ◌-ℤ◌, ◌≤ℤ◌, ◌<ℤ◌}
use Rattle.std.specs.Int.{int_max, int_min}
use Rattle.std.proofs.lemmas.Int.{ints, clamps, by_lt_z}
use Rattle.fixed.specs.Arithmetic.{floor_over}
use Rattle.fixed.proofs.FloorLemmas.{floor_over_is}
use Rattle.interval_domain.specs.declared.span.Span.{Span}
use Rattle.interval_domain.specs.Spans.{AreHalves, ArePartsOf, IsHull, IsMember}
use Rattle.interval_domain.proofs.OutcomeLemmas.{hi_member, lo_member}

-- the lesser of the lower ends and the greater of the upper ends are the ends of the hull
pub hull_is : (a b s : Span) → s.lo ≡ int_min a.lo b.lo → s.hi ≡ int_max a.hi b.hi → IsHull a b s
hull_is a b s el eh =
    record {
      first = record { members = λ x p. record { at_least = omega (arith, ints, clamps, p.at_least); at_most = omega (arith, ints, clamps, p.at_most) } };
      second = record { members = λ x p. record { at_least = omega (arith, ints, clamps, p.at_least); at_most = omega (arith, ints, clamps, p.at_most) } };
      least =
          λ t ha hb.
          let al = ha.members a.lo (lo_member a) in
          let ah = ha.members a.hi (hi_member a) in
          let bl = hb.members b.lo (lo_member b) in
          let bh = hb.members b.hi (hi_member b) in
          record { members = λ x p. record { at_least = omega (arith, ints, clamps, p.at_least); at_most = omega (arith, ints, clamps, p.at_most) } };
    }

-- half of a positive distance, rounded down, is less than it
pub half_of : (lo hi q : ℤ) → lo <ℤ hi → q ≡ floor_over (hi -ℤ lo) 2 → (pos 0 ≤ℤ q) × (q <ℤ (hi -ℤ lo))
half_of lo hi q h e =
    let f = floor_over_is (hi -ℤ lo) 2 (lit< tt) in
    (omega (arith, ints, f.at_most, f.next_above), omega (arith, ints, f.at_most, f.next_above))

-- the halves of a span have its members between them
pub parts_of : (s lower upper : Span) → AreHalves s lower upper → ArePartsOf s lower upper
parts_of s lower upper h =
    let ol = lower.ordered in
    let ou = upper.ordered in
    let el = h.from in
    let en = h.next in
    let eh = h.to in
    record {
      members =
          λ x. (
            λ (p : IsMember x s).
                by_lt_z lower.hi x
                (λ (above : lower.hi <ℤ x). inr (record { at_least = omega (arith, ints); at_most = omega (arith, ints, p.at_most) }))
                (λ (below : x ≤ℤ lower.hi). inl (record { at_least = omega (arith, ints, p.at_least); at_most = below })),
            ⊎_elim
                (λ (p : IsMember x lower). record { at_least = omega (arith, ints, p.at_least); at_most = omega (arith, ints, p.at_most) })
                (λ (p : IsMember x upper). record { at_least = omega (arith, ints, p.at_least); at_most = omega (arith, ints, p.at_most) }),
          );
    }
