-- Each atom up to here is nearer than half the margin to where it was.
use Rattle.std.proofs.Common.{ℕ, ◌<◌, get_or}
use Rattle.ring_box.specs.Distances.{square_of}
use Rattle.ring_box.specs.Places.{ArePlaces, places_of}
use Rattle.ring_box.specs.declared.vectors.Place3.{Place3}
use Rattle.pair_lists.proofs.margins.Margin.covers.Given as goal

abbrev pub invariant-loop-a : goal.invariant-loop-a
invariant-loop-a l =
    record {
      on_ring : (k : ℕ) (d : Place3) → k < l.a → ArePlaces (get_or l.frame k d);
      near : (k : ℕ) → k < l.a → square_of l.ring (places_of l.from k) (places_of l.frame k) < l.self.limit;
    }
