use Rattle.std.proofs.Common.{◌≡◌, ℕ, ◌-◌, ◌%◌, ◌<◌, ◌≤◌, Bool, true, length, take, All}
use Rattle.place_blocks.specs.Blocks.{AreInSpan}
use Rattle.ring_box.specs.Places.{places_of}
use Rattle.cell_tiles.specs.Cells.{AreInBlocks}
use Rattle.cell_tiles.specs.Near.{IsPairOf, those_acting}
use Rattle.cell_tiles.specs.Tiles.{pairs_with}
use Rattle.cell_tiles.proofs.gathered.Gathered.gather.Given as goal

abbrev pub invariant-loop-seen : goal.invariant-loop-seen
invariant-loop-seen l =
    let frame = l.frame.places.now in
    record {
      lanes : AreInBlocks frame l.self.blocks 0 l.self.atoms;
      those : (p : ℕ → Bool) → All (λ a. p a ≡ true) l.atoms → All (λ a. p a ≡ true) l.self.atoms;
      pairs : (n a : ℕ) → All (IsPairOf n) (pairs_with a l.atoms) → All (IsPairOf n) (pairs_with a l.self.atoms);
      acting : (a : ℕ) → AreInSpan l.span (places_of frame a) → those_acting l.frame.reach.now l.frame.ring.now frame (pairs_with a l.self.atoms) ≡ those_acting l.frame.reach.now l.frame.ring.now frame (take l.seen (pairs_with a l.atoms));
      few : length l.self.atoms ≤ l.seen;
      within : l.seen ≤ length l.atoms;
      aligned : l.seen < length l.atoms → l.seen % 16 ≡ 0;
    }

abbrev pub decreases-loop-seen : goal.decreases-loop-seen
decreases-loop-seen l = length l.atoms - l.seen
