use Rattle.std.proofs.Common.{◌≡◌, ℕ, ◌+◌, ◌/◌, ◌++◌, ◌∷◌, [], length, map, get_or, take, set, subst, ap, sym, ◌∙◌, arith, append-nil, length-set}
use Rattle.std.proofs.lemmas.List.{append_assoc, length-take-le, take_more_set}
use Rattle.place_blocks.specs.Blocks.{AreUpperHalves, halves_at}
use Rattle.ring_box.specs.Places.{places_of}
use Rattle.cell_tiles.specs.Near.{lanes_of}
use Rattle.cell_tiles.proofs.BlockLemmas.{lane_more}
use Rattle.cell_tiles.proofs.LaneLemmas.{lane_below, length_lanes, no_lanes}
use Rattle.cell_tiles.proofs.gathered.Gathered.add_marked.Goals as goal

pub loop-left-init : goal.loop-left-init
loop-left-init c =
    let at = λ (j : ℕ). get_or c.args.atoms.now j 0 in
    let wide : length c.self.inside.atoms ≡ 128 = c.self.told in
    let there : take c.self.inside.count c.self.inside.atoms ≡ c.args.self.now.atoms = ap (λ v. v.atoms) c.self.view_is in
    let many : length c.args.self.now.atoms ≡ c.self.inside.count = ap length (sym there) ∙ length-take-le c.self.inside.count c.self.inside.atoms (omega (arith, wide, c.self.invariant)) in
    record {
      listed = ap (λ xs. xs ++ map at (lanes_of c.args.marked)) (sym there);
      lanes = λ frame before beside. rw (there, ap (λ v. v.blocks) c.self.view_is) before;
      room = omega (arith, many, length_lanes c.args.marked (length c.args.atoms.now) c.requires.marked (omega (arith, c.requires.few)), c.requires.room);
      small = c.requires.marked;
      wide = wide;
      high = omega (arith, c.self.ranges);
    }

pub loop-left-preserved : goal.loop-left-preserved
loop-left-preserved c =
    let at = λ (j : ℕ). get_or c.args.atoms.now j 0 in
    let kept = c.loop-left.invariant in
    let lane = c.next_lane-lane.ensures in
    let count = c.loop-left.count in
    let x = at c.next_lane-lane.result.0 in
    let first : 0 + c.next_lane-lane.result.0 ≡ c.next_lane-lane.result.0 = omega arith in
    let xs = take count c.loop-left.self-inside.atoms in
    let more : length (lanes_of c.loop-left.left) ≡ length (lanes_of c.next_lane-lane.result.1) + 1 = ap length lane.lanes ∙ omega arith in
    let below = lane_below c.loop-left.left (length c.args.atoms.now) _ kept.small lane.set in
    let next : take (count + 1) (set c.loop-left.self-inside.atoms count x) ≡ xs ++ x ∷ [] = take_more_set c.loop-left.self-inside.atoms count x (omega (arith, kept.room, kept.wide, more)) in
    let long : length xs ≡ count = length-take-le count c.loop-left.self-inside.atoms (omega (arith, kept.room, kept.wide)) in
    record {
      listed =
          kept.listed ∙ ap (λ js. xs ++ map at js) lane.lanes
          ∙ sym (ap (λ ys. ys ++ map at (lanes_of c.next_lane-lane.result.1)) next ∙ append_assoc xs (x ∷ []) (map at (lanes_of c.next_lane-lane.result.1)));
      lanes = λ frame before beside.
          rw next
          (lane_more frame c.loop-left.self-inside.blocks count x xs c.set.new.self c.at.result long (omega (arith, kept.room, kept.high, more)) c.set.ensures.here c.set.ensures.others
          (rw c.at.ensures (subst (λ k. AreUpperHalves (halves_at c.args.block.now k) (places_of frame x)) first (beside c.next_lane-lane.result.0 below))) (kept.lanes frame before beside));
      room = omega (arith, kept.room, more);
      small = omega (arith, kept.small, lane.less);
      wide = length-set c.loop-left.self-inside.atoms count x ∙ kept.wide;
      high = length-set c.loop-left.self-inside.blocks (count / 16) _ ∙ kept.high;
    }

pub returns-clause-atoms : goal.returns-clause-atoms
returns-clause-atoms c =
    let at = λ (j : ℕ). get_or c.args.atoms.now j 0 in
    let done : c.loop-left.left ≡ 0 = c.loop-left-test.false in
    let xs = take c.loop-left.count c.loop-left.self-inside.atoms in
    let none : map at (lanes_of c.loop-left.left) ≡ [] = ap (λ b. map at (lanes_of b)) done ∙ ap (map at) no_lanes in
    sym (c.loop-left.invariant.listed ∙ (ap (λ ys. xs ++ ys) none ∙ append-nil xs))
