use Rattle.std.proofs.Common.{◌≡◌, ◌+◌, ◌<◌, ◌≤◌, ℕ, List, [], ap, arith, drop, length, map, min, sym, subst, ◌∙◌, take_all}
use Rattle.std.proofs.lemmas.List.{length-drop, length-map}
use Rattle.std.proofs.lemmas.List.Elements.{All-drop}
use Rattle.cell_tiles.specs.Near.{IsPairOf}
use Rattle.ring_box.specs.declared.pairs.AtomPair.{AtomPair}
use Rattle.pair_lists.specs.PairLists.{list_at, lists_of}
use Rattle.rounds.specs.Tiles.{AreNextActing}
use Rattle.frame_sums.proofs.RowLaws.{all_tried, near_found, next_add, part_found}
use Rattle.frame_sums.proofs.TileLaws.{tile_planned}
use Rattle.frame_sums.specs.Rows.{AreNextFound, add_found, found_in}
use Rattle.frame_sums.proofs.frame_pairs.FramePairs.find.Goals as goal

abbrev pair : AtomPair → ℕ × ℕ
pair p = (p.low, p.high)

-- the rest of a list from the index k on ends where the list does
ends : (list : List (ℕ × ℕ)) (rest : List AtomPair) (k : ℕ) → map pair rest ≡ drop k list → k < length list → k + length rest ≡ length list
ends list rest k is lt = omega (arith, lt, ap length is, length-map rest pair, length-drop k list)

pub find_batch-tried-requires-clause-pairs : goal.find_batch-tried-requires-clause-pairs
find_batch-tried-requires-clause-pairs g c =
    let w = c.args.self.now in
    let list = list_at w.system.now.lists c.args.tile in
    let are = IsPairOf (length w.frame.now) in
    rw c.kept_from.ensures.pairs (All-drop are c.args.k list (w.prepared.listed.inside c.args.tile [] c.requires.tile))

pub overflow_add-result : goal.overflow_add-result
overflow_add-result g c =
    let list = list_at c.args.self.now.system.now.lists c.args.tile in
    omega (arith, ends list c.kept_from.result.now c.args.k c.kept_from.ensures.pairs c.requires.start, c.find_batch-tried.ensures.tried, c.kept_from.ensures.few)

pub returns-then-are_kept : goal.returns-then-are_kept
returns-then-are_kept g c =
    let w = c.args.self.now in
    let s = w.system.now.system in
    let frame = w.frame.now in
    let lists = lists_of w.system.now.lists in
    let k = c.args.k in
    let list = list_at w.system.now.lists c.args.tile in
    let rest = c.kept_from.result.now in
    let tried = c.find_batch-tried.result in
    let found = c.find_batch-tried.new.found.pairs in
    let batch = c.find_batch-tried.ensures in
    let long = ends list rest k c.kept_from.ensures.pairs c.requires.start in
    let some : min 128 (length rest) ≤ tried = all_tried s frame (map pair rest) (length rest) tried found batch.value batch.full in
    let sieved : AreNextFound s frame list k found (k + tried) =
    part_found s frame list (map pair rest) k tried found c.kept_from.ensures.pairs c.requires.start
    (omega (arith, some, long, c.requires.start)) (omega (arith, batch.tried, length-map rest pair)) batch.value in
    record {
      sieved = sieved;
      next = subst (λ ps. AreNextActing ps k (map (add_found s) found) (k + tried)) (sym (tile_planned s frame lists c.args.tile c.requires.tile)) (next_add s frame list k (k + tried) found sieved);
      measured = batch.measured;
      found = batch.found;
      few = batch.few;
    }

pub returns : goal.returns
returns g c =
    let w = c.args.self.now in
    let s = w.system.now.system in
    let frame = w.frame.now in
    let lists = lists_of w.system.now.lists in
    let list = list_at w.system.now.lists c.args.tile in
    let near = c.near_from-next.new.near in
    let shown = c.as_slice.result.now in
    let tried = c.find_batch.result in
    let found = c.find_batch.new.found.pairs in
    let batch = c.find_batch.ensures in
    let some : min 128 (length shown) ≤ tried = all_tried s frame (map pair shown) (length shown) tried found batch.value batch.full in
    let value : found ≡ found_in s frame near =
    batch.value
    ∙ (ap (found_in s frame) (take_all tried (map pair shown) (omega (arith, some, c.as_slice.ensures.few, length-map shown pair)))
    ∙ ap (found_in s frame) c.as_slice.ensures.value) in
    let sieved : AreNextFound s frame list c.args.k found c.near_from-next.result =
    near_found s frame list near c.args.k c.near_from-next.result found
    (rw (w.system.now.reach, w.system.now.ring) at c.near_from-next.ensures.near) value in
    record {
      sieved = sieved;
      next = subst (λ ps. AreNextActing ps c.args.k (map (add_found s) found) c.near_from-next.result) (sym (tile_planned s frame lists c.args.tile c.requires.tile)) (next_add s frame list c.args.k c.near_from-next.result found sieved);
      measured = batch.measured;
      found = batch.found;
      few = batch.few;
    }
