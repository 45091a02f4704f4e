use Rattle.std.proofs.Common.{length, refl, subst, sym, All}
use Rattle.std.proofs.lemmas.List.Elements.{All-map}
use Rattle.pair_lists.specs.PairLists.{lists_of}
use Rattle.rounds.specs.Tiles.{AreNextActing, IsPairOf, pairs_at}
use Rattle.frame_sums.proofs.RowLaws.{adds_are, found_is_pair}
use Rattle.frame_sums.specs.Rounds.{plan_of}
use Rattle.frame_sums.specs.Rows.{add_found}
use Rattle.frame_sums.proofs.frame_pairs.FramePairsRowWorkScratch.next_adds.Goals as goal

pub returns-clause-next : goal.returns-clause-next
returns-clause-next g c =
    let w = c.args.self.now in
    let s = w.system.now.system in
    let scratch = c.find_row.new.scratch in
    let pairs = pairs_at (plan_of s w.frame.now (lists_of w.system.now.lists)) c.args.tile in
    subst (λ adds. AreNextActing pairs c.args.k adds c.find_row.result) (sym (adds_are s scratch.found.pairs scratch.forces (c.find_row.ensures.forces refl))) c.find_row.ensures.next

pub returns-clause-atoms : goal.returns-clause-atoms
returns-clause-atoms g c =
    let w = c.args.self.now in
    let s = w.system.now.system in
    let n = length w.frame.now in
    let scratch = c.find_row.new.scratch in
    subst (All (IsPairOf n)) (sym (adds_are s scratch.found.pairs scratch.forces (c.find_row.ensures.forces refl)))
    (All-map (IsPairOf n) (add_found s) scratch.found.pairs (λ k d lt. found_is_pair s n _ (c.find_row.ensures.found k d lt)))
