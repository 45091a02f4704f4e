use Rattle.std.proofs.Common.{ap, length, map, subst, sym, take, ◌∙◌, All}
use Rattle.std.proofs.lemmas.List.Elements.{All-take}
use Rattle.ring_box.specs.FoundPairs.{FoundPairs}
use Rattle.ring_box.specs.declared.pairs.AtomPair.{AtomPair}
use Rattle.cell_tiles.specs.Near.{IsPairOf}
use Rattle.frame_sums.proofs.RowLaws.{all_are_found, batch_found, pairs_inside}
use Rattle.frame_sums.specs.Rows.{IsFound}
use Rattle.frame_sums.proofs.safe_systems.SafeSystem.find_batch.Goals as goal

pub fill-tried-requires : goal.fill-tried-requires
fill-tried-requires g c = record { inside = pairs_inside (length c.args.frame.now) c.args.near.now c.requires.pairs }

pub returns-clause-value : goal.returns-clause-value
returns-clause-value g c =
    batch_found c.args.self.now.system c.args.frame.now c.args.near.now c.fill-tried.result _ _ _ (ap (λ (f : FoundPairs). f.reach) c.clear.ensures ∙ c.requires.reach)
    (ap (λ (f : FoundPairs). f.pairs) c.fill-tried.ensures.found) (ap (λ (f : FoundPairs). f.pairs) c.measure.ensures)

pub returns-clause-found : goal.returns-clause-found
returns-clause-found g c =
    let s = c.args.self.now.system in
    let frame = c.args.frame.now in
    let n = length frame in
    let ps = map (λ (p : AtomPair). (p.low, p.high)) c.args.near.now in
    let tried = c.fill-tried.result in
    let same =
    batch_found s frame c.args.near.now tried _ _ _ (ap (λ (f : FoundPairs). f.reach) c.clear.ensures ∙ c.requires.reach)
    (ap (λ (f : FoundPairs). f.pairs) c.fill-tried.ensures.found) (ap (λ (f : FoundPairs). f.pairs) c.measure.ensures) in
    subst (λ fs. All (IsFound s n) fs) (sym same) (all_are_found s n frame (take tried ps) (All-take (IsPairOf n) tried ps c.requires.pairs))
