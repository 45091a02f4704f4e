use Rattle.std.proofs.Common.{◌≡◌, ◌∙◌, ◌-◌, ◌^◌, ◌++◌, List, [], ap, arith, length, map, refl, subst, sym, take, take_all}
use Rattle.std.proofs.lemmas.List.{length-append, length-map, length-take, map-append}
use Rattle.std.proofs.lemmas.Option.{get_or_from_slice_get}
use Rattle.ring_box.specs.declared.found_pairs.FoundPair.{FoundPair}
use Rattle.rounds.specs.declared.work.PairAdd.{PairAdd}
use Rattle.frame_sums.proofs.PairSumLaws.{bounded_weaker, sums_next}
use Rattle.frame_sums.proofs.RowLaws.{add_is_pair, adds_are, adds_length}
use Rattle.frame_sums.specs.PairSums.{AreSumsOfPairs, sums_of}
use Rattle.frame_sums.specs.Rows.{add_found, adds_from}
use Rattle.frame_sums.proofs.sums.BoxFrameSumOverPairsPairSums.add_batch.Goals as goal

pub add_at-requires : goal.add_at-requires
add_at-requires g c =
    let scratch = c.args.scratch.now in
    omega (arith, c.loop-k-test.true, c.len-k-end.ensures.value, adds_length 0 scratch.found.pairs scratch.forces)

pub sums_of-requires : goal.sums_of-requires
sums_of-requires g c =
    let s = c.args._system.now.system in
    let scratch = c.args.scratch.now in
    rw c.requires.own (add_is_pair s (length s.types.items) scratch.found.pairs scratch.forces c.loop-k.k c.add_at.result c.requires.found (c.requires.forces refl) c.add_at.ensures)

pub plus_sums-requires-clause-sums : goal.plus_sums-requires-clause-sums
plus_sums-requires-clause-sums g c =
    let add = add_found c.args._system.now.system in
    let scratch = c.args.scratch.now in
    let room = c.requires.room in
    let done = map add room.0 in
    let adds = adds_from 0 scratch.found.pairs scratch.forces in
    let k = c.loop-k.k in
    let before = done ++ take k adds in
    bounded_weaker (length before) (2 ^ 32 - 2) c.loop-k.sum
    (omega (arith, room.2, c.loop-k-test.true, c.len-k-end.ensures.value, length-append done (take k adds), length-map room.0 add, length-take k adds, adds_length 0 scratch.found.pairs scratch.forces))
    (c.loop-k.invariant done room.1).bounded

pub loop-k-preserved : goal.loop-k-preserved
loop-k-preserved g c =
    λ (done : List PairAdd) is.
    let f = c.args.self.now in
    let scratch = c.args.scratch.now in
    let adds = adds_from 0 scratch.found.pairs scratch.forces in
    let none : PairAdd = record { low = 0; high = 0; force = [] } in
    let here = sym (get_or_from_slice_get adds c.loop-k.k c.add_at.result none c.add_at.ensures) in
    sums_next f.frac f.ring.now f.core f.places.now done adds c.loop-k.k none c.loop-k.sum c.sums_of.result _
    (omega (arith, c.loop-k-test.true, c.len-k-end.ensures.value, adds_length 0 scratch.found.pairs scratch.forces))
    (c.loop-k.invariant done is) (c.sums_of.ensures.value ∙ ap (sums_of f.frac f.ring.now f.core f.places.now) here) c.sums_of.ensures.bounded c.plus_sums.ensures

pub returns-clause-sum : goal.returns-clause-sum
returns-clause-sum g c =
    λ (done : List FoundPair) is.
    let f = c.args.self.now in
    let s = c.args._system.now.system in
    let add = add_found s in
    let scratch = c.args.scratch.now in
    let found = scratch.found.pairs in
    let adds = adds_from 0 found scratch.forces in
    let all : take c.loop-k.k adds ≡ adds =
    take_all c.loop-k.k adds (omega (arith, c.loop-k-test.false, c.len-k-end.ensures.value, adds_length 0 found scratch.forces)) in
    let joined : map add done ++ take c.loop-k.k adds ≡ map add (done ++ found) =
    ap (λ xs. map add done ++ xs) (all ∙ adds_are s found scratch.forces (c.requires.forces refl)) ∙ sym (map-append add done found) in
    subst (λ xs. AreSumsOfPairs f.frac f.ring.now f.core f.places.now xs c.loop-k.sum) joined (c.loop-k.invariant (map add done) is)
