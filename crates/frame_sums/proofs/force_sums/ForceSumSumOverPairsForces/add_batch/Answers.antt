use Rattle.std.proofs.Common.{◌≡◌, ℕ, ◌*◌, ◌/◌, ◌++◌, List, length, map, arith, refl, subst, sym, take, take_all}
use Rattle.ring_box.specs.declared.found_pairs.FoundPair.{FoundPair}
use Rattle.rounds.proofs.TakeLemmas.{adds_next}
use Rattle.rounds.proofs.WordLemmas.{goes_on_more}
use Rattle.rounds.specs.Totals.{AreSums}
use Rattle.rounds.specs.Tiles.{IsPairOf, additions_of, additions_of_all}
use Rattle.std.specs.Prelude.{Some}
use Rattle.frame_sums.proofs.FoundLaws.{additions_follow}
use Rattle.frame_sums.proofs.RowLaws.{add_is_pair, adds_are, adds_length}
use Rattle.frame_sums.specs.Rows.{add_found, adds_from}
use Rattle.frame_sums.proofs.force_sums.ForceSumSumOverPairsForces.add_batch.Goals as goal

pub add_at-requires : goal.add_at-requires
add_at-requires g c =
    let scratch = c.args.scratch.now in
    omega (arith, c.loop-l-test.true, c.len-l-end.ensures.value, adds_length 0 scratch.found.pairs scratch.forces)

pub add-requires : goal.add-requires
add-requires g c =
    let s = c.args._system.now.system in
    let n = length s.types.items in
    let scratch = c.args.scratch.now in
    let third : length c.loop-l.sum / 3 ≡ n = omega (arith, c.loop-l.invariant.0, c.requires.room.1.count) in
    rw third (add_is_pair s n scratch.found.pairs scratch.forces c.loop-l.l c.add_at.result c.requires.found (c.requires.forces refl) c.add_at.ensures)

pub loop-l-preserved : goal.loop-l-preserved
loop-l-preserved g c =
    let scratch = c.args.scratch.now in
    let adds = adds_from 0 scratch.found.pairs scratch.forces in
    let l = c.loop-l.l in
    let add = c.add_at.result in
    goes_on_more c.args.sum.now c.loop-l.sum _ (additions_of_all (take l adds)) (additions_of (Some add)) _ c.loop-l.invariant c.add.ensures (adds_next adds l add c.add_at.ensures)

pub returns-clause-sum : goal.returns-clause-sum
returns-clause-sum g c =
    λ (done : List FoundPair) is.
    let s = c.args._system.now.system in
    let scratch = c.args.scratch.now in
    let found = scratch.found.pairs in
    let adds = adds_from 0 found scratch.forces in
    let entries = 3 * length s.types.items in
    let before = additions_of_all (map (add_found s) done) in
    let l = c.loop-l.l in
    let all : take l adds ≡ adds = take_all l adds (omega (arith, c.loop-l-test.false, c.len-l-end.ensures.value, adds_length 0 found scratch.forces)) in
    let goes = c.loop-l.invariant.1 before (subst (λ (n : ℕ). AreSums before n c.args.sum.now) (sym is.count) is) in
    let more : AreSums (before ++ additions_of_all (take l adds)) entries c.loop-l.sum =
    subst (λ (n : ℕ). AreSums (before ++ additions_of_all (take l adds)) n c.loop-l.sum) is.count goes in
    let whole : AreSums (before ++ additions_of_all adds) entries c.loop-l.sum =
    subst (λ xs. AreSums (before ++ additions_of_all xs) entries c.loop-l.sum) all more in
    subst (λ xs. AreSums xs entries c.loop-l.sum) (additions_follow s done found adds (adds_are s found scratch.forces (c.requires.forces refl))) whole
