use Rattle.std.proofs.Common.{◌≡◌, List, ap, length, map, take, arith, rules, to_z, of_z, ◌∙◌, All}
use mir.Syntax.{w128}
use Rattle.std.proofs.lemmas.Int.{ints}
use Rattle.kernel_lanes.specs.Lanes.{IsServed}
use Rattle.ring_box.specs.declared.found_pairs.FoundPair.{FoundPair}
use Rattle.frame_sums.proofs.EnergyTileLaws.{all_served, energies_are, energies_summed, energy_more}
use Rattle.frame_sums.specs.Rows.{query_of}
use Rattle.frame_sums.specs.Sums.{sum_over}
use Rattle.frame_sums.proofs.energies.EnergySumSumOverPairsI128.add_batch.Goals as goal

pub returns-clause-sum : goal.returns-clause-sum
returns-clause-sum g c =
    λ (done : List FoundPair) is.
    let s = c.args.system.now in
    let k = c.args.self.now.kernel.now in
    let found = c.args.scratch.now.found.pairs in
    let queries = take c.len-2.result c.query_all.new.queries in
    let energies = c.values.new.values in
    let asked_count : c.len-2.result ≡ length found = omega (arith, c.len-2.ensures.value) in
    let asked : queries ≡ map (query_of s.system) found = ap (λ n. take n c.query_all.new.queries) asked_count ∙ c.query_all.ensures.value in
    let served : All (IsServed k) queries = rw asked_count (all_served s.system k _ s.accepted c.requires.own c.query_all.ensures.served) in
    let are = energies_are s.system k queries energies c.requires.own served c.values.ensures.each in
    let count : c.len-3.result ≡ length found = omega (arith, c.len-3.ensures.value) in
    let row : to_z w128 (of_z w128 c.sum_of_first.result) ≡ c.sum_of_first.result = search rules in
    let old : to_z w128 (of_z w128 c.args.sum.now) ≡ c.args.sum.now = search rules in
    let new : to_z w128 (of_z w128 c.plus.result) ≡ c.plus.result = search rules in
    energy_more s.system done found c.args.sum.now c.sum_of_first.result (to_z w128 (of_z w128 c.plus.result)) is
    (c.sum_of_first.ensures.value ∙ (ap (λ n. sum_over (λ v. v) (take n energies)) count ∙ energies_summed s.system found energies (omega (arith, c.values.ensures.len)) (rw asked at are)))
    (omega (arith, count, c.sum_of_first.ensures.bound)) (omega (arith, ints, row, old, new, c.plus.ensures))
